use Rattle.std.proofs.Common.{◌∷◌, ◌++◌, [], map, arith}
use Rattle.json.specs.Token.{begin_array, end_array}
use Rattle.json.specs.declared.token.Token.TheVariants.{EndArray}
use Rattle.amf_iso.specs.Contents.{values_of}
use Rattle.amf_text.specs.Told.{told}
use Rattle.amf_text_write.specs.declared.waiting.Piece.TheVariants as piece
use Rattle.amf_text_write.specs.Opening.{list_tokens}
use Rattle.amf_text_write.specs.Pieces.{values_tokens}
use Rattle.amf_text_write.proofs.Jsons.{listed_told}
use Rattle.amf_text_write.proofs.Opened.{opens_with}
use Rattle.amf_text_write.proofs.Stacks.{put_one, put_then}
use Rattle.amf_text_write.proofs.Telling.{exactly, on_ok}
use Rattle.amf_text_write.proofs.layout.Output.list.Goals as goal

pub returns : goal.returns
returns c = λ g a h.
    let n = c.args.levels in
    let vs = c.args.items.now in
    let b = c.args.waiting.now.items in
    on_ok c.token.result (λ e.
    opens_with g a (list_tokens g a n vs) (λ w. begin_array ∷ []) (λ w. values_tokens g a n vs w ++ end_array ∷ []) b c.put_values.new.waiting.items c.args.self.now c.token.new.self
    (λ w. listed_told (map (told w g n) (values_of a vs))) (λ w. omega arith)
    (put_then g a (λ w. end_array ∷ []) (values_tokens g a n vs) b c.put.new.waiting.items c.put_values.new.waiting.items (put_one g a (piece.Token EndArray) b c.put.new.waiting.items c.in_ok-put.ensures tt) (c.in_ok-put_values.ensures g a h))
    (λ w are. exactly (begin_array ∷ []) c.args.self.now c.token.new.self e)) c.token.ensures
