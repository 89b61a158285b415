use Rattle.std.proofs.Common.{◌∷◌, ◌++◌, [], arith}
use Rattle.json.specs.Token.{begin_object, end_object}
use Rattle.json.specs.declared.token.Token.TheVariants.{EndObject}
use Rattle.amf_iso.specs.Contents.{pairs_of}
use Rattle.amf_text.specs.Told.{told, told_names}
use Rattle.amf_text_write.specs.declared.waiting.Piece.TheVariants as piece
use Rattle.amf_text_write.specs.Objects.{simple_tokens}
use Rattle.amf_text_write.specs.Pieces.{members_tokens}
use Rattle.amf_text_write.proofs.Jsons.{object_told}
use Rattle.amf_text_write.proofs.Opened.{opens_with}
use Rattle.amf_text_write.proofs.Stacks.{put_one, put_then}
use Rattle.amf_text_write.proofs.Telling.{exactly, on_ok}
use Rattle.amf_text_write.proofs.layout.Output.simple_object.Goals as goal

pub returns : goal.returns
returns c = λ g a h k.
    let n = c.args.levels in
    let ps = c.args.pairs.now in
    let b = c.args.waiting.now.items in
    on_ok c.token.result (λ e.
    opens_with g a (simple_tokens g n (pairs_of a ps)) (λ w. begin_object ∷ []) (λ w. members_tokens g a n ps w ++ end_object ∷ []) b c.put_members.new.waiting.items c.args.self.now c.token.new.self
    (λ w. object_told (told_names (told w g n) (pairs_of a ps))) (λ w. omega arith)
    (put_then g a (λ w. end_object ∷ []) (members_tokens g a n ps) b c.put.new.waiting.items c.put_members.new.waiting.items (put_one g a (piece.Token EndObject) b c.put.new.waiting.items c.in_ok-put.ensures tt) (c.in_ok-put_members.ensures g a h k))
    (λ w are. exactly (begin_object ∷ []) c.args.self.now c.token.new.self e)) c.token.ensures
