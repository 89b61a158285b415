use Rattle.std.proofs.Common.{◌∷◌, ◌++◌, [], arith}
use Rattle.std.specs.Prelude.{codes}
use Rattle.json.specs.Token.{begin_object, end_object, key}
use Rattle.json.specs.declared.token.Token.TheVariants.{EndObject}
use Rattle.amf_graph.specs.Graph.{dictionary}
use Rattle.amf_graph.specs.Views.{flat}
use Rattle.amf_iso.specs.Contents.{values_of}
use Rattle.amf_text_write.specs.declared.waiting.Piece.TheVariants as piece
use Rattle.amf_text_write.specs.Flags.{flag_tokens}
use Rattle.amf_text_write.specs.Opening.{body_tokens, pairings_tokens}
use Rattle.amf_text_write.proofs.Bodies.{dictionary_told}
use Rattle.amf_text_write.proofs.Opened.{opens_with}
use Rattle.amf_text_write.proofs.Stacks.{put_one, put_then}
use Rattle.amf_text_write.proofs.Telling.{exactly, then_more, on_ok}
use Rattle.amf_text_write.proofs.layout.Output.dictionary.Goals as goal

pub returns : goal.returns
returns c = λ g a h.
    let n = c.args.levels in
    let f = c.args.weak in
    let es = c.args.entries.now in
    let b = c.args.waiting.now.items in
    let name = codes "$dictionary" in
    on_ok c.key.result (λ e.
    opens_with g a (body_tokens g n (dictionary f) [] (values_of a (flat es))) (λ w. begin_object ∷ key name ∷ []) (λ w. pairings_tokens g a n es w ++ (flag_tokens (codes "$weak") f ++ end_object ∷ [])) b c.put_entry_list.new.waiting.items c.args.self.now c.key.new.self
    (λ w. dictionary_told g a n f es w) (λ w. omega arith)
    (put_then g a (λ w. flag_tokens (codes "$weak") f ++ end_object ∷ []) (pairings_tokens g a n es) b c.put_flag.new.waiting.items c.put_entry_list.new.waiting.items
    (put_then g a (λ w. end_object ∷ []) (λ w. flag_tokens (codes "$weak") f) b c.put.new.waiting.items c.put_flag.new.waiting.items (put_one g a (piece.Token EndObject) b c.put.new.waiting.items c.in_ok-put.ensures tt) (c.in_ok-put_flag.ensures g a))
    (c.in_ok-put_entry_list.ensures g a h))
    (λ w are. exactly (begin_object ∷ key name ∷ []) c.args.self.now c.key.new.self (then_more (begin_object ∷ []) (key name ∷ []) c.args.self.now c.token.new.self c.key.new.self c.in_ok-token.ensures e))) c.key.ensures
