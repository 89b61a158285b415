use Rattle.std.proofs.Common.{◌∷◌, ◌++◌, [], sym, ap, ◌∙◌, subst, arith}
use Rattle.std.specs.Prelude.{codes}
use Rattle.json.specs.Token.{begin_object, end_object, key}
use Rattle.json.specs.Tree.{json_tokens}
use Rattle.json.specs.declared.token.Token.TheVariants.{EndObject}
use Rattle.amf_wire.specs.Text.{IsText}
use Rattle.amf_graph.specs.Arena.{text_at}
use Rattle.amf_graph.specs.Graph.{values}
use Rattle.amf_iso.specs.Contents.{values_of}
use Rattle.amf_iso.proofs.NamedPairs.{text_there}
use Rattle.amf_text.specs.Scalars.{told_text}
use Rattle.amf_text_write.specs.declared.waiting.Piece.TheVariants as piece
use Rattle.amf_text_write.specs.Flags.{flag_tokens}
use Rattle.amf_text_write.specs.Laid.{with_more}
use Rattle.amf_text_write.specs.Opening.{body_tokens, list_tokens}
use Rattle.amf_text_write.specs.Ways.{arena_in, graph_in}
use Rattle.amf_text_write.proofs.Bodies.{vector_front, vector_told}
use Rattle.amf_text_write.proofs.Opened.{opens_with}
use Rattle.amf_text_write.proofs.Stacks.{put_one, put_then}
use Rattle.amf_text_write.proofs.Telling.{exactly, then_more, on_ok}
use Rattle.amf_text_write.proofs.layout.Output.vector.Goals as goal

pub text-requires-2 : goal.text-requires-2
text-requires-2 c = subst IsText (sym c.text.ensures) (text_there (arena_in c.args.way.now) c.args.of.0 c.is_finished.ensures.finished c.requires.of)

pub returns : goal.returns
returns c =
    let g = graph_in c.args.way.now in
    let a = arena_in c.args.way.now in
    let n = c.args.levels in
    let f = c.args.fixed in
    let x = text_at a c.args.of.0 in
    let vs = c.args.items.now in
    let b = c.args.waiting.now.items in
    let typed = c.in_ok-text.ensures ∙ ap (λ y. with_more c.key.new.self (json_tokens (told_text y))) c.text.ensures in
    on_ok c.key-2.result (λ e.
    opens_with g a (body_tokens g n (values f x) [] (values_of a vs)) (λ w. vector_front f x) (λ w. list_tokens g a n vs w ++ end_object ∷ []) b c.put_list.new.waiting.items c.args.self.now c.key-2.new.self
    (λ w. vector_told g a n f x vs w) (λ w. omega arith)
    (put_then g a (λ w. end_object ∷ []) (list_tokens g a n vs) b c.put.new.waiting.items c.put_list.new.waiting.items (put_one g a (piece.Token EndObject) b c.put.new.waiting.items c.in_ok-put.ensures tt) (c.in_ok-put_list.ensures g a c.requires.items))
    (λ w are. exactly (vector_front f x) c.args.self.now c.key-2.new.self
    (then_more (begin_object ∷ []) (flag_tokens (codes "$fixed") f ++ (key (codes "$type") ∷ (json_tokens (told_text x) ++ key (codes "$values") ∷ []))) c.args.self.now c.token.new.self c.key-2.new.self c.in_ok-token.ensures
    (then_more (flag_tokens (codes "$fixed") f) (key (codes "$type") ∷ (json_tokens (told_text x) ++ key (codes "$values") ∷ [])) c.token.new.self c.flag_member.new.self c.key-2.new.self c.in_ok-flag_member.ensures
    (then_more (key (codes "$type") ∷ []) (json_tokens (told_text x) ++ key (codes "$values") ∷ []) c.flag_member.new.self c.key.new.self c.key-2.new.self c.in_ok-key.ensures
    (then_more (json_tokens (told_text x)) (key (codes "$values") ∷ []) c.key.new.self c.text-2.new.self c.key-2.new.self typed e)))))) c.key-2.ensures
