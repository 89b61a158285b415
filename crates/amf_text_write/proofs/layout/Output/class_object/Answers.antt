use Rattle.std.proofs.Common.{◌∷◌, ◌++◌, [], refl, sym, ap, ◌∙◌, subst, arith}
use Rattle.std.specs.Prelude.{codes}
use Rattle.json.specs.Token.{begin_object, end_object, key}
use Rattle.json.specs.Tree.{json_tokens}
use Rattle.json.specs.declared.token.Token.TheVariants.{EndObject}
use Rattle.amf_wire.specs.Text.{IsText}
use Rattle.amf_graph.specs.Arena.{text_at}
use Rattle.amf_iso.specs.Contents.{pairs_of}
use Rattle.amf_iso.proofs.NamedPairs.{text_there}
use Rattle.amf_text.specs.Scalars.{told_text}
use Rattle.amf_text_write.specs.declared.waiting.Piece.TheVariants as piece
use Rattle.amf_text_write.specs.Laid.{with_more}
use Rattle.amf_text_write.specs.Objects.{are_tested_keys, sealed_tokens, dynamic_tokens, class_tokens}
use Rattle.amf_text_write.specs.Ways.{arena_in, graph_in}
use Rattle.amf_text_write.proofs.Keys.{plain_tested}
use Rattle.amf_text_write.proofs.Opened.{opens_with}
use Rattle.amf_text_write.proofs.Stacks.{put_one, put_then, put_as}
use Rattle.amf_text_write.proofs.Telling.{exactly, then_more, on_ok}
use Rattle.amf_text_write.proofs.layout.Output.class_object.Goals as goal

pub text-requires-2 : goal.text-requires-2
text-requires-2 c = subst IsText (sym c.text.ensures) (text_there (arena_in c.args.way.now) c.args.class.class.0 c.is_finished.ensures.finished c.requires.class)

pub returns : goal.returns
returns c =
    let g = graph_in c.args.way.now in
    let a = arena_in c.args.way.now in
    let n = c.args.levels in
    let t = c.args.class in
    let x = text_at a t.class.0 in
    let vs = c.args.sealed.now in
    let ps = pairs_of a c.args.pairs.now in
    let b = c.args.waiting.now.items in
    let name = codes "$class" in
    let told = ap (λ k. dynamic_tokens g t.dynamic k n ps) c.are_keys-are_keys.ensures in
    on_ok c.text-2.result (λ e.
    opens_with g a (class_tokens g a n t.class.0 t.dynamic t.sealed.now vs ps) (λ w. begin_object ∷ key name ∷ json_tokens (told_text x)) (λ w. dynamic_tokens g t.dynamic (are_tested_keys ps) n ps w ++ (sealed_tokens g a n t.sealed.now vs w ++ end_object ∷ []))
    b c.put_dynamic.new.waiting.items c.args.self.now c.text-2.new.self
    (λ w. refl) (λ w. omega arith)
    (put_then g a (λ w. sealed_tokens g a n t.sealed.now vs w ++ end_object ∷ []) (dynamic_tokens g t.dynamic (are_tested_keys ps) n ps) b c.put_sealed.new.waiting.items c.put_dynamic.new.waiting.items
    (put_then g a (λ w. end_object ∷ []) (sealed_tokens g a n t.sealed.now vs) b c.put.new.waiting.items c.put_sealed.new.waiting.items (put_one g a (piece.Token EndObject) b c.put.new.waiting.items c.in_ok-put.ensures tt) c.in_ok-put_sealed.ensures)
    (put_as g a (dynamic_tokens g t.dynamic c.are_keys-are_keys.result n ps) (dynamic_tokens g t.dynamic (are_tested_keys ps) n ps) c.put_sealed.new.waiting.items c.put_dynamic.new.waiting.items (λ w. ap (λ f. f w) told)
    (c.in_ok-put_dynamic.ensures g a c.requires.pairs (plain_tested ps c.are_keys-are_keys.result c.are_keys-are_keys.ensures))))
    (λ w are. exactly (begin_object ∷ key name ∷ json_tokens (told_text x)) c.args.self.now c.text-2.new.self
    (then_more (begin_object ∷ []) (key name ∷ json_tokens (told_text x)) c.args.self.now c.token.new.self c.text-2.new.self c.in_ok-token.ensures
    (then_more (key name ∷ []) (json_tokens (told_text x)) c.token.new.self c.key.new.self c.text-2.new.self c.in_ok-key.ensures (e ∙ ap (λ y. with_more c.key.new.self (json_tokens (told_text y))) c.text.ensures))))) c.text-2.ensures
