-- The copies of texts, in an array.
use Rattle.std.proofs.Common.{◌≡◌, ◌≤◌, ◌+◌, [], length, refl, sym, ap, ◌∙◌, subst, arith}
use Rattle.std.specs.List.{AllByRecursion}
use Rattle.std.proofs.lemmas.List.{length-map}
use Rattle.amf_graph.specs.declared.value.Value.TheVariants.{Text, Node as NodeRef}
use Rattle.amf_graph.specs.Arena.{Arena, array, Names, IsFinished}
use Rattle.amf_graph.specs.Bounds.{weight}
use Rattle.amf_graph.specs.Building.{no_arena, kept_node, closed}
use Rattle.amf_graph.specs.Grafting.{Grafted, IsTooMuch}
use Rattle.amf_graph.specs.Isomorphic.{Isomorphic}
use Rattle.amf_graph.specs.Rooted.{RootedArena, content}
use Rattle.amf_service.specs.Made.{texts_of}
use Rattle.amf_service.specs.Shipped.{texts_graph}
use Rattle.amf_service.proofs.Answering.{from_if_ok}
use Rattle.amf_service.proofs.MadeArrays.{text_values, texts_named, none_copied, array_closed, array_light, array_same}
use Rattle.amf_service.proofs.Room.{has_room}
use Rattle.amf_service.proofs.texts.array_of_texts.Goals as goal

pub graft_values-requires : goal.graft_values-requires
graft_values-requires c =
    let a = c.args.graph.now.arena in
    subst (AllByRecursion (Names a)) (sym (c.deref.ensures.value ∙ c.in_ok-values.ensures)) (texts_named a c.args.texts.now c.requires.there)

pub kept-requires : goal.kept-requires
kept-requires c = λ r.
    let a = c.args.graph.now.arena in
    let vs = text_values c.args.texts.now in
    let e : c.deref.result.now ≡ vs = c.deref.ensures.value ∙ c.in_ok-values.ensures in
    has_room a vs c.is_finished.ensures.finished (texts_named a c.args.texts.now c.requires.there) c.is_finished.ensures.bounds
    (subst (IsTooMuch a vs) c.in_ok-builder.ensures (subst (λ ws. IsTooMuch a ws c.in_ok-builder.builder) e (c.graft_values.ensures.full r)))

pub add_array-requires-clause-room : goal.add_array-requires-clause-room
add_array-requires-clause-room c =
    let a = c.args.graph.now.arena in
    let ts = c.args.texts.now in
    let mid = c.graft_values.new.self in
    let copies = c.in_ok-copies.copies.items in
    let e : c.deref.result.now ≡ text_values ts = c.deref.ensures.value ∙ c.in_ok-values.ensures in
    let made : Grafted a (text_values ts) no_arena mid copies = subst (λ z. Grafted a (text_values ts) z mid copies) c.in_ok-builder.ensures (subst (λ vs. Grafted a vs c.in_ok-builder.builder mid copies) e (from_if_ok c.graft_values.result _ c.in_ok-copies.copies c.graft_values.ensures.ok c.in_ok-copies.ensures)) in
    let count : length copies ≡ length ts = from_if_ok c.graft_values.result _ c.in_ok-copies.copies c.graft_values.ensures.count c.in_ok-copies.ensures ∙ ap length e ∙ length-map ts (λ t. Text t) in
    let none = none_copied a mid (kept_node mid (closed array [] copies)) ts copies c.is_finished.ensures.finished c.requires.there made refl in
    let same = ap length c.deref-2.ensures.value in
    omega (arith, none, count, same, c.requires.few)

pub whole-made-requires-clause-closed : goal.whole-made-requires-clause-closed
whole-made-requires-clause-closed c =
    let a = c.args.graph.now.arena in
    let ts = c.args.texts.now in
    let mid = c.graft_values.new.self in
    let copies = c.in_ok-copies.copies.items in
    let e : c.deref.result.now ≡ text_values ts = c.deref.ensures.value ∙ c.in_ok-values.ensures in
    let made : Grafted a (text_values ts) no_arena mid copies = subst (λ z. Grafted a (text_values ts) z mid copies) c.in_ok-builder.ensures (subst (λ vs. Grafted a vs c.in_ok-builder.builder mid copies) e (from_if_ok c.graft_values.result _ c.in_ok-copies.copies c.graft_values.ensures.ok c.in_ok-copies.ensures)) in
    let last : c.add_array.new.builder ≡ kept_node mid (closed array [] copies) = c.in_ok-array.ensures.ok ∙ ap (λ vs. kept_node mid (closed array [] vs)) c.deref-2.ensures.value in
    array_closed a mid c.add_array.new.builder ts copies c.is_finished.ensures.finished c.requires.there made last

pub returns-clause-same : goal.returns-clause-same
returns-clause-same c =
    let a = c.args.graph.now.arena in
    let ts = c.args.texts.now in
    let mid = c.graft_values.new.self in
    let copies = c.in_ok-copies.copies.items in
    let e : c.deref.result.now ≡ text_values ts = c.deref.ensures.value ∙ c.in_ok-values.ensures in
    let made : Grafted a (text_values ts) no_arena mid copies = subst (λ z. Grafted a (text_values ts) z mid copies) c.in_ok-builder.ensures (subst (λ vs. Grafted a vs c.in_ok-builder.builder mid copies) e (from_if_ok c.graft_values.result _ c.in_ok-copies.copies c.graft_values.ensures.ok c.in_ok-copies.ensures)) in
    let last : c.add_array.new.builder ≡ kept_node mid (closed array [] copies) = c.in_ok-array.ensures.ok ∙ ap (λ vs. kept_node mid (closed array [] vs)) c.deref-2.ensures.value in
    let done : IsFinished c.add_array.new.builder = subst (λ (z : RootedArena). IsFinished z.arena) c.whole-made.ensures c.is_finished-2.ensures.finished in
    subst (λ (z : RootedArena). Isomorphic (texts_graph (texts_of a ts)) (content z)) (sym c.whole-made.ensures)
    (array_same a mid c.add_array.new.builder ts copies c.is_finished.ensures.finished c.requires.there made last done (NodeRef c.in_ok-array.array) c.in_ok-array.array.0 c.in_ok-array.ensures.id refl)

pub returns-clause-light : goal.returns-clause-light
returns-clause-light c =
    let a = c.args.graph.now.arena in
    let ts = c.args.texts.now in
    let mid = c.graft_values.new.self in
    let copies = c.in_ok-copies.copies.items in
    let e : c.deref.result.now ≡ text_values ts = c.deref.ensures.value ∙ c.in_ok-values.ensures in
    let made : Grafted a (text_values ts) no_arena mid copies = subst (λ z. Grafted a (text_values ts) z mid copies) c.in_ok-builder.ensures (subst (λ vs. Grafted a vs c.in_ok-builder.builder mid copies) e (from_if_ok c.graft_values.result _ c.in_ok-copies.copies c.graft_values.ensures.ok c.in_ok-copies.ensures)) in
    let count : length copies ≡ length ts = from_if_ok c.graft_values.result _ c.in_ok-copies.copies c.graft_values.ensures.count c.in_ok-copies.ensures ∙ ap length e ∙ length-map ts (λ t. Text t) in
    let last : c.add_array.new.builder ≡ kept_node mid (closed array [] copies) = c.in_ok-array.ensures.ok ∙ ap (λ vs. kept_node mid (closed array [] vs)) c.deref-2.ensures.value in
    subst (λ (z : RootedArena). weight z.arena ≤ weight a + length ts + 1) (sym c.whole-made.ensures) (array_light a mid c.add_array.new.builder ts copies c.is_finished.ensures.finished c.requires.there made last count)
