-- The copy of one value in an empty builder.
use Rattle.std.proofs.Common.{◌≡◌, ◌≤◌, List, [], ◌∷◌, length, get_or, sym, ap, ◌∙◌, subst}
use Rattle.std.specs.List.{AllByRecursion}
use Rattle.amf_graph.specs.Arena.{Names, value_content}
use Rattle.amf_graph.specs.Bounds.{weight}
use Rattle.amf_graph.specs.Building.{no_arena}
use Rattle.amf_graph.specs.Grafting.{Grafted, IsTooMuch}
use Rattle.amf_graph.specs.Isomorphic.{Isomorphic}
use Rattle.amf_graph.specs.Rooted.{RootedArena, content}
use Rattle.amf_graph.specs.Roots.{rooted_at}
use Rattle.amf_service.proofs.Answering.{from_if_ok}
use Rattle.amf_service.proofs.CopiedGraphs.{copies_closed, copies_light, copy_same, one_copy}
use Rattle.amf_service.proofs.Room.{has_room}
use Rattle.amf_service.proofs.copies.copied.Goals as goal

pub kept-requires : goal.kept-requires
kept-requires c = λ e.
    let a = c.args.graph.now.arena in
    let names : AllByRecursion (Names a) (c.args.value ∷ []) = (c.requires, tt) in
    let much : IsTooMuch a (c.args.value ∷ []) no_arena = subst (IsTooMuch a (c.args.value ∷ [])) c.in_ok-builder.ensures (c.graft_values.ensures.full e) in
    has_room a (c.args.value ∷ []) c.is_finished.ensures.finished names c.is_finished.ensures.bounds much

pub whole-requires-clause-closed : goal.whole-requires-clause-closed
whole-requires-clause-closed c =
    let a = c.args.graph.now.arena in
    let new = c.graft_values.new.self in
    let copies = c.in_ok-copies.copies.items in
    let made : Grafted a (c.args.value ∷ []) no_arena new copies = subst (λ z. Grafted a (c.args.value ∷ []) z new copies) c.in_ok-builder.ensures (from_if_ok c.graft_values.result _ c.in_ok-copies.copies c.graft_values.ensures.ok c.in_ok-copies.ensures) in
    copies_closed a (c.args.value ∷ []) copies new c.is_finished.ensures.finished (c.requires, tt) made

pub returns-clause-same : goal.returns-clause-same
returns-clause-same c =
    let a = c.args.graph.now.arena in
    let new = c.graft_values.new.self in
    let copies = c.in_ok-copies.copies.items in
    let w = c.index.result.now in
    let made : Grafted a (c.args.value ∷ []) no_arena new copies = subst (λ z. Grafted a (c.args.value ∷ []) z new copies) c.in_ok-builder.ensures (from_if_ok c.graft_values.result _ c.in_ok-copies.copies c.graft_values.ensures.ok c.in_ok-copies.ensures) in
    let count : length copies ≡ 1 = from_if_ok c.graft_values.result _ c.in_ok-copies.copies c.graft_values.ensures.count c.in_ok-copies.ensures in
    subst (λ (z : RootedArena). Isomorphic (rooted_at (content c.args.graph.now) (value_content a c.args.value)) (content z)) (sym c.whole.ensures)
    (copy_same a new c.args.graph.now.root c.args.value w copies c.is_finished.ensures.finished c.requires made (one_copy copies w count ∙ ap (λ x. x ∷ []) (sym c.index.ensures)))

pub returns-clause-light : goal.returns-clause-light
returns-clause-light c =
    let a = c.args.graph.now.arena in
    let new = c.graft_values.new.self in
    let copies = c.in_ok-copies.copies.items in
    let made : Grafted a (c.args.value ∷ []) no_arena new copies = subst (λ z. Grafted a (c.args.value ∷ []) z new copies) c.in_ok-builder.ensures (from_if_ok c.graft_values.result _ c.in_ok-copies.copies c.graft_values.ensures.ok c.in_ok-copies.ensures) in
    subst (λ (z : RootedArena). weight z.arena ≤ weight a) (sym c.whole.ensures) (copies_light a (c.args.value ∷ []) copies new c.is_finished.ensures.finished (c.requires, tt) made)
