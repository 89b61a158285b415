-- The copy of a graph in an empty builder, and an array behind it.
use Rattle.std.proofs.Common.{◌≤◌, ◌+◌, [], ◌∷◌, length, refl, sym, subst, arith}
use Rattle.amf_graph.specs.declared.value.Value.{Value as Stored}
use Rattle.amf_graph.specs.Arena.{Names, array}
use Rattle.amf_graph.specs.Bounds.{weight}
use Rattle.amf_graph.specs.Building.{no_arena, closed}
use Rattle.amf_graph.specs.Grafting.{Grafted, IsTooMuch}
use Rattle.amf_graph.specs.Isomorphic.{Isomorphic}
use Rattle.amf_graph.specs.Rooted.{RootedArena, content}
use Rattle.amf_service.proofs.Answering.{from_if_ok}
use Rattle.amf_service.proofs.CopiedGraphs.{copies_light}
use Rattle.amf_service.proofs.MadeArrays.{there_is}
use Rattle.amf_service.proofs.Room.{has_room}
use Rattle.amf_answer_plan.specs.PlainCalls.{in_array}
use Rattle.amf_plain_calls.proofs.InArray.{array_closed, array_light, array_same}
use Rattle.amf_plain_calls.proofs.plain_call.in_array.Goals as goal

pub kept-requires : goal.kept-requires
kept-requires c = λ e.
    let a = c.args.graph.now.arena in
    let root = c.args.graph.now.root in
    has_room a (root ∷ []) c.is_finished.ensures.finished (c.is_finished.ensures.names, tt) c.is_finished.ensures.bounds (subst (IsTooMuch a (root ∷ [])) c.in_ok-builder.ensures (c.graft.ensures.full e))

pub add_array-requires-clause-names : goal.add_array-requires-clause-names
add_array-requires-clause-names c = (from_if_ok c.graft.result _ c.in_ok-item.item c.graft.ensures.names c.in_ok-item.ensures, tt)

pub add_array-requires-clause-room : goal.add_array-requires-clause-room
add_array-requires-clause-room c =
    let a = c.args.graph.now.arena in
    let root = c.args.graph.now.root in
    let mid = c.graft.new.self in
    let copy = c.in_ok-item.item in
    let made : Grafted a (root ∷ []) no_arena mid (copy ∷ []) = subst (λ z. Grafted a (root ∷ []) z mid (copy ∷ [])) c.in_ok-builder.ensures (from_if_ok c.graft.result _ copy c.graft.ensures.ok c.in_ok-item.ensures) in
    let w : weight mid ≤ weight a = copies_light a (root ∷ []) (copy ∷ []) mid c.is_finished.ensures.finished (c.is_finished.ensures.names, tt) made in
    omega (arith, w, c.requires)

pub finished-requires-clause-closed : goal.finished-requires-clause-closed
finished-requires-clause-closed c =
    let a = c.args.graph.now.arena in
    let root = c.args.graph.now.root in
    let mid = c.graft.new.self in
    let copy = c.in_ok-item.item in
    let made : Grafted a (root ∷ []) no_arena mid (copy ∷ []) = subst (λ z. Grafted a (root ∷ []) z mid (copy ∷ [])) c.in_ok-builder.ensures (from_if_ok c.graft.result _ copy c.graft.ensures.ok c.in_ok-item.ensures) in
    array_closed a mid c.add_array.new.builder root copy c.is_finished.ensures.finished c.is_finished.ensures.names made c.in_ok-array.ensures.ok

pub finished-requires-clause-names : goal.finished-requires-clause-names
finished-requires-clause-names c =
    let mid = c.graft.new.self in
    subst (λ (v : Stored). Names c.add_array.new.builder v) (sym c.in_ok-array.ensures.value) (there_is mid c.add_array.new.builder (closed array [] (c.in_ok-item.item ∷ [])) (length mid.nodes) c.in_ok-array.ensures.ok refl)

pub returns-clause-same : goal.returns-clause-same
returns-clause-same c =
    let a = c.args.graph.now.arena in
    let root = c.args.graph.now.root in
    let mid = c.graft.new.self in
    let copy = c.in_ok-item.item in
    let made : Grafted a (root ∷ []) no_arena mid (copy ∷ []) = subst (λ z. Grafted a (root ∷ []) z mid (copy ∷ [])) c.in_ok-builder.ensures (from_if_ok c.graft.result _ copy c.graft.ensures.ok c.in_ok-item.ensures) in
    subst (λ (z : RootedArena). Isomorphic (in_array (content c.args.graph.now)) (content z)) (sym c.finished.ensures.graph)
    (array_same a mid c.add_array.new.builder root copy c.is_finished.ensures.finished c.is_finished.ensures.names made c.in_ok-array.ensures.ok c.finished.ensures.finished c.in_ok-array.array c.in_ok-array.ensures.value)

pub returns-clause-light : goal.returns-clause-light
returns-clause-light c =
    let a = c.args.graph.now.arena in
    let root = c.args.graph.now.root in
    let mid = c.graft.new.self in
    let copy = c.in_ok-item.item in
    let made : Grafted a (root ∷ []) no_arena mid (copy ∷ []) = subst (λ z. Grafted a (root ∷ []) z mid (copy ∷ [])) c.in_ok-builder.ensures (from_if_ok c.graft.result _ copy c.graft.ensures.ok c.in_ok-item.ensures) in
    subst (λ (z : RootedArena). weight z.arena ≤ weight a + 2) (sym c.finished.ensures.graph) (array_light a mid c.add_array.new.builder root copy c.is_finished.ensures.finished c.is_finished.ensures.names made c.in_ok-array.ensures.ok)
