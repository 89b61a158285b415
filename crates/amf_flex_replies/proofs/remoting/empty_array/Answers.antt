-- An array alone in a builder.
use Rattle.std.proofs.Common.{◌≡◌, ◌∙◌, ◌<◌, ◌≤◌, [], length, refl, sym, ap, subst, arith}
use Rattle.amf_graph.specs.declared.value.Value.{Value as Stored}
use Rattle.amf_graph.specs.Arena.{Arena, array, Names, graph_of}
use Rattle.amf_graph.specs.Bounds.{weight}
use Rattle.amf_graph.specs.Building.{no_arena, kept_node, closed}
use Rattle.amf_graph.specs.Grafting.{node_value}
use Rattle.amf_graph.specs.Rooted.{RootedArena, content}
use Rattle.amf_service.specs.Meaning.{heaviest_arguments}
use Rattle.amf_answer_plan.proofs.Closed.{AllClosed}
use Rattle.amf_flex_replies.proofs.remoting.empty_array.Goals as goal

pub finished-requires-clause-closed : goal.finished-requires-clause-closed
finished-requires-clause-closed c =
    let made : c.add_array.new.builder ≡ kept_node no_arena (closed array [] []) = c.in_ok-array.ensures.ok ∙ ap (λ (z : Arena). kept_node z (closed array [] [])) c.in_ok-builder.ensures in
    subst (λ (z : Arena). AllClosed z.nodes) (sym made) (refl, tt)

pub finished-requires-clause-names : goal.finished-requires-clause-names
finished-requires-clause-names c =
    let made : c.add_array.new.builder ≡ kept_node no_arena (closed array [] []) = c.in_ok-array.ensures.ok ∙ ap (λ (z : Arena). kept_node z (closed array [] [])) c.in_ok-builder.ensures in
    let first : c.in_ok-array.array ≡ node_value 0 = c.in_ok-array.ensures.value ∙ ap (λ (z : Arena). node_value (length z.nodes)) c.in_ok-builder.ensures in
    subst (λ (v : Stored). Names c.add_array.new.builder v) (sym first) (subst (λ (z : Arena). 0 < length z.nodes) (sym made) (omega arith))

pub returns-clause-graph : goal.returns-clause-graph
returns-clause-graph c =
    let made : c.add_array.new.builder ≡ kept_node no_arena (closed array [] []) = c.in_ok-array.ensures.ok ∙ ap (λ (z : Arena). kept_node z (closed array [] [])) c.in_ok-builder.ensures in
    let first : c.in_ok-array.array ≡ node_value 0 = c.in_ok-array.ensures.value ∙ ap (λ (z : Arena). node_value (length z.nodes)) c.in_ok-builder.ensures in
    ap content c.finished.ensures.graph ∙ ap (λ (a : Arena). graph_of a c.in_ok-array.array) made ∙ ap (λ (v : Stored). graph_of (kept_node no_arena (closed array [] [])) v) first

pub returns-clause-light : goal.returns-clause-light
returns-clause-light c =
    let made : c.add_array.new.builder ≡ kept_node no_arena (closed array [] []) = c.in_ok-array.ensures.ok ∙ ap (λ (z : Arena). kept_node z (closed array [] [])) c.in_ok-builder.ensures in
    subst (λ (z : RootedArena). weight z.arena ≤ heaviest_arguments) (sym c.finished.ensures.graph) (subst (λ (a : Arena). weight a ≤ heaviest_arguments) (sym made) (omega arith))
