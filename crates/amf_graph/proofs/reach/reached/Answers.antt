-- What the loop gathers is what is reached.
use Rattle.std.proofs.Common.{◌≡◌, ◌+◌, ◌≤◌, [], length, slice_get, Some, sym, ap, ◌∙◌, subst, arith}
use Rattle.std.proofs.lemmas.Option.{slice_get_within}
use Rattle.amf_graph.specs.Building.{stored_at}
use Rattle.amf_graph.specs.Gather.{Placed, placed, with_nodes, held}
use Rattle.amf_graph.proofs.Gathering.{Gathered, gathered_first, gathered_next, gathered_all, nodes_keep}
use Rattle.amf_graph.proofs.reach.reached.Goals as goal

pub loop-next-init : goal.loop-next-init
loop-next-init c =
    let a = c.args.graph.now.arena in
    let first : c.add_nodes.new.nodes ≡ placed c.in_ok-nodes.nodes.count (with_nodes c.args.values.now c.in_ok-nodes.nodes.items) = c.in_ok-add_nodes.ensures in
    let new : c.in_ok-nodes.nodes ≡ placed c.node_count.result [] = c.in_ok-nodes.ensures in
    let whole : c.add_nodes.new.nodes ≡ placed c.node_count.result (with_nodes c.args.values.now []) = first ∙ ap (λ (p : Placed). placed p.count (with_nodes c.args.values.now p.items)) new in
    record {
      count = ap (λ (p : Placed). p.count) whole ∙ c.node_count.ensures;
      within = omega arith;
      gathered = subst (λ (p : Placed). Gathered a c.args.values.now p.items 0) (sym whole) (gathered_first a c.args.values.now);
    }

pub loop-next-preserved : goal.loop-next-preserved
loop-next-preserved c =
    let a = c.args.graph.now.arena in
    let whole : c.add_held.new.nodes ≡ placed c.loop-next.nodes.count (with_nodes (held (stored_at a c.at.result)) c.loop-next.nodes.items) = c.in_ok-add_held.ensures in
    let kept : slice_get (with_nodes (held (stored_at a c.at.result)) c.loop-next.nodes.items) c.loop-next.next ≡ Some c.at.result = nodes_keep (held (stored_at a c.at.result)) c.loop-next.nodes.items c.loop-next.next c.at.result c.at.ensures.here in
    let long = slice_get_within (with_nodes (held (stored_at a c.at.result)) c.loop-next.nodes.items) c.loop-next.next c.at.result kept in
    record {
      count = ap (λ (p : Placed). p.count) whole ∙ c.loop-next.invariant.count;
      within = subst (λ (p : Placed). c.loop-next.next + 1 ≤ length p.items) (sym whole) (omega arith);
      gathered = subst (λ (p : Placed). Gathered a c.args.values.now p.items (c.loop-next.next + 1)) (sym whole) (gathered_next a c.args.values.now c.loop-next.nodes.items c.loop-next.next c.at.result c.at.ensures.here c.loop-next.invariant.gathered);
    }

pub returns-clause-reached : goal.returns-clause-reached
returns-clause-reached c = λ i. (
  λ s. c.loop-next.invariant.gathered.sound s.0 i s.1,
  λ w. gathered_all c.args.graph.now.arena c.args.values.now c.loop-next.nodes.items c.loop-next.next (omega arith) c.loop-next.invariant.gathered i w,
)
