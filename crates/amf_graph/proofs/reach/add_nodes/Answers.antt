-- One value more.
use Rattle.std.proofs.Common.{◌≡◌, ◌+◌, take, get_or, sym, ap, ◌∙◌}
use Rattle.amf_graph.specs.declared.value.Value.TheVariants.{Undefined, Node as NodeRef}
use Rattle.amf_graph.specs.Gather.{Placed, placed, with_entry, with_node, with_nodes}
use Rattle.amf_graph.proofs.Gathering.{nodes_more, node_same}
use Rattle.amf_graph.proofs.reach.add_nodes.Goals as goal
use Rattle.amf_graph.proofs.reach.add_nodes.Goals.{in-Node+in_ok-add, in_default}

pub loop-value-preserved : goal.loop-value-preserved
loop-value-preserved c =
    let vs = c.args.values.now in
    let count = c.args.nodes.now.count in
    let xs = c.args.nodes.now.items in
    let k = c.loop-value.value-index in
    let more : with_nodes (take (k + 1) vs) xs ≡ with_node (get_or vs k Undefined) (with_nodes (take k vs) xs) = nodes_more vs k Undefined xs c.loop-value-test.true in
    let same : (w : Placed) → w ≡ placed count (with_node (get_or vs k Undefined) (with_nodes (take k vs) xs)) → w ≡ placed count (with_nodes (take (k + 1) vs) xs) = λ w e. e ∙ ap (placed count) (sym more) in
    elim c.match-value.branch [
      | in-Node+in_ok-add w ↦
          let read : get_or vs k Undefined ≡ NodeRef w.in-Node.node = w.in-Node.is in
          let step : w.add.new.self ≡ placed c.loop-value.nodes.count (with_entry w.in-Node.node.0 c.loop-value.nodes.items) = w.in_ok-add.ensures.ok in
          same c.match-value.nodes (w.nodes-is ∙ step ∙ ap (λ (p : Placed). placed p.count (with_entry w.in-Node.node.0 p.items)) c.loop-value.invariant ∙ ap (λ v. placed count (with_node v (with_nodes (take k vs) xs))) (sym read))
      | in_default w ↦
          same c.match-value.nodes (w.nodes-is ∙ c.loop-value.invariant ∙ ap (placed count) (sym (node_same (get_or vs k Undefined) (with_nodes (take k vs) xs) w.in_default.not-Node)))
    ]
