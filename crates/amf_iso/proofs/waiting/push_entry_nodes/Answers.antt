use Rattle.std.proofs.Common.{◌≡◌, ◌+◌, ◌-◌, ◌<◌, length, arith}
use Rattle.amf_graph.specs.declared.value.Value.TheVariants.{Undefined}
use Rattle.amf_graph.specs.Renumbered.{numbers_of}
use Rattle.amf_iso.proofs.NodesWaiting.{entry_step}
use Rattle.amf_iso.proofs.waiting.push_entry_nodes.Goals as goal

pub loop-index-preserved : goal.loop-index-preserved
loop-index-preserved c =
    let next : c.loop-index.index - 1 + 1 ≡ c.loop-index.index = omega arith in
    let within : c.loop-index.index - 1 < length c.args.entries.now = omega arith in
    entry_step c.args.entries.now c.loop-index.index (c.loop-index.index - 1) (Undefined, Undefined) (numbers_of c.loop-index.waiting.items) (numbers_of c.push_node.new.waiting.items) (numbers_of c.push_node-in-loop-index.new.waiting.items) _ next within c.in_ok-push_node.ensures c.in_ok-push_node-2.ensures c.loop-index.invariant
