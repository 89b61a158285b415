use Rattle.std.proofs.Common.{◌<◌, length, arith}
use Rattle.amf_graph.specs.declared.value.Value.TheVariants.{Undefined}
use Rattle.amf_iso.proofs.NodesWaiting.{none_more}
use Rattle.amf_iso.proofs.waiting.has_node.Goals as goal

pub loop-value-preserved : goal.loop-value-preserved
loop-value-preserved c =
    let within : c.loop-value.value-index < length c.args.pairs.now = omega arith in
    none_more c.args.pairs.now c.loop-value.value-index (record { 0 = 0 }, Undefined) within (c.is_node.ensures c.if-is_node.false) c.loop-value.invariant
