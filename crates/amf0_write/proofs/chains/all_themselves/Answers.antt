-- A node that is no wrapper is low as it is.
use Rattle.std.proofs.Common.{◌<◌, length, refl, arith}
use Rattle.amf_graph.specs.declared.value.Value.TheVariants.{Node as NodeRef}
use Rattle.amf0_spelling.specs.Lowered.{ends}
use Rattle.amf0_write.specs.Chained.{IsLowFor}
use Rattle.amf0_write.proofs.ChainEnds.{for_more}
use Rattle.amf0_write.proofs.chains.all_themselves.Goals as goal

pub loop-number-preserved : goal.loop-number-preserved
loop-number-preserved c =
    let g = c.args.graph.now in
    let i = c.loop-number.number in
    let there : i < length g.arena.nodes = omega arith in
    rw (c.in_ok-push.ensures.items) (for_more g (IsLowFor g) i c.loop-number.stand_ins.items (NodeRef (record { 0 = i })) c.loop-number.invariant there (ends 0 (c.requires i there) refl))
