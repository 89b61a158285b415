use Rattle.std.proofs.Common.{arith}
use Rattle.amf_graph.specs.declared.value.Value.TheVariants.{Undefined}
use Rattle.amf_graph.specs.HaveStandIns.{HasStandIn}
use Rattle.amf_graph.specs.StandIns.{StandsFor}
use Rattle.amf_graph.proofs.Copies.{entry_at}
use Rattle.amf_graph.proofs.Zipping.{entries_zip_more}
use Rattle.amf_graph.proofs.stand_ins.stand_in_entries.Goals as goal

pub stand_in-requires : goal.stand_in-requires
stand_in-requires c = (entry_at (HasStandIn c.args.stand_ins.now) c.args.entries.now c.loop-key.key-index (Undefined, Undefined) c.requires (omega arith)).0

pub stand_in-requires-in-loop-key : goal.stand_in-requires-in-loop-key
stand_in-requires-in-loop-key c = (entry_at (HasStandIn c.args.stand_ins.now) c.args.entries.now c.loop-key.key-index (Undefined, Undefined) c.requires (omega arith)).1

pub loop-key-preserved : goal.loop-key-preserved
loop-key-preserved c =
    rw (c.in_ok-push.ensures.items)
    (entries_zip_more (StandsFor c.args.stand_ins.now) c.args.entries.now c.loop-key.copies.items c.loop-key.key-index (Undefined, Undefined) c.stand_in.result c.stand_in-in-loop-key.result (omega arith) c.loop-key.invariant c.stand_in.ensures c.stand_in-in-loop-key.ensures)
