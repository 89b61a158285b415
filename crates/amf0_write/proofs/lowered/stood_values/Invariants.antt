use Rattle.std.proofs.Common.{take}
use Rattle.std.specs.List.{AllZip}
use Rattle.amf_graph.specs.StandIns.{StandsFor}
use Rattle.amf0_write.proofs.lowered.stood_values.Given as goal

abbrev pub invariant-loop-value : goal.invariant-loop-value
invariant-loop-value l = AllZip (StandsFor l.stand_ins) (take l.value-index l.values) l.copies.items
