use Rattle.std.proofs.Common.{take}
use Rattle.std.specs.List.{AllZip}
use Rattle.amf_graph.specs.StandIns.{StandsFor}
use Rattle.amf_graph.specs.Views.{flat}
use Rattle.amf_graph.proofs.stand_ins.stand_in_entries.Given as goal

abbrev pub invariant-loop-key : goal.invariant-loop-key
invariant-loop-key l = AllZip (StandsFor l.stand_ins) (flat (take l.key-index l.entries)) (flat l.copies.items)
