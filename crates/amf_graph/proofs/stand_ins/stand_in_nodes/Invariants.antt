use Rattle.std.proofs.Common.{take}
use Rattle.std.specs.List.{AllZip}
use Rattle.amf_graph.specs.StandIns.{NodeStandsFor}
use Rattle.amf_graph.proofs.stand_ins.stand_in_nodes.Given as goal

abbrev pub invariant-loop-place : goal.invariant-loop-place
invariant-loop-place l = AllZip (NodeStandsFor l.classes l.stand_ins) (take l.place l.nodes) l.copies
