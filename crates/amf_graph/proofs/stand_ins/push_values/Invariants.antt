use Rattle.std.proofs.Common.{List, ◌++◌, take}
use Rattle.std.specs.List.{AllZip}
use Rattle.amf_graph.specs.declared.value.Value.{Value as Stored}
use Rattle.amf_graph.specs.StandIns.{StandsFor}
use Rattle.amf_graph.proofs.stand_ins.push_values.Given as goal

abbrev pub invariant-loop-value : goal.invariant-loop-value
invariant-loop-value l = (before : List Stored) → AllZip (StandsFor l.stand_ins) before l.fn.copies.items → AllZip (StandsFor l.stand_ins) (before ++ take l.value-index l.values) l.copies.items
