use Rattle.std.proofs.Common.{ℕ, List, ◌++◌, take}
use Rattle.std.specs.List.{AllZip}
use Rattle.amf_graph.specs.declared.value.Value.{Value as Stored}
use Rattle.amf_graph.specs.StandIns.{PairStandsFor}
use Rattle.amf_graph.specs.Views.{named}
use Rattle.amf0_write.proofs.lowered.push_pairs.Given as goal

abbrev pub invariant-loop-name : goal.invariant-loop-name
invariant-loop-name l = (before : List (ℕ × Stored)) → AllZip (PairStandsFor l.stand_ins) before (named l.fn.copies.items) → AllZip (PairStandsFor l.stand_ins) (before ++ named (take l.name-index l.pairs)) (named l.copies.items)
