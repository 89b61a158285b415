use Rattle.std.proofs.Common.{ℕ, List, ◌++◌, map, take}
use Rattle.std.specs.List.{AllZip, zip}
use Rattle.amf_graph.specs.declared.value.Value.{Value as Stored}
use Rattle.amf_graph.specs.StandIns.{PairStandsFor}
use Rattle.amf_graph.specs.Views.{named}
use Rattle.amf0_write.proofs.lowered.push_sealed.Given as goal

abbrev pub invariant-loop-place : goal.invariant-loop-place
invariant-loop-place l = (before : List (ℕ × Stored)) → AllZip (PairStandsFor l.stand_ins) before (named l.fn.copies.items) → AllZip (PairStandsFor l.stand_ins) (before ++ zip (map (λ x. x.0) (take l.place l.names)) (take l.place l.values)) (named l.copies.items)
