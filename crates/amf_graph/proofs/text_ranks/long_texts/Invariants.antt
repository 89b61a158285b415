use Rattle.std.proofs.Common.{◌≤◌, length}
use Rattle.std.specs.List.{AllByRecursion}
use Rattle.amf_graph.specs.Arena.{IsTextId}
use Rattle.amf_graph.proofs.text_ranks.long_texts.Given as goal

abbrev pub invariant-loop-place : goal.invariant-loop-place
invariant-loop-place l = record {
  there : AllByRecursion (λ x. IsTextId l.store x.0) l.long.items;
  few : length l.long.items ≤ l.place;
}
