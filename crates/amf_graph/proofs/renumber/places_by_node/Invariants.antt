use Rattle.std.proofs.Common.{◌≡◌, length}
use Rattle.amf_graph.specs.Renumbered.{numbers_of}
use Rattle.amf_graph.proofs.PlaceOf.{AreFirst}
use Rattle.amf_graph.proofs.renumber.places_by_node.Given as goal

abbrev pub invariant-loop-place : goal.invariant-loop-place
invariant-loop-place l = record {
  count : length l.numbers.items ≡ l.count;
  first : AreFirst (numbers_of l.order) l.place l.numbers.items;
}
