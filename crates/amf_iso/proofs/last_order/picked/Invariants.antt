use Rattle.std.proofs.Common.{◌≡◌, ◌≤◌, length, map, take}
use Rattle.std.specs.Prelude.{vec_len, vec_capacity}
use Rattle.amf_iso.specs.Contents.{pairs_of, ArePairs}
use Rattle.amf_iso.proofs.LastOrders.{pair_at}
use Rattle.amf_iso.proofs.last_order.picked.Given as goal

abbrev pub invariant-loop-place : goal.invariant-loop-place
invariant-loop-place l = record {
  content : pairs_of l.graph.arena l.sorted.items ≡ map (pair_at l.graph.arena l.pairs) (take l.place-index l.order);
  names : ArePairs l.graph.arena l.sorted.items;
  len : vec_len l.sorted ≡ l.place-index;
  room : length l.order ≤ vec_capacity l.sorted;
}
