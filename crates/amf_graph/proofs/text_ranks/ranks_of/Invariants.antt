use Rattle.std.proofs.Common.{◌≡◌, ◌<◌, ◌≤◌, false, length, get_or}
use Rattle.std.specs.Ordering.{is_lt}
use Rattle.amf_graph.specs.declared.value.TextId.{TextId}
use Rattle.amf_graph.specs.Arena.{text_at}
use Rattle.amf_graph.proofs.Ranks.{bytes_cmp, RankedTo}
use Rattle.amf_graph.proofs.text_ranks.ranks_of.Given as goal

abbrev pub invariant-loop-text : goal.invariant-loop-text
invariant-loop-text l = record {
  count : length l.ranks.items ≡ length l.store.texts;
  few : l.rank ≤ l.text-index;
  ranked : RankedTo l.store.texts l.ranks.items l.last l.rank;
  risen : (d : TextId) → l.text-index < length l.sorted → is_lt (bytes_cmp (text_at l.store (get_or l.sorted l.text-index d).0) l.last) ≡ false;
}
