use Rattle.std.proofs.Common.{◌≡◌, ◌-◌, ◌≤◌, drop}
use Rattle.amf_text_write.proofs.NameTests.{rising_names}
use Rattle.amf_text_write.proofs.names.is_rising.Given as goal

abbrev pub invariant-loop-index : goal.invariant-loop-index
invariant-loop-index l = record {
  some : 1 ≤ l.index;
  rising : rising_names l.graph.arena (drop (l.index - 1) l.pairs) ≡ rising_names l.graph.arena l.pairs;
}
