use Rattle.std.proofs.Common.{◌≡◌, take}
use Rattle.amf_iso.specs.Contents.{pairs_of, named_pairs, AreNamedPairs}
use Rattle.amf_iso.proofs.pairs.with_names.Given as goal

abbrev pub invariant-loop-name : goal.invariant-loop-name
invariant-loop-name l = record {
  content : named_pairs l.graph.arena l.named.items ≡ pairs_of l.graph.arena (take l.name-index l.pairs);
  names : AreNamedPairs l.graph.arena l.named.items;
}
