use Rattle.std.proofs.Common.{◌≡◌, take}
use Rattle.amf_graph.specs.Arena.{Names, value_content}
use Rattle.amf_graph.specs.Views.{named}
use Rattle.flex_msgs.specs.Lookup.{value_named}
use Rattle.flex_msgs.specs.KeptPairs.{pairs_content}
use Rattle.flex_msgs.proofs.lookup.value_named.Given as goal

abbrev pub invariant-loop-text : goal.invariant-loop-text
invariant-loop-text l = record {
  value : value_content l.graph.arena l.last ≡ value_named l.name (pairs_content l.graph.arena (named (take l.text-index l.pairs)));
  names : Names l.graph.arena l.last;
}
