use Rattle.std.proofs.Common.{◌≡◌, drop}
use Rattle.amf_text_write.proofs.NameTests.{plain_names}
use Rattle.amf_text_write.proofs.names.are_plain.Given as goal

abbrev pub invariant-loop-name : goal.invariant-loop-name
invariant-loop-name l = plain_names l.graph.arena (drop l.name-index l.pairs) ≡ plain_names l.graph.arena l.pairs
