use Rattle.std.proofs.Common.{◌≡◌, drop}
use Rattle.amf_text_write.proofs.NameTests.{untagged_names}
use Rattle.amf_text_write.proofs.names.have_no_tag.Given as goal

abbrev pub invariant-loop-name : goal.invariant-loop-name
invariant-loop-name l = untagged_names l.graph.arena (drop l.name-index l.pairs) ≡ untagged_names l.graph.arena l.pairs
