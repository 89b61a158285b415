-- A content that is there is not kept again.
use Rattle.std.proofs.Common.{sym}
use Rattle.amf_graph.proofs.Contents.{content_there}
use Rattle.amf_graph.proofs.texts.number_by_hash.Goals as goal

pub returns-in-Some-clause-ok : goal.returns-in-Some-clause-ok
returns-in-Some-clause-ok c = sym (content_there c.args.contents.now c.args.bytes.now c.in-Some.number c.in-Some.ensures)
