-- The content that was guessed is there.
use Rattle.std.proofs.Common.{sym}
use Rattle.amf_graph.proofs.Contents.{content_there}
use Rattle.amf_graph.proofs.texts.number_for.Goals as goal

pub returns-then-is_at-clause-ok : goal.returns-then-is_at-clause-ok
returns-then-is_at-clause-ok c = sym (content_there c.args.contents.now c.args.bytes.now c.args.guess (c.is_at.ensures c.if-is_at.true))
