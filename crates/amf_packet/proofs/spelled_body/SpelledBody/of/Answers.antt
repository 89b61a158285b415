use Rattle.std.proofs.Common.{Err, ap}
use Rattle.amf_graph.specs.Rooted.{content}
use Rattle.amf_packet.proofs.SpelledParts.{body_spelled}
use Rattle.amf_packet.proofs.spelled_body.SpelledBody.of.Goals as goal

pub returns-in-Ok : goal.returns-in-Ok
returns-in-Ok c = body_spelled (record { form = c.args.form; graph = content c.args.graph.now }) c.new-bytes.result.items c.append_formed.new.out.items c.new-bytes.ensures.items c.in-Ok.ensures.written

pub returns-in-Err-NoSpelling : goal.returns-in-Err-NoSpelling
returns-in-Err-NoSpelling c = let l = c.in-Err-NoSpelling.field-0-0 in (l, c.in-Err-NoSpelling.ensures.lack l (ap Err c.in-Err-NoSpelling.field-0-is))
