use Rattle.amf_graph.specs.Rooted.{content}
use Rattle.amf_packet.proofs.WriteBodies.{plain_written, plain_grows}
use Rattle.amf_packet.proofs.write_body.append_plain.Goals as goal

pub returns-clause-written : goal.returns-clause-written
returns-clause-written c = plain_written (content c.args.graph.now) c.args.out.now.items c.write_lowered0.new.out.items c.write_lowered0.result c.write_lowered0.ensures.written

pub returns-clause-grows : goal.returns-clause-grows
returns-clause-grows c = plain_grows (content c.args.graph.now) c.args.out.now.items c.write_lowered0.new.out.items c.write_lowered0.result c.write_lowered0.ensures.written c.write_lowered0.ensures.untouched
