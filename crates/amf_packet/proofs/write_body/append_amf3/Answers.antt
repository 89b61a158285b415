use Rattle.amf_graph.specs.Rooted.{content}
use Rattle.amf_packet.proofs.WriteBodies.{amf3_written}
use Rattle.amf_packet.proofs.write_body.append_amf3.Goals as goal

pub returns-clause-written : goal.returns-clause-written
returns-clause-written c = amf3_written (content c.args.graph.now) c.args.out.now.items c.push.new.self.items c.write3_keyed.new.out.items c.write3_keyed.result c.in_ok-push.ensures.items c.write3_keyed.ensures.written
