use Rattle.amf_graph.specs.Rooted.{content}
use Rattle.amf_packet.proofs.WriteBodies.{call_written}
use Rattle.amf_packet.proofs.write_body.append_call.Goals as goal

pub returns-clause-written : goal.returns-clause-written
returns-clause-written c = call_written (content c.args.graph.now) c.args.out.now.items c.extend_from_slice.new.self.items c.write3_keyed.new.out.items c.write3_keyed.result c.in_ok-extend_from_slice.ensures.items c.write3_keyed.ensures.written
