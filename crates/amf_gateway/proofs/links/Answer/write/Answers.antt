use Rattle.std.proofs.Common.{sym}
use Rattle.amf_gateway.proofs.links.Answer.write.Goals as goal

pub returns-in-Packet-clause-writes : goal.returns-in-Packet-clause-writes
returns-in-Packet-clause-writes g c = rw (c.in-Packet.is, sym c.as_slice.ensures.value) c.write_response.ensures.writes

pub returns-in-Packet-clause-cause : goal.returns-in-Packet-clause-cause
returns-in-Packet-clause-cause g c = c.write_response.ensures.cause
