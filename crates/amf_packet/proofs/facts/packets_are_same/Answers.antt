use Rattle.amf_packet.proofs.SamePackets.{same_packets}
use Rattle.amf_packet.proofs.facts.packets_are_same.Goals as goal

pub returns : goal.returns
returns c = same_packets
