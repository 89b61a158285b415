use Rattle.amf_packet.proofs.PacketRows.{packets}
use Rattle.amf_packet.proofs.facts.packet_rows.Goals as goal

pub returns : goal.returns
returns c = packets
