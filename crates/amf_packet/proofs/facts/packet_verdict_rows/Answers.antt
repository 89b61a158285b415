use Rattle.amf_packet.proofs.PacketVerdicts.{verdicts}
use Rattle.amf_packet.proofs.facts.packet_verdict_rows.Goals as goal

pub returns : goal.returns
returns c = verdicts
