use Rattle.amf_packet.proofs.PacketVerdicts.{packet_verdicts}
use Rattle.amf_packet.proofs.facts.packets_have_one_verdict.Goals as goal

pub returns : goal.returns
returns c = packet_verdicts
