use Rattle.amf_packet.proofs.SamePackets.{same_packets}
use Rattle.amf_client.proofs.OpenLemmas.{one_reply, one_number}
use Rattle.amf_client.proofs.MeantAlike.{one_meaning}
use Rattle.amf_client.proofs.laws.one_answer.Goals as goal

pub returns-clause-reply : goal.returns-clause-reply
returns-clause-reply c = one_reply

pub returns-clause-number : goal.returns-clause-number
returns-clause-number c = one_number

pub returns-clause-outcome : goal.returns-clause-outcome
returns-clause-outcome c = one_meaning same_packets
