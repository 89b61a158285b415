use Rattle.amf_client.specs.Asking.{call_packet}
use Rattle.amf_packet.proofs.SamePackets.{same_packets}
use Rattle.amf_self_call_laws.proofs.Sent.{ask_begins, ask_refused}
use Rattle.amf_self_call_laws.proofs.Packets.{ask_free}
use Rattle.amf_self_call_laws.proofs.laws.a_call_is_one_request.Goals as goal

pub returns-clause-request : goal.returns-clause-request
returns-clause-request c = record { short = ask_begins; long = ask_refused }

pub returns-clause-packet : goal.returns-clause-packet
returns-clause-packet c = record {
  accepted = ask_free;
  alone = λ target args packet s q r. same_packets (call_packet target args) q packet (ask_free target args packet s) r;
}
