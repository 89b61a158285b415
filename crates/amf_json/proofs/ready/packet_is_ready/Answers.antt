use Rattle.std.proofs.Common.{List, map, subst}
use Rattle.amf_packet.specs.declared.packet.Header.{Header as KeptHeader}
use Rattle.amf_packet.specs.declared.packet.Message.{Message as KeptMessage}
use Rattle.amf_packet.specs.Content.{header_of, message_of, packet_of}
use Rattle.amf_json.specs.TextParts.{AreReadyHeaders, AreReadyMessages}
use Rattle.amf_json.proofs.ReadPackets.{spelled_ready}
use Rattle.amf_json.proofs.ready.packet_is_ready.Goals as goal

pub returns : goal.returns
returns c = λ bytes s.
    spelled_ready (packet_of c.args.packet.now) bytes s (subst (λ (z : List KeptHeader). AreReadyHeaders (map header_of z)) c.as_slice.ensures c.headers_are_ready.ensures)
    (subst (λ (z : List KeptMessage). AreReadyMessages (map message_of z)) c.as_slice-2.ensures c.messages_are_ready.ensures)
