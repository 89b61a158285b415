use Rattle.std.proofs.Common.{List, map, refl, subst}
use Rattle.amf_packet.specs.declared.packet.Header.{Header as KeptHeader}
use Rattle.amf_packet.specs.declared.packet.Message.{Message as KeptMessage}
use Rattle.amf_packet.specs.Content.{header_of, message_of}
use Rattle.amf_listings.specs.PacketParts.{HaveLoweredHeaders, HaveLoweredMessages}
use Rattle.amf_listings.proofs.packet_lowering.packet_has_lowering.Goals as goal

pub returns : goal.returns
returns c =
    let h = subst (λ (z : List KeptHeader). HaveLoweredHeaders (map header_of z)) c.as_slice.ensures c.headers_have_lowerings.ensures in
    let m = subst (λ (z : List KeptMessage). HaveLoweredMessages (map message_of z)) c.as_slice-2.ensures c.messages_have_lowerings.ensures in
    (record { version = c.args.packet.now.version; headers = h.0; messages = m.0 }, record { version = refl; headers = h.1; messages = m.1 })
