use Rattle.std.proofs.Common.{List, map, sym, subst}
use Rattle.std.specs.List.{AllByRecursion, AllZip}
use Rattle.amf_wire.specs.Text.{IsText}
use Rattle.amf_packet.specs.declared.packet.Header.{Header as KeptHeader}
use Rattle.amf_packet.specs.declared.packet.Message.{Message as KeptMessage}
use Rattle.amf_packet.specs.Content.{header_of, message_of, packet_of}
use Rattle.amf_packet.specs.WriteParts.{header_texts, message_texts}
use Rattle.amf_listings.specs.SamePacket.{HeadersMatch, MessagesMatch, IsFittedGraph}
use Rattle.amf_text_write.specs.PacketTexts.{IsPacketText}
use Rattle.amf_json.specs.JsonTexts.{header_told, message_told, IsPacketJson}
use Rattle.amf_json.proofs.FittedTexts.{packet_told}
use Rattle.amf_json.proofs.Results.{if_ok}
use Rattle.amf_json.proofs.TextParts.{have_header_texts, have_message_texts}
use Rattle.amf_json.proofs.packet.packet_json.Goals as goal

pub put_headers-requires : goal.put_headers-requires
put_headers-requires c = subst (λ (z : List KeptHeader). AllByRecursion (AllByRecursion IsText) (header_texts (map header_of z))) (sym c.as_slice.ensures) (have_header_texts (packet_of c.args.packet.now) c.requires)

pub put_messages-requires : goal.put_messages-requires
put_messages-requires c = subst (λ (z : List KeptMessage). AllByRecursion (AllByRecursion IsText) (message_texts (map message_of z))) (sym c.as_slice-2.ensures) (have_message_texts (packet_of c.args.packet.now) c.requires)

pub returns : goal.returns
returns c =
    let layout = c.args.layout in
    let p = packet_of c.args.packet.now in
    let hs = c.in_ok-put_headers.ensures layout c.in_ok-headers.ensures in
    let between = c.in_ok-messages.ensures layout (map header_told hs.0) hs.2 in
    let ms = c.in_ok-put_messages.ensures layout (map header_told hs.0) between in
    let headers = subst (λ (z : List KeptHeader). AllZip (HeadersMatch IsFittedGraph) (map header_of z) hs.0) c.as_slice.ensures hs.1 in
    let messages = subst (λ (z : List KeptMessage). AllZip (MessagesMatch IsFittedGraph) (map message_of z) ms.0) c.as_slice-2.ensures ms.1 in
    if_ok (λ bytes. IsPacketText p.version c.put_messages.new.texts bytes.items) (λ bytes. IsPacketJson layout p bytes.items) c.into_bytes.result
    (λ bytes t. packet_told layout p hs.0 ms.0 bytes.items headers messages (t layout (map header_told hs.0) (map message_told ms.0) ms.2)) c.into_bytes.ensures
