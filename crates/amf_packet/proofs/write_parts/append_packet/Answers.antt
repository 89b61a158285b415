use Rattle.std.proofs.Common.{List, length, map, Err, ap, sym, ◌∙◌, subst, arith}
use Rattle.std.specs.List.{AllByRecursion}
use Rattle.std.proofs.lemmas.List.{length-map}
use Rattle.amf_wire.specs.Style.{canonical}
use Rattle.amf_graph.proofs.Walks.{each_left, each_right}
use Rattle.amf_packet.specs.declared.packet.Header.{Header as KeptHeader}
use Rattle.amf_packet.specs.declared.packet.Message.{Message as KeptMessage}
use Rattle.amf_packet.specs.Content.{header_of, message_of, packet_of}
use Rattle.amf_packet.specs.Packet.{HeaderBy, MessageBy, ListBy, SpellsPacket}
use Rattle.amf_packet.specs.PacketLacks.{bodies}
use Rattle.amf_packet.specs.WriteParts.{FitTexts, header_texts, message_texts, header_bodies, message_bodies, Appends, LacksFirst, Writes}
use Rattle.amf_packet.proofs.WriteJoins.{memory_ended, grows_then}
use Rattle.amf_packet.proofs.WritePackets.{packet_writes, headers_ended}
use Rattle.amf_packet.proofs.write_parts.append_packet.Goals as goal

pub returns-in_err-append_number-clause-writes : goal.returns-in_err-append_number-clause-writes
returns-in_err-append_number-clause-writes c = memory_ended (SpellsPacket canonical (packet_of c.args.packet.now)) (LacksFirst 0 (bodies (packet_of c.args.packet.now))) c.args.out.now.items c.append_number.new.out.items c.from_residual.result c.from_residual.ensures.1

pub append_headers-requires-clause-texts : goal.append_headers-requires-clause-texts
append_headers-requires-clause-texts c =
    subst (λ (z : List KeptHeader). AllByRecursion FitTexts (header_texts (map header_of z))) (sym c.as_slice-headers.ensures)
    (each_left FitTexts (header_texts (map header_of c.args.packet.now.headers)) (message_texts (map message_of c.args.packet.now.messages)) c.requires.texts)

pub returns-in_err-append_headers-clause-writes : goal.returns-in_err-append_headers-clause-writes
returns-in_err-append_headers-clause-writes c =
    let r = c.from_residual-in_err-append_headers in
    headers_ended (packet_of c.args.packet.now) c.args.out.now.items c.append_number.new.out.items c.append_headers.new.out.items c.in_err-append_headers.field-0.0 r.result r.ensures.1
    (subst (λ (z : List KeptHeader). Writes (ListBy (HeaderBy canonical) (map header_of z)) (LacksFirst 0 (header_bodies (map header_of z))) c.append_number.new.out.items c.append_headers.new.out.items (Err c.in_err-append_headers.field-0.0)) c.as_slice-headers.ensures c.in_err-append_headers.ensures.writes)

pub append_messages-requires-clause-texts : goal.append_messages-requires-clause-texts
append_messages-requires-clause-texts c =
    subst (λ (z : List KeptMessage). AllByRecursion FitTexts (message_texts (map message_of z))) (sym c.as_slice.ensures)
    (each_right FitTexts (header_texts (map header_of c.args.packet.now.headers)) (message_texts (map message_of c.args.packet.now.messages)) c.requires.texts)

pub returns-clause-writes : goal.returns-clause-writes
returns-clause-writes c =
    let n = length c.as_slice-headers.result.now in
    packet_writes (packet_of c.args.packet.now) c.args.out.now.items c.append_number.new.out.items c.append_headers.new.out.items c.append_messages.new.out.items n c.append_messages.result
    (ap length c.as_slice-headers.ensures ∙ sym (length-map c.args.packet.now.headers header_of))
    (c.in_ok-append_number.ensures.version c.requires.version)
    (subst (λ (z : List KeptHeader). Appends (ListBy (HeaderBy canonical) (map header_of z)) c.append_number.new.out.items c.append_headers.new.out.items) c.as_slice-headers.ensures c.in_ok-append_headers.ensures.writes)
    (subst (λ (z : List KeptMessage). Writes (ListBy (MessageBy canonical) (map message_of z)) (LacksFirst n (message_bodies (map message_of z))) c.append_headers.new.out.items c.append_messages.new.out.items c.append_messages.result) c.as_slice.ensures c.append_messages.ensures.writes)

pub append_headers-requires-clause-few : goal.append_headers-requires-clause-few
append_headers-requires-clause-few c = omega (arith, ap length c.as_slice-headers.ensures, c.requires.headers)

pub append_messages-requires-clause-few : goal.append_messages-requires-clause-few
append_messages-requires-clause-few c = omega (arith, ap length c.as_slice.ensures, c.requires.messages)

pub append_messages-requires-clause-first : goal.append_messages-requires-clause-first
append_messages-requires-clause-first c = omega (arith, ap length c.as_slice-headers.ensures, c.requires.headers)

pub overflow_cast-first : goal.overflow_cast-first
overflow_cast-first c = omega (arith, ap length c.as_slice-headers.ensures, c.requires.headers)

pub returns-in_err-append_headers-clause-grows : goal.returns-in_err-append_headers-clause-grows
returns-in_err-append_headers-clause-grows c = grows_then c.args.out.now.items c.append_number.new.out.items c.append_headers.new.out.items c.in_ok-append_number.ensures.grows c.in_err-append_headers.ensures.grows

pub returns-clause-grows : goal.returns-clause-grows
returns-clause-grows c = grows_then c.args.out.now.items c.append_headers.new.out.items c.append_messages.new.out.items (grows_then c.args.out.now.items c.append_number.new.out.items c.append_headers.new.out.items c.in_ok-append_number.ensures.grows c.in_ok-append_headers.ensures.grows) c.append_messages.ensures.grows
