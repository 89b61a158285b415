-- What is read to its end is the packet of the bytes; what is refused, or ends earlier, is none.
use Rattle.std.proofs.Common.{◌≡◌, ◌≤◌, true, Option, List, ℕ, sym, subst, arith}
use Rattle.std.specs.List.{AllByRecursion}
use Rattle.amf_io.specs.Cursor.{place, bound, unread}
use Rattle.amf_io.specs.InMemory.{nothing_left}
use Rattle.amf_io.specs.Stretch.{IsTaken, stretch}
use Rattle.amf_io.specs.Verdict.{IsRefused, refused}
use Rattle.amf_wire.specs.Style.{free}
use Rattle.amf_graph.specs.Reached.{IsWhole}
use Rattle.amf_packet.specs.declared.packet.Message.{Message as KeptMessage}
use Rattle.amf_packet.specs.Content.{body_of, packet_of}
use Rattle.amf_packet.specs.Packet.{SpellsPacket, IsPacketReading}
use Rattle.amf_packet.specs.PacketAnswer.{packet_weight}
use Rattle.amf_packet.specs.Unpacked.{Unpacks}
use Rattle.amf_packet.specs.declared.packet.Packet.{Packet as KeptPacket}
use Rattle.amf_packet.proofs.WholeReads.{none_spelled, more_follows, packet_read, no_fault, by_test}
use Rattle.amf_packet.proofs.unpacked.whole_packet.Goals as goal

pub returns-in-Ok : goal.returns-in-Ok
returns-in-Ok c =
    let p = c.in-Ok.packet in
    let input = unread nothing_left c.args.cursor.now in
    let rest = unread nothing_left c.read_packet_keyed.new.cursor in
    let at = place c.read_packet_keyed.new.cursor in
    let begun = subst (λ (n : ℕ). IsTaken (λ fs. SpellsPacket free (packet_of p) fs) IsPacketReading (stretch (Unit {0}) input rest n at (bound c.args.cursor.now))) c.requires.start c.in-Ok.ensures.answers in
    let taken = subst (λ (n : ℕ). IsTaken (λ fs. SpellsPacket free (packet_of p) fs) IsPacketReading (stretch (Unit {0}) input rest 0 at n)) c.requires.limit begun in
    let light : packet_weight p ≤ at = omega (arith, c.in-Ok.ensures.weighs) in
    let whole = subst (λ (ms : List KeptMessage). AllByRecursion (λ m. IsWhole (body_of m.body).graph) ms) c.as_slice.ensures c.are_whole.ensures in
    subst (λ (o : Option KeptPacket). Unpacks input o) (sym c.then_some.ensures)
    (by_test c.is_at_end.result p (λ (o : Option KeptPacket). Unpacks input o)
    (λ e. packet_read input rest at p c.requires.short taken (c.is_at_end.ensures.0 e) light whole)
    (λ e. more_follows input rest at p c.requires.short taken (λ f. let yes : c.is_at_end.result ≡ true = c.is_at_end.ensures.1 f in cc)))

pub returns-in-Err-Refused : goal.returns-in-Err-Refused
returns-in-Err-Refused c =
    let f = c.in-Err-Refused.field-0-0 in
    let input = unread nothing_left c.args.cursor.now in
    let told = rw c.in-Err-Refused.field-0-is at c.in-Err-Refused.ensures.answers in
    let begun = subst (λ (n : ℕ). IsRefused IsPacketReading n (bound c.args.cursor.now) input f.reason f.at) c.requires.start (told tt) in
    none_spelled input f.reason f.at c.requires.short (refused (subst (λ (n : ℕ). IsRefused IsPacketReading 0 n input f.reason f.at) c.requires.limit begun))

pub unreachable-requires : goal.unreachable-requires
unreachable-requires c = no_fault c.in-Err-ReadFault.field-0 c.in-Err-ReadFault.field-0-is c.in-Err-ReadFault.ensures.goes.cause
