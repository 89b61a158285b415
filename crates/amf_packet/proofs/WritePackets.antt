-- A packet by its parts: the version, the headers, the messages.
use Rattle.std.proofs.Common.{◌≡◌, ℕ, List, length, Result, Err, IsErrAnd, sym, ◌∙◌}
use Rattle.std.specs.List.{AllByRecursion}
use Rattle.std.proofs.lemmas.List.{length-map}
use Rattle.amf_wire.specs.Style.{canonical}
use Rattle.amf_packet.specs.declared.packet_end.PacketEnd.{PacketEnd}
use Rattle.amf_packet.specs.Packet.{Header, Packet, Beside, VersionBy, HeaderBy, MessageBy, ListBy, SpellsPacket}
use Rattle.amf_packet.specs.PacketLacks.{bodies}
use Rattle.amf_packet.specs.WriteParts.{Appends, Writes, IsSpelledBody, LacksFirst, header_bodies, message_bodies}
use Rattle.amf_packet.proofs.WriteJoins.{writes_more, writes_then, part_ended}
use Rattle.amf_packet.proofs.WriteLacks.{header_spelled, each_spelled, lacks_left, lacks_right}

headers_spelled : (hs : List Header) (a b : List ℕ) → Appends (ListBy (HeaderBy canonical) hs) a b → AllByRecursion IsSpelledBody (header_bodies hs)
headers_spelled hs a b (fs, (front, back, e, count, each), is) = each_spelled (HeaderBy canonical) (λ h. h.body) header_spelled hs back each

module _ (p : Packet) where
  pub packet_writes : (a b c d : List ℕ) (n : ℕ) (r : Result (Unit {0}) PacketEnd) → n ≡ length p.headers → Appends (VersionBy p.version) a b → Appends (ListBy (HeaderBy canonical) p.headers) b c → Writes (ListBy (MessageBy canonical) p.messages) (LacksFirst n (message_bodies p.messages)) c d r → Writes (SpellsPacket canonical p) (LacksFirst 0 (bodies p)) a d r
  packet_writes a b c d n r e version headers messages =
      let L = LacksFirst 0 (bodies p) in
      writes_then (VersionBy p.version) (Beside (ListBy (HeaderBy canonical) p.headers) (ListBy (MessageBy canonical) p.messages)) L a b d r version
      (writes_then (ListBy (HeaderBy canonical) p.headers) (ListBy (MessageBy canonical) p.messages) L b c d r headers
      (writes_more (ListBy (MessageBy canonical) p.messages) (LacksFirst n (message_bodies p.messages)) L c d r
      (λ v m k. lacks_right (header_bodies p.headers) (message_bodies p.messages) n v m k (e ∙ sym (length-map p.headers (λ (h : Header). h.body))) (headers_spelled p.headers b c headers)) messages))

  pub headers_ended : (a b c : List ℕ) (e : PacketEnd) (r : Result (Unit {0}) PacketEnd) → IsErrAnd r (λ x. x ≡ e) → Writes (ListBy (HeaderBy canonical) p.headers) (LacksFirst 0 (header_bodies p.headers)) b c (Err e) → Writes (SpellsPacket canonical p) (LacksFirst 0 (bodies p)) a c r
  headers_ended a b c e r is w =
      part_ended (ListBy (HeaderBy canonical) p.headers) (SpellsPacket canonical p) (LacksFirst 0 (header_bodies p.headers)) (LacksFirst 0 (bodies p)) b c a c e r is (λ v n k. lacks_left (header_bodies p.headers) (message_bodies p.messages) v n k) w
