-- What a text means can be told, and so it can be given to the writer of its format.
use Rattle.std.proofs.Common.{◌≡◌, ◌⊎◌, inl, inr, ℕ, ◌<◌, ◌≤◌, ◌^◌, true, List, [], ◌∷◌, length, map, refl, sym, subst, arith}
use Rattle.std.proofs.lemmas.List.{length-map}
use Rattle.std.specs.List.{AllByRecursion, AllZip}
use Rattle.amf_wire.specs.Text.{IsText}
use Rattle.amf_graph.specs.Graph.{Graph}
use Rattle.amf_graph.specs.Reached.{IsWhole, at_root}
use Rattle.amf_graph.proofs.Alls.{all_append, each_at}
use Rattle.amf_graph.proofs.OrderExists.{isomorphic_refl}
use Rattle.amf_packet.specs.Packet.{Header, Message, Packet as PacketOf, is_version}
use Rattle.amf_packet.specs.PacketLacks.{AreShort, texts_by_value}
use Rattle.amf_packet.specs.WriteParts.{header_texts, message_texts}
use Rattle.amf_listings.specs.SamePacket.{HeadersMatch, MessagesMatch}
use Rattle.amf_graph.specs.Isomorphic.{Isomorphic}
use Rattle.amf_sol.specs.SharedObject.{HasHolder}
use Rattle.amf_text.specs.Documents.{Document}
use Rattle.amf_text.specs.Tellable.{HoldsPairs, IsTellableHeader, IsTellableMessage, IsTellable}
use Rattle.amf_json.specs.JsonTexts.{header_told, message_told, packet_document}
use Rattle.amf_commands.specs.declared.format.Format.{Format}
use Rattle.amf_commands.specs.declared.format.Format.TheVariants.{Amf3, Amf0, Packet, Sol}
use Rattle.amf_commands.specs.Content.{Content, value, packet, file}
use Rattle.amf_commands.proofs.Formats.{SameContent}
use Rattle.amf_bytes.specs.Meanings.{IsDocumentOf}
use Rattle.amf_commands.specs.ReadContent.{IsPacketReady}

version_read : (v : ℕ) → (v ≡ 0) ⊎ ((v ≡ 1) ⊎ (v ≡ 3)) → is_version v ≡ true
version_read v (inl e) = subst (λ n. is_version n ≡ true) (sym e) refl
version_read v (inr (inl e)) = subst (λ n. is_version n ≡ true) (sym e) refl
version_read v (inr (inr e)) = subst (λ n. is_version n ≡ true) (sym e) refl

within_16 : (n : ℕ) → n ≤ 65535 → n < 2 ^ 16
within_16 n l = omega (arith, l)

header_has : (hs : List Header) → AllByRecursion IsTellableHeader (map header_told hs) → AllByRecursion (AllByRecursion IsText) (header_texts hs)
header_has [] a = tt
header_has (h ∷ hs) a = ((a.0.name.0, tt), header_has hs a.1)

message_has : (ms : List Message) → AllByRecursion IsTellableMessage (map message_told ms) → AllByRecursion (AllByRecursion IsText) (message_texts ms)
message_has [] a = tt
message_has (m ∷ ms) a = ((a.0.target.0, (a.0.response.0, tt)), message_has ms a.1)

header_short : (hs : List Header) → AllByRecursion IsTellableHeader (map header_told hs) → AllByRecursion AreShort (header_texts hs)
header_short [] a = tt
header_short (h ∷ hs) a = ((within_16 (length h.name) a.0.name.1, tt), header_short hs a.1)

message_short : (ms : List Message) → AllByRecursion IsTellableMessage (map message_told ms) → AllByRecursion AreShort (message_texts ms)
message_short [] a = tt
message_short (m ∷ ms) a = ((within_16 (length m.target) a.0.target.1, (within_16 (length m.response) a.0.response.1, tt)), message_short ms a.1)

too_many : (n m : ℕ) → n ≤ 65535 → n ≡ m → 2 ^ 16 ≤ m → ⊥
too_many n m l e k = omega (arith, l, e, k)

pub packet_ready : (p : PacketOf) → IsTellable (packet_document p) → IsPacketReady p
packet_ready p t = record {
  version = version_read p.version t.version_is;
  texts = all_append (AllByRecursion IsText) (header_texts p.headers) (message_texts p.messages) (header_has p.headers t.header_parts) (message_has p.messages t.message_parts);
  few = λ many. elim many [
    | inl h ↦ too_many (length (map header_told p.headers)) (length p.headers) t.few_headers (length-map p.headers header_told) h
    | inr m ↦ too_many (length (map message_told p.messages)) (length p.messages) t.few_messages (length-map p.messages message_told) m
  ];
  short = λ v long. long.long (each_at AreShort (texts_by_value p) v long.texts (all_append AreShort (header_texts p.headers) (message_texts p.messages) (header_short p.headers t.header_parts) (message_short p.messages t.message_parts)) long.at);
}

-- the root of a file is a holder
pub file_holder : (g : Graph) (i : ℕ) → IsWhole g → HoldsPairs g i → HasHolder g
file_holder g i w h = (i, record { pairs = record { root = h.root; there = w.there i (at_root h.root); head = h.head; unsealed = h.unsealed }; unheld = h.unheld })

-- what a text means is the same as itself

whole_same : (g : Graph) → IsWhole g → Isomorphic g g
whole_same g w = isomorphic_refl g w.there

headers_same : (hs : List Header) → AllByRecursion IsTellableHeader (map header_told hs) → AllZip (HeadersMatch (λ form. Isomorphic)) hs hs
headers_same [] a = tt
headers_same (h ∷ hs) a = ((refl, refl, (refl, whole_same h.body.graph a.0.whole)), headers_same hs a.1)

messages_same : (ms : List Message) → AllByRecursion IsTellableMessage (map message_told ms) → AllZip (MessagesMatch (λ form. Isomorphic)) ms ms
messages_same [] a = tt
messages_same (m ∷ ms) a = ((refl, refl, (refl, whole_same m.body.graph a.0.whole)), messages_same ms a.1)

pub same_itself : (f : Format) (c : Content) (d : Document Graph) → IsDocumentOf f c d → IsTellable d → SameContent c c
same_itself Amf3 (value g) d is t = whole_same g (subst IsTellable is t)
same_itself Amf0 (value g) d is t = whole_same g (subst IsTellable is t)
same_itself Packet (packet p) d is t =
    let k = subst IsTellable is t in
    record { version = refl; headers = headers_same p.headers k.header_parts; messages = messages_same p.messages k.message_parts }
same_itself Sol (file o) d is t = record { name = refl; version = refl; holder = whole_same o.holder (subst IsTellable is t).1 }
same_itself _ _ d is t = absurd is
