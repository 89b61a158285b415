-- A packet that fields spell has counts and lengths that fit their fields.
use Rattle.std.proofs.Common.{ℕ, List, [], ◌∷◌, inl, inr, arith}
use Rattle.std.specs.List.{AllByRecursion}
use Rattle.amf_io.specs.Field.{Field}
use Rattle.amf_wire.specs.Style.{Style}
use Rattle.amf_graph.proofs.Alls.{all_append, each_at}
use Rattle.amf_packet.specs.Packet.{Header, Message, Packet, HeaderBy, MessageBy, Each, SpellsPacket}
use Rattle.amf_packet.specs.PacketLacks.{AreShort, IsTooMany, IsLongText, texts_by_value}
use Rattle.amf_packet.specs.WriteParts.{header_texts, message_texts}

short_headers : (s : Style) (hs : List Header) (fs : List Field) → Each (HeaderBy s) hs fs → AllByRecursion AreShort (header_texts hs)
short_headers s [] fs e = tt
short_headers s (h ∷ hs) fs (front, back, e, (f, g, i, name, z), more) = ((name.1, tt), short_headers s hs back more)

short_messages : (s : Style) (ms : List Message) (fs : List Field) → Each (MessageBy s) ms fs → AllByRecursion AreShort (message_texts ms)
short_messages s [] fs e = tt
short_messages s (m ∷ ms) fs (front, back, e, (f, g, i, target, (k, l, n, response, z)), more) = ((target.1, (response.1, tt)), short_messages s ms back more)

pub not_many : (s : Style) (p : Packet) (fs : List Field) → SpellsPacket s p fs → IsTooMany p → ⊥
not_many s p fs (front, back, e, v, (f, g, i, (k, l, n, count, hs), (o, q, r, counted, ms))) (inl many) = let a = count.0 in absurd (omega (arith, many, a))
not_many s p fs (front, back, e, v, (f, g, i, (k, l, n, count, hs), (o, q, r, counted, ms))) (inr many) = let a = counted.0 in absurd (omega (arith, many, a))

pub not_long : (s : Style) (p : Packet) (value : ℕ) (fs : List Field) → SpellsPacket s p fs → IsLongText p value → ⊥
not_long s p value fs (front, back, e, v, (f, g, i, (k, l, n, count, hs), (o, q, r, counted, ms))) long =
    long.long (each_at AreShort (texts_by_value p) value long.texts (all_append AreShort (header_texts p.headers) (message_texts p.messages) (short_headers s p.headers l hs) (short_messages s p.messages q ms)) long.at)
