-- The packet of a body, as it is answered: it is whole, and its count, texts and weights are those of bytes that are no more than a body's.
use Rattle.std.proofs.Common.{ℕ, ◌<◌, ◌≤◌, ◌^◌, List, [], ◌∷◌, length, map, Option, Some, None, arith}
use Rattle.std.specs.List.{AllByRecursion}
use Rattle.std.proofs.lemmas.List.{length-map}
use Rattle.std.proofs.lemmas.List.Sums.{sum_by-append}
use Rattle.amf_io.specs.Field.{Field}
use Rattle.amf_wire.specs.Style.{free}
use Rattle.amf_wire.specs.Text.{IsText}
use Rattle.amf_graph.specs.Reached.{IsWhole}
use Rattle.amf_packet.specs.declared.packet.Message.{Message as KeptMessage}
use Rattle.amf_packet.specs.declared.packet.Packet.{Packet as KeptPacket}
use Rattle.amf_packet.specs.Content.{body_of, message_of, packet_of}
use Rattle.amf_packet.specs.Packet.{Message, Each, MessageBy, SpellsPacket}
use Rattle.amf_packet.specs.PacketAnswer.{body_weight, messages_weight, packet_weight}
use Rattle.amf_packet.specs.Unpacked.{Unpacks as Found}
use Rattle.amf_packet.proofs.Spelled.{has_version}
use Rattle.amf_gateway.specs.Answered.{IsReadable, Unpacks, most_body}

module _ (p : KeptPacket) where
  all_mapped : (ms : List KeptMessage) → AllByRecursion (λ m. IsWhole (body_of m.body).graph) ms → AllByRecursion (λ (m : Message). IsWhole m.body.graph) (map message_of ms)
  all_mapped [] h = tt
  all_mapped (m ∷ ms) h = (h.0, all_mapped ms h.1)

  uris : (ms : List KeptMessage) (fs : List Field) → Each (MessageBy free) (map message_of ms) fs → AllByRecursion (λ m. IsText m.response) ms
  uris [] fs e = tt
  uris (m ∷ ms) fs (front, back, e, (f, g, i, target, (k, l, n, (response, c, d), z)), more) = (response, uris ms back more)

  each_light : (ms : List KeptMessage) → messages_weight ms ≤ most_body → AllByRecursion (λ m. body_weight m.body ≤ most_body) ms
  each_light [] h = tt
  each_light (m ∷ ms) h = let s = sum_by-append (λ (x : KeptMessage). body_weight x.body) (m ∷ []) ms in (omega (arith, h, s), each_light ms (omega (arith, h, s)))

  readable : (fs : List Field) → SpellsPacket free (packet_of p) fs → packet_weight p ≤ most_body → IsReadable p
  readable fs spells light = record {
    version = has_version free (packet_of p) fs spells;
    few = go fs spells;
    texts = texts fs spells;
    light = each_light p.messages (omega (arith, light));
  }
    where
      go : (fs : List Field) → SpellsPacket free (packet_of p) fs → length p.messages < 2 ^ 16
      go fs (front, back, e, v, (f, g, i, headers, (o, q, r, counted, ms))) = omega (arith, counted.0, length-map p.messages message_of)

      texts : (fs : List Field) → SpellsPacket free (packet_of p) fs → AllByRecursion (λ m. IsText m.response) p.messages
      texts fs (front, back, e, v, (f, g, i, headers, (o, q, r, counted, ms))) = uris p.messages q ms

-- what the bytes of a body are found to be
pub body_unpacked : (input : List ℕ) (found : Option KeptPacket) → length input ≤ most_body → Found input found → Unpacks input found
body_unpacked input None short none = λ q unpacked. none q unpacked.0
body_unpacked input (Some p) short is =
    let light = is.light in
    ((is.spelled, record { messages = all_mapped p p.messages is.whole }), readable p is.spelled.0 is.spelled.1 (omega (arith, light, short)))
