-- The packet that bytes are, if they are one.
use Rattle.std.specs.Prelude.{ℕ, ◌≤◌, List, length, Option, Some, None}
use Rattle.std.specs.List.{AllByRecursion}
use Rattle.amf_wire.specs.Style.{free}
use Rattle.amf_graph.specs.Reached.{IsWhole}
use Rattle.amf_packet.specs.declared.packet.Packet.{Packet as KeptPacket}
use Rattle.amf_packet.specs.Content.{body_of, packet_of}
use Rattle.amf_packet.specs.Packet.{Packet, SpelledPacket}
use Rattle.amf_packet.specs.PacketAnswer.{packet_weight}

-- the bytes are no packet
abbrev pub IsNoPacket : List ℕ → Type 0
IsNoPacket b = (p : Packet) → SpelledPacket free p b → ⊥

-- the bytes spell the packet; no value of a message has a part that its kind does not take, and the graphs are no larger than the bytes
pub record IsUnpackedFrom (b : List ℕ) (p : KeptPacket) : Type 0 where
  pub spelled : SpelledPacket free (packet_of p) b
  pub whole : AllByRecursion (λ m. IsWhole (body_of m.body).graph) p.messages
  pub light : packet_weight p ≤ length b

-- the packet that the bytes spell, if they spell one
abbrev pub Unpacks : List ℕ → Option KeptPacket → Type 0
Unpacks b None = IsNoPacket b
Unpacks b (Some p) = IsUnpackedFrom b p
