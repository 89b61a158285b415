-- What a reader of packets answers, told by the bytes that were before it and those that it left.
use Rattle.std.specs.Prelude.{ℕ, ◌+◌, List, Result, sum_by}
use Rattle.amf_io.specs.declared.window.Window.{Window}
use Rattle.amf_io.specs.declared.cursor.Cursor.{Cursor}
use Rattle.amf_io.specs.declared.ends.ReadEnd.{ReadEnd}
use Rattle.amf_wire.specs.Style.{free}
use Rattle.amf_graph.specs.Bounds.{weight}
use Rattle.amf_io.specs.Stretch.{AnswersOf, between}
use Rattle.amf_packet.specs.declared.body.Body.{Body}
use Rattle.amf_packet.specs.declared.body.Body.TheVariants.{Call, Amf3, Plain}
use Rattle.amf_packet.specs.declared.packet.Header.{Header}
use Rattle.amf_packet.specs.declared.packet.Message.{Message}
use Rattle.amf_packet.specs.declared.packet.Packet.{Packet}
use Rattle.amf_packet.specs.Content.{packet_of}
use Rattle.amf_packet.specs.Packet.{SpellsPacket, IsPacketReading}

-- by the cursors before and behind it: the fields spell the packet; or where the source tells, a refusal which is the verdict, or a read fault
abbrev pub AnswersPacket : {S : Type 0} → (S → Type 0) → (S → List ℕ) → Cursor S Window → Cursor S Window → Result Packet ReadEnd → Type 0
AnswersPacket tells left c d result = AnswersOf (λ p fs. SpellsPacket free (packet_of p) fs) IsPacketReading (between tells left c d) result

-- how large the graph of a value is
abbrev pub body_weight : Body → ℕ
body_weight (Call g) = weight g.arena
body_weight (Amf3 g) = weight g.arena
body_weight (Plain g) = weight g.arena

-- and the graphs of all values of a packet
abbrev pub headers_weight : List Header → ℕ
headers_weight hs = sum_by (λ h. body_weight h.body) hs

abbrev pub messages_weight : List Message → ℕ
messages_weight ms = sum_by (λ m. body_weight m.body) ms

abbrev pub packet_weight : Packet → ℕ
packet_weight p = headers_weight p.headers + messages_weight p.messages
