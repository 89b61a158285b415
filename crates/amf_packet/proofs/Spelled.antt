-- A packet that fields spell has a version that is read, and texts as its names and URIs.
use Rattle.std.proofs.Common.{◌≡◌, ℕ, true, List, [], ◌∷◌, Result, Ok, Err}
use Rattle.std.specs.List.{AllByRecursion}
use Rattle.std.specs.Result.{IfOk}
use Rattle.amf_io.specs.declared.window.Window.{Window}
use Rattle.amf_io.specs.declared.cursor.Cursor.{Cursor}
use Rattle.amf_io.specs.declared.ends.ReadEnd.{ReadEnd}
use Rattle.amf_io.specs.Field.{Field}
use Rattle.amf_wire.specs.Style.{Style, free}
use Rattle.amf_wire.specs.Text.{IsText}
use Rattle.amf_graph.proofs.Alls.{all_append}
use Rattle.amf_packet.specs.declared.packet.Packet.{Packet as KeptPacket}
use Rattle.amf_packet.specs.Content.{packet_of}
use Rattle.amf_packet.specs.Packet.{Header, Message, Packet, HeaderBy, MessageBy, Each, is_version, SpellsPacket}
use Rattle.amf_packet.specs.PacketAnswer.{AnswersPacket}
use Rattle.amf_packet.specs.WriteParts.{header_texts, message_texts}
use Rattle.amf_packet.specs.WrittenPacket.{HasTexts}

headers : (s : Style) (hs : List Header) (fs : List Field) → Each (HeaderBy s) hs fs → AllByRecursion (AllByRecursion IsText) (header_texts hs)
headers s [] fs e = tt
headers s (h ∷ hs) fs (front, back, e, (f, g, i, (text, fits, name), z), more) = ((text, tt), headers s hs back more)

messages : (s : Style) (ms : List Message) (fs : List Field) → Each (MessageBy s) ms fs → AllByRecursion (AllByRecursion IsText) (message_texts ms)
messages s [] fs e = tt
messages s (m ∷ ms) fs (front, back, e, (f, g, i, (target, a, b), (k, l, n, (response, c, d), z)), more) = ((target, (response, tt)), messages s ms back more)

pub has_version : (s : Style) (p : Packet) (fs : List Field) → SpellsPacket s p fs → is_version p.version ≡ true
has_version s p fs (front, back, e, (version, f), z) = version

pub has_texts : (s : Style) (p : Packet) (fs : List Field) → SpellsPacket s p fs → HasTexts p
has_texts s p fs (front, back, e, v, (f, g, i, (k, l, n, count, hs), (o, q, r, counted, ms))) =
    all_append (AllByRecursion IsText) (header_texts p.headers) (message_texts p.messages) (headers s p.headers l hs) (messages s p.messages q ms)

-- so a packet that was read can be given to its writer
module _ {S : Type 0} (tells : S → Type 0) (left : S → List ℕ) (c d : Cursor S Window) where
  pub version_read : (r : Result KeptPacket ReadEnd) → AnswersPacket tells left c d r → IfOk r (λ p. is_version p.version ≡ true)
  version_read (Ok p) a = has_version free (packet_of p) a.fields a.read
  version_read (Err e) a = tt

  pub texts_read : (r : Result KeptPacket ReadEnd) → AnswersPacket tells left c d r → IfOk r (λ p. HasTexts (packet_of p))
  texts_read (Ok p) a = has_texts free (packet_of p) a.fields a.read
  texts_read (Err e) a = tt
