-- Values that are spelled before their packet: each has tables of its own, so the bytes of a packet are those of its parts (AMF 0, 4.1 to 4.3).
use Rattle.std.specs.Prelude.{◌≡◌, ℕ, ◌<◌, ◌^◌, List, [], ◌∷◌, length, Option, Some, None}
use Rattle.std.specs.List.{AllByRecursion, AllZip}
use Rattle.amf_io.specs.Field.{Field, flat}
use Rattle.amf_wire.specs.Style.{canonical}
use Rattle.amf_wire.specs.Text.{IsText}
use Rattle.amf_graph.specs.declared.lack.Lack.{Lack}
use Rattle.amf_graph.specs.Graph.{Graph}
use Rattle.amf0_spelling.specs.declared.form.Form.{Form}
use Rattle.amf_packet.specs.declared.write_spelled.SpelledMessage.{SpelledMessage}
use Rattle.amf_packet.specs.Alike.{BodiesMatch}
use Rattle.amf_packet.specs.Packet.{Body, Message, Packet, BodyBy}
use Rattle.amf_packet.specs.PacketLacks.{IsBodyLack}

-- the bytes are the canonical spelling of the value
abbrev pub IsBodySpelling : Body → List ℕ → Type 0
IsBodySpelling b bytes = (fs : List Field) × BodyBy canonical b.form b.graph fs × (bytes ≡ flat fs)

-- or of one that is the same but for the numbers of its nodes
abbrev pub IsBodySpelledAlike : Body → List ℕ → Type 0
IsBodySpelledAlike b bytes = (same : Body) × BodiesMatch b same × IsBodySpelling same bytes

-- the spelling of a graph in this form; or that there is none, since it lacks something
abbrev pub TellsSpelling : Form → Graph → Option (List ℕ) → Type 0
TellsSpelling form g (Some b) = IsBodySpelling (record { form = form; graph = g }) b
TellsSpelling form g None = (l : Lack) × IsBodyLack form g l.node l.kind

-- the same URIs, and the spelling of the value
pub record IsSpelledMessage (m : Message) (s : SpelledMessage) : Type 0 where
  pub target : m.target ≡ s.target
  pub response : m.response ≡ s.response
  pub body : IsBodySpelling m.body s.body

-- a packet of this version, without headers, whose messages are these
pub record IsSpelledAs (p : Packet) (v : ℕ) (kept : List SpelledMessage) : Type 0 where
  pub version : p.version ≡ v
  pub no_headers : p.headers ≡ []
  pub messages : AllZip IsSpelledMessage p.messages kept

-- each URI is a text that fits its length field
abbrev pub HasFitUris : SpelledMessage → Type 0
HasFitUris s = AllByRecursion (λ x. IsText x × (length x < 2 ^ 16)) (s.target ∷ s.response ∷ [])
