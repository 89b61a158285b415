-- What the bytes of a JSON text are: it means a value, a packet or a shared object file, and they are the canonical spelling of that.
use Rattle.std.specs.Prelude.{◌≡◌, ℕ, ◌↔◌, List}
use Rattle.amf_wire.specs.Style.{canonical}
use Rattle.amf_graph.specs.declared.lack.Lack.{Lack}
use Rattle.amf_graph.specs.Graph.{Graph}
use Rattle.amf_text.specs.Scalars.{read_number}
use Rattle.amf_text.specs.Documents.{Document, value3, value0}
use Rattle.amf_text.specs.Refused.{IsTextAccepted}
use Rattle.amf_json.specs.JsonTexts.{packet_document, file_document}
use Rattle.amf_commands.specs.declared.format.Format.{Format}
use Rattle.amf_commands.specs.declared.format.Format.TheVariants.{Amf3, Amf0, Packet, Sol}
use Rattle.amf_commands.specs.Content.{Content, value, packet, file}
use Rattle.amf_commands.specs.Formats.{Spelled, IsFitted, IsAlike, IsLackIn, IsWritten, IsUnwritten}

-- the document is this content, of this format
abbrev pub IsDocumentOf : Format → Content → Document Graph → Type 0
IsDocumentOf Amf3 (value g) d = d ≡ value3 g
IsDocumentOf Amf0 (value g) d = d ≡ value0 g
IsDocumentOf Packet (packet p) d = d ≡ packet_document p
IsDocumentOf Sol (file o) d = d ≡ file_document o
IsDocumentOf _ _ d = ⊥

-- the text is accepted, and means this content, of the format that it names
abbrev pub MeansContent : Format → Content → List ℕ → Type 0
MeansContent f c text = (d : Document Graph) × IsTextAccepted read_number text d × IsDocumentOf f c d

-- the bytes are the canonical spelling of what the text means
abbrev pub IsTextBytes : List ℕ → List ℕ → Type 0
IsTextBytes text bytes = (f : Format) × (c : Content) × MeansContent f c text × IsWritten f c bytes

-- whatever the text means, the bytes are canonical for exactly the contents that are alike, in the kinds that the format has
abbrev pub DecidesBytes : List ℕ → List ℕ → Type 0
DecidesBytes text bytes = (f : Format) (c fit other : Content) → MeansContent f c text → IsFitted f c fit → IsAlike f other fit ↔ Spelled f canonical other bytes

-- the text means a content that has no canonical spelling in its format
abbrev pub LacksBytes : List ℕ → ℕ → Lack → Type 0
LacksBytes text number l = (f : Format) × (c : Content) × MeansContent f c text × IsUnwritten f c number l

-- whatever it means
abbrev pub LacksBytesEver : List ℕ → ℕ → Lack → Type 0
LacksBytesEver text number l = (f : Format) (c fit : Content) → MeansContent f c text → IsFitted f c fit → IsLackIn f fit number l
