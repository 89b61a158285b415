-- What the JSON text of an input tells: a value, a packet or a shared object file, in the kinds that its format has. What is in AMF 0 is told lowered.
use Rattle.std.specs.Prelude.{◌≡◌, ℕ, List, map}
use Rattle.amf_graph.specs.Graph.{Graph}
use Rattle.amf0_spelling.specs.declared.form.Form.{Form}
use Rattle.amf0_spelling.specs.declared.form.Form.TheVariants.{Call, Amf3, Plain}
use Rattle.amf0_spelling.specs.Lowered.{IsLoweringOf}
use Rattle.amf_packet.specs.Packet.{Header, Message, Packet}
use Rattle.amf_sol.specs.declared.sol_version.SolVersion.{SolVersion}
use Rattle.amf_sol.specs.declared.sol_version.SolVersion.TheVariants as version
use Rattle.amf_sol.specs.SharedObject.{Shared}
use Rattle.amf_listings.specs.SamePacket.{IsLoweredPacket}
use Rattle.amf_listings.specs.SameFile.{IsLoweredFile}
use Rattle.amf_text.specs.Documents.{plain, amf3, call, FileVersion, file0, file3, Document, file, packet}
use Rattle.amf_text.specs.Documents as text
use Rattle.amf_text.specs.Texts.{IsDocumentText}
use Rattle.amf_text_write.specs.declared.layout.Layout.{Layout}
use Rattle.amf_text_write.specs.declared.values.ValueForm.{ValueForm}
use Rattle.amf_text_write.specs.declared.values.ValueForm.TheVariants as value
use Rattle.amf_text_write.specs.ValueTexts.{layout_of, document_of}

-- Documents.

abbrev pub form_told : Form → text.Form
form_told Call = call
form_told Amf3 = amf3
form_told Plain = plain

abbrev pub header_told : Header → text.Header Graph
header_told h = record { name = h.name; must = h.must; form = form_told h.body.form; graph = h.body.graph }

abbrev pub message_told : Message → text.Message Graph
message_told m = record { target = m.target; response = m.response; form = form_told m.body.form; graph = m.body.graph }

abbrev pub packet_document : Packet → Document Graph
packet_document p = packet p.version (map header_told p.headers) (map message_told p.messages)

abbrev pub version_told : SolVersion → FileVersion
version_told version.Amf0 = file0
version_told version.Amf3 = file3

abbrev pub file_document : Shared → Document Graph
file_document o = file o.name (version_told o.version) o.holder

-- Texts of what is in the kinds that its format has.

abbrev pub TellsValue : Layout → ValueForm → Graph → List ℕ → Type 0
TellsValue layout form fit text = IsDocumentText (layout_of layout) (document_of form fit) text

abbrev pub TellsPacket : Layout → Packet → List ℕ → Type 0
TellsPacket layout fit text = IsDocumentText (layout_of layout) (packet_document fit) text

abbrev pub TellsFile : Layout → Shared → List ℕ → Type 0
TellsFile layout fit text = IsDocumentText (layout_of layout) (file_document fit) text

-- Texts of any.

-- a value in the kinds that its form has: AMF 3 has all, and for AMF 0 it is lowered
abbrev pub IsFittedValue : ValueForm → Graph → Graph → Type 0
IsFittedValue value.Amf3 g fit = fit ≡ g
IsFittedValue value.Amf0 g fit = IsLoweringOf g fit

-- the text of a value
abbrev pub IsValueJson : Layout → ValueForm → Graph → List ℕ → Type 0
IsValueJson layout form g text = (fit : Graph) × IsFittedValue form g fit × TellsValue layout form fit text

-- the text of a packet, whose plain values are lowered
abbrev pub IsPacketJson : Layout → Packet → List ℕ → Type 0
IsPacketJson layout p text = (fit : Packet) × IsLoweredPacket p fit × TellsPacket layout fit text

-- the text of a shared object, whose graph is lowered where its version is that of AMF 0
abbrev pub IsFileJson : Layout → Shared → List ℕ → Type 0
IsFileJson layout o text = (fit : Shared) × IsLoweredFile o fit × TellsFile layout fit text
