-- The JSON text of a content, in the kinds of nodes and values that its format has.
use Rattle.std.specs.Prelude.{ℕ, List}
use Rattle.amf_text_write.specs.declared.layout.Layout.{Layout}
use Rattle.amf_text_write.specs.declared.values.ValueForm.{ValueForm}
use Rattle.amf_text_write.specs.declared.values.ValueForm.TheVariants as form
use Rattle.amf_text_write.specs.ValueTexts.{document_of}
use Rattle.amf_json.specs.JsonTexts.{packet_document, file_document, TellsValue, TellsPacket, TellsFile}
use Rattle.amf_json.specs.JsonLaws.{MeansAlike}
use Rattle.amf_json.specs.Ready.{IsReadyGraph, IsReadyPacket, IsReadyFile}
use Rattle.amf_commands.specs.declared.format.Format.{Format}
use Rattle.amf_commands.specs.declared.format.Format.TheVariants.{Amf3, Amf0, Packet, Sol}
use Rattle.amf_commands.specs.Content.{Content, value, packet, file}
use Rattle.amf_commands.specs.Formats.{IsFitted}

-- what the text of a value is of. A device of proofs
abbrev pub form_in : Format → ValueForm
form_in Amf0 = form.Amf0
form_in _ = form.Amf3

-- the text is the canonical one of a content that is fitted to the format
abbrev pub Tells : Layout → Format → Content → List ℕ → Type 0
Tells layout Amf3 (value fit) text = TellsValue layout form.Amf3 fit text
Tells layout Amf0 (value fit) text = TellsValue layout form.Amf0 fit text
Tells layout Packet (packet fit) text = TellsPacket layout fit text
Tells layout Sol (file fit) text = TellsFile layout fit text
Tells _ _ _ text = ⊥

-- the text means it, but for the numbers of its nodes, and in AMF 0 with integers in place of doubles
abbrev pub IsMeant : Format → Content → List ℕ → Type 0
IsMeant Amf3 (value fit) text = MeansAlike (document_of form.Amf3 fit) text
IsMeant Amf0 (value fit) text = MeansAlike (document_of form.Amf0 fit) text
IsMeant Packet (packet fit) text = MeansAlike (packet_document fit) text
IsMeant Sol (file fit) text = MeansAlike (file_document fit) text
IsMeant _ _ text = ⊥

-- the content can be told and read back: its graphs are whole, its names, versions and counts are such as their fields have, and its nodes are few
abbrev pub IsReadyContent : Format → Content → Type 0
IsReadyContent Amf3 (value g) = IsReadyGraph g
IsReadyContent Amf0 (value g) = IsReadyGraph g
IsReadyContent Packet (packet p) = IsReadyPacket p
IsReadyContent Sol (file o) = IsReadyFile o
IsReadyContent _ _ = ⊥

-- the text is that of a content, in the kinds that the format has, and means it
abbrev pub IsTold : Layout → Format → Content → List ℕ → Type 0
IsTold layout f c text = IsReadyContent f c × (fit : Content) × IsFitted f c fit × Tells layout f fit text × IsMeant f fit text
