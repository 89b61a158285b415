-- What the text of one value or file is of, and how it is laid out.
use Rattle.std.specs.Prelude.{◌≡◌, ℕ, Bool, true, false, List, codes}
use Rattle.json.specs.Token.{Token}
use Rattle.json.specs.Tree.{json_tokens}
use Rattle.amf_graph.specs.Graph.{node, Graph, node_at}
use Rattle.amf_text.specs.Documents.{Document, value3, value0, file, file0, file3}
use Rattle.amf_text.specs.Documents as document
use Rattle.amf_text.specs.Texts as text
use Rattle.amf_text.specs.Told.{Way}
use Rattle.amf_text_write.specs.declared.files.FileVersion.{FileVersion}
use Rattle.amf_text_write.specs.declared.files.FileVersion.TheVariants as version
use Rattle.amf_text_write.specs.declared.layout.Layout.{Layout}
use Rattle.amf_text_write.specs.declared.layout.Layout.TheVariants as layout
use Rattle.amf_text_write.specs.declared.values.ValueForm.{ValueForm}
use Rattle.amf_text_write.specs.declared.values.ValueForm.TheVariants.{Amf3, Amf0}

abbrev pub layout_of : Layout → text.Layout
layout_of layout.Lines = text.lines
layout_of layout.Compact = text.compact

abbrev pub document_of : ValueForm → Graph → Document Graph
document_of Amf3 g = value3 g
document_of Amf0 g = value0 g

-- the canonical text of the value, laid out so
abbrev pub IsValueText : Layout → ValueForm → Graph → List ℕ → Type 0
IsValueText layout form g bytes = text.IsDocumentText (layout_of layout) (document_of form g) bytes

-- the root is a node
abbrev pub HasNodeRoot : Graph → Type 0
HasNodeRoot g = (i : ℕ) × (g.root ≡ node i)

abbrev pub version_of : FileVersion → document.FileVersion
version_of version.Amf0 = file0
version_of version.Amf3 = file3

-- the canonical text of the file of this name, whose root holds its pairs
abbrev pub IsFileText : Layout → List ℕ → FileVersion → Graph → List ℕ → Type 0
IsFileText layout name version g bytes = text.IsDocumentText (layout_of layout) (file name (version_of version) g) bytes

-- Devices of proofs.

-- the word of a form, and whether whole doubles stand by their digits alone

abbrev pub form_name : ValueForm → List ℕ
form_name Amf3 = codes "amf3"
form_name Amf0 = codes "amf0"

abbrev pub is_bare : ValueForm → Bool
is_bare Amf3 = false
is_bare Amf0 = true

-- the tokens of a whole value, and of a file with this holder

abbrev pub value_object : ValueForm → Graph → Way → List Token
value_object form g w = json_tokens (text.value_json (form_name form) w g)

abbrev pub file_object : List ℕ → FileVersion → Graph → ℕ → Way → List Token
file_object name version g i w = json_tokens (text.file_json w name (version_of version) g (node_at g i))
