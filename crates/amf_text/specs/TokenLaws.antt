-- A canonical text is the text of JSON that means what the canonical JSON does.
use Rattle.std.specs.Prelude.{◌≡◌, List, ℕ}
use Rattle.json.specs.Json.{Json}
use Rattle.amf_graph.specs.Graph.{Graph}
use Rattle.amf_text.specs.Scalars.{read_number}
use Rattle.amf_text.specs.Documents.{Document}
use Rattle.amf_text.specs.Texts.{Layout, IsDocumentText}
use Rattle.amf_text.specs.Accepted.{IsJsonText, document_meant}
use Rattle.amf_text.specs.Tellable.{IsTellable}
use Rattle.amf_text.specs.DocumentLaws.{HasFewNodes}

-- it is UTF-8, and its tokens are those of that JSON
pub record IsToldAs (told : Json) (text : List ℕ) : Type 0 where
  pub json : Json
  pub is_text : IsJsonText text json
  pub same : document_meant read_number json ≡ document_meant read_number told

abbrev pub TextIsJson : Type 0
TextIsJson = (layout : Layout) (d : Document Graph) (text : List ℕ) → IsTellable d → HasFewNodes d → (t : IsDocumentText layout d text) → IsToldAs t.told text
