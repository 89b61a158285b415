-- The canonical JSON of each document means something, where labels may still lead nowhere.
use Rattle.std.specs.Prelude.{◌≡◌, ◌<◌, ◌^◌, length, Some}
use Rattle.std.specs.List.{AllByRecursion}
use Rattle.json.specs.Json.{Json}
use Rattle.amf_graph.specs.Graph.{Graph}
use Rattle.amf_text.specs.Scalars.{read_number, Digits, AreDigits}
use Rattle.amf_text.specs.Documents.{Document, value3, value0, file, packet}
use Rattle.amf_text.specs.Texts.{IsDocumentJson}
use Rattle.amf_text.specs.Accepted.{Part, document_meant}
use Rattle.amf_text.specs.Tellable.{IsTellable}

-- so few nodes that each label has at most 64 digits
abbrev pub IsFew : Graph → Type 0
IsFew g = length g.nodes < 2 ^ 64

abbrev pub HasFewNodes : Document Graph → Type 0
HasFewNodes (value3 g) = IsFew g
HasFewNodes (value0 g) = IsFew g
HasFewNodes (file name version g) = IsFew g
HasFewNodes (packet version headers messages) = AllByRecursion (λ h. IsFew h.graph) headers × AllByRecursion (λ m. IsFew m.graph) messages

abbrev pub DocumentIsMeant : Type 0
DocumentIsMeant = (digits : Digits) (d : Document Graph) (j : Json) → AreDigits digits → IsTellable d → HasFewNodes d → IsDocumentJson digits d j → (p : Document Part) × (document_meant read_number j ≡ Some p)
