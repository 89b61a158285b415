-- Each document that can be told has one JSON for each way of writing digits, and isomorphic ones have the same.
use Rattle.std.specs.Prelude.{◌≡◌}
use Rattle.json.specs.Json.{Json}
use Rattle.amf_graph.specs.Graph.{Graph}
use Rattle.amf_text.specs.Scalars.{Digits}
use Rattle.amf_text.specs.Documents.{Document}
use Rattle.amf_text.specs.Texts.{IsDocumentJson}
use Rattle.amf_text.specs.Tellable.{IsTellable, DocumentsMatch, AreAlike}

-- told by the same digits, documents that match have the same JSON; so each that can be told has at most one
abbrev pub SameJson : Type 0
SameJson = (digits : Digits) (d e : Document Graph) (j k : Json) → DocumentsMatch AreAlike d e → IsDocumentJson digits d j → IsDocumentJson digits e k → j ≡ k

-- each document that can be told has a JSON
abbrev pub JsonExists : Type 0
JsonExists = (digits : Digits) (d : Document Graph) → IsTellable d → (j : Json) × IsDocumentJson digits d j
