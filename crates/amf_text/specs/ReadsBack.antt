-- A canonical text reads back: it means the document of which it is told, but for the numbers of nodes. What is told bare is read with integers.
use Rattle.std.specs.Prelude.{ℕ, List}
use Rattle.amf_graph.specs.Graph.{Graph}
use Rattle.amf_text.specs.Scalars.{read_number}
use Rattle.amf_text.specs.Documents.{Document}
use Rattle.amf_text.specs.Texts.{Layout, IsDocumentText}
use Rattle.amf_text.specs.Accepted.{Means}
use Rattle.amf_text.specs.Tellable.{IsTellable, DocumentsMatch}
use Rattle.amf_text.specs.DocumentLaws.{HasFewNodes}
use Rattle.amf_text.specs.GraphLaws.{ReadsAs}

abbrev pub ReadsBack : Type 0
ReadsBack = (layout : Layout) (d : Document Graph) (text : List ℕ) → IsTellable d → HasFewNodes d → IsDocumentText layout d text
    → (e : Document Graph) × Means read_number text e × DocumentsMatch ReadsAs d e
