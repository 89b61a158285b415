-- A text means at most one document, so what a canonical text means matches the document of which it is told, up to numbers of nodes and integers of bare ones.
use Rattle.std.specs.Prelude.{◌≡◌, ℕ, List}
use Rattle.amf_graph.specs.Graph.{Graph}
use Rattle.amf_text.specs.Scalars.{Reads, read_number}
use Rattle.amf_text.specs.Documents.{Document}
use Rattle.amf_text.specs.Texts.{Layout, IsDocumentText}
use Rattle.amf_text.specs.Accepted.{Means}
use Rattle.amf_text.specs.Tellable.{IsTellable, DocumentsMatch}
use Rattle.amf_text.specs.DocumentLaws.{HasFewNodes}
use Rattle.amf_text.specs.GraphLaws.{ReadsAs}

pub record OneMeaning : Type 0 where
  pub one : (reads : Reads) (text : List ℕ) (d e : Document Graph) → Means reads text d → Means reads text e → d ≡ e
  pub told : (layout : Layout) (d e : Document Graph) (text : List ℕ) → IsTellable d → HasFewNodes d → IsDocumentText layout d text
      → Means read_number text e → DocumentsMatch ReadsAs d e
