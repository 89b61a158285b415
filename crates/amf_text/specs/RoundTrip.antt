-- There and back: from a document to its canonical text and to what that means, and from any text to the canonical one of what it means.
use Rattle.std.specs.Prelude.{ℕ, List}
use Rattle.amf_graph.specs.Graph.{Graph}
use Rattle.amf_text.specs.Scalars.{read_number}
use Rattle.amf_text.specs.Documents.{Document}
use Rattle.amf_text.specs.Texts.{Layout, IsDocumentText}
use Rattle.amf_text.specs.Accepted.{Means}
use Rattle.amf_text.specs.Tellable.{EachGraph, IsTellable, DocumentsMatch, AreAlike}
use Rattle.amf_text.specs.DocumentLaws.{HasFewNodes}
use Rattle.amf_text.specs.GraphLaws.{ReadsAs}
use Rattle.amf_text.specs.WholeLaws.{IsSoundGraph}

-- the text means this document, which can be told and matches the one of which it was told
pub record IsReadAs (told : Document Graph) (text : List ℕ) (read : Document Graph) : Type 0 where
  pub meant : Means read_number text read
  pub matches : DocumentsMatch ReadsAs told read
  pub sound : EachGraph IsSoundGraph read
  pub tellable : IsTellable read

pub record RoundTrip : Type 0 where
  -- each document that can be told has a canonical text in each layout
  pub written : (layout : Layout) (d : Document Graph) → IsTellable d → (text : List ℕ) × IsDocumentText layout d text
  -- and documents that match, but for the numbers of their nodes, have the same
  pub same : (layout : Layout) (d e : Document Graph) (text : List ℕ) → DocumentsMatch AreAlike d e → IsTellable e → IsDocumentText layout d text → IsDocumentText layout e text
  -- from a document to its canonical text and back
  pub document : (layout : Layout) (d : Document Graph) (text : List ℕ) → IsTellable d → HasFewNodes d → IsDocumentText layout d text → (e : Document Graph) × IsReadAs d text e
  -- from a text to a canonical text of what it means, and back
  pub text : (layout : Layout) (text : List ℕ) (d : Document Graph) → Means read_number text d → HasFewNodes d → (again : List ℕ) × (e : Document Graph) × IsDocumentText layout d again × IsReadAs d again e
