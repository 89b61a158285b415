-- There and back: what a canonical text means has the graphs of which it is told, and of AMF 0 it has them once it is lowered.
use Rattle.std.specs.Prelude.{ℕ, Bool, true, false, List}
use Rattle.amf_graph.specs.Graph.{Graph}
use Rattle.amf_graph.specs.Isomorphic.{Isomorphic}
use Rattle.amf_graph.specs.Reached.{IsWhole}
use Rattle.amf0_spelling.specs.Lowered.{IsLoweringOf, IsLowered}
use Rattle.amf_text.specs.Scalars.{read_number}
use Rattle.amf_text.specs.Documents.{Document}
use Rattle.amf_text.specs.Texts.{Layout, IsDocumentText}
use Rattle.amf_text.specs.Accepted.{Means}
use Rattle.amf_text.specs.Tellable.{IsTellable, DocumentsMatch}
use Rattle.amf_text.specs.DocumentLaws.{HasFewNodes}
use Rattle.amf_text.specs.GraphLaws.{ReadsAs}

-- the lowering of h is g, but for the numbers of nodes
abbrev pub LowersTo : Graph → Graph → Type 0
LowersTo g h = (low : Graph) × IsLoweringOf h low × Isomorphic g low

-- a graph that is told bare, as of AMF 0, is a lowered one
abbrev pub ComesBack : Bool → Graph → Graph → Type 0
ComesBack false g h = Isomorphic g h
ComesBack true g h = IsLowered g → LowersTo g h

pub record ThereAndBack : Type 0 where
  -- of a lowered graph with integers in place of doubles, the lowering is that graph
  pub graph : (g h low : Graph) → IsWhole g → IsLowered g → ReadsAs true g h → IsLoweringOf h low → Isomorphic g low
  pub document : (layout : Layout) (d e : Document Graph) (text : List ℕ) → IsTellable d → HasFewNodes d → IsDocumentText layout d text
      → Means read_number text e → DocumentsMatch ComesBack d e
