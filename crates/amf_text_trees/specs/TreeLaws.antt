-- What has been gathered behind the tokens of a text is what the text means.
use Rattle.std.specs.Prelude.{◌≡◌, ℕ, List, [], ◌∷◌, ◌++◌, Some, option_map}
use Rattle.std.specs.Str.{IsUtf8}
use Rattle.json.specs.Token.{Token}
use Rattle.json.specs.Json.{Json}
use Rattle.json.specs.Lex.{tokens}
use Rattle.json.specs.Tree.{json_tokens}
use Rattle.amf_graph.specs.Graph.{Graph}
use Rattle.amf_text.specs.Scalars.{Reads}
use Rattle.amf_text.specs.Documents.{Document}
use Rattle.amf_text.specs.Accepted.{Part, document_meant, MeansPart, Means}
use Rattle.amf_text.specs.Asks.{asked}
use Rattle.amf_text.specs.Refused.{document_calls, first_false}
use Rattle.amf_text_trees.specs.Sheets.{no_sheet, Page, pages_of}
use Rattle.amf_text_trees.specs.Frames.{ended}
use Rattle.amf_text_trees.specs.Gathering.{draft, State, tree_step, gathered}
use Rattle.amf_text_trees.specs.Fits.{DocumentFits}
use Rattle.amf_text_trees.specs.Pages.{pages_linked, pages_calls}

-- behind these tokens nothing is asked for, and these pages have been gathered
abbrev pub Gathers : Reads → List Token → Document Page → Type 0
Gathers reads ts p = gathered reads ts ≡ Some (record { goals = []; draft = draft no_sheet (ended p ∷ []) })

pub record TreeLaws (reads : Reads) : Type 0 where
  -- token by token, beside what is asked for
  pub more : (ts : List Token) (t : Token) (s : State) → gathered reads ts ≡ Some s → gathered reads (ts ++ t ∷ []) ≡ tree_step reads s.goals s.draft t
  pub goals : (ts : List Token) → option_map (λ s. s.goals) (gathered reads ts) ≡ asked reads ts
  -- of JSON that means something
  pub of_json : (j : Json) (d : Document Part) → document_meant reads j ≡ Some d → Gathers reads (json_tokens j) (pages_of d)
  -- at the end of a text nothing else is open
  pub ends : (text : List ℕ) (s : State) → gathered reads (tokens text) ≡ Some s → s.goals ≡ [] → (p : Document Page) × Gathers reads (tokens text) p
  -- where each label is one of a row, the text means the graphs of the pages
  pub linked : (text : List ℕ) (p : Document Page) (d : Document Graph) → IsUtf8 text → Gathers reads (tokens text) p → pages_linked p ≡ Some d → Means reads text d
  -- these have the parts of their kinds, and name nodes that are there
  pub fits : (text : List ℕ) (p : Document Page) (d : Document Graph) → Gathers reads (tokens text) p → pages_linked p ≡ Some d → DocumentFits d
  -- a label leads nowhere
  pub in_vain : (text : List ℕ) (p : Document Page) (k : ℕ) → IsUtf8 text → Gathers reads (tokens text) p → first_false (pages_calls p) ≡ Some k
      → (d : Document Part) × MeansPart reads text d × (first_false (document_calls d) ≡ Some k)

abbrev pub TreeLawsHold : Type 0
TreeLawsHold = (reads : Reads) → TreeLaws reads
