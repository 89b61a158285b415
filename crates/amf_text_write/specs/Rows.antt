-- The nodes that have a row. A device of proofs.
use Rattle.std.specs.Prelude.{◌≡◌, ◌↔◌, ℕ, ◌<◌, Bool, true, not, ◌&&◌, ◌==◌, List, map, length, get_or, slice_get, Some, decimal}
use Rattle.amf_graph.specs.Graph.{Graph}
use Rattle.amf_text.specs.Told.{longest}
use Rattle.amf_text.specs.Texts.{IsTable}
use Rattle.amf_text_write.specs.declared.meetings.Meetings.{Meetings}
use Rattle.amf_text_write.specs.declared.meetings.Meetings.TheVariants as meetings

-- a node that is met so often, at this level and of this number, has a row: the root alone stands at the first level without one
abbrev pub has_row : Meetings → (level number : ℕ) → Bool
has_row meetings.None level number = (level == 1) && not (number == 0)
has_row meetings.One level number = (level == 1) && not (number == 0)
has_row meetings.More level number = true

-- how many digits the longest number has
abbrev pub widest : List ℕ → ℕ
widest ns = longest (map decimal ns)

-- the nodes of these numbers
abbrev pub nodes_of : List ℕ → List ℕ → List ℕ
nodes_of order rows = map (λ n. get_or order n 0) rows

-- the marks say which numbers have a row
abbrev pub AreMarks : List Bool → List ℕ → Type 0
AreMarks marks rows = (n : ℕ) → slice_get marks n ≡ Some true ↔ ((k : ℕ) × (slice_get rows k ≡ Some n))

-- the numbers of the nodes that stand in the table, in its order
pub record IsTabled (g : Graph) (order : List ℕ) (marks : List Bool) (rows : List ℕ) (width : ℕ) : Type 0 where
  pub within : (k n : ℕ) → slice_get rows k ≡ Some n → n < length order
  pub is_table : IsTable g order (nodes_of order rows)
  pub all : length marks ≡ length order
  pub are_marks : AreMarks marks rows
  pub is_width : width ≡ widest rows
