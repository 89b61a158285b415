-- Which nodes are met, and which again; and the first reason at a node. A device of proofs.
use Rattle.std.specs.Prelude.{◌≡◌, ◌↔◌, ℕ, ◌<◌, ◌≤◌, Bool, true, List, [], ◌∷◌, ◌++◌, length, slice_get, Option, Some, None, MatchOption}
use Rattle.amf_graph.specs.declared.lack.Lack.{Lack}
use Rattle.amf_graph.specs.declared.lack.LackKind.{LackKind}
use Rattle.amf_graph.specs.declared.value.Value.{Value as Stored}
use Rattle.amf_graph.specs.Arena.{Arena, Names, value_content}
use Rattle.amf_graph.specs.Graph.{Value, node, Graph}
use Rattle.amf_graph.specs.Lacks.{rank, IsFirstLack}
use Rattle.amf0_spelling.specs.Lacks0.{place0, NodeLacks0}
use Rattle.amf0_spelling.specs.Met.{all_met, IsTwice}
use Rattle.amf0_write.specs.declared.meetings.Meetings.{Meetings}

abbrev pub Stands : List Value → Value → Type 0
Stands xs x = (k : ℕ) × (slice_get xs k ≡ Some x)

-- each of so many nodes is marked if it has been met, and if it has been met again
pub record AreMet (count : ℕ) (met : List Value) (seen again : List Bool) : Type 0 where
  pub seen_all : length seen ≡ count
  pub again_all : length again ≡ count
  pub seen_is : (i : ℕ) → i < count → slice_get seen i ≡ Some true ↔ Stands met (node i)
  pub again_is : (i : ℕ) → i < count → slice_get again i ≡ Some true ↔ IsTwice met (node i)

-- whatever was met before, this value is met behind it
abbrev pub MeetsValue : Stored → (old new : Meetings) → Type 0
MeetsValue v old new =
    (a : Arena) (met : List Value) → Names a v → AreMet (length a.nodes) met old.seen.items old.again.items
    → AreMet (length a.nodes) (met ++ value_content a v ∷ []) new.seen.items new.again.items

-- each of so many nodes that stands at two places is marked, and no other
pub record AreMarked (count : ℕ) (met : List Value) (again : List Bool) : Type 0 where
  pub all : length again ≡ count
  pub marked : (i : ℕ) → i < count → slice_get again i ≡ Some true ↔ IsTwice met (node i)

-- the first of the reasons that apply, or that none does
abbrev pub IsFirstReason : (LackKind → Type 0) → Option LackKind → Type 0
IsFirstReason Applies None = (k : LackKind) → Applies k → ⊥
IsFirstReason Applies (Some kind) = Applies kind × ((k : LackKind) → Applies k → rank kind ≤ rank k)

-- why the node lacks a spelling first, if it does, wherever this is its place and it is met again if this says so
abbrev pub IsReasonAt : Graph → (i place : ℕ) → (is_again : Bool) → Option LackKind → Type 0
IsReasonAt g i place is_again reason =
    (outside : ℕ) (order : List ℕ) (number : ℕ) → place ≡ place0 g outside order number → (is_again ≡ true) ↔ IsTwice (all_met g order) (node i)
    → IsFirstReason (NodeLacks0 g outside order number i) reason

-- the first of these lacks, or that there is none
abbrev pub TellsFirst : (ℕ → LackKind → Type 0) → Option Lack → Type 0
TellsFirst Lacks lack = MatchOption lack ((number : ℕ) (kind : LackKind) → Lacks number kind → ⊥) (λ l. IsFirstLack Lacks l.node l.kind)
