-- A lowered graph has a canonical spelling or a first lack, and not both (AMF 0); and how a lack is found by one walk.
use Rattle.std.specs.Prelude.{◌≡◌, ℕ, ◌⊎◌, ◌↔◌, List, slice_get, Some}
use Rattle.amf_io.specs.Field.{Field}
use Rattle.amf_wire.specs.Style.{canonical}
use Rattle.amf_graph.specs.declared.lack.LackKind.{LackKind}
use Rattle.amf_graph.specs.declared.value.Value.{Value as Stored}
use Rattle.amf_graph.specs.Arena.{Arena, graph_of, IsFinished, Names}
use Rattle.amf_graph.specs.Bounds.{IsWithinBounds}
use Rattle.amf_graph.specs.Graph.{node, Graph}
use Rattle.amf_graph.specs.Isomorphic.{Isomorphic}
use Rattle.amf_graph.specs.Order.{IsOrder}
use Rattle.amf_graph.specs.Reached.{IsWhole}
use Rattle.amf_graph.specs.Small.{IsSmall}
use Rattle.amf0_spelling.specs.Lowered.{IsLowered, IsLoweringOf}
use Rattle.amf0_spelling.specs.Lacks0.{Lacks0, IsLack0}
use Rattle.amf0_spelling.specs.LacksMet.{LacksMet, IsLackMet}
use Rattle.amf0_spelling.specs.Meets.{IsMet, IsAgain}
use Rattle.amf0_spelling.specs.Met.{all_met, IsTwice}
use Rattle.amf0_spelling.specs.Spells0.{IsSpelling0}

abbrev pub SpellingOrLackOf : Graph → Type 0
SpellingOrLackOf g = ((fs : List Field) × IsSpelling0 canonical g fs) ⊎ ((number : ℕ) × (kind : LackKind) × IsLack0 g number kind)

pub record SpellingOrLack0 : Type 0 where
  -- a lowered graph within bounds has a canonical spelling or a first lack
  pub either : (g : Graph) → IsSmall g → IsWhole g → IsLowered g → SpellingOrLackOf g
  -- and so has the lowering of what a builder finishes within its bounds
  pub built : (a : Arena) (root : Stored) → IsFinished a → IsWithinBounds a → Names a root → (h : Graph) → IsLoweringOf (graph_of a root) h → SpellingOrLackOf h
  -- and not both
  pub not_both : (g : Graph) (fs : List Field) (number : ℕ) (kind : LackKind) → IsSpelling0 canonical g fs → IsLack0 g number kind → ⊥
  -- one number and one kind are its first lack
  pub one_lack : (g : Graph) (number other_number : ℕ) (kind other_kind : LackKind) → IsLack0 g number kind → IsLack0 g other_number other_kind → (number ≡ other_number) × (kind ≡ other_kind)
  -- and isomorphic graphs have the same
  pub alike : (g h : Graph) → Isomorphic g h → (number : ℕ) (kind : LackKind) → IsLack0 g number kind → IsLack0 h number kind

pub record MetAgainIsTwice : Type 0 where
  -- an order goes with one list of the numbers that are met again
  pub some_met : (g : Graph) (order : List ℕ) → IsOrder g order → (more : List ℕ) × IsMet g order more
  pub one_met : (g : Graph) (order other more again : List ℕ) → IsMet g order more → IsMet g other again → (order ≡ other) × (more ≡ again)
  pub order : (g : Graph) (order more : List ℕ) → IsMet g order more → IsOrder g order
  -- to be met again is to stand at two places
  pub twice : (g : Graph) (order more : List ℕ) → IsMet g order more → (number i : ℕ) → slice_get order number ≡ Some i → IsAgain more number ↔ IsTwice (all_met g order) (node i)
  -- so the reasons told by the walk are those that apply
  pub lacks : (g : Graph) (outside : ℕ) (order more : List ℕ) → IsMet g order more → (number : ℕ) (kind : LackKind) → LacksMet g outside order more number kind ↔ Lacks0 g outside order number kind
  pub first : (g : Graph) (number : ℕ) (kind : LackKind) → IsLackMet g number kind ↔ IsLack0 g number kind
