-- A graph has a canonical spelling or a first lack, and not both (AMF 3).
use Rattle.std.specs.Prelude.{◌≡◌, ℕ, ◌⊎◌, List}
use Rattle.amf_io.specs.Field.{Field}
use Rattle.amf_wire.specs.Style.{Style, canonical}
use Rattle.amf_graph.specs.declared.lack.LackKind.{LackKind}
use Rattle.amf_graph.specs.Graph.{Graph}
use Rattle.amf_graph.specs.Isomorphic.{Isomorphic}
use Rattle.amf_graph.specs.Reached.{IsWhole, IsNamed}
use Rattle.amf_graph.specs.Small.{IsSmall}
use Rattle.amf3_spelling.specs.Spells3.{IsSpelling3}
use Rattle.amf3_spelling.specs.Lacks3.{IsLack3}

pub record SpellingOrLack : Type 0 where
  -- a graph within bounds has a canonical spelling or a first lack
  pub either : (g : Graph) → IsSmall g → IsWhole g → ((fs : List Field) × IsSpelling3 canonical g fs) ⊎ ((number : ℕ) × (kind : LackKind) × IsLack3 g number kind)
  -- and not both
  pub not_both : (g : Graph) (fs : List Field) (number : ℕ) (kind : LackKind) → IsSpelling3 canonical g fs → IsLack3 g number kind → ⊥
  -- one number and one kind are its first lack
  pub one_lack : (g : Graph) (number other_number : ℕ) (kind other_kind : LackKind) → IsLack3 g number kind → IsLack3 g other_number other_kind → (number ≡ other_number) × (kind ≡ other_kind)
  -- and isomorphic graphs have the same
  pub alike : (g h : Graph) → Isomorphic g h → (number : ℕ) (kind : LackKind) → IsLack3 g number kind → IsLack3 h number kind

-- what is spelled in any style has no reached node with an empty name, and so no lack
abbrev pub SpelledLacksNothing : Type 0
SpelledLacksNothing = (s : Style) (g : Graph) (fs : List Field) → IsSpelling3 s g fs → IsNamed g × ((number : ℕ) (kind : LackKind) → IsLack3 g number kind → ⊥)
