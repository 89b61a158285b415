-- Canonical bytes decide isomorphism (AMF 3).
use Rattle.std.specs.Prelude.{◌≡◌, ℕ, List, ◌↔◌}
use Rattle.amf_wire.specs.Style.{free, canonical}
use Rattle.amf_graph.specs.Graph.{Graph}
use Rattle.amf_graph.specs.Isomorphic.{Isomorphic}
use Rattle.amf_graph.specs.Reached.{IsWhole, IsNamed}
use Rattle.amf_graph.specs.Small.{IsSmall}
use Rattle.amf_graph.specs.Bounds.{IsWithinBounds}
use Rattle.amf_graph.specs.declared.value.Value.{Value as Stored}
use Rattle.amf_graph.specs.Arena.{Arena, graph_of, IsFinished, Names}
use Rattle.amf3_spelling.specs.Spells3.{Spelled3}

-- no graph has two canonical spellings
abbrev pub CanonicalIsAlone : Type 0
CanonicalIsAlone = (g : Graph) (b c : List ℕ) → Spelled3 canonical g b → Spelled3 canonical g c → b ≡ c

-- isomorphic graphs have the same canonical spelling
abbrev pub IsomorphicHaveSameCanonical : Type 0
IsomorphicHaveSameCanonical = (g h : Graph) → Isomorphic g h → (b : List ℕ) → Spelled3 canonical g b → Spelled3 canonical h b

-- two graphs that the same bytes spell are isomorphic
abbrev pub SameBytesAreIsomorphic : Type 0
SameBytesAreIsomorphic = (g h : Graph) (b : List ℕ) → Spelled3 free g b → Spelled3 free h b → Isomorphic g h

pub record CanonicalDecides : Type 0 where
  -- where the bytes are canonical for a graph, they are so for those graphs alone that are isomorphic to it
  pub every : (g : Graph) (b : List ℕ) → Spelled3 canonical g b → (h : Graph) → Isomorphic h g ↔ Spelled3 canonical h b
  -- the graphs of two canonical spellings are isomorphic exactly if these are equal
  pub equal : (g h : Graph) (b c : List ℕ) → Spelled3 canonical g b → Spelled3 canonical h c → Isomorphic g h ↔ b ≡ c
  -- where an input spells a graph and the bytes are canonical for it, that holds for each graph that the input spells
  pub headline : (input b : List ℕ) (read : Graph) → Spelled3 free read input → Spelled3 canonical read b → (g : Graph) → Spelled3 free g input → (h : Graph) → Isomorphic h g ↔ Spelled3 canonical h b

pub record CanonicalExists : Type 0 where
  -- a graph within bounds in which no dynamic or associative name is empty has a canonical spelling
  pub by_content : (g : Graph) → IsSmall g → IsWhole g → IsNamed g → (b : List ℕ) × Spelled3 canonical g b
  -- and so has what a builder finishes within its bounds
  pub built : (a : Arena) (root : Stored) → IsFinished a → IsWithinBounds a → Names a root → IsNamed (graph_of a root) → (b : List ℕ) × Spelled3 canonical (graph_of a root) b
