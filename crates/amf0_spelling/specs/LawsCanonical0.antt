-- Canonical bytes decide isomorphism (AMF 0).
use Rattle.std.specs.Prelude.{◌≡◌, ℕ, List, ◌↔◌}
use Rattle.amf_io.specs.Field.{Field}
use Rattle.amf_wire.specs.Style.{free, canonical}
use Rattle.amf_graph.specs.Graph.{Graph}
use Rattle.amf_graph.specs.Isomorphic.{Isomorphic}
use Rattle.amf3_spelling.specs.Spells3.{Spelled3}
use Rattle.amf0_spelling.specs.Spells0.{IsSpelling0, Spelled0}
use Rattle.amf0_spelling.specs.Lowered.{IsLoweringOf}

-- no graph has two canonical spellings
pub record CanonicalIsAlone0 : Type 0 where
  pub fields : (g : Graph) (fs gs : List Field) → IsSpelling0 canonical g fs → IsSpelling0 canonical g gs → fs ≡ gs
  pub bytes : (g : Graph) (b c : List ℕ) → Spelled0 canonical g b → Spelled0 canonical g c → b ≡ c

-- isomorphic graphs have the same canonical spelling
pub record IsomorphicHaveSameCanonical0 : Type 0 where
  pub fields : (g h : Graph) → Isomorphic g h → (fs : List Field) → IsSpelling0 canonical g fs → IsSpelling0 canonical h fs
  pub bytes : (g h : Graph) → Isomorphic g h → (b : List ℕ) → Spelled0 canonical g b → Spelled0 canonical h b

-- two graphs that the same bytes spell are isomorphic
abbrev pub SameBytesAreIsomorphic0 : Type 0
SameBytesAreIsomorphic0 = (g h : Graph) (b : List ℕ) → Spelled0 free g b → Spelled0 free h b → Isomorphic g h

pub record CanonicalDecides0 : Type 0 where
  -- where the bytes are canonical for a graph, they are so for those graphs alone that are isomorphic to it
  pub every : (g : Graph) (b : List ℕ) → Spelled0 canonical g b → (h : Graph) → Isomorphic h g ↔ Spelled0 canonical h b
  -- the graphs of two canonical spellings are isomorphic exactly if these are equal
  pub equal : (g h : Graph) (b c : List ℕ) → Spelled0 canonical g b → Spelled0 canonical h c → Isomorphic g h ↔ b ≡ c

-- which graphs have the same canonical bytes
abbrev pub Decides : (Graph → List ℕ → Type 0) → Graph → List ℕ → Type 0
Decides Spelled g b = (h : Graph) → Isomorphic h g ↔ Spelled h b

-- Where an input spells a graph and the bytes are canonical for it, or for its lowering, that holds for each graph that the input spells.
pub record CanonicalConverts : Type 0 where
  pub amf0_to_amf0 : (input b : List ℕ) (read low : Graph) → Spelled0 free read input → IsLoweringOf read low → Spelled0 canonical low b → (g k : Graph) → Spelled0 free g input → IsLoweringOf g k → Decides (Spelled0 canonical) k b
  pub amf3_to_amf0 : (input b : List ℕ) (read low : Graph) → Spelled3 free read input → IsLoweringOf read low → Spelled0 canonical low b → (g k : Graph) → Spelled3 free g input → IsLoweringOf g k → Decides (Spelled0 canonical) k b
  pub amf0_to_amf3 : (input b : List ℕ) (read : Graph) → Spelled0 free read input → Spelled3 canonical read b → (g : Graph) → Spelled0 free g input → Decides (Spelled3 canonical) g b
