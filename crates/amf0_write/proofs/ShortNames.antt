-- Pairs and how long their names are.
use Rattle.std.proofs.Common.{◌≡◌, ℕ, zero, suc, ◌+◌, ◌<◌, List, [], ◌∷◌, ◌++◌, length, take, get_or, refl, arith, add-one}
use Rattle.std.specs.List.{AllByRecursion}
use Rattle.std.proofs.Math.Seq.{take-suc}
use Rattle.std.proofs.lemmas.List.{map-append}
use Rattle.amf_graph.specs.declared.value.Value.{Value as Stored}
use Rattle.amf_graph.specs.declared.value.TextId.{TextId}
use Rattle.amf_graph.specs.Graph.{Value}
use Rattle.amf_graph.specs.Arena.{Arena, Names, IsTextId, text_at, value_content}
use Rattle.amf_iso.specs.Contents.{pairs_of, ArePairs}
use Rattle.amf0_spelling.specs.Lacks0.{IsShortName}

abbrev pub AreShort : List (List ℕ × Value) → Type 0
AreShort ps = AllByRecursion (λ p. IsShortName p.0) ps

pub pair_there : (a : Arena) (ps : List (TextId × Stored)) (i : ℕ) (d : TextId × Stored) → ArePairs a ps → i < length ps → IsTextId a (get_or ps i d).0.0 × Names a (get_or ps i d).1
pair_there a [] i d h l = absurd (omega arith)
pair_there a (p ∷ ps) zero d h l = h.0
pair_there a (p ∷ ps) (suc i) d h l = pair_there a ps i d h.1 (omega arith)

pub pairs_more : (a : Arena) (ps : List (TextId × Stored)) (i : ℕ) (d : TextId × Stored) → i < length ps → pairs_of a (take (i + 1) ps) ≡ pairs_of a (take i ps) ++ (text_at a (get_or ps i d).0.0, value_content a (get_or ps i d).1) ∷ []
pairs_more a ps i d l = rw (add-one, take-suc ps i d l, map-append, map-append) refl

pub name_there : (a : Arena) (ps : List (TextId × Stored)) (i : ℕ) (d : TextId × Stored) → AreShort (pairs_of a ps) → i < length ps → IsShortName (text_at a (get_or ps i d).0.0)
name_there a [] i d h l = absurd (omega arith)
name_there a (p ∷ ps) zero d h l = h.0
name_there a (p ∷ ps) (suc i) d h l = name_there a ps i d h.1 (omega arith)
