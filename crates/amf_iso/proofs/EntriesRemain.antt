-- Entries of two dictionaries that are gone through together.
use Rattle.std.proofs.Common.{◌≡◌, ℕ, suc, List, [], ◌∷◌, length, refl, ap}
use Rattle.std.specs.List.{AllByRecursion, AllZip}
use Rattle.amf_graph.specs.declared.value.Value.{Value as Stored}
use Rattle.amf_graph.specs.Arena.{Arena, value_content}
use Rattle.amf_graph.specs.Isomorphic.{ValuesMatch}
use Rattle.amf_graph.specs.Views.{flat}
use Rattle.amf_iso.specs.Contents.{values_of, AreValues}
use Rattle.amf_iso.specs.Walking.{IsEntry}
use Rattle.amf_iso.proofs.Remaining.{Remains}

entries_in : (a : Arena) (es : List (Stored × Stored)) → AreValues a (flat es) → AllByRecursion (IsEntry a) es
entries_in a [] h = tt
entries_in a (e ∷ es) h = ((h.0, h.1.0), entries_in a es h.1.1)

module _ (P : ℕ → ℕ → Type 0) (a b : Arena) where
  abbrev pub Alike : Stored × Stored → Stored × Stored → Type 0
  Alike e f = ValuesMatch P (value_content a e.0) (value_content b f.0) × ValuesMatch P (value_content a e.1) (value_content b f.1)

  abbrev Whole : List (Stored × Stored) → List (Stored × Stored) → Type 0
  Whole es fs = AllZip (ValuesMatch P) (values_of a (flat es)) (values_of b (flat fs))

  onward : (es fs : List (Stored × Stored)) → Whole es fs → AllZip Alike es fs
  onward [] [] w = tt
  onward [] (f ∷ fs) w = absurd w
  onward (e ∷ es) [] w = absurd w
  onward (e ∷ es) (f ∷ fs) w = ((w.0, w.1.0), onward es fs w.1.1)

  back : (es fs : List (Stored × Stored)) → AllZip Alike es fs → Whole es fs
  back [] [] w = tt
  back [] (f ∷ fs) w = absurd w
  back (e ∷ es) [] w = absurd w
  back (e ∷ es) (f ∷ fs) w = (w.0.0, (w.0.1, back es fs w.1))

  pub entries_remain : (es fs : List (Stored × Stored)) → length es ≡ length fs → AreValues a (flat es) → AreValues b (flat fs) → Remains (IsEntry a) (IsEntry b) Alike (Whole es fs) es fs
  entries_remain es fs l h k = record { long = l; left = entries_in a es h; right = entries_in b fs k; onward = onward es fs; back = back es fs }

  -- other lengths are not alike
  pub entries_long : (es fs : List (Stored × Stored)) → Whole es fs → length es ≡ length fs
  entries_long [] [] w = refl
  entries_long [] (f ∷ fs) w = absurd w
  entries_long (e ∷ es) [] w = absurd w
  entries_long (e ∷ es) (f ∷ fs) w = ap suc (entries_long es fs w.1.1)
