-- Texts by their codes: the first place in a writer's table of texts, and one number for the empty text, which has no place there (1.3.2). A device of proofs.
use Rattle.std.specs.Prelude.{◌≡◌, ◌≢◌, ℕ, List, [], ◌∷◌, cond, nat_eq, get_or, map, slice_get, Option, Some, MatchOption}
use Rattle.std.specs.List.{AllByRecursion}
use Rattle.std.specs.declared.vec.Vec.{Vec}
use Rattle.std.specs.declared.alloc.Global.{Global}
use Rattle.amf_tables.specs.FirstPlace.{IsFirstPlace}
use Rattle.amf_tables.specs.declared.text_codes.TheConstants.{EMPTY}

-- the text of a code
abbrev pub text_of : List (List ℕ) → ℕ → List ℕ
text_of texts k = cond (nat_eq k EMPTY) [] (get_or texts k [])

-- the code of a text; no two texts have the same one, and no text has two
abbrev pub IsCodeOf : List (List ℕ) → List ℕ → ℕ → Type 0
IsCodeOf texts [] k = k ≡ EMPTY
IsCodeOf texts (b ∷ x) k = (k ≢ EMPTY) × IsFirstPlace texts (b ∷ x) k

-- the code of some text
abbrev pub IsCode : List (List ℕ) → ℕ → Type 0
IsCode texts k = IsCodeOf texts (text_of texts k) k

-- the text has none
abbrev pub IsUncoded : List (List ℕ) → List ℕ → Type 0
IsUncoded texts x = (k : ℕ) → IsCodeOf texts x k → ⊥

-- codes of these texts, one for each
pub record AreCodesOf (texts xs : List (List ℕ)) (ks : List ℕ) : Type 0 where
  pub named : map (text_of texts) ks ≡ xs
  pub codes : AllByRecursion (IsCode texts) ks

-- one of these texts has none
abbrev pub HasUncoded : List (List ℕ) → List (List ℕ) → Type 0
HasUncoded texts xs = (i : ℕ) × (x : List ℕ) × (slice_get xs i ≡ Some x) × IsUncoded texts x

-- the codes of these texts, or none where one of them has none
abbrev pub AreCodesFound : (texts xs : List (List ℕ)) → Option (Vec ℕ Global) → Type 0
AreCodesFound texts xs found = MatchOption found (HasUncoded texts xs) (λ codes. AreCodesOf texts xs codes.items)
