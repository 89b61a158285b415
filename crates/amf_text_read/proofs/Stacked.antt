-- A stack, of which the last is met first.
use Rattle.std.proofs.Common.{◌≡◌, ℕ, zero, suc, ◌-◌, ◌<◌, List, [], ◌∷◌, ◌++◌, length, take, get_or, refl, ap, ◌∙◌, arith}
use Rattle.std.specs.Prelude.{reverse}
use Rattle.std.proofs.lemmas.List.{reverse-append}

pub pushed : {X : Type 0} (xs : List X) (x : X) → reverse (xs ++ x ∷ []) ≡ x ∷ reverse xs
pushed xs x = reverse-append xs (x ∷ [])

pub last_apart : {X : Type 0} (xs : List X) (n : ℕ) (d : X) → length xs ≡ suc n → xs ≡ take n xs ++ get_or xs n d ∷ []
last_apart [] n d h = absurd (omega (arith, h))
last_apart (x ∷ []) zero d h = refl
last_apart (x ∷ y ∷ xs) zero d h = absurd (omega (arith, h))
last_apart (x ∷ []) (suc n) d h = absurd (omega (arith, h))
last_apart (x ∷ y ∷ xs) (suc n) d h = ap (λ l. x ∷ l) (last_apart (y ∷ xs) n d (omega (arith, h)))

pub last_first : {X : Type 0} (xs : List X) (d : X) → 0 < length xs → reverse xs ≡ get_or xs (length xs - 1) d ∷ reverse (take (length xs - 1) xs)
last_first xs d h =
    let n : length xs ≡ suc (length xs - 1) = omega (arith, h) in
    ap reverse (last_apart xs (length xs - 1) d n) ∙ pushed (take (length xs - 1) xs) (get_or xs (length xs - 1) d)

pub none_reversed : {X : Type 0} (xs : List X) → length xs ≡ 0 → reverse xs ≡ []
none_reversed [] h = refl
none_reversed (x ∷ xs) h = absurd (omega (arith, h))
