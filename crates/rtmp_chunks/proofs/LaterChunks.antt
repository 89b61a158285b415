-- The chunks of format 3 that are written for what is left of a message.
use Rattle.std.proofs.Common.{◌≡◌, ℕ, zero, suc, ◌<◌, ◌≤◌, List, [], ◌∷◌, ◌++◌, length, take, drop, refl, ap, ◌∙◌, arith, append_assoc}
use Rattle.std.proofs.lemmas.List.{length-drop, append-nil}
use Rattle.rtmp_chunks.specs.Push.{later_chunks}

less_left : (size : ℕ) (b : ℕ) (l : List ℕ) → 0 < size → length (drop size (b ∷ l)) ≤ length l
less_left size b l lt = omega (arith, length-drop size (b ∷ l))

-- more fuel than bytes changes nothing
pub fuel_free : (f g size : ℕ) (B E l : List ℕ) → 0 < size → length l ≤ f → length l ≤ g → later_chunks f size B E l ≡ later_chunks g size B E l
fuel_free zero zero size B E l lt p q = refl
fuel_free zero (suc g) size B E [] lt p q = refl
fuel_free (suc f) zero size B E [] lt p q = refl
fuel_free (suc f) (suc g) size B E [] lt p q = refl
fuel_free zero (suc g) size B E (b ∷ l) lt p q = absurd (omega (arith, p))
fuel_free (suc f) zero size B E (b ∷ l) lt p q = absurd (omega (arith, q))
fuel_free (suc f) (suc g) size B E (b ∷ l) lt p q =
    let s = less_left size b l lt in
    ap (λ r. (B ++ (E ++ take size (b ∷ l))) ++ r) (fuel_free f g size B E (drop size (b ∷ l)) lt (omega arith) (omega arith))

pub one_later : (size : ℕ) (B E l out : List ℕ) → 0 < size → (length l ≡ 0 → ⊥) → (out ++ (B ++ (E ++ take size l))) ++ later_chunks (length (drop size l)) size B E (drop size l) ≡ out ++ later_chunks (length l) size B E l
one_later size B E [] out lt some = absurd (some refl)
one_later size B E (b ∷ l) out lt some =
    append_assoc out (B ++ (E ++ take size (b ∷ l))) (later_chunks (length (drop size (b ∷ l))) size B E (drop size (b ∷ l)))
    ∙ ap (λ r. out ++ ((B ++ (E ++ take size (b ∷ l))) ++ r)) (fuel_free (length (drop size (b ∷ l))) (length l) size B E (drop size (b ∷ l)) lt (omega arith) (less_left size b l lt))

pub none_later : (size : ℕ) (B E l out : List ℕ) → length l ≡ 0 → out ++ later_chunks (length l) size B E l ≡ out
none_later size B E [] out e = append-nil out
none_later size B E (b ∷ l) out e = absurd (omega (arith, e))

-- one chunk was appended
pub later_step : (size : ℕ) (B E l out new piece more : List ℕ) → 0 < size → (length l ≡ 0 → ⊥) → new ≡ out ++ (B ++ (E ++ piece)) → piece ≡ take size l → more ≡ drop size l
    → new ++ later_chunks (length more) size B E more ≡ out ++ later_chunks (length l) size B E l
later_step size B E l out new piece more lt some n f m =
    ap (λ r. new ++ later_chunks (length r) size B E r) m
    ∙ ap (λ r. r ++ later_chunks (length (drop size l)) size B E (drop size l)) (n ∙ ap (λ p. out ++ (B ++ (E ++ p))) f)
    ∙ one_later size B E l out lt some
