-- The numbers of nodes, one more.
use Rattle.std.proofs.Common.{◌≡◌, ℕ, zero, suc, ◌+◌, ◌<◌, List, [], ◌∷◌, ◌++◌, length, set, slice_get, Option, Some, None, sym, refl, ap, ◌∙◌, subst, inl, inr, arith}
use Rattle.std.specs.Prelude.{MatchOption, true, false, ltb, get_or, is_some, IfSome, option_copied, replicate}
use Rattle.std.specs.Option.{option_flatten}
use denote.Ref.{Bor}
use Rattle.std.proofs.lemmas.Bool.{cases_eq, ltb-true, ltb-false}
use Rattle.std.proofs.lemmas.Option.{same_Some, slice_get_within, slice_get_past, slice_get_read, get_or_from_slice_get}
use Rattle.std.proofs.lemmas.List.{length-replicate, get_or-replicate}
use Rattle.amf_graph.specs.Order.{Absent}
use Rattle.amf_graph.proofs.Lists.{at_left, at_end, at_push, length_pushed}
use Rattle.amf_iso.specs.Numbers.{AreNumbers}

pub set_at : {X : Type 0} (xs : List X) (i : ℕ) (x y : X) → slice_get xs i ≡ Some x → slice_get (set xs i y) i ≡ Some y
set_at [] i x y e = cc
set_at (z ∷ xs) zero x y e = refl
set_at (z ∷ xs) (suc i) x y e = set_at xs i x y e

pub set_elsewhere : {X : Type 0} (xs : List X) (i j : ℕ) (y : X) → (j ≡ i → ⊥) → slice_get (set xs i y) j ≡ slice_get xs j
set_elsewhere [] i j y n = refl
set_elsewhere (z ∷ xs) zero zero y n = absurd (n refl)
set_elsewhere (z ∷ xs) zero (suc j) y n = refl
set_elsewhere (z ∷ xs) (suc i) zero y n = refl
set_elsewhere (z ∷ xs) (suc i) (suc j) y n = set_elsewhere xs i j y (λ e. n (ap suc e))

pub is_absent : (order : List ℕ) (numbers : List (Option ℕ)) (i : ℕ) → AreNumbers order numbers → slice_get numbers i ≡ Some None → Absent order i
is_absent order numbers i h e k f = let g : slice_get numbers i ≡ Some (Some k) = h.numbered k i f in let d : Some (Some k) ≡ Some None = sym g ∙ e in cc

pub numbered_push : (order : List ℕ) (numbers : List (Option ℕ)) (i : ℕ) → AreNumbers order numbers → slice_get numbers i ≡ Some None → length order + 1 < 4294967296 → AreNumbers (order ++ i ∷ []) (set numbers i (Some (length order)))
numbered_push order numbers i h e few = record {
  few = omega (arith, length_pushed order i);
  numbered = λ k j f.
      elim (at_push order i k j f) [
        | inl p ↦ set_elsewhere numbers i j (Some (length order)) (λ s. is_absent order numbers i h e k (p ∙ ap (λ w. Some w) s)) ∙ h.numbered k j p
        | inr p ↦ subst (λ w. slice_get (set numbers i (Some (length order))) w ≡ Some (Some k)) p.1 (set_at numbers i None (Some (length order)) e ∙ ap (λ w. Some (Some w)) (sym p.0))
      ];
  placed = λ k j f.
      elim (cases_eq j i) [
        | inl s ↦
            let g : Some (Some (length order)) ≡ Some (Some k) = sym (set_at numbers i None (Some (length order)) e) ∙ ap (λ w. slice_get (set numbers i (Some (length order))) w) (sym s) ∙ f in
            let at : length order ≡ k = same_Some (length order) k (same_Some (Some (length order)) (Some k) g) in
            subst (λ w. slice_get (order ++ i ∷ []) w ≡ Some j) at (at_end order i ∙ ap (λ w. Some w) (sym s))
        | inr n ↦ at_left order (i ∷ []) k j (h.placed k j (sym (set_elsewhere numbers i j (Some (length order)) n) ∙ f))
      ];
}

-- what is looked up
abbrev pub entry_of : Option (Option ℕ) → Option ℕ
entry_of None = None
entry_of (Some o) = o

pub number_there : (order : List ℕ) (numbers : List (Option ℕ)) (i : ℕ) (r : Option ℕ) → AreNumbers order numbers → r ≡ entry_of (slice_get numbers i) → MatchOption r (Absent order i) (λ n. slice_get order n ≡ Some i)
number_there order numbers i None h e = λ k f. let d : None ≡ Some k = e ∙ ap entry_of (h.numbered k i f) in cc
number_there order numbers i (Some n) h e = h.placed n i (go (slice_get numbers i) e)
  where
    go : (o : Option (Option ℕ)) → Some n ≡ entry_of o → o ≡ Some (Some n)
    go None d = cc
    go (Some p) d = ap (λ w. Some w) (sym d)

pub number_alone : (order : List ℕ) (numbers : List (Option ℕ)) (i n k : ℕ) → AreNumbers order numbers → Some n ≡ entry_of (slice_get numbers i) → slice_get order k ≡ Some i → k ≡ n
number_alone order numbers i n k h e f = same_Some k n (sym (e ∙ ap entry_of (h.numbered k i f)))

pub some_is : (o : Option ℕ) → is_some o ≡ true → (k : ℕ) × (o ≡ Some k)
some_is None e = cc
some_is (Some k) e = (k, refl)

pub none_is : (o : Option ℕ) → is_some o ≡ false → o ≡ None
none_is None e = refl
none_is (Some k) e = cc

-- what `get` gives
pub looked_up : (xs : List (Option ℕ)) (i : ℕ) (r : Option (Bor (Option ℕ))) → is_some r ≡ ltb i (length xs) → IfSome r (λ x. x.now ≡ get_or xs i x.now) → option_flatten (option_copied r) ≡ entry_of (slice_get xs i)
looked_up xs i None e h = ap entry_of (sym (slice_get_past xs i (omega (arith, ltb-false i (length xs) (sym e)))))
looked_up xs i (Some x) e h = ap entry_of (sym (slice_get_read xs (length xs) i x.now refl (ltb-true i (length xs) (sym e)) h))

pub no_number : (n k i : ℕ) → slice_get (replicate n None) i ≡ Some (Some k) → ⊥
no_number n k i e =
    let within : i < n = subst (λ w. i < w) (length-replicate n None) (slice_get_within (replicate n None) i (Some k) e) in
    let same : None ≡ Some k = sym (get_or-replicate n i None None within) ∙ get_or_from_slice_get (replicate n None) i (Some k) None e in
    cc

pub no_numbers : (n : ℕ) → AreNumbers [] (replicate n None)
no_numbers n = record { few = omega arith; numbered = λ k i e. cc; placed = λ k i e. absurd (no_number n k i e) }

pub only_none : (P : Option ℕ → Type 0) → ((k : ℕ) → P (Some k) → ⊥) → (y : Option ℕ) → P y → y ≡ None
only_none P n None h = refl
only_none P n (Some k) h = absurd (n k h)
