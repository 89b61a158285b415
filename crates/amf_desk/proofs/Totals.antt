-- Sums over views, and views after one of them changed.
use Rattle.std.proofs.Common.{◌≡◌, ◌≢◌, ℕ, zero, suc, ◌+◌, ◌<◌, ◌≤◌, ◌⊎◌, inl, inr, List, [], ◌∷◌, ◌++◌, length, set, sym, ap, refl, subst, ◌∙◌, ⊎_elim, arith}
use mathlib.Core.Option.{some, some-injective, some-ne-none}
use mathlib.Core.Logic.{dite}
use native.Mathlib.Decide.{ℕ_discrete}
use lib.ListN.{get_elem?}
use Rattle.atomic_table.proofs.Lists.{at_set, at_snoc}
use Rattle.amf_desk.specs.declared.view.View.{View}
use Rattle.amf_desk.specs.Rule.{total, HasTicket}

pub total_set : (f : View → ℕ) (l : List View) (i : ℕ) (v w : View) → get_elem? l i ≡ some v → total f (set l i w) + f v ≡ total f l + f w
total_set f [] i v w e = absurd (some-ne-none v (sym e))
total_set f (x ∷ xs) zero v w e = let is : f x ≡ f v = ap f (some-injective x v e) in omega arith
total_set f (x ∷ xs) (suc i) v w e = let r = total_set f xs i v w e in omega arith

pub total_snoc : (f : View → ℕ) (l : List View) (w : View) → total f (l ++ w ∷ []) ≡ total f l + f w
total_snoc f [] w = omega arith
total_snoc f (x ∷ xs) w = let r = total_snoc f xs w in omega arith

pub total_at : (f : View → ℕ) (l : List View) (i : ℕ) (v : View) → get_elem? l i ≡ some v → f v ≤ total f l
total_at f [] i v e = absurd (some-ne-none v (sym e))
total_at f (x ∷ xs) zero v e = let is : f x ≡ f v = ap f (some-injective x v e) in omega arith
total_at f (x ∷ xs) (suc i) v e = let r = total_at f xs i v e in omega arith

pub total_below : (f g h : View → ℕ) (l : List View) → ((j : ℕ) (v : View) → get_elem? l j ≡ some v → f v ≤ g v + h v) → total f l ≤ total g l + total h l
total_below f g h [] b = omega arith
total_below f g h (x ∷ xs) b = let here : f x ≤ g x + h x = b 0 x refl in let r = total_below f g h xs (λ j v e. b (suc j) v e) in omega arith

pub total_some : (f : View → ℕ) (l : List View) → 0 < total f l → (i : ℕ) × (v : View) × (get_elem? l i ≡ some v) × (0 < f v)
total_some f [] h = absurd (omega arith)
total_some f (x ∷ xs) h = dite (ℕ_discrete (f x) 0) (λ z. let r = total_some f xs (omega arith) in (suc r.0, r.1, r.2, r.3)) (λ n. (0, x, refl, omega arith))

pub each_set : (K : ℕ → View → Type 0) (l : List View) (i : ℕ) (w : View) → K i w → ((j : ℕ) (d : View) → j ≢ i → get_elem? l j ≡ some d → K j d)
    → (j : ℕ) (d : View) → get_elem? (set l i w) j ≡ some d → K j d
each_set K l i w mine others j d e = ⊎_elim (λ (t : (j ≡ i) × (w ≡ d)). subst (λ (x : ℕ × View). K x.0 x.1) (λ k. (sym t.0 k, t.1 k)) mine)
    (λ (t : (j ≢ i) × (get_elem? l j ≡ some d)). others j d t.0 t.1) (at_set l i j w d e)

abbrev pub Apart : List View → Type 0
Apart l = (i j : ℕ) (v w : View) (t : ℕ) → get_elem? l i ≡ some v → get_elem? l j ≡ some w → HasTicket t v.stage → HasTicket t w.stage → i ≡ j

-- the views are still apart where the new one has no ticket that another has
pub apart_set : (l : List View) (i : ℕ) (w : View) → Apart l → ((j : ℕ) (d : View) (t : ℕ) → j ≢ i → get_elem? l j ≡ some d → HasTicket t d.stage → HasTicket t w.stage → ⊥) → Apart (set l i w)
apart_set l i w apart fresh a b x y t at_a at_b has_a has_b =
    ⊎_elim
    (λ (p : (a ≡ i) × (w ≡ x)). ⊎_elim (λ (q : (b ≡ i) × (w ≡ y)). p.0 ∙ sym q.0)
    (λ (q : (b ≢ i) × (get_elem? l b ≡ some y)). absurd (fresh b y t q.0 q.1 has_b (subst (λ (z : View). HasTicket t z.stage) (sym p.1) has_a))) (at_set l i b w y at_b))
    (λ (p : (a ≢ i) × (get_elem? l a ≡ some x)). ⊎_elim (λ (q : (b ≡ i) × (w ≡ y)). absurd (fresh a x t p.0 p.1 has_a (subst (λ (z : View). HasTicket t z.stage) (sym q.1) has_b)))
    (λ (q : (b ≢ i) × (get_elem? l b ≡ some y)). apart a b x y t p.1 q.1 has_a has_b) (at_set l i b w y at_b))
    (at_set l i a w x at_a)

at_end : (l : List View) (a b : View) (j n : ℕ) → length l ≡ n → get_elem? (l ++ a ∷ []) j ≡ some b → (get_elem? l j ≡ some b) ⊎ ((j ≡ n) × (a ≡ b))
at_end [] a b zero n e at = inr (e, some-injective a b at)
at_end [] a b (suc j) n e at = absurd (some-ne-none b (sym at))
at_end (x ∷ xs) a b zero n e at = inl at
at_end (x ∷ xs) a b (suc j) zero e at = absurd (omega arith)
at_end (x ∷ xs) a b (suc j) (suc n) e at = ⊎_elim (λ (p : get_elem? xs j ≡ some b). inl p) (λ (p : (j ≡ n) × (a ≡ b)). inr (ap suc p.0, p.1)) (at_end xs a b j n (omega arith) at)

pub each_snoc : (K : ℕ → View → Type 0) (l : List View) (n : ℕ) (w : View) → length l ≡ n → K n w → ((j : ℕ) (d : View) → get_elem? l j ≡ some d → K j d)
    → (j : ℕ) (d : View) → get_elem? (l ++ w ∷ []) j ≡ some d → K j d
each_snoc K l n w e here others j d at = ⊎_elim (λ (p : get_elem? l j ≡ some d). others j d p) (λ (p : (j ≡ n) × (w ≡ d)). subst (λ (x : ℕ × View). K x.0 x.1) (λ k. (sym p.0 k, p.1 k)) here) (at_end l w d j n e at)

pub apart_snoc : (l : List View) (w : View) → Apart l → ((t : ℕ) → HasTicket t w.stage → ⊥) → Apart (l ++ w ∷ [])
apart_snoc l w apart free i j x y t at_i at_j has_i has_j =
    ⊎_elim
    (λ (p : get_elem? l i ≡ some x). ⊎_elim (λ (q : get_elem? l j ≡ some y). apart i j x y t p q has_i has_j)
    (λ (q : w ≡ y). absurd (free t (subst (λ (z : View). HasTicket t z.stage) (sym q) has_j))) (at_snoc l w y j at_j))
    (λ (p : w ≡ x). absurd (free t (subst (λ (z : View). HasTicket t z.stage) (sym p) has_i)))
    (at_snoc l w x i at_i)
