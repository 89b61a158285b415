-- Texts that come in the order of their bytes get ranks.
use Rattle.std.proofs.Common.{◌≡◌, ℕ, ◌+◌, ◌<◌, ◌≤◌, true, false, List, [], ◌∷◌, length, get_or, slice_get, set, replicate, Option, Some, None, sym, refl, ap, ◌∙◌, subst, inl, inr, arith}
use Rattle.std.specs.Cmp.{IsStrictWeakOrder}
use Rattle.std.specs.Cmp.Lexicographic.{slice_cmp}
use Rattle.std.specs.List.{AllByRecursion}
use Rattle.std.specs.List.Sorted.{IsSortedBy, IsStableBy}
use Rattle.std.specs.declared.cmp.Ordering.{Ordering}
use Rattle.std.specs.declared.cmp.Ordering.TheVariants.{Less, Equal, Greater}
use Rattle.std.specs.Ordering.{ordering_reverse, is_lt, nat_cmp}
use Rattle.std.proofs.lemmas.Bool.{cases_eq}
use Rattle.std.proofs.lemmas.Bool.Decides.{nat_tests}
use Rattle.std.proofs.lemmas.Cmp.{nat_cmp_total, nat_list_cmp_total, tied_itself, alike_right, ranked}
use Rattle.std.proofs.lemmas.List.Sorted.{ranks_by}
use Rattle.std.proofs.lemmas.List.{get_or-replicate, length-replicate}
use Rattle.std.proofs.lemmas.Option.{same_Some, slice_get-get_or, slice_get_within, get_or_from_slice_get}
use Rattle.amf_graph.specs.declared.value.TextId.{TextId}
use Rattle.amf_graph.specs.Arena.{Arena, text_at, IsTextId}
use Rattle.amf_graph.specs.TextRanks.{text_before, AreRanks}
use Rattle.amf_graph.proofs.Placing.{set_at, set_elsewhere}
use Rattle.amf_graph.proofs.StableSort.{stable_sort_is, sort_all}

-- two texts by their bytes
abbrev pub bytes_cmp : List ℕ → List ℕ → Ordering
bytes_cmp x y = slice_cmp nat_cmp x y

-- how far texts have ranks: none has a rank behind the last one's
pub record RankedTo (texts : List (List ℕ)) (ranks : List (Option ℕ)) (last : List ℕ) (rank : ℕ) : Type 0 where
  pub all : AreRanks texts ranks
  pub below : (i r : ℕ) → slice_get ranks i ≡ Some (Some r) → r ≤ rank
  pub upto : (i r : ℕ) → slice_get ranks i ≡ Some (Some r) → nat_cmp r rank ≡ bytes_cmp (get_or texts i []) last

no_rank : (n i r : ℕ) → slice_get (replicate n None) i ≡ Some (Some r) → ⊥
no_rank n i r e =
    let l : i < n = subst (λ w. i < w) (length-replicate n None) (slice_get_within (replicate n None) i (Some r) e) in
    let same : Some r ≡ None = sym (get_or_from_slice_get (replicate n None) i (Some r) None e) ∙ get_or-replicate n i None None l in
    cc

-- no text has a rank yet
pub none_ranked : (texts : List (List ℕ)) (n : ℕ) → RankedTo texts (replicate n None) [] 0
none_ranked texts n = record {
  all = record { alike = λ i j r s e f. absurd (no_rank n i r e) };
  below = λ i r e. absurd (no_rank n i r e);
  upto = λ i r e. absurd (no_rank n i r e);
}

pub none_before : (x : List ℕ) → is_lt (bytes_cmp x []) ≡ false
none_before [] = refl
none_before (b ∷ bs) = refl

level : (o : Ordering) → is_lt o ≡ false → is_lt (ordering_reverse o) ≡ false → o ≡ Equal
level Less e f = cc
level Equal e f = refl
level Greater e f = cc

-- the same bytes have the same rank
pub rank_stays : (texts : List (List ℕ)) (ranks : List (Option ℕ)) (last next : List ℕ) (rank : ℕ) → is_lt (bytes_cmp last next) ≡ false → is_lt (bytes_cmp next last) ≡ false → RankedTo texts ranks last rank → RankedTo texts ranks next rank
rank_stays texts ranks last next rank e f h =
    let same : bytes_cmp last next ≡ Equal = level (bytes_cmp last next) e (ap is_lt (sym (nat_list_cmp_total.antisymm next last)) ∙ f) in
    record {
      all = h.all;
      below = h.below;
      upto = λ i r g. h.upto i r g ∙ alike_right nat_list_cmp_total last next (get_or texts i []) same;
    }

less : (o : Ordering) → is_lt o ≡ true → o ≡ Less
less Less e = refl
less Equal e = cc
less Greater e = cc

pub less_cmp : (r s : ℕ) → r < s → nat_cmp r s ≡ Less
less_cmp r s l = grind (arith, nat_tests)

not_behind : (x last next : List ℕ) (r s : ℕ) (o : Ordering) → r ≤ s → nat_cmp r s ≡ o → bytes_cmp x last ≡ o → bytes_cmp last next ≡ Less → bytes_cmp x next ≡ Less
not_behind x last next r s Less l e f g = nat_list_cmp_total.trans x last next f g
not_behind x last next r s Equal l e f g = nat_list_cmp_total.congr x last next f ∙ g
not_behind x last next r s Greater l e f g = let behind : s < r = ranked r s Greater (sym e) in absurd (omega arith)

-- what stands behind has a rank behind
pub rank_more : (texts : List (List ℕ)) (ranks : List (Option ℕ)) (last next : List ℕ) (rank : ℕ) → is_lt (bytes_cmp last next) ≡ true → RankedTo texts ranks last rank → RankedTo texts ranks next (rank + 1)
rank_more texts ranks last next rank e h =
    let step : bytes_cmp last next ≡ Less = less (bytes_cmp last next) e in
    record {
      all = h.all;
      below = λ i r g. let l = h.below i r g in omega arith;
      upto = λ i r g.
          let l = h.below i r g in
          less_cmp r (rank + 1) (omega arith) ∙ sym (not_behind (get_or texts i []) last next r rank (nat_cmp r rank) l refl (sym (h.upto i r g)) step);
    }

module _ (texts : List (List ℕ)) (ranks : List (Option ℕ)) (k rank : ℕ) (l : k < length ranks) where
  here : slice_get (set ranks k (Some rank)) k ≡ Some (Some rank)
  here = set_at ranks k (get_or ranks k (Some rank)) (Some rank) (slice_get-get_or ranks k (Some rank) l)

  -- what has a rank then: the text itself, or what had one
  has_rank : (P : ℕ → ℕ → Type 0) → P k rank → ((i r : ℕ) → slice_get ranks i ≡ Some (Some r) → P i r) → (i r : ℕ) → slice_get (set ranks k (Some rank)) i ≡ Some (Some r) → P i r
  has_rank P p q i r e =
      elim (cases_eq i k) [
        | inl s ↦
            let same : rank ≡ r = same_Some rank r (same_Some (Some rank) (Some r) (sym here ∙ ap (λ w. slice_get (set ranks k (Some rank)) w) (sym s) ∙ e)) in
            subst (λ w. P w r) (sym s) (subst (P k) same p)
        | inr n ↦ q i r (sym (set_elsewhere ranks k i (Some rank) n) ∙ e)
      ]

  turned : (r : ℕ) (x y : List ℕ) → nat_cmp r rank ≡ bytes_cmp x y → nat_cmp rank r ≡ bytes_cmp y x
  turned r x y e = nat_cmp_total.antisymm rank r ∙ ap ordering_reverse e ∙ sym (nat_list_cmp_total.antisymm y x)

  -- a text gets the rank that was reached
  pub rank_entered : RankedTo texts ranks (get_or texts k []) rank → RankedTo texts (set ranks k (Some rank)) (get_or texts k []) rank
  rank_entered h =
      let text : ℕ → List ℕ = λ (i : ℕ). get_or texts i [] in
      let own : nat_cmp rank rank ≡ bytes_cmp (text k) (text k) = tied_itself nat_cmp_total rank ∙ sym (tied_itself nat_list_cmp_total (text k)) in
      record {
        all = record {
          alike = λ i j r s e f.
              has_rank (λ i r. nat_cmp r s ≡ bytes_cmp (text i) (text j))
              (has_rank (λ j s. nat_cmp rank s ≡ bytes_cmp (text k) (text j)) own (λ j s g. turned s (text j) (text k) (h.upto j s g)) j s f)
              (λ i r g. has_rank (λ j s. nat_cmp r s ≡ bytes_cmp (text i) (text j)) (h.upto i r g) (λ j s d. h.all.alike i j r s g d) j s f)
              i r e;
        };
        below = has_rank (λ i r. r ≤ rank) (omega arith) h.below;
        upto = has_rank (λ i r. nat_cmp r rank ≡ bytes_cmp (text i) (text k)) own h.upto;
      }

-- Texts by place, sorted by their bytes.

pub text_before_ranks : (a : Arena) → IsStrictWeakOrder (text_before a)
text_before_ranks a = ranks_by nat_list_cmp_total (λ (x : TextId). text_at a x.0)

pub sorted_there : (a : Arena) (xs ys : List TextId) → IsSortedBy (text_before a) ys → IsStableBy (text_before a) xs ys → AllByRecursion (λ x. IsTextId a x.0) xs → AllByRecursion (λ x. IsTextId a x.0) ys
sorted_there a xs ys s t h = subst (AllByRecursion (λ x. IsTextId a x.0)) (sym (stable_sort_is (text_before a) (text_before_ranks a) xs ys s t)) (sort_all (text_before a) (λ x. IsTextId a x.0) xs h)

pub get_or_same : (a : Arena) (xs : List TextId) (i : ℕ) (d e : TextId) → i < length xs → text_at a (get_or xs i d).0 ≡ text_at a (get_or xs i e).0
get_or_same a xs i d e l = ap (λ (x : TextId). text_at a x.0) (same_Some (get_or xs i d) (get_or xs i e) (sym (slice_get-get_or xs i d l) ∙ slice_get-get_or xs i e l))
