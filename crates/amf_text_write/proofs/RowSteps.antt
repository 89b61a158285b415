-- The numbers of the nodes that have a row, one more; and of such nodes the table is made.
use Rattle.std.proofs.Common.{◌≡◌, ◌⊎◌, ℕ, zero, suc, ◌+◌, ◌<◌, max, Bool, true, false, List, [], ◌∷◌, ◌++◌, length, map, get_or, slice_get, set, replicate, Some, refl, sym, ap, ap₂, ◌∙◌, subst, inl, inr, arith}
use Rattle.std.specs.Prelude.{◌↔◌, ◌&&◌, ◌==◌, not, decimal}
use Rattle.std.proofs.lemmas.Bool.{cases_eq, cases_lt}
use Rattle.std.proofs.lemmas.List.{length-set, length-replicate, get_or-replicate}
use Rattle.std.proofs.lemmas.Option.{same_Some, slice_get_within, slice_get-get_or, slice_get_read, get_or_from_slice_get}
use Rattle.amf_graph.specs.Graph.{node, Graph}
use Rattle.amf_graph.specs.Order.{IsOrder}
use Rattle.amf_graph.specs.Renumbered.{place_of}
use Rattle.amf_graph.proofs.Lists.{at_left, at_end, at_push, entry}
use Rattle.amf_graph.proofs.Matched.{map_get}
use Rattle.amf_graph.proofs.PlaceOf.{place_there}
use Rattle.amf_graph.proofs.Reaching.{order_once}
use Rattle.amf_text.specs.Told.{longest}
use Rattle.amf_text.specs.Texts.{all_met, InTable}
use Rattle.amf_text.proofs.Parents.{root_or_held, table_stands}
use Rattle.amf_text_write.specs.declared.meetings.Meetings.{Meetings}
use Rattle.amf_text_write.specs.declared.meetings.Meetings.TheVariants as meetings
use Rattle.amf_text_write.specs.Counts.{met_times, meetings_of, AreCounts}
use Rattle.amf_text_write.specs.Levels.{AreLevels, IsMarked}
use Rattle.amf_text_write.specs.Rows.{has_row, widest, nodes_of, AreMarks, IsTabled}
use Rattle.amf_text_write.proofs.Counting.{set_there, set_elsewhere, shared_twice, twice_shared}
use Rattle.amf_text_write.proofs.Tables.{marked, tabled}

longest_push : (xs : List (List ℕ)) (x : List ℕ) → longest (xs ++ x ∷ []) ≡ max (longest xs) (length x)
longest_push [] x = omega arith
longest_push (y ∷ xs) x = let more = longest_push xs x in omega (arith, more)

map_push : (ns : List ℕ) (n : ℕ) → map decimal (ns ++ n ∷ []) ≡ map decimal ns ++ decimal n ∷ []
map_push [] n = refl
map_push (m ∷ ns) n = ap (λ l. decimal m ∷ l) (map_push ns n)

widest_push : (ns : List ℕ) (n : ℕ) → widest (ns ++ n ∷ []) ≡ max (widest ns) (length (decimal n))
widest_push ns n = ap longest (map_push ns n) ∙ longest_push (map decimal ns) (decimal n)

-- those of the first numbers that pass a test
pub record RowsSoFar (test : ℕ → Bool) (count k : ℕ) (marks : List Bool) (rows : List ℕ) (width : ℕ) : Type 0 where
  pub all : length marks ≡ count
  pub sound : (j n : ℕ) → slice_get rows j ≡ Some n → (n < k) × (test n ≡ true)
  pub complete : (n : ℕ) → n < k → test n ≡ true → (j : ℕ) × (slice_get rows j ≡ Some n)
  pub rises : (i j m n : ℕ) → i < j → slice_get rows i ≡ Some m → slice_get rows j ≡ Some n → m < n
  pub are_marks : AreMarks marks rows
  pub is_width : width ≡ widest rows

module _ (test : ℕ → Bool) (count : ℕ) where
  pub rows_begin : (marks : List Bool) → length marks ≡ count → ((n : ℕ) → slice_get marks n ≡ Some true → ⊥) → RowsSoFar test count 0 marks [] 0
  rows_begin marks all blank = record {
    all = all;
    sound = λ j n e. cc;
    complete = λ n l t. absurd (omega (arith, l));
    rises = λ i j m n l e f. cc;
    are_marks = λ n. (λ e. absurd (blank n e), λ o. let e = o.1 in cc);
    is_width = refl;
  }

  module _ (k : ℕ) (marks : List Bool) (rows : List ℕ) (width : ℕ) (h : RowsSoFar test count k marks rows width) where
    -- this one does not pass
    pub rows_same : test k ≡ false → RowsSoFar test count (k + 1) marks rows width
    rows_same fails = record {
      all = h.all;
      sound = λ j n e. let o = h.sound j n e in let l = o.0 in (omega (arith, l), o.1);
      complete = λ n l t. elim (cases_lt n k) [
        | inl below ↦ h.complete n below t
        | inr last ↦ let is : n ≡ k = omega (arith, l, last) in absurd (differ (sym t ∙ ap test is ∙ fails))
      ];
      rises = h.rises;
      are_marks = h.are_marks;
      is_width = h.is_width;
    }
      where
        differ : true ≡ false → ⊥
        differ e = cc

    more_sound : test k ≡ true → (j n : ℕ) → slice_get (rows ++ k ∷ []) j ≡ Some n → (n < k + 1) × (test n ≡ true)
    more_sound passes j n e = elim (at_push rows k j n e) [
      | inl f ↦ let o = h.sound j n f in let l = o.0 in (omega (arith, l), o.1)
      | inr f ↦ let is = f.1 in (omega (arith, is), ap test (sym is) ∙ passes)
    ]

    more_complete : (n : ℕ) → n < k + 1 → test n ≡ true → (j : ℕ) × (slice_get (rows ++ k ∷ []) j ≡ Some n)
    more_complete n l t = elim (cases_lt n k) [
      | inl below ↦ let o = h.complete n below t in (o.0, at_left rows (k ∷ []) o.0 n o.1)
      | inr last ↦ let is : k ≡ n = omega (arith, l, last) in (length rows, at_end rows k ∙ ap (λ w. Some w) is)
    ]

    more_rises : (i j m n : ℕ) → i < j → slice_get (rows ++ k ∷ []) i ≡ Some m → slice_get (rows ++ k ∷ []) j ≡ Some n → m < n
    more_rises i j m n l e f = go (at_push rows k i m e) (at_push rows k j n f)
      where
        go : (slice_get rows i ≡ Some m) ⊎ ((i ≡ length rows) × (k ≡ m)) → (slice_get rows j ≡ Some n) ⊎ ((j ≡ length rows) × (k ≡ n)) → m < n
        go (inl p) (inl q) = h.rises i j m n l p q
        go (inl p) (inr q) = let o = (h.sound i m p).0 in let is = q.1 in omega (arith, o, is)
        go (inr p) (inl q) = let w = slice_get_within rows j n q in let is = p.0 in absurd (omega (arith, l, w, is))
        go (inr p) (inr q) = let a = p.0 in let b = q.0 in absurd (omega (arith, l, a, b))

    more_marks : k < count → (n : ℕ) → slice_get (set marks k true) n ≡ Some true ↔ ((j : ℕ) × (slice_get (rows ++ k ∷ []) j ≡ Some n))
    more_marks within n = (to (cases_eq n k), from (cases_eq n k))
      where
        to : (n ≡ k) ⊎ (n ≡ k → ⊥) → slice_get (set marks k true) n ≡ Some true → (j : ℕ) × (slice_get (rows ++ k ∷ []) j ≡ Some n)
        to (inl is) e = (length rows, at_end rows k ∙ ap (λ w. Some w) (sym is))
        to (inr d) e = let o = (h.are_marks n).0 (sym (set_elsewhere marks k n true d) ∙ e) in (o.0, at_left rows (k ∷ []) o.0 n o.1)

        from : (n ≡ k) ⊎ (n ≡ k → ⊥) → (j : ℕ) × (slice_get (rows ++ k ∷ []) j ≡ Some n) → slice_get (set marks k true) n ≡ Some true
        from (inl is) o = ap (λ w. slice_get (set marks k true) w) is ∙ set_there marks k true (omega (arith, within, h.all))
        from (inr d) o = elim (at_push rows k o.0 n o.1) [
          | inl f ↦ set_elsewhere marks k n true d ∙ (h.are_marks n).1 (o.0, f)
          | inr f ↦ absurd (d (sym f.1))
        ]

    -- this one passes
    rows_more : k < count → test k ≡ true → RowsSoFar test count (k + 1) (set marks k true) (rows ++ k ∷ []) (max width (length (decimal k)))
    rows_more within passes = record {
      all = length-set marks k true ∙ h.all;
      sound = more_sound passes;
      complete = more_complete;
      rises = more_rises;
      are_marks = more_marks within;
      is_width = ap (λ w. max w (length (decimal k))) h.is_width ∙ sym (widest_push rows k);
    }

    -- as it is written
    pub rows_pushed : k < count → test k ≡ true → (marks' : List Bool) (rows' : List ℕ) (width' : ℕ) → marks' ≡ set marks k true → rows' ≡ rows ++ k ∷ [] → width' ≡ max width (length (decimal k)) → RowsSoFar test count (k + 1) marks' rows' width'
    rows_pushed within passes marks' rows' width' e f w =
        subst (λ u. RowsSoFar test count (k + 1) marks' rows' u) (sym w)
        (subst (λ u. RowsSoFar test count (k + 1) marks' u (max width (length (decimal k)))) (sym f)
        (subst (λ u. RowsSoFar test count (k + 1) u (rows ++ k ∷ []) (max width (length (decimal k)))) (sym e) (rows_more within passes)))

pub from_map : (f : ℕ → ℕ) (xs : List ℕ) (k y : ℕ) → slice_get (map f xs) k ≡ Some y → (x : ℕ) × (slice_get xs k ≡ Some x) × (f x ≡ y)
from_map f [] k y e = cc
from_map f (x ∷ xs) zero y e = (x, refl, same_Some (f x) y e)
from_map f (x ∷ xs) (suc k) y e = from_map f xs k y e

both_true : (a b : Bool) → (a && b) ≡ true → (a ≡ true) × (b ≡ true)
both_true true b e = (refl, e)
both_true false b e = cc

-- whether the node of a number has a row, by counts and levels
abbrev pub row_test : List Meetings → List ℕ → ℕ → Bool
row_test counts levels n = has_row (get_or counts n meetings.None) (get_or levels n 0) n

-- as it is looked up
pub row_tested : (counts : List Meetings) (levels : List ℕ) (k : ℕ) (m : Meetings) (l : ℕ) (t : Bool) → k < length counts → k < length levels → m ≡ get_or counts k m → l ≡ get_or levels k l → t ≡ has_row m l k → row_test counts levels k ≡ t
row_tested counts levels k m l t inside within e f is =
    ap₂ (λ m l. has_row m l k) (get_or_from_slice_get counts k m meetings.None (slice_get_read counts (length counts) k m refl inside e)) (get_or_from_slice_get levels k l 0 (slice_get_read levels (length levels) k l refl within f)) ∙ sym is

module _ (g : Graph) (order : List ℕ) (a : IsOrder g order) (counts : List Meetings) (levels : List ℕ) (c : AreCounts order (all_met g order) counts) (v : AreLevels g order (λ i. get_or levels (place_of order i) 0)) where
  abbrev level : ℕ → ℕ
  level i = get_or levels (place_of order i) 0

  at_place : (p i : ℕ) → slice_get order p ≡ Some i → level i ≡ get_or levels p 0
  at_place p i e = ap (λ w. get_or levels w 0) (place_there order p i (order_once g order a) e)

  -- the root is the first of an order
  root_first : (p i : ℕ) → slice_get order p ≡ Some i → g.root ≡ node i → p ≡ 0
  root_first p i e r = go (entry order 0 (let w = slice_get_within order p i e in omega (arith, w)))
    where
      same : (i j : ℕ) → node i ≡ node j → i ≡ j
      same i j e = cc

      go : (j : ℕ) × (slice_get order 0 ≡ Some j) → p ≡ 0
      go (j, f) = elim (root_or_held g order a 0 j f) [
        | inl s ↦ order_once g order a p 0 i e (f ∙ ap (λ w. Some w) (same j i (sym s ∙ r)))
        | inr o ↦ let l = o.2 in absurd (omega (arith, l))
      ]

  first_root : (p i : ℕ) → slice_get order p ≡ Some i → p ≡ 0 → g.root ≡ node i
  first_root p i e z = elim (root_or_held g order a p i e) [
    | inl r ↦ r
    | inr o ↦ let l = o.2 in absurd (omega (arith, l, z))
  ]

  test_at : (p i : ℕ) → slice_get order p ≡ Some i → row_test counts levels p ≡ has_row (meetings_of (met_times i (all_met g order))) (level i) p
  test_at p i e =
      ap₂ (λ m l. has_row m l p) (get_or_from_slice_get counts p (meetings_of (met_times i (all_met g order))) meetings.None (c.each p i e)) (sym (at_place p i e))

  first_level : (p i : ℕ) → slice_get order p ≡ Some i → ((level i == 1) && not (p == 0)) ≡ true → IsMarked g order level i
  first_level p i e t =
      let both = both_true (level i == 1) (not (p == 0)) t in
      inr (equal (level i) 1 both.0, λ r. not_zero (root_first p i e r) both.1)
    where
      equal : (m n : ℕ) → (m == n) ≡ true → m ≡ n
      equal m n e = grind (arith, e)

      not_zero : p ≡ 0 → not (p == 0) ≡ true → ⊥
      not_zero z t = let u : not (0 == 0) ≡ true = subst (λ w. not (w == 0) ≡ true) z t in cc

  row_marked : (p i : ℕ) → slice_get order p ≡ Some i → row_test counts levels p ≡ true → IsMarked g order level i
  row_marked p i e t = go (met_times i (all_met g order)) refl (sym (test_at p i e) ∙ t)
    where
      go : (n : ℕ) → met_times i (all_met g order) ≡ n → has_row (meetings_of (met_times i (all_met g order))) (level i) p ≡ true → IsMarked g order level i
      go zero is u = first_level p i e (subst (λ w. has_row (meetings_of w) (level i) p ≡ true) is u)
      go (suc zero) is u = first_level p i e (subst (λ w. has_row (meetings_of w) (level i) p ≡ true) is u)
      go (suc (suc n)) is u = inl (twice_shared g order i (omega (arith, is)))

  marked_row : (p i : ℕ) → slice_get order p ≡ Some i → IsMarked g order level i → row_test counts levels p ≡ true
  marked_row p i e m = test_at p i e ∙ go (met_times i (all_met g order)) refl m
    where
      passes : (l : ℕ) → (l ≡ 1) → (p ≡ 0 → ⊥) → ((l == 1) && not (p == 0)) ≡ true
      passes l one d = grind (arith, one, d)

      alone : met_times i (all_met g order) < 2 → IsMarked g order level i → ((level i == 1) && not (p == 0)) ≡ true
      alone l (inl s) = absurd (let t = shared_twice g order i s in omega (arith, t, l))
      alone l (inr o) = passes (level i) o.0 (λ z. o.1 (first_root p i e z))

      go : (n : ℕ) → met_times i (all_met g order) ≡ n → IsMarked g order level i → has_row (meetings_of (met_times i (all_met g order))) (level i) p ≡ true
      go zero is m = ap (λ w. has_row (meetings_of w) (level i) p) is ∙ alone (omega (arith, is)) m
      go (suc zero) is m = ap (λ w. has_row (meetings_of w) (level i) p) is ∙ alone (omega (arith, is)) m
      go (suc (suc n)) is m = ap (λ w. has_row (meetings_of w) (level i) p) is

  module _ (k : ℕ) (marks : List Bool) (rows : List ℕ) (width : ℕ) (whole : k ≡ length order) (h : RowsSoFar (row_test counts levels) (length order) k marks rows width) where
    row_within : (j n : ℕ) → slice_get rows j ≡ Some n → n < length order
    row_within j n e = let l = (h.sound j n e).0 in omega (arith, l, whole)

    row_node : (j n : ℕ) → slice_get rows j ≡ Some n → slice_get order n ≡ Some (get_or order n 0)
    row_node j n e = slice_get-get_or order n 0 (row_within j n e)

    row_sound : (i j : ℕ) → slice_get (nodes_of order rows) j ≡ Some i → InTable g order i
    row_sound i j e =
        let o = from_map (λ n. get_or order n 0) rows j i e in
        let at : slice_get order o.0 ≡ Some i = row_node j o.0 o.1 ∙ ap (λ w. Some w) o.2 in
        tabled g order a level v o.0 i at (row_marked o.0 i at (h.sound j o.0 o.1).1)

    row_complete : (i : ℕ) → InTable g order i → (j : ℕ) × (slice_get (nodes_of order rows) j ≡ Some i)
    row_complete i t =
        let p = table_stands g order a t in
        let l = slice_get_within order p.0 i p.1 in
        let o = h.complete p.0 (omega (arith, l, whole)) (marked_row p.0 i p.1 (marked g order a level v i t)) in
        (o.0, map_get (λ n. get_or order n 0) rows o.0 p.0 o.1 ∙ ap (λ w. Some w) (get_or_from_slice_get order p.0 i 0 p.1))

    row_order : (j l m n : ℕ) (x y : ℕ) → j < l → slice_get (nodes_of order rows) j ≡ Some x → slice_get (nodes_of order rows) l ≡ Some y → slice_get order m ≡ Some x → slice_get order n ≡ Some y → m < n
    row_order j l m n x y less e f p q =
        let o = from_map (λ n. get_or order n 0) rows j x e in
        let u = from_map (λ n. get_or order n 0) rows l y f in
        let first : m ≡ o.0 = order_once g order a m o.0 x p (row_node j o.0 o.1 ∙ ap (λ w. Some w) o.2) in
        let second : n ≡ u.0 = order_once g order a n u.0 y q (row_node l u.0 u.1 ∙ ap (λ w. Some w) u.2) in
        let rising = h.rises j l o.0 u.0 less o.1 u.1 in
        omega (arith, rising, first, second)

    pub rows_tabled : IsTabled g order marks rows width
    rows_tabled = record {
      within = row_within;
      is_table = record { sound = row_sound; complete = row_complete; in_order = row_order };
      all = h.all;
      are_marks = h.are_marks;
      is_width = h.is_width;
    }

-- no number is marked at the begin
pub none_true : (n p : ℕ) → slice_get (replicate n false) p ≡ Some true → ⊥
none_true n p e =
    let within : p < n = subst (λ w. p < w) (length-replicate n false) (slice_get_within (replicate n false) p true e) in
    let same : false ≡ true = sym (get_or-replicate n p false false within) ∙ get_or_from_slice_get (replicate n false) p true false e in
    cc
