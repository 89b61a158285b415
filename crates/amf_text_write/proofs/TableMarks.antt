-- Marks and width of a table, as a way of telling has them.
use Rattle.std.proofs.Common.{◌≡◌, ℕ, zero, suc, ◌<◌, Bool, true, false, List, [], ◌∷◌, length, map, get_or, slice_get, Some, refl, sym, ap, ap₂, ◌∙◌, inl, inr, arith}
use Rattle.std.specs.Prelude.{◌==◌, ◌||◌, decimal}
use Rattle.std.proofs.lemmas.Bool.{cases_eq}
use Rattle.std.proofs.lemmas.Option.{same_Some, slice_get-get_or, get_or_from_slice_get}
use Rattle.amf_graph.specs.Graph.{Graph}
use Rattle.amf_graph.specs.Order.{IsDistinct}
use Rattle.amf_graph.specs.Renumbered.{place_of}
use Rattle.amf_graph.proofs.Lists.{search_for}
use Rattle.amf_graph.proofs.Matched.{map_get}
use Rattle.amf_graph.proofs.PlaceOf.{place_there, place_absent}
use Rattle.amf_text.specs.Told as told
use Rattle.amf_text_write.specs.Rows.{nodes_of, IsTabled}
use Rattle.amf_text_write.proofs.Bools.{eq_true}
use Rattle.amf_text_write.proofs.RowSteps.{from_map}

bool_same : (a b : Bool) → (a ≡ true → b ≡ true) → (b ≡ true → a ≡ true) → a ≡ b
bool_same true b f h = sym (f refl)
bool_same false true f h = h refl
bool_same false false f h = refl

in_some : (xs : List ℕ) (i : ℕ) → told.some_is (λ j. j == i) xs ≡ true → (k : ℕ) × (slice_get xs k ≡ Some i)
in_some [] i e = cc
in_some (x ∷ xs) i e = go (x == i) refl e (in_some xs i)
  where
    same : (x == i) ≡ true → x ≡ i
    same t = grind (arith, t)

    go : (b : Bool) → (x == i) ≡ b → (b || told.some_is (λ j. j == i) xs) ≡ true → (told.some_is (λ j. j == i) xs ≡ true → (k : ℕ) × (slice_get xs k ≡ Some i)) → (k : ℕ) × (slice_get (x ∷ xs) k ≡ Some i)
    go true t e m = (0, ap (λ w. Some w) (same t))
    go false t e m = let o = m e in (suc o.0, o.1)

some_in : (xs : List ℕ) (i k : ℕ) → slice_get xs k ≡ Some i → told.some_is (λ j. j == i) xs ≡ true
some_in [] i k e = cc
some_in (x ∷ xs) i zero e = ap (λ b. b || told.some_is (λ j. j == i) xs) (eq_true x i (same_Some x i e))
some_in (x ∷ xs) i (suc k) e = go (x == i) (some_in xs i k e)
  where
    go : (b : Bool) → told.some_is (λ j. j == i) xs ≡ true → (b || told.some_is (λ j. j == i) xs) ≡ true
    go true m = refl
    go false m = m

get_true : (xs : List Bool) (n : ℕ) → get_or xs n false ≡ true → slice_get xs n ≡ Some true
get_true [] n e = cc
get_true (x ∷ xs) zero e = ap (λ w. Some w) e
get_true (x ∷ xs) (suc n) e = get_true xs n e

module _ (g : Graph) (order : List ℕ) (marks : List Bool) (rows : List ℕ) (width : ℕ) (once : IsDistinct order) (t : IsTabled g order marks rows width) where
  row_place : (k n : ℕ) → slice_get rows k ≡ Some n → place_of order (get_or order n 0) ≡ n
  row_place k n e = place_there order n (get_or order n 0) once (slice_get-get_or order n 0 (t.within k n e))

  number_of : (i : ℕ) → place_of order i < length order → slice_get order (place_of order i) ≡ Some i
  number_of i l = elim (search_for (λ x y. cases_eq x y) order i) [
    | inl o ↦ ap (λ w. slice_get order w) (place_there order o.0 i once o.1) ∙ o.1
    | inr away ↦ absurd (let e = place_absent order i away in omega (arith, e, l))
  ]

  -- a node has a row exactly where its number is marked
  pub row_marked : (i : ℕ) → told.some_is (λ j. j == i) (nodes_of order rows) ≡ get_or marks (place_of order i) false
  row_marked i = bool_same (told.some_is (λ j. j == i) (nodes_of order rows)) (get_or marks (place_of order i) false) to from
    where
      to : told.some_is (λ j. j == i) (nodes_of order rows) ≡ true → get_or marks (place_of order i) false ≡ true
      to e =
          let o = in_some (nodes_of order rows) i e in
          let u = from_map (λ n. get_or order n 0) rows o.0 i o.1 in
          let place : place_of order i ≡ u.0 = ap (place_of order) (sym u.2) ∙ row_place o.0 u.0 u.1 in
          ap (λ w. get_or marks w false) place ∙ get_or_from_slice_get marks u.0 true false ((t.are_marks u.0).1 (o.0, u.1))

      from : get_or marks (place_of order i) false ≡ true → told.some_is (λ j. j == i) (nodes_of order rows) ≡ true
      from e =
          let o = (t.are_marks (place_of order i)).0 (get_true marks (place_of order i) e) in
          let at = number_of i (t.within o.0 (place_of order i) o.1) in
          some_in (nodes_of order rows) i o.0 (map_get (λ n. get_or order n 0) rows o.0 (place_of order i) o.1 ∙ ap (λ w. Some w) (get_or_from_slice_get order (place_of order i) i 0 at))

  places : (ns : List ℕ) → ((k n : ℕ) → slice_get ns k ≡ Some n → place_of order (get_or order n 0) ≡ n) → map (λ i. decimal (place_of order i)) (nodes_of order ns) ≡ map decimal ns
  places [] h = refl
  places (n ∷ ns) h = ap₂ (λ x xs. x ∷ xs) (ap decimal (h 0 n refl)) (places ns (λ k m e. h (suc k) m e))

  -- the largest number of the table has so many digits
  pub row_width : told.longest (map (λ i. decimal (place_of order i)) (nodes_of order rows)) ≡ width
  row_width = ap told.longest (places rows row_place) ∙ sym t.is_width
