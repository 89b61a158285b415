-- Clients, subscriptions and their numbers in order.
use Rattle.std.proofs.Common.{◌≡◌, ℕ, zero, suc, ◌+◌, ◌<◌, ◌≤◌, Bool, true, false, List, [], ◌∷◌, ◌++◌, length, get_or, refl, sym, ◌∙◌, arith, Ok, Err, Some, None}
use Rattle.std.specs.Prelude.{◌==◌, filter, map, ◌≢◌, Option, Result, position, nat_lt, is_some, is_ok, if◌then◌else◌}
use Rattle.std.specs.List.{list_any, position_or_len}
use Rattle.std.specs.List.Sorted.{IsBinarySearchResult, IsNonDecreasingBy, IsSearchInRange}
use Rattle.std.specs.Ordering.{nat_cmp, ordering_index}
use Rattle.std.proofs.lemmas.Cmp.{ranked}
use Rattle.std.proofs.lemmas.Bool.Decides.{nat_tests}
use Rattle.amf_broker.specs.State.{Connection, Subscription}
use Rattle.amf_broker.specs.Machine.{is_connected, at_client, spread, ended_first, is_full, with_ended, with_delivery}
use Rattle.amf_broker.specs.Sound.{rises_by, rises, are_in_order}
use Rattle.amf_broker.proofs.Clients.{rises-at}
use Rattle.amf_broker.proofs.Places.{connected-place}

-- Whatever has numbers.

module _ {X : Type 0} (f : X → ℕ) where
  pub rises-less : (m n : ℕ) (xs : List X) → m ≤ n → rises_by f n xs ≡ true → rises_by f m xs ≡ true
  rises-less m n [] le r = refl
  rises-less m n (x ∷ xs) le r = grind (arith, nat_tests, le, r)

  absent-tail : (k : ℕ) (x : X) (xs : List X) → list_any (λ x. f x == k) (x ∷ xs) ≡ false → list_any (λ x. f x == k) xs ≡ false
  absent-tail k x xs absent = grind (arith, nat_tests, absent)

  below-new : (k : ℕ) (x : X) (xs : List X) → ((id : ℕ) → k ≤ id → list_any (λ x. f x == id) (x ∷ xs) ≡ false) → f x < k
  below-new k x xs absent = let here : list_any (λ x. f x == f x) (x ∷ xs) ≡ true = grind (arith, nat_tests) in let at = absent (f x) in grind (arith, nat_tests, here, at)

  pub rises-new : (n : ℕ) (y : X) (xs : List X) → n ≤ f y → ((id : ℕ) → f y ≤ id → list_any (λ x. f x == id) xs ≡ false) → rises_by f n xs ≡ true → rises_by f n (xs ++ (y ∷ [])) ≡ true
  rises-new n y [] le absent r = grind (arith, nat_tests, le)
  rises-new n y (x ∷ xs) le absent r =
      let below = below-new (f y) x xs absent in
      let ih = rises-new (f x + 1) y xs (omega arith) (λ id at. absent-tail id x xs (absent id at)) in
      grind (arith, nat_tests, r, ih)

  pub rises-part : (n : ℕ) (p : X → Bool) (xs : List X) → rises_by f n xs ≡ true → rises_by f n (filter p xs) ≡ true
  rises-part n p [] r = refl
  rises-part n p (x ∷ xs) r =
      let ih = rises-part (f x + 1) p xs in
      let more = rises-less n (f x + 1) (filter p xs) in
      grind (arith, nat_tests, r, ih, more)

  rises-numbers : (n : ℕ) (xs : List X) → rises_by (λ id. id) n (map f xs) ≡ rises_by f n xs
  rises-numbers n [] = refl
  rises-numbers n (x ∷ xs) = let ih = rises-numbers (f x + 1) xs in grind (arith, nat_tests, ih)

  -- the numbers of a part
  pub part-in-order : (p : X → Bool) (xs : List X) → rises_by f 0 xs ≡ true → are_in_order (map f (filter p xs)) ≡ true
  part-in-order p xs r = rises-numbers 0 (filter p xs) ∙ rises-part 0 p xs r

  -- By places.

  at-least : (n i : ℕ) (xs : List X) (d : X) → rises_by f n xs ≡ true → i < length xs → n ≤ f (get_or xs i d)
  at-least n i [] d r lt = absurd (omega arith)
  at-least n zero (x ∷ xs) d r lt = grind (arith, nat_tests, r)
  at-least n (suc i) (x ∷ xs) d r lt =
      let two : (n ≤ f x) × (rises_by f (f x + 1) xs ≡ true) = grind (arith, nat_tests, r) in
      let more = at-least (f x + 1) i xs d two.1 (omega arith) in
      omega (arith, two.0)

  rising : (n i j : ℕ) (xs : List X) (d : X) → rises_by f n xs ≡ true → i ≤ j → j < length xs → f (get_or xs i d) ≤ f (get_or xs j d)
  rising n i j [] d r le lt = absurd (omega arith)
  rising n zero zero (x ∷ xs) d r le lt = omega arith
  rising n zero (suc j) (x ∷ xs) d r le lt =
      let two : (n ≤ f x) × (rises_by f (f x + 1) xs ≡ true) = grind (arith, nat_tests, r) in
      let more = at-least (f x + 1) j xs d two.1 (omega arith) in
      omega arith
  rising n (suc i) zero (x ∷ xs) d r le lt = absurd (omega arith)
  rising n (suc i) (suc j) (x ∷ xs) d r le lt =
      let two : (n ≤ f x) × (rises_by f (f x + 1) xs ≡ true) = grind (arith, nat_tests, r) in
      rising (f x + 1) i j xs d two.1 (omega arith) (omega arith)

  placed : (n i k : ℕ) (xs : List X) (d : X) → rises_by f n xs ≡ true → i < length xs → f (get_or xs i d) ≡ k → position_or_len (λ x. f x == k) xs ≡ i
  placed n i k [] d r lt same = absurd (omega arith)
  placed n zero k (x ∷ xs) d r lt same = grind (arith, nat_tests, same)
  placed n (suc i) k (x ∷ xs) d r lt same =
      let two : (n ≤ f x) × (rises_by f (f x + 1) xs ≡ true) = grind (arith, nat_tests, r) in
      let more = at-least (f x + 1) i xs d two.1 (omega arith) in
      let ih = placed (f x + 1) i k xs d two.1 (omega arith) same in
      let other : f x ≢ k = omega (arith, more, same) in
      grind (arith, nat_tests, ih, other)

  place-found : (i k : ℕ) (xs : List X) (d : X) → rises_by f 0 xs ≡ true → i < length xs → f (get_or xs i d) ≡ k → Some i ≡ position (λ x. f x == k) xs
  place-found i k xs d r lt same = rw (placed 0 i k xs d r lt same) (within (nat_lt i (length xs)) (grind (arith, nat_tests, lt)))
    where
      within : (b : Bool) → b ≡ true → Some i ≡ (if b then Some i else None)
      within true e = refl
      within false e = cc

  present-at : (i k : ℕ) (xs : List X) → i < length xs → ((d : X) → f (get_or xs i d) ≡ k) → list_any (λ x. f x == k) xs ≡ true
  present-at i k [] lt same = absurd (omega arith)
  present-at zero k (x ∷ xs) lt same = let here = same x in grind (arith, nat_tests, here)
  present-at (suc i) k (x ∷ xs) lt same = let ih = present-at i k xs (omega arith) same in grind (arith, nat_tests, ih)

  absent-everywhere : (k : ℕ) (xs : List X) → ((i : ℕ) (d : X) → i < length xs → f (get_or xs i d) ≢ k) → list_any (λ x. f x == k) xs ≡ false
  absent-everywhere k [] none = refl
  absent-everywhere k (x ∷ xs) none =
      let here : f x ≢ k = none 0 x (omega arith) in
      let ih = absent-everywhere k xs (λ i d lt. none (suc i) d (omega arith)) in
      grind (arith, nat_tests, here, ih)

  -- By halves.

  module _ (xs : List X) (k : ℕ) (r : rises_by f 0 xs ≡ true) where
    pub found-in-order : (i : ℕ) (d : X) → i < length xs → IsBinarySearchResult (λ x. nat_cmp (f x) k) xs (Ok i) → Some i ≡ position (λ x. f x == k) xs
    found-in-order i d lt equal = place-found i k xs d r lt (ranked _ k _ (sym (equal d)))

    pub absent-in-order : (i : ℕ) → i ≤ length xs → IsBinarySearchResult (λ x. nat_cmp (f x) k) xs (Err i) → list_any (λ x. f x == k) xs ≡ false
    absent-in-order i le parted = absent-everywhere k xs (λ j d lt same. elsewhere j d lt same (nat_lt j i) refl)
      where
        comparisons : IsNonDecreasingBy (λ x. ordering_index (nat_cmp (f x) k)) xs
        comparisons i j d le lt = let up = rising 0 i j xs d r le lt in grind (arith, nat_tests, up)

        elsewhere : (j : ℕ) (d : X) → j < length xs → f (get_or xs j d) ≡ k → (b : Bool) → nat_lt j i ≡ b → ⊥
        elsewhere j d lt same true is = let less : f (get_or xs j d) < k = ranked _ k _ (sym ((parted comparisons).0 j d (omega arith) (grind (arith, nat_tests, is)))) in omega (arith, less, same)
        elsewhere j d lt same false is = let more : k < f (get_or xs j d) = ranked _ k _ (sym ((parted comparisons).1 j d (grind (arith, nat_tests, is)) lt)) in omega (arith, more, same)

    pub searched-in-order : (o : Result ℕ ℕ) → IsSearchInRange o (length xs) → IsBinarySearchResult (λ x. nat_cmp (f x) k) xs o → is_ok o ≡ list_any (λ x. f x == k) xs
    searched-in-order (Ok i) lt equal = sym (present-at i k xs lt (λ d. ranked _ k _ (sym (equal d))))
    searched-in-order (Err i) le parted = sym (absent-in-order i le parted)

-- Clients.

pub any-connected : (k : ℕ) (cs : List Connection) → list_any (λ c. c.id == k) cs ≡ is_connected k cs
any-connected k [] = refl
any-connected k (c ∷ cs) = let ih = any-connected k cs in grind (arith, nat_tests, ih)

none-of : (o : Option ℕ) → is_some o ≡ false → None ≡ o
none-of None e = refl
none-of (Some x) e = cc

pub no-place : (k : ℕ) (cs : List Connection) → list_any (λ c. c.id == k) cs ≡ false → None ≡ position (λ c. c.id == k) cs
no-place k cs absent = none-of _ (connected-place k cs ∙ (sym (any-connected k cs) ∙ absent))

pub rises-spread : (n number : ℕ) (message : List ℕ) (us : List Subscription) (cs : List Connection) → rises n (spread number message us cs).clients ≡ rises n cs
rises-spread n number message [] cs = refl
rises-spread n number message (u ∷ us) cs = elim (is_full u.client cs)
    as (λ full. rises n (if full then ended_first u.id (spread number message us (at_client u.client (with_ended u.id) cs)) else spread number message us (at_client u.client (with_delivery (record { sub = u.id; number = number; message = message })) cs)).clients ≡ rises n cs) [
      | true ↦ rises-spread n number message us _ ∙ rises-at n u.client (with_ended u.id) cs (λ c. refl)
      | false ↦ rises-spread n number message us _ ∙ rises-at n u.client (with_delivery (record { sub = u.id; number = number; message = message })) cs (λ c. refl)
    ]

-- Subscriptions.

pub none-named : (k : ℕ) (us : List Subscription) → filter (λ u. u.id == k) us ≡ [] → list_any (λ u. u.id == k) us ≡ false
none-named k [] none = refl
none-named k (u ∷ us) none = let ih = none-named k us in grind (arith, nat_tests, none, ih)

-- those that a publish ends are told in order
pub ended-rises : (n number : ℕ) (message : List ℕ) (us : List Subscription) (cs : List Connection) → rises_by (λ u. u.id) n us ≡ true → rises_by (λ id. id) n (spread number message us cs).ended ≡ true
ended-rises n number message [] cs r = refl
ended-rises n number message (u ∷ us) cs r =
    let two : (n ≤ u.id) × (rises_by (λ (u : Subscription). u.id) (u.id + 1) us ≡ true) = grind (arith, nat_tests, r) in
    elim (is_full u.client cs)
    as (λ full. rises_by (λ id. id) n (if full then ended_first u.id (spread number message us (at_client u.client (with_ended u.id) cs)) else spread number message us (at_client u.client (with_delivery (record { sub = u.id; number = number; message = message })) cs)).ended ≡ true) [
      | true ↦ let ih = ended-rises (u.id + 1) number message us (at_client u.client (with_ended u.id) cs) two.1 in grind (arith, nat_tests, ih, two)
      | false ↦ ended-rises n number message us _ (rises-less (λ u. u.id) n (u.id + 1) us (omega (arith, two.0)) two.1)
    ]
