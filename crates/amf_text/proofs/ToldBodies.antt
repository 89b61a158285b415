-- What is told of a node is meant, where what is told of its values is.
use Rattle.std.proofs.Common.{◌≡◌, ℕ, zero, suc, ◌<◌, ◌*◌, ◌^◌, ℤ, pos, negsuc, Bool, true, false, if◌then◌else◌, List, [], ◌∷◌, ◌++◌, map, length, Option, Some, None, refl, sym, ap, ap₂, ◌∙◌, arith}
use Rattle.std.specs.Prelude.{◌&&◌, ◌||◌, not, option_map, option_and_then, codes, bytes_eq, nat_lt, decimal, FitsSigned, cond}
use Rattle.std.specs.Int.{w32}
use Rattle.std.specs.Fmt.{signed_decimal}
use Rattle.std.specs.List.{AllZip, AllByRecursion}
use Rattle.std.proofs.lemmas.Bool.{and_parts}
use Rattle.std.proofs.lemmas.Bool.Decides.{nat_tests}
use Rattle.std.proofs.lemmas.Slice.Eq.{bytes_eq-Decides}
use Rattle.json.specs.Json.{Json, no_items, no_members, item, member, Items, Members}
use Rattle.json.specs.Json as json
use Rattle.amf_wire.specs.Text.{IsText}
use Rattle.amf_wire.specs.Whole.{IsPatternOf}
use Rattle.amf_wire.specs.WholeNumbers.{whole_of, signed_pattern}
use Rattle.amf_wire.proofs.WholeNumbers.{whole, pattern_is}
use Rattle.amf_graph.specs.ByName.{insert_stable}
use Rattle.amf_text.specs.Scalars.{word, read_number}
use Rattle.amf_text.specs.Told.{items_of, listed, firsts, members_of, pairs_of, entries_of, are_keys, stands_in, comes_before, is_rising, by_key, names_part, sealed_part}
use Rattle.amf_text.specs.Meant.{Tree, mixed, entry, no_named, keys_of, whole_meant, fits_int, fits_uint, each, name_meant, are_new, class_names, if_true, Begun, traits_with, object_body, rising_body, without, are_those, mixed_body, meant, keys_meant, entries_meant, sealed_meant, mixed_meant}
use Rattle.amf_text.specs.ToldTrees.{trees, named_of, by_keys, is_listed}
use Rattle.amf_text.proofs.Numbers.{pattern_read}
use Rattle.amf_text.proofs.Leaves.{pattern_bound}
use Rattle.amf_text.proofs.ToldMembers.{IsMeant, IsNamed, keys_told, pairs_told, no_true, sorted_told, rising_sorted, keys_rank}

-- Whole numbers of vectors.

pub whole_back : (n : ℤ) → IsPatternOf (signed_pattern n) n → whole_meant read_number (json.number (signed_decimal n)) ≡ Some n
whole_back n is = ap (option_and_then whole_of) (pattern_read (signed_pattern n) n is) ∙ whole (signed_pattern n) n (pattern_bound (signed_pattern n) n is) is

pub below_test : (n m : ℕ) → n < m → nat_lt n m ≡ true
below_test n m h = grind (arith, nat_tests, h)

pub int_back : (n : ℤ) → FitsSigned w32 n → option_and_then fits_int (whole_meant read_number (json.number (signed_decimal n))) ≡ Some n
int_back (pos n) h =
    let small : n < 2147483648 = h.sfits in
    ap (option_and_then fits_int) (whole_back (pos n) (pattern_is (pos n) (omega (arith, small)))) ∙ ap (λ b. if b then Some (pos n) else None) (below_test n 2147483648 small)
int_back (negsuc n) h =
    let small : n < 2147483648 = h.sfits in
    ap (option_and_then fits_int) (whole_back (negsuc n) (pattern_is (negsuc n) (omega (arith, small)))) ∙ ap (λ b. if b then Some (negsuc n) else None) (below_test n 2147483648 small)

pub uint_back : (n : ℕ) → n < 2 ^ 32 → option_and_then fits_uint (whole_meant read_number (json.number (decimal n))) ≡ Some n
uint_back n h =
    let small : n < 4294967296 = h in
    ap (option_and_then fits_uint) (whole_back (pos n) (pattern_is (pos n) (omega (arith, small)))) ∙ ap (λ b. if b then Some n else None) (below_test n 4294967296 small)

-- a list of scalars
pub each_back : {X : Type 0} (P : X → Type 0) (f : Json → Option X) (tell : X → Json) → ((x : X) → P x → f (tell x) ≡ Some x) → (xs : List X) → AllByRecursion P xs → each f (items_of (map tell xs)) ≡ Some xs
each_back P f tell back [] h = refl
each_back P f tell back (x ∷ xs) h = ap (option_and_then (λ y. option_map (λ ys. y ∷ ys) (each f (items_of (map tell xs))))) (back x h.0) ∙ ap (option_map (λ ys. x ∷ ys)) (each_back P f tell back xs h.1)

-- the entries of a dictionary
pub entries_told : (n : ℕ) (vs : List Json) (ts : List Tree) → length vs ≡ 2 * n → AllZip IsMeant vs ts → entries_meant read_number (items_of (entries_of vs)) ≡ Some (trees ts)
unfolding meant
entries_told n [] [] l z = refl
entries_told n [] (t ∷ ts) l z = elim z [ ]
entries_told n (v ∷ vs) [] l z = elim z [ ]
entries_told n (v ∷ []) (t ∷ []) l z = absurd (omega (arith, l))
entries_told n (v ∷ []) (t ∷ u ∷ ts) l z = elim z.1 [ ]
entries_told n (v ∷ w ∷ vs) (t ∷ []) l z = elim z.1 [ ]
entries_told zero (v ∷ w ∷ vs) (t ∷ u ∷ ts) l z = absurd (omega (arith, l))
entries_told (suc n) (v ∷ w ∷ vs) (t ∷ u ∷ ts) l z =
    ap (option_and_then (λ a. option_and_then (λ b. option_map (entry a b) (entries_meant read_number (items_of (entries_of vs)))) (meant read_number w))) z.0
    ∙ ap (option_and_then (λ b. option_map (entry t b) (entries_meant read_number (items_of (entries_of vs))))) z.1.0
    ∙ ap (option_map (entry t u)) (entries_told n vs ts (omega (arith, l)) z.1.1)

-- Sealed members.

keys_are : (qs : List (List ℕ × Tree)) → keys_of (named_of qs) ≡ map (λ q. q.0) qs
keys_are [] = refl
keys_are (q ∷ qs) = ap (λ xs. q.0 ∷ xs) (keys_are qs)

firsts_same : (ps : List (List ℕ × Json)) (qs : List (List ℕ × Tree)) → AllZip IsNamed ps qs → firsts ps ≡ map (λ q. q.0) qs
firsts_same [] [] z = refl
firsts_same [] (q ∷ qs) z = elim z [ ]
firsts_same (p ∷ ps) [] z = elim z [ ]
firsts_same (p ∷ ps) (q ∷ qs) z = ap₂ (λ x xs. x ∷ xs) z.0.0 (firsts_same ps qs z.1)

-- no name stands twice, so each is new

or_false : (a b : Bool) → a ≡ false → b ≡ false → (a || b) ≡ false
or_false a b e f = rw e (rw f refl)

stands_both : (seen : List (List ℕ)) (x y : List ℕ) → stands_in seen y ≡ false → bytes_eq y x ≡ false → stands_in (seen ++ x ∷ []) y ≡ false
stands_both [] x y s e = or_false (bytes_eq y x) false e refl
stands_both (z ∷ seen) x y s e = let p = or_parts (bytes_eq y z) (stands_in seen y) s in or_false (bytes_eq y z) (stands_in (seen ++ x ∷ []) y) p.0 (stands_both seen x y p.1 e)
  where
    or_parts : (a b : Bool) → (a || b) ≡ false → (a ≡ false) × (b ≡ false)
    or_parts false b e = (refl, e)
    or_parts true b e = let h : true ≡ false = e in cc

bytes_sym : (x y : List ℕ) → bytes_eq x y ≡ false → bytes_eq y x ≡ false
bytes_sym x y e = go (bytes_eq y x) refl
  where
    go : (b : Bool) → bytes_eq y x ≡ b → bytes_eq y x ≡ false
    go false f = f
    go true f = let same : y ≡ x = (bytes_eq-Decides y x).0 f in let h : true ≡ false = sym ((bytes_eq-Decides x y).1 (sym same)) ∙ e in cc

abbrev NoneIn : List (List ℕ) → List (List ℕ) → Type 0
NoneIn seen xs = AllByRecursion (λ y. stands_in seen y ≡ false) xs

none_more : (seen : List (List ℕ)) (x : List ℕ) (xs : List (List ℕ)) → NoneIn seen xs → stands_in xs x ≡ false → NoneIn (seen ++ x ∷ []) xs
none_more seen x [] h s = tt
none_more seen x (y ∷ xs) h s =
    let p = or_parts (bytes_eq x y) (stands_in xs x) s in
    (stands_both seen x y h.0 (bytes_sym x y p.0), none_more seen x xs h.1 p.1)
  where
    or_parts : (a b : Bool) → (a || b) ≡ false → (a ≡ false) × (b ≡ false)
    or_parts false b e = (refl, e)
    or_parts true b e = let h : true ≡ false = e in cc

are_new_from : (seen xs : List (List ℕ)) → are_keys xs ≡ true → NoneIn seen xs → are_new seen xs ≡ true
are_new_from seen [] k h = refl
are_new_from seen (x ∷ xs) k h =
    let p = and_parts _ (not (stands_in xs x) && are_keys xs) k in
    let q = and_parts (not (stands_in xs x)) (are_keys xs) p.1 in
    ap (λ b. not b && are_new (seen ++ x ∷ []) xs) h.0 ∙ are_new_from (seen ++ x ∷ []) xs q.1 (none_more seen x xs h.1 (no_true (stands_in xs x) q.0))

none_seen : (xs : List (List ℕ)) → NoneIn [] xs
none_seen [] = tt
none_seen (x ∷ xs) = (refl, none_seen xs)

names_back : (names : List (List ℕ)) → each name_meant (items_of (map word names)) ≡ Some names
names_back [] = refl
names_back (x ∷ names) = ap (option_map (λ ys. x ∷ ys)) (names_back names)

class_names_back : (names : List (List ℕ)) → are_keys names ≡ true → class_names (listed (map word names)) ≡ Some names
class_names_back names k = ap (option_and_then (if_true (are_new []))) (names_back names) ∙ ap (λ b. if b then Some names else None) (are_new_from [] names k (none_seen names))

-- keys that were sorted are those that were there

abbrev pub named_keys : List (List ℕ × Tree) → List (List ℕ)
named_keys qs = map (λ q. q.0) qs

same_word : (x : List ℕ) → bytes_eq x x ≡ true
same_word x = (bytes_eq-Decides x x).1 refl

less_differs : (x y : List ℕ) → comes_before x y ≡ true → bytes_eq x y ≡ false
less_differs x y e = go (bytes_eq x y) refl
  where
    go : (b : Bool) → bytes_eq x y ≡ b → bytes_eq x y ≡ false
    go false f = f
    go true f =
        let same : x ≡ y = (bytes_eq-Decides x y).0 f in
        let one : comes_before x x ≡ true = ap (comes_before x) same ∙ e in
        let h : true ≡ false = sym one ∙ keys_rank.one_way (x, x) (x, x) one in cc

those_insert : (q : List ℕ × Tree) (qs : List (List ℕ × Tree)) (names : List (List ℕ)) → are_those names (named_keys qs) ≡ true → are_those (q.0 ∷ names) (named_keys (insert_stable (λ x y. comes_before x.0 y.0) q qs)) ≡ true
those_insert q [] names h = front q [] names h
  where
    front : (q : List ℕ × Tree) (qs : List (List ℕ × Tree)) (names : List (List ℕ)) → are_those names (named_keys qs) ≡ true → are_those (q.0 ∷ names) (q.0 ∷ named_keys qs) ≡ true
    front q qs names h =
        ap₂ (λ b c. (b || stands_in names q.0) && are_those (if c then names else q.0 ∷ without q.0 names) (named_keys qs)) (same_word q.0) (same_word q.0) ∙ h
those_insert q (p ∷ qs) names h = go (comes_before p.0 q.0) refl (those_insert q qs)
  where
    front : are_those names (named_keys (p ∷ qs)) ≡ true → are_those (q.0 ∷ names) (q.0 ∷ named_keys (p ∷ qs)) ≡ true
    front h = ap₂ (λ b c. (b || stands_in names q.0) && are_those (if c then names else q.0 ∷ without q.0 names) (named_keys (p ∷ qs))) (same_word q.0) (same_word q.0) ∙ h

    go : (t : Bool) → comes_before p.0 q.0 ≡ t → ((ns : List (List ℕ)) → are_those ns (named_keys qs) ≡ true → are_those (q.0 ∷ ns) (named_keys (insert_stable (λ x y. comes_before x.0 y.0) q qs)) ≡ true)
        → are_those (q.0 ∷ names) (named_keys (cond t (p ∷ insert_stable (λ x y. comes_before x.0 y.0) q qs) (q ∷ p ∷ qs))) ≡ true
    go false e more = front h
    go true e more =
        let parts = and_parts (stands_in names p.0) (are_those (without p.0 names) (named_keys qs)) h in
        let rest = more (without p.0 names) parts.1 in
        ap₂ (λ b c. (b || stands_in names p.0) && are_those (if c then names else q.0 ∷ without p.0 names) (named_keys (insert_stable (λ x y. comes_before x.0 y.0) q qs))) (less_differs p.0 q.0 e) (less_differs p.0 q.0 e)
        ∙ ap (λ b. b && are_those (q.0 ∷ without p.0 names) (named_keys (insert_stable (λ x y. comes_before x.0 y.0) q qs))) parts.0 ∙ rest

those_sorted : (qs : List (List ℕ × Tree)) → are_those (named_keys qs) (named_keys (by_keys qs)) ≡ true
those_sorted [] = refl
those_sorted (q ∷ qs) = those_insert q (by_keys qs) (named_keys qs) (those_sorted qs)

-- what stands behind a class or its dynamic members
abbrev pub sealed_tree : Begun → List (List ℕ × Tree) → Tree
sealed_tree o qs = if is_listed (named_keys qs) then mixed (traits_with o (named_keys qs)) o.names (named_of (by_keys qs)) else object_body o (named_of qs)

module _ (f : Members → Option Tree) (o : Begun) (none : f no_members ≡ Some (object_body o no_named))
    (sealed : (j : Json) → f (member (codes "$sealed") j no_members) ≡ sealed_meant read_number o j)
    (names : (j : Json) (ms : Members) → f (member (codes "$names") j ms) ≡ option_and_then (λ xs. mixed_meant read_number o xs ms) (class_names j)) where
  by_rising : (ps : List (List ℕ × Json)) (qs : List (List ℕ × Tree)) → are_keys (firsts ps) ≡ true → AllZip IsNamed ps qs → (r : Bool) → is_rising (firsts ps) ≡ r
      → f (if r then member (codes "$sealed") (json.object (members_of (by_key ps))) no_members else member (codes "$names") (listed (map word (firsts ps))) (member (codes "$sealed") (json.object (members_of (by_key ps))) no_members))
      ≡ Some (if not r then mixed (traits_with o (named_keys qs)) o.names (named_of (by_keys qs)) else object_body o (named_of qs))
  unfolding meant
  by_rising ps qs k z true r =
      sealed (json.object (members_of (by_key ps)))
      ∙ ap (λ xs. option_and_then (rising_body o) (keys_meant read_number (members_of xs))) (rising_sorted ps r)
      ∙ ap (option_and_then (rising_body o)) (keys_told ps qs z)
      ∙ ap (λ b. if b then Some (object_body o (named_of qs)) else None) (ap is_rising (keys_are qs ∙ sym (firsts_same ps qs z)) ∙ r)
  by_rising ps qs k z false r =
      names (listed (map word (firsts ps))) (member (codes "$sealed") (json.object (members_of (by_key ps))) no_members)
      ∙ ap (option_and_then (λ xs. mixed_meant read_number o xs (member (codes "$sealed") (json.object (members_of (by_key ps))) no_members))) (class_names_back (firsts ps) k)
      ∙ ap (option_and_then (mixed_body o (firsts ps))) (keys_told (by_key ps) (by_keys qs) (sorted_told ps qs z))
      ∙ ap (λ xs. if are_those xs (keys_of (named_of (by_keys qs))) then Some (mixed (traits_with o xs) o.names (named_of (by_keys qs))) else None) (firsts_same ps qs z)
      ∙ ap (λ b. if b then Some (mixed (traits_with o (named_keys qs)) o.names (named_of (by_keys qs))) else None) (ap (are_those (named_keys qs)) (keys_are (by_keys qs)) ∙ those_sorted qs)

  pub sealed_told : (ps : List (List ℕ × Json)) (qs : List (List ℕ × Tree)) → AllByRecursion (λ p. IsText p.0) ps → AllZip IsNamed ps qs → f (sealed_part ps) ≡ Some (sealed_tree o qs)
  unfolding meant
  sealed_told [] [] h z = none
  sealed_told [] (q ∷ qs) h z = elim z [ ]
  sealed_told (p ∷ ps) [] h z = elim z [ ]
  sealed_told (p ∷ ps) (q ∷ qs) h z =
      go (are_keys (firsts (p ∷ ps))) refl ∙ ap (λ xs. Some (if (are_keys xs && not (is_rising xs)) then mixed (traits_with o (named_keys (q ∷ qs))) o.names (named_of (by_keys (q ∷ qs))) else object_body o (named_of (q ∷ qs)))) (firsts_same (p ∷ ps) (q ∷ qs) z)
    where
      go : (b : Bool) → are_keys (firsts (p ∷ ps)) ≡ b
          → f (if b then names_part (firsts (p ∷ ps)) (member (codes "$sealed") (json.object (members_of (by_key (p ∷ ps)))) no_members) else member (codes "$sealed") (listed (pairs_of (p ∷ ps))) no_members)
          ≡ Some (if (b && not (is_rising (firsts (p ∷ ps)))) then mixed (traits_with o (named_keys (q ∷ qs))) o.names (named_of (by_keys (q ∷ qs))) else object_body o (named_of (q ∷ qs)))
      go true k = by_rising (p ∷ ps) (q ∷ qs) k z (is_rising (firsts (p ∷ ps))) refl
      go false k = sealed (listed (pairs_of (p ∷ ps))) ∙ ap (option_map (object_body o)) (pairs_told (p ∷ ps) (q ∷ qs) h z)
