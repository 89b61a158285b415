-- Names of pairs in by-name order are keys where each is UTF-8 and they rise.
use Rattle.std.proofs.Common.{◌≡◌, ℕ, Bool, true, false, cond, List, [], ◌∷◌, refl, sym, ap, ap₂, ◌∙◌}
use Rattle.std.specs.Prelude.{◌&&◌, ◌||◌, not, bytes_eq}
use Rattle.std.proofs.Common.{Ordering}
use Rattle.std.specs.Ordering.{is_lt, is_eq, nat_cmp, ordering_reverse}
use Rattle.std.specs.declared.cmp.Ordering.TheVariants.{Less, Equal, Greater}
use Rattle.std.specs.Cmp.{IsStrictWeakOrder}
use Rattle.std.specs.Cmp.Lexicographic.{slice_cmp}
use Rattle.std.proofs.lemmas.Cmp.{nat_list_cmp_total}
use Rattle.std.proofs.lemmas.List.Sorted.{ranks_by}
use Rattle.std.proofs.lemmas.Map.Text.{is_eq-slice_cmp}
use Rattle.json.specs.Json.{Json}
use Rattle.amf_graph.specs.Graph.{Value}
use Rattle.amf_graph.specs.ByName.{insert_stable, before, by_name}
use Rattle.amf_text.specs.Scalars.{is_plain}
use Rattle.amf_text.specs.Told.{stands_in, are_keys, firsts, told_names, told_members, comes_before, is_rising, by_key}
use Rattle.amf_text_write.specs.Names.{names_in, all_plain}
use Rattle.amf_text_write.specs.Opening.{told_by}
use Rattle.std.proofs.lemmas.Bool.{and_parts}

names_rank : IsStrictWeakOrder comes_before
names_rank = ranks_by nat_list_cmp_total (λ (x : List ℕ). x)

-- Names that stand in their order, where some may be the same.

abbrev Climbs : List (List ℕ) → Type 0
Climbs [] = Unit {0}
Climbs (x ∷ []) = Unit {0}
Climbs (x ∷ y ∷ xs) = (comes_before y x ≡ false) × Climbs (y ∷ xs)

-- of two that stand so, the first comes before, or they are the same
eq_or_before : (x y : List ℕ) → comes_before y x ≡ false → bytes_eq x y ≡ not (comes_before x y)
eq_or_before x y e = sym (is_eq-slice_cmp x y) ∙ go (slice_cmp nat_cmp x y) refl
  where
    go : (o : Ordering) → slice_cmp nat_cmp x y ≡ o → is_eq (slice_cmp nat_cmp x y) ≡ not (is_lt (slice_cmp nat_cmp x y))
    go Less f = ap is_eq f ∙ sym (ap (λ o. not (is_lt o)) f)
    go Equal f = ap is_eq f ∙ sym (ap (λ o. not (is_lt o)) f)
    go Greater f = let turned : true ≡ false = sym (ap (λ o. is_lt (ordering_reverse o)) f) ∙ sym (ap is_lt (nat_list_cmp_total.antisymm y x)) ∙ e in cc

below : (x y z : List ℕ) → comes_before x y ≡ true → comes_before z y ≡ false → comes_before x z ≡ true
below x y z e f = go (comes_before x z) refl
  where
    go : (t : Bool) → comes_before x z ≡ t → comes_before x z ≡ true
    go true h = h
    go false h = let never : true ≡ false = sym e ∙ names_rank.chain x z y h f in cc

not_there : (x y : List ℕ) (zs : List (List ℕ)) → comes_before x y ≡ true → Climbs (y ∷ zs) → stands_in zs x ≡ false
not_there x y [] e c = refl
not_there x y (z ∷ zs) e c =
    let b = below x y z e c.0 in
    ap₂ (λ s t. s || t) (eq_or_before x z (names_rank.one_way x z b) ∙ ap not b) (not_there x z zs b c.1)

stands_first : (x y : List ℕ) (zs : List (List ℕ)) → Climbs (x ∷ y ∷ zs) → stands_in (y ∷ zs) x ≡ not (comes_before x y)
stands_first x y zs c = go (comes_before x y) refl
  where
    same : bytes_eq x y ≡ not (comes_before x y)
    same = eq_or_before x y c.0

    go : (t : Bool) → comes_before x y ≡ t → stands_in (y ∷ zs) x ≡ not (comes_before x y)
    go true e = ap₂ (λ s t. s || t) (same ∙ ap not e) (not_there x y zs e c.1) ∙ sym (ap not e)
    go false e = ap (λ s. s || stands_in zs x) (same ∙ ap not e) ∙ sym (ap not e)

one_key : (p : Bool) → (p && true) ≡ ((p && true) && true)
one_key true = refl
one_key false = refl

keys_bool : (p c a r : Bool) → (p && (not (not c) && (a && r))) ≡ ((p && a) && (c && r))
keys_bool false c a r = refl
keys_bool true true a r = refl
keys_bool true false true r = refl
keys_bool true false false r = refl

climbing_keys : (xs : List (List ℕ)) → Climbs xs → are_keys xs ≡ (all_plain xs && is_rising xs)
climbing_keys [] c = refl
climbing_keys (x ∷ []) c = one_key (is_plain x)
climbing_keys (x ∷ y ∷ xs) c =
    ap (λ s. is_plain x && (not s && are_keys (y ∷ xs))) (stands_first x y xs c)
    ∙ ap (λ k. is_plain x && (not (not (comes_before x y)) && k)) (climbing_keys (y ∷ xs) c.1)
    ∙ keys_bool (is_plain x) (comes_before x y) (all_plain (y ∷ xs)) (is_rising (y ∷ xs))

-- By-name order is such an order.

abbrev Head : List ℕ → List (List ℕ × Value) → Type 0
Head x [] = Unit {0}
Head x (q ∷ qs) = comes_before q.0 x ≡ false

abbrev Up : List (List ℕ × Value) → Type 0
Up [] = Unit {0}
Up (p ∷ ps) = Head p.0 ps × Up ps

up_climbs : (ps : List (List ℕ × Value)) → Up ps → Climbs (names_in ps)
up_climbs [] h = tt
up_climbs (p ∷ []) h = tt
up_climbs (p ∷ q ∷ ps) h = (h.0, up_climbs (q ∷ ps) h.1)

head_insert : (x : List ℕ) (p : List ℕ × Value) (qs : List (List ℕ × Value)) → comes_before p.0 x ≡ false → Head x qs → Head x (insert_stable before p qs)
head_insert x p [] e h = e
head_insert x p (q ∷ qs) e h = go (before q p)
  where
    go : (t : Bool) → Head x (cond t (q ∷ insert_stable before p qs) (p ∷ q ∷ qs))
    go true = h
    go false = e

insert_up : (p : List ℕ × Value) (qs : List (List ℕ × Value)) → Up qs → Up (insert_stable before p qs)
insert_up p [] h = (tt, tt)
insert_up p (q ∷ qs) h = go (before q p) refl (insert_up p qs h.1)
  where
    go : (t : Bool) → before q p ≡ t → Up (insert_stable before p qs) → Up (cond t (q ∷ insert_stable before p qs) (p ∷ q ∷ qs))
    go true e r = (head_insert q.0 p qs (names_rank.one_way q.0 p.0 e) h.0, r)
    go false e r = (e, h)

by_name_up : (ps : List (List ℕ × Value)) → Up (by_name ps)
by_name_up [] = tt
by_name_up (p ∷ ps) = insert_up p (by_name ps) (by_name_up ps)

-- The order does not say whether names are keys.

or_swap : (a b s : Bool) → (a || (b || s)) ≡ (b || (a || s))
or_swap true true s = refl
or_swap true false s = refl
or_swap false b s = refl

stands_insert : (x : List ℕ) (p : List ℕ × Value) (qs : List (List ℕ × Value)) → stands_in (names_in (insert_stable before p qs)) x ≡ (bytes_eq x p.0 || stands_in (names_in qs) x)
stands_insert x p [] = refl
stands_insert x p (q ∷ qs) = go (before q p) (stands_insert x p qs)
  where
    go : (t : Bool) → stands_in (names_in (insert_stable before p qs)) x ≡ (bytes_eq x p.0 || stands_in (names_in qs) x)
        → stands_in (names_in (cond t (q ∷ insert_stable before p qs) (p ∷ q ∷ qs))) x ≡ (bytes_eq x p.0 || stands_in (names_in (q ∷ qs)) x)
    go true e = ap (λ s. bytes_eq x q.0 || s) e ∙ or_swap (bytes_eq x q.0) (bytes_eq x p.0) (stands_in (names_in qs) x)
    go false e = refl

same_back : (x y : List ℕ) → bytes_eq x y ≡ bytes_eq y x
same_back x y = sym (is_eq-slice_cmp x y) ∙ ap is_eq (nat_list_cmp_total.antisymm x y) ∙ turn (slice_cmp nat_cmp y x) ∙ is_eq-slice_cmp y x
  where
    turn : (o : Ordering) → is_eq (ordering_reverse o) ≡ is_eq o
    turn Less = refl
    turn Equal = refl
    turn Greater = refl

keys_swap : (a b e s t k : Bool) → (b && (not (e || t) && (a && (not s && k)))) ≡ (a && (not (e || s) && (b && (not t && k))))
keys_swap false false e s t k = refl
keys_swap true true true s t k = refl
keys_swap true false true s t k = refl
keys_swap false true true s t k = refl
keys_swap true true false true true k = refl
keys_swap true true false true false k = refl
keys_swap true true false false true k = refl
keys_swap true true false false false k = refl
keys_swap true false false true t k = refl
keys_swap true false false false t k = refl
keys_swap false true false s true k = refl
keys_swap false true false s false k = refl

keys_insert : (p : List ℕ × Value) (qs : List (List ℕ × Value)) → are_keys (names_in (insert_stable before p qs)) ≡ are_keys (names_in (p ∷ qs))
keys_insert p [] = refl
keys_insert p (q ∷ qs) = go (before q p) (keys_insert p qs)
  where
    go : (t : Bool) → are_keys (names_in (insert_stable before p qs)) ≡ are_keys (names_in (p ∷ qs)) → are_keys (names_in (cond t (q ∷ insert_stable before p qs) (p ∷ q ∷ qs))) ≡ are_keys (names_in (p ∷ q ∷ qs))
    go true e =
        ap₂ (λ s k. is_plain q.0 && (not s && k)) (stands_insert q.0 p qs ∙ ap (λ e. e || stands_in (names_in qs) q.0) (same_back q.0 p.0)) e
        ∙ keys_swap (is_plain p.0) (is_plain q.0) (bytes_eq p.0 q.0) (stands_in (names_in qs) p.0) (stands_in (names_in qs) q.0) (are_keys (names_in qs))
    go false e = refl

stands_by_name : (x : List ℕ) (ps : List (List ℕ × Value)) → stands_in (names_in (by_name ps)) x ≡ stands_in (names_in ps) x
stands_by_name x [] = refl
stands_by_name x (p ∷ ps) = stands_insert x p (by_name ps) ∙ ap (λ s. bytes_eq x p.0 || s) (stands_by_name x ps)

pub keys_by_name : (ps : List (List ℕ × Value)) → are_keys (names_in (by_name ps)) ≡ are_keys (names_in ps)
keys_by_name [] = refl
keys_by_name (p ∷ ps) = keys_insert p (by_name ps) ∙ ap₂ (λ s k. is_plain p.0 && (not s && k)) (stands_by_name p.0 ps) (keys_by_name ps)

-- so a test of the names in by-name order tells it
pub keys_tested : (ps : List (List ℕ × Value)) → are_keys (names_in (by_name ps)) ≡ (all_plain (names_in (by_name ps)) && is_rising (names_in (by_name ps)))
keys_tested ps = climbing_keys (names_in (by_name ps)) (up_climbs (by_name ps) (by_name_up ps))

-- what is told of named values has their names, and their order

pub firsts_told : (tell : Value → Json) (ps : List (List ℕ × Value)) → firsts (told_names tell ps) ≡ names_in ps
firsts_told tell [] = refl
firsts_told tell (p ∷ ps) = ap (λ xs. p.0 ∷ xs) (firsts_told tell ps)

insert_told : (tell : Value → Json) (p : List ℕ × Value) (qs : List (List ℕ × Value)) → insert_stable (λ x y. comes_before x.0 y.0) (p.0, tell p.1) (told_names tell qs) ≡ told_names tell (insert_stable before p qs)
insert_told tell p [] = refl
insert_told tell p (q ∷ qs) = go (before q p) (insert_told tell p qs)
  where
    go : (t : Bool) → insert_stable (λ x y. comes_before x.0 y.0) (p.0, tell p.1) (told_names tell qs) ≡ told_names tell (insert_stable before p qs)
        → cond t ((q.0, tell q.1) ∷ insert_stable (λ x y. comes_before x.0 y.0) (p.0, tell p.1) (told_names tell qs)) ((p.0, tell p.1) ∷ (q.0, tell q.1) ∷ told_names tell qs) ≡ told_names tell (cond t (q ∷ insert_stable before p qs) (p ∷ q ∷ qs))
    go true e = ap (λ l. (q.0, tell q.1) ∷ l) e
    go false e = refl

pub by_key_told : (tell : Value → Json) (ps : List (List ℕ × Value)) → by_key (told_names tell ps) ≡ told_names tell (by_name ps)
by_key_told tell [] = refl
by_key_told tell (p ∷ ps) = ap (insert_stable (λ x y. comes_before x.0 y.0) (p.0, tell p.1)) (by_key_told tell ps) ∙ insert_told tell p (by_name ps)

-- members by their tested names
pub members_tested : (tell : Value → Json) (ps qs : List (List ℕ × Value)) (t : Bool) → qs ≡ by_name ps → t ≡ (all_plain (names_in qs) && is_rising (names_in qs)) → told_by t (told_names tell qs) ≡ told_members (told_names tell (by_name ps))
members_tested tell ps qs t e k =
    ap₂ (λ b rs. told_by b (told_names tell rs)) (k ∙ ap (λ rs. all_plain (names_in rs) && is_rising (names_in rs)) e ∙ sym (keys_tested ps) ∙ ap are_keys (sym (firsts_told tell (by_name ps)))) e

pub plain_tested : (qs : List (List ℕ × Value)) (t : Bool) → t ≡ (all_plain (names_in qs) && is_rising (names_in qs)) → t ≡ true → all_plain (names_in qs) ≡ true
plain_tested qs t k e = (and_parts (all_plain (names_in qs)) (is_rising (names_in qs)) (sym k ∙ e)).0

pub keys_by_test : (ps qs : List (List ℕ × Value)) (t : Bool) → qs ≡ by_name ps → t ≡ (all_plain (names_in qs) && is_rising (names_in qs)) → are_keys (names_in ps) ≡ t
keys_by_test ps qs t e k = sym (keys_by_name ps) ∙ keys_tested ps ∙ ap (λ rs. all_plain (names_in rs) && is_rising (names_in rs)) (sym e) ∙ sym k

pub keys_plain : (xs : List (List ℕ)) → are_keys xs ≡ true → all_plain xs ≡ true
keys_plain [] e = refl
keys_plain (x ∷ xs) e =
    let p = and_parts (is_plain x) (not (stands_in xs x) && are_keys xs) e in
    ap₂ (λ s t. s && t) p.0 (keys_plain xs (and_parts (not (stands_in xs x)) (are_keys xs) p.1).1)
