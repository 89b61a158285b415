-- Members, pairs, items and entries that are told are meant, where their parts are.
use Rattle.std.proofs.Common.{◌≡◌, ℕ, ◌<◌, lit<, Bool, true, false, if◌then◌else◌, cond, List, [], ◌∷◌, Some, refl, sym, ap, ap₂, ◌∙◌, subst, arith}
use Rattle.std.specs.Prelude.{not, option_map, option_and_then}
use Rattle.std.specs.List.{AllZip, AllByRecursion, concat}
use Rattle.std.specs.Cmp.{IsStrictWeakOrder}
use Rattle.std.proofs.lemmas.Bool.{and_parts}
use Rattle.std.proofs.lemmas.Cmp.{nat_list_cmp_total}
use Rattle.std.proofs.lemmas.List.Sorted.{ranks_by}
use Rattle.json.specs.Json.{Json, no_items, no_members, item, member, Items, Members}
use Rattle.json.specs.Json as json
use Rattle.amf_wire.specs.Text.{Range, rows, IsWithin, IsUnit, IsText, is_text}
use Rattle.amf_wire.proofs.TextTest.{is_text-is}
use Rattle.amf_graph.specs.ByName.{insert_stable}
use Rattle.amf_graph.proofs.Alls.{all_append, each_at}
use Rattle.amf_text.specs.Tags.{begins_tag, tag_among, words, tag_of}
use Rattle.amf_text.specs.Tags as tag
use Rattle.amf_text.specs.Scalars.{read_number, told_text}
use Rattle.amf_text.specs.Told.{items_of, listed, firsts, members_of, pairs_of, told_members, are_keys, no_tags, comes_before, is_rising, by_key}
use Rattle.amf_text.specs.Meant.{Tree, tree, named, text_meant, meant, items_meant, members_meant, keys_meant, pairs_meant, plain_meant}
use Rattle.amf_text.specs.ToldTrees.{trees, named_of, by_keys}
use Rattle.amf_text.proofs.CompleteMembers.{plain_by}
use Rattle.amf_text.proofs.Scalars.{text_back}

abbrev pub IsMeant : Json → Tree → Type 0
IsMeant j t = meant read_number j ≡ Some t

abbrev pub IsNamed : List ℕ × Json → List ℕ × Tree → Type 0
IsNamed p q = (p.0 ≡ q.0) × (meant read_number p.1 ≡ Some q.1)

-- The bytes of a text.

rows_small : AllByRecursion (λ row. AllByRecursion (λ (r : Range). r.1 < 256) row) rows
rows_small = (
  (lit< tt, tt),
  (
    (lit< tt, (lit< tt, tt)),
    (
      (lit< tt, (lit< tt, (lit< tt, tt))),
      (
        (lit< tt, (lit< tt, (lit< tt, tt))),
        (
          (lit< tt, (lit< tt, (lit< tt, tt))),
          (
            (lit< tt, (lit< tt, (lit< tt, tt))),
            (
              (lit< tt, (lit< tt, (lit< tt, (lit< tt, tt)))),
              (
                (lit< tt, (lit< tt, (lit< tt, (lit< tt, tt)))),
                (
                  (lit< tt, (lit< tt, (lit< tt, (lit< tt, tt)))),
                  (
                    (lit< tt, (lit< tt, (lit< tt, tt))),
                    ((lit< tt, (lit< tt, tt)), tt),
                  ),
                ),
              ),
            ),
          ),
        ),
      ),
    ),
  ),
)

unit_small : (row : List Range) (unit : List ℕ) → AllByRecursion (λ (r : Range). r.1 < 256) row → AllZip IsWithin row unit → AllByRecursion (λ b. b < 256) unit
unit_small [] [] h z = tt
unit_small [] (b ∷ unit) h z = elim z [ ]
unit_small (r ∷ row) [] h z = elim z [ ]
unit_small (r ∷ row) (b ∷ unit) h z = (omega (arith, h.0, z.0.1), unit_small row unit h.1 z.1)

units_small : (units : List (List ℕ)) → AllByRecursion IsUnit units → AllByRecursion (λ b. b < 256) (concat units)
units_small [] h = tt
units_small (u ∷ units) h =
    all_append (λ b. b < 256) u (concat units) (unit_small h.0.1 u (each_at (λ row. AllByRecursion (λ (r : Range). r.1 < 256) row) rows h.0.0 h.0.1 rows_small h.0.2) h.0.3) (units_small units h.1)

pub text_bytes : (x : List ℕ) → IsText x → AllByRecursion (λ b. b < 256) x
text_bytes x t = subst (AllByRecursion (λ b. b < 256)) (sym t.2) (units_small t.0 t.1)

pub text_test : (x : List ℕ) → IsText x → is_text x ≡ true
text_test x t = (is_text-is x).1 t

pub text_told : (x : List ℕ) → IsText x → text_meant (told_text x) ≡ Some x
text_told x t = text_back x (text_bytes x t) (text_test x t)

-- Lists.

pub items_told : (vs : List Json) (ts : List Tree) → AllZip IsMeant vs ts → items_meant read_number (items_of vs) ≡ Some (trees ts)
unfolding meant
items_told [] [] z = refl
items_told [] (t ∷ ts) z = elim z [ ]
items_told (v ∷ vs) [] z = elim z [ ]
items_told (v ∷ vs) (t ∷ ts) z = ap (option_and_then (λ x. option_map (tree x) (items_meant read_number (items_of vs)))) z.0 ∙ ap (option_map (tree t)) (items_told vs ts z.1)

pub keys_told : (ps : List (List ℕ × Json)) (qs : List (List ℕ × Tree)) → AllZip IsNamed ps qs → keys_meant read_number (members_of ps) ≡ Some (named_of qs)
unfolding meant
keys_told [] [] z = refl
keys_told [] (q ∷ qs) z = elim z [ ]
keys_told (p ∷ ps) [] z = elim z [ ]
keys_told (p ∷ ps) (q ∷ qs) z =
    ap (option_and_then (λ x. option_map (named p.0 x) (keys_meant read_number (members_of ps)))) z.0.1 ∙ ap (option_map (named p.0 q.1)) (keys_told ps qs z.1) ∙ ap (λ k. Some (named k q.1 (named_of qs))) z.0.0

pub pairs_told : (ps : List (List ℕ × Json)) (qs : List (List ℕ × Tree)) → AllByRecursion (λ p. IsText p.0) ps → AllZip IsNamed ps qs → pairs_meant read_number (items_of (pairs_of ps)) ≡ Some (named_of qs)
unfolding meant
pairs_told [] [] h z = refl
pairs_told [] (q ∷ qs) h z = elim z [ ]
pairs_told (p ∷ ps) [] h z = elim z [ ]
pairs_told (p ∷ ps) (q ∷ qs) h z =
    ap (option_and_then (λ k. option_and_then (λ t. option_map (named k t) (pairs_meant read_number (items_of (pairs_of ps)))) (meant read_number p.1))) (text_told p.0 h.0)
    ∙ ap (option_and_then (λ t. option_map (named p.0 t) (pairs_meant read_number (items_of (pairs_of ps))))) z.0.1
    ∙ ap (option_map (named p.0 q.1)) (pairs_told ps qs h.1 z.1) ∙ ap (λ k. Some (named k q.1 (named_of qs))) z.0.0

pub members_told : (ps : List (List ℕ × Json)) (qs : List (List ℕ × Tree)) → AllByRecursion (λ p. IsText p.0) ps → AllZip IsNamed ps qs → members_meant read_number (told_members ps) ≡ Some (named_of qs)
unfolding meant
members_told ps qs h z = go (are_keys (firsts ps))
  where
    go : (b : Bool) → members_meant read_number (if b then json.object (members_of ps) else listed (pairs_of ps)) ≡ Some (named_of qs)
    go true = keys_told ps qs z
    go false = pairs_told ps qs h z

pub no_true : (b : Bool) → not b ≡ true → b ≡ false
no_true false e = refl
no_true true e = let h : false ≡ true = e in cc

pub tag_is_name : (k : List ℕ) → begins_tag k ≡ false → tag_of k ≡ tag.name
unfolding tag_of
tag_is_name k e = ap (λ b. if b then tag_among words k else tag.name) e

pub plain_told : (ps : List (List ℕ × Json)) (qs : List (List ℕ × Tree)) → no_tags (firsts ps) ≡ true → AllZip IsNamed ps qs → plain_meant read_number (members_of ps) ≡ Some (named_of qs)
unfolding meant plain_by
plain_told [] [] h z = refl
plain_told [] (q ∷ qs) h z = elim z [ ]
plain_told (p ∷ ps) [] h z = elim z [ ]
plain_told (p ∷ ps) (q ∷ qs) h z =
    let n = and_parts (not (begins_tag p.0)) (no_tags (firsts ps)) h in
    ap (plain_by read_number p.0 p.1 (members_of ps)) (tag_is_name p.0 (no_true (begins_tag p.0) n.0))
    ∙ ap (option_and_then (λ x. option_map (named p.0 x) (plain_meant read_number (members_of ps)))) z.0.1
    ∙ ap (option_map (named p.0 q.1)) (plain_told ps qs n.1 z.1) ∙ ap (λ k. Some (named k q.1 (named_of qs))) z.0.0

-- The order of keys.

pub keys_rank : {X : Type 0} → IsStrictWeakOrder (λ (p q : List ℕ × X). comes_before p.0 q.0)
keys_rank = ranks_by nat_list_cmp_total (λ p. p.0)

insert_told : (p : List ℕ × Json) (q : List ℕ × Tree) (ps : List (List ℕ × Json)) (qs : List (List ℕ × Tree)) → IsNamed p q → AllZip IsNamed ps qs
    → AllZip IsNamed (insert_stable (λ x y. comes_before x.0 y.0) p ps) (insert_stable (λ x y. comes_before x.0 y.0) q qs)
insert_told p q [] [] m z = (m, z)
insert_told p q [] (y ∷ qs) m z = elim z [ ]
insert_told p q (x ∷ ps) [] m z = elim z [ ]
insert_told p q (x ∷ ps) (y ∷ qs) m z =
    let e : comes_before y.0 q.0 ≡ comes_before x.0 p.0 = sym (ap₂ comes_before z.0.0 m.0) in
    subst (λ t. AllZip IsNamed (insert_stable (λ x y. comes_before x.0 y.0) p (x ∷ ps)) (cond t (y ∷ insert_stable (λ x y. comes_before x.0 y.0) q qs) (q ∷ y ∷ qs))) (sym e) (go (comes_before x.0 p.0) (insert_told p q ps qs m z.1))
  where
    go : (t : Bool) → AllZip IsNamed (insert_stable (λ x y. comes_before x.0 y.0) p ps) (insert_stable (λ x y. comes_before x.0 y.0) q qs)
        → AllZip IsNamed (cond t (x ∷ insert_stable (λ x y. comes_before x.0 y.0) p ps) (p ∷ x ∷ ps)) (cond t (y ∷ insert_stable (λ x y. comes_before x.0 y.0) q qs) (q ∷ y ∷ qs))
    go true r = (z.0, r)
    go false r = (m, z)

pub sorted_told : (ps : List (List ℕ × Json)) (qs : List (List ℕ × Tree)) → AllZip IsNamed ps qs → AllZip IsNamed (by_key ps) (by_keys qs)
sorted_told [] [] z = tt
sorted_told [] (q ∷ qs) z = elim z [ ]
sorted_told (p ∷ ps) [] z = elim z [ ]
sorted_told (p ∷ ps) (q ∷ qs) z = insert_told p q (by_key ps) (by_keys qs) z.0 (sorted_told ps qs z.1)

-- keys that rise stand in their order
pub rising_sorted : (ps : List (List ℕ × Json)) → is_rising (firsts ps) ≡ true → by_key ps ≡ ps
rising_sorted [] r = refl
rising_sorted (p ∷ []) r = refl
rising_sorted (p ∷ q ∷ ps) r =
    let s = and_parts (comes_before p.0 q.0) (is_rising (firsts (q ∷ ps))) r in
    ap (insert_stable (λ x y. comes_before x.0 y.0) p) (rising_sorted (q ∷ ps) s.1)
    ∙ ap (λ t. cond t (q ∷ insert_stable (λ x y. comes_before x.0 y.0) p ps) (p ∷ q ∷ ps)) (keys_rank.one_way p q s.0)
