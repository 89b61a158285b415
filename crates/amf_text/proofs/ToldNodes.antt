-- What is told of a node, and then of each value of a whole graph, is meant.
use Rattle.std.proofs.Common.{◌≡◌, ℕ, zero, suc, ◌<◌, ◌^◌, Bool, true, false, if◌then◌else◌, cond, List, [], ◌∷◌, map, length, Some, refl, sym, ap, ap₂, ◌∙◌, inl, inr, arith}
use Rattle.std.specs.Prelude.{◌&&◌, not, option_map, option_and_then, codes, decimal, FitsSigned}
use Rattle.std.specs.Int.{w32}
use Rattle.std.specs.Fmt.{signed_decimal}
use Rattle.std.specs.List.{AllZip, AllByRecursion, zip}
use Rattle.std.proofs.lemmas.Bool.{and_parts}
use Rattle.json.specs.Json.{Json, no_items, no_members, item, member, Items, Members}
use Rattle.json.specs.Json as json
use Rattle.amf_wire.specs.Text.{IsText}
use Rattle.amf_wire.specs.WholeNumbers.{whole_of}
use Rattle.amf_graph.specs.declared.wrapped.Wrapped.{Wrapped}
use Rattle.amf_graph.specs.declared.wrapped.Wrapped.TheVariants.{ArrayCollection, ArrayList, ObjectProxy}
use Rattle.amf_graph.specs.Graph.{Leaf, undefined, null, boolean, integer, double, text, Value, leaf, node, Traits, Head, xml_document, date, array, object, wrapper, xml, bytes, ints, uints, doubles, values, dictionary, Node, Graph, node_at, IsLeaf, IsPattern, Fits, HasHeadTexts, HasTexts}
use Rattle.amf_graph.specs.ByName.{by_name}
use Rattle.amf_graph.specs.Reached.{Reached, at_root, inside, IsWhole, IsReachedValue}
use Rattle.amf_graph.proofs.Alls.{each_from}
use Rattle.amf_graph.proofs.NameOrder.{by_name_all}
use Rattle.amf_text.specs.Tags.{begins_tag, tag_of}
use Rattle.amf_text.specs.Scalars.{is_odd, read_number, Digits, AreDigits, told_text, told_pattern, told_double}
use Rattle.amf_text.specs.Told.{Way, told_leaf, told_names, listed, firsts, members_of, told_members, are_keys, no_tags, is_empty, is_simple, sealed_part, dynamic_part, told_object, told_array, told_body, told_node, label_of, called, in_table, told}
use Rattle.amf_text.specs.Meant.{Tree, said, body, mixed, Trees, no_trees, tree, Named, no_named, named, keys_of, trees_of, text_meant, whole_meant, fits_int, fits_uint, pattern_meant, each, list_meant, last_flag, both, open_class, simple_body, plain_object, Begun, traits_with, object_body, meant, items_meant, values_meant, members_meant, plain_meant, array_names, typed_meant, class_meant, begun_meant}
use Rattle.amf_text.specs.Meant as meaning
use Rattle.amf_text.specs.LeafLaws.{double_read}
use Rattle.amf_text.specs.ToldTrees.{trees, named_of, by_keys, is_listed, object_tree, body_tree, node_tree, read_leaf, tree_of, ToldIsMeant}
use Rattle.amf_text.proofs.Leaves.{pattern_back, double_back, odd_double_back, integer_back, text_said}
use Rattle.amf_text.proofs.Scalars.{unhex_back}
use Rattle.amf_text.proofs.CompleteMembers.{by_tag, tagged}
use Rattle.amf_text.proofs.ToldMembers.{IsMeant, IsNamed, text_bytes, text_test, text_told, items_told, members_told, plain_told, no_true, tag_is_name}
use Rattle.amf_text.proofs.ToldBodies.{each_back, int_back, uint_back, entries_told, named_keys, sealed_tree, sealed_told}

-- Objects.

zip_meant : (names : List (List ℕ)) (vs : List Json) (ts : List Tree) → AllZip IsMeant vs ts → AllZip IsNamed (zip names vs) (zip names ts)
zip_meant [] vs ts z = tt
zip_meant (x ∷ names) [] [] z = tt
zip_meant (x ∷ names) [] (t ∷ ts) z = elim z [ ]
zip_meant (x ∷ names) (v ∷ vs) [] z = elim z [ ]
zip_meant (x ∷ names) (v ∷ vs) (t ∷ ts) z = ((refl, z.0), zip_meant names vs ts z.1)

zip_texts : (names : List (List ℕ)) (vs : List Json) → AllByRecursion IsText names → AllByRecursion (λ p. IsText p.0) (zip names vs)
zip_texts [] vs h = tt
zip_texts (x ∷ names) [] h = tt
zip_texts (x ∷ names) (v ∷ vs) h = (h.0, zip_texts names vs h.1)

zip_keys : (names : List (List ℕ)) (ts : List Tree) → length ts ≡ length names → named_keys (zip names ts) ≡ names
zip_keys [] ts l = refl
zip_keys (x ∷ names) [] l = absurd (omega (arith, l))
zip_keys (x ∷ names) (t ∷ ts) l = ap (λ xs. x ∷ xs) (zip_keys names ts (omega (arith, l)))

keys_zip : (names : List (List ℕ)) (ts : List Tree) → length ts ≡ length names → keys_of (named_of (zip names ts)) ≡ names
keys_zip [] ts l = refl
keys_zip (x ∷ names) [] l = absurd (omega (arith, l))
keys_zip (x ∷ names) (t ∷ ts) l = ap (λ xs. x ∷ xs) (keys_zip names ts (omega (arith, l)))

trees_zip : (names : List (List ℕ)) (ts : List Tree) → length ts ≡ length names → trees_of (named_of (zip names ts)) ≡ trees ts
trees_zip [] [] l = refl
trees_zip [] (t ∷ ts) l = absurd (omega (arith, l))
trees_zip (x ∷ names) [] l = absurd (omega (arith, l))
trees_zip (x ∷ names) (t ∷ ts) l = ap (tree t) (trees_zip names ts (omega (arith, l)))

same_length : (vs : List Json) (ts : List Tree) → AllZip IsMeant vs ts → length ts ≡ length vs
same_length [] [] z = refl
same_length [] (t ∷ ts) z = elim z [ ]
same_length (v ∷ vs) [] z = elim z [ ]
same_length (v ∷ vs) (t ∷ ts) z = ap suc (same_length vs ts z.1)

sealed_zip : (o : Begun) (names : List (List ℕ)) (ts : List Tree) → length ts ≡ length names
    → sealed_tree o (zip names ts) ≡ (if is_listed names then mixed (traits_with o names) o.names (named_of (by_keys (zip names ts))) else body (object (traits_with o names)) o.names (trees ts))
sealed_zip o names ts l =
    ap (λ xs. if is_listed xs then mixed (traits_with o xs) o.names (named_of (by_keys (zip names ts))) else object_body o (named_of (zip names ts))) (zip_keys names ts l)
    ∙ ap₂ (λ xs rest. if is_listed names then mixed (traits_with o names) o.names (named_of (by_keys (zip names ts))) else body (object (traits_with o xs)) o.names rest) (keys_zip names ts l) (trees_zip names ts l)

begun_told : (o : Begun) (zs : List (List ℕ × Json)) (ys : List (List ℕ × Tree)) → AllByRecursion (λ p. IsText p.0) zs → AllZip IsNamed zs ys → begun_meant read_number o (sealed_part zs) ≡ Some (sealed_tree o ys)
unfolding meant tag_of
begun_told o = sealed_told (begun_meant read_number o) o refl (λ j. refl) (λ j ms. refl)

class_told : (c : List ℕ) (zs : List (List ℕ × Json)) (ys : List (List ℕ × Tree)) → AllByRecursion (λ p. IsText p.0) zs → AllZip IsNamed zs ys
    → class_meant read_number c (sealed_part zs) ≡ Some (sealed_tree (record { class = c; dynamic = false; names = no_named }) ys)
unfolding meant tag_of
class_told c = sealed_told (class_meant read_number c) (record { class = c; dynamic = false; names = no_named }) refl (λ j. refl) (λ j ms. refl)

behind_class : (c : List ℕ) (d : Bool) (ps : List (List ℕ × Json)) (qs : List (List ℕ × Tree)) (zs : List (List ℕ × Json)) (ys : List (List ℕ × Tree)) → AllByRecursion (λ p. IsText p.0) ps → cond d (Unit {0}) (ps ≡ [])
    → AllZip IsNamed ps qs → AllByRecursion (λ p. IsText p.0) zs → AllZip IsNamed zs ys
    → class_meant read_number c (dynamic_part d ps (sealed_part zs)) ≡ Some (sealed_tree (record { class = c; dynamic = d; names = named_of qs }) ys)
unfolding meant tag_of
behind_class c true ps qs zs ys h m z k s =
    ap (option_and_then (λ ns. begun_meant read_number (record { class = c; dynamic = true; names = ns }) (sealed_part zs))) (members_told ps qs h z)
    ∙ begun_told (record { class = c; dynamic = true; names = named_of qs }) zs ys k s
behind_class c false [] [] zs ys h m z k s = class_told c zs ys k s
behind_class c false [] (q ∷ qs) zs ys h m z k s = elim z [ ]
behind_class c false (p ∷ ps) qs zs ys h m z k s = cc

-- without a class

open_is : (c : List ℕ) (d : Bool) (s : List (List ℕ)) → is_empty c ≡ true → is_empty s ≡ true → d ≡ true → open_class ≡ record { class = c; dynamic = d; sealed = s }
open_is [] d [] a b e = ap (λ (x : Bool). record { class = []; dynamic = x; sealed = [] }) (sym e)
open_is (x ∷ c) d s a b e = let h : false ≡ true = a in cc
open_is [] d (x ∷ s) a b e = let h : false ≡ true = b in cc

plain_is : (ps : List (List ℕ × Json)) (qs : List (List ℕ × Tree)) → no_tags (firsts ps) ≡ true → AllZip IsNamed ps qs → meant read_number (json.object (members_of ps)) ≡ Some (plain_object (named_of qs))
unfolding meant
plain_is [] [] h z = refl
plain_is [] (q ∷ qs) h z = elim z [ ]
plain_is (p ∷ ps) [] h z = elim z [ ]
plain_is (p ∷ ps) (q ∷ qs) h z =
    let n = and_parts (not (begins_tag p.0)) (no_tags (firsts ps)) h in
    tagged read_number p.0 p.1 (members_of ps)
    ∙ ap (by_tag read_number p.0 p.1 (members_of ps)) (tag_is_name p.0 (no_true (begins_tag p.0) n.0))
    ∙ ap (option_and_then (λ t. option_map (λ ts. plain_object (named p.0 t ts)) (plain_meant read_number (members_of ps)))) z.0.1
    ∙ ap (option_map (λ ts. plain_object (named p.0 q.1 ts))) (plain_told ps qs n.1 z.1)
    ∙ ap (λ k. Some (plain_object (named k q.1 (named_of qs)))) z.0.0

-- nothing is sealed, so nothing is listed
none_sealed : (t : Traits) (qs : List (List ℕ × Tree)) (ts : List Tree) → open_class ≡ t → length ts ≡ length t.sealed → plain_object (named_of qs) ≡ object_tree t qs ts
none_sealed t qs ts e l =
    ap (λ rest. body (object open_class) (named_of qs) rest) (no_values ts (l ∙ ap (λ (u : Traits). length u.sealed) (sym e)))
    ∙ ap (λ (u : Traits). object_tree u qs ts) e
  where
    no_values : (ts : List Tree) → length ts ≡ 0 → no_trees ≡ trees ts
    no_values [] l = refl
    no_values (t ∷ ts) l = absurd (omega (arith, l))

object_told : (t : Traits) (ps : List (List ℕ × Json)) (qs : List (List ℕ × Tree)) (vs : List Json) (ts : List Tree) → IsText t.class → AllByRecursion IsText t.sealed → AllByRecursion (λ p. IsText p.0) ps
    → length vs ≡ length t.sealed → cond t.dynamic (Unit {0}) (ps ≡ []) → AllZip IsNamed ps qs → AllZip IsMeant vs ts → meant read_number (told_object t ps vs) ≡ Some (object_tree t qs ts)
unfolding meant tag_of
object_told t ps qs vs ts c s h l m z k = go (is_simple t ps) refl
  where
    long : length ts ≡ length t.sealed
    long = same_length vs ts k ∙ l

    go : (b : Bool) → is_simple t ps ≡ b
        → meant read_number (if b then json.object (members_of ps) else json.object (member (codes "$class") (told_text t.class) (dynamic_part t.dynamic ps (sealed_part (zip t.sealed vs))))) ≡ Some (object_tree t qs ts)
    go true e =
        let p = and_parts (is_empty t.class) (is_empty t.sealed && (t.dynamic && (are_keys (firsts ps) && no_tags (firsts ps)))) e in
        let q = and_parts (is_empty t.sealed) (t.dynamic && (are_keys (firsts ps) && no_tags (firsts ps))) p.1 in
        let r = and_parts t.dynamic (are_keys (firsts ps) && no_tags (firsts ps)) q.1 in
        let u = and_parts (are_keys (firsts ps)) (no_tags (firsts ps)) r.1 in
        plain_is ps qs u.1 z ∙ ap (λ x. Some x) (none_sealed t qs ts (open_is t.class t.dynamic t.sealed p.0 q.0 r.0) long)
    go false e =
        ap (option_and_then (λ x. class_meant read_number x (dynamic_part t.dynamic ps (sealed_part (zip t.sealed vs))))) (text_told t.class c)
        ∙ behind_class t.class t.dynamic ps qs (zip t.sealed vs) (zip t.sealed ts) h m z (zip_texts t.sealed vs s) (zip_meant t.sealed vs ts k)
        ∙ ap (λ x. Some x) (sealed_zip (record { class = t.class; dynamic = t.dynamic; names = named_of qs }) t.sealed ts long)

-- Arrays.

array_told : (ps : List (List ℕ × Json)) (qs : List (List ℕ × Tree)) (vs : List Json) (ts : List Tree) → AllByRecursion (λ p. IsText p.0) ps → AllZip IsNamed ps qs → AllZip IsMeant vs ts
    → meant read_number (told_array ps vs) ≡ Some (body array (named_of qs) (trees ts))
unfolding meant tag_of
array_told [] [] vs ts h z k = ap (option_map (body array no_named)) (items_told vs ts k)
array_told [] (q ∷ qs) vs ts h z k = elim z [ ]
array_told (p ∷ ps) [] vs ts h z k = elim z [ ]
array_told (p ∷ ps) (q ∷ qs) vs ts h z k =
    ap (option_and_then (λ x. array_names read_number x (member (codes "$names") (told_members (p ∷ ps)) no_members))) (items_told vs ts k)
    ∙ ap (option_map (λ ns. body array ns (trees ts))) (members_told (p ∷ ps) (q ∷ qs) h z)

-- A node.

module _ (digits : Digits) (d : AreDigits digits) (tell : Value → Json) (tr : Value → Tree) where
  abbrev told_pairs_of : List (List ℕ × Value) → List (List ℕ × Json)
  told_pairs_of names = told_names tell (by_name names)

  abbrev tree_pairs : List (List ℕ × Value) → List (List ℕ × Tree)
  tree_pairs names = map (λ p. (p.0, tr p.1)) (by_name names)

  -- a node with nothing in it
  empty_body : (h : Head) (names : List (List ℕ × Value)) (vs : List Value) → names ≡ [] → vs ≡ [] → body h no_named no_trees ≡ body h (named_of (tree_pairs names)) (trees (map tr vs))
  empty_body h names vs e f = ap₂ (λ ns ws. body h (named_of (tree_pairs ns)) (trees (map tr ws))) (sym e) (sym f)

  unnamed : (h : Head) (names : List (List ℕ × Value)) (ts : Trees) → names ≡ [] → body h no_named ts ≡ body h (named_of (tree_pairs names)) ts
  unnamed h names ts e = ap (λ ns. body h (named_of (tree_pairs ns)) ts) (sym e)

  one_told : (c : Wrapped) (vs : List Value) → length vs ≡ 1 → AllZip IsMeant (map tell vs) (map tr vs) → meant read_number (told_body digits (wrapper c) [] (map tell vs)) ≡ Some (body (wrapper c) no_named (trees (map tr vs)))
  unfolding meant tag_of told_body
  one_told c [] l z = absurd (omega (arith, l))
  one_told c (v ∷ w ∷ vs) l z = absurd (omega (arith, l))
  one_told ArrayCollection (v ∷ []) l z = ap (option_map (λ t. body (wrapper ArrayCollection) no_named (tree t no_trees))) z.0
  one_told ArrayList (v ∷ []) l z = ap (option_map (λ t. body (wrapper ArrayList) no_named (tree t no_trees))) z.0
  one_told ObjectProxy (v ∷ []) l z = ap (option_map (λ t. body (wrapper ObjectProxy) no_named (tree t no_trees))) z.0

  length_told : (vs : List Value) → length (map tell vs) ≡ length vs
  length_told [] = refl
  length_told (v ∷ vs) = ap suc (length_told vs)

  no_names : (b : Bool) (names : List (List ℕ × Value)) → cond b (Unit {0}) (names ≡ []) → cond b (Unit {0}) (told_pairs_of names ≡ [])
  no_names true names h = tt
  no_names false names h = ap told_pairs_of h

  head_told : (h : Head) (names : List (List ℕ × Value)) (vs : List Value) → HasHeadTexts h → AllByRecursion (λ p. IsText p.0) (told_pairs_of names) → Fits h names vs
      → AllZip IsNamed (told_pairs_of names) (tree_pairs names) → AllZip IsMeant (map tell vs) (map tr vs)
      → meant read_number (told_body digits h (told_pairs_of names) (map tell vs)) ≡ Some (body_tree h (tree_pairs names) (map tr vs))
  unfolding meant tag_of told_body
  head_told (xml_document x) names vs t n f z k = ap (option_map (λ y. simple_body (xml_document y))) (text_told x f.0) ∙ ap (λ y. Some y) (empty_body (xml_document x) names vs f.1 f.2)
  head_told (date p) names vs t n f z k = ap (option_map (λ y. simple_body (date y))) (pattern_back digits p d f.0) ∙ ap (λ y. Some y) (empty_body (date p) names vs f.1 f.2)
  head_told array names vs t n f z k = array_told (told_pairs_of names) (tree_pairs names) (map tell vs) (map tr vs) n z k
  head_told (object o) names vs t n f z k =
      object_told o (told_pairs_of names) (tree_pairs names) (map tell vs) (map tr vs) t.0 t.1 n (length_told vs ∙ f.0) (no_names o.dynamic names f.1) z k
  head_told (wrapper c) names vs t n f z k = one_told c vs f.1 k ∙ ap (λ y. Some y) (unnamed (wrapper c) names (trees (map tr vs)) f.0)
  head_told (xml x) names vs t n f z k = ap (option_map (λ y. simple_body (xml y))) (text_told x f.0) ∙ ap (λ y. Some y) (empty_body (xml x) names vs f.1 f.2)
  head_told (bytes x) names vs t n f z k = ap (option_map (λ y. simple_body (bytes y))) (unhex_back x f.0) ∙ ap (λ y. Some y) (empty_body (bytes x) names vs f.1 f.2)
  head_told (ints false ns) names vs t n f z k =
      ap (option_map (λ y. simple_body (ints false y))) (each_back (FitsSigned w32) (λ i. option_and_then fits_int (whole_meant read_number i)) (λ i. json.number (signed_decimal i)) int_back ns f.0)
      ∙ ap (λ y. Some y) (empty_body (ints false ns) names vs f.1 f.2)
  head_told (ints true ns) names vs t n f z k =
      ap (option_map (λ y. simple_body (ints true y))) (each_back (FitsSigned w32) (λ i. option_and_then fits_int (whole_meant read_number i)) (λ i. json.number (signed_decimal i)) int_back ns f.0)
      ∙ ap (λ y. Some y) (empty_body (ints true ns) names vs f.1 f.2)
  head_told (uints false ns) names vs t n f z k =
      ap (option_map (λ y. simple_body (uints false y))) (each_back (λ i. i < 2 ^ 32) (λ i. option_and_then fits_uint (whole_meant read_number i)) (λ i. json.number (decimal i)) uint_back ns f.0)
      ∙ ap (λ y. Some y) (empty_body (uints false ns) names vs f.1 f.2)
  head_told (uints true ns) names vs t n f z k =
      ap (option_map (λ y. simple_body (uints true y))) (each_back (λ i. i < 2 ^ 32) (λ i. option_and_then fits_uint (whole_meant read_number i)) (λ i. json.number (decimal i)) uint_back ns f.0)
      ∙ ap (λ y. Some y) (empty_body (uints true ns) names vs f.1 f.2)
  head_told (doubles false ns) names vs t n f z k =
      ap (λ o. option_map (λ (y : List ℕ × Bool). simple_body (doubles y.1 y.0)) (both o (Some false))) (each_back IsPattern (pattern_meant read_number) (told_pattern digits) (λ p b. pattern_back digits p d b) ns f.0)
      ∙ ap (λ y. Some y) (empty_body (doubles false ns) names vs f.1 f.2)
  head_told (doubles true ns) names vs t n f z k =
      ap (λ o. option_map (λ (y : List ℕ × Bool). simple_body (doubles y.1 y.0)) (both o (Some true))) (each_back IsPattern (pattern_meant read_number) (told_pattern digits) (λ p b. pattern_back digits p d b) ns f.0)
      ∙ ap (λ y. Some y) (empty_body (doubles true ns) names vs f.1 f.2)
  head_told (values false x) names vs t n f z k =
      ap (option_and_then (λ y. typed_meant read_number false y (member (codes "$values") (listed (map tell vs)) no_members))) (text_told x t)
      ∙ ap (option_map (body (values false x) no_named)) (items_told (map tell vs) (map tr vs) k) ∙ ap (λ y. Some y) (unnamed (values false x) names (trees (map tr vs)) f)
  head_told (values true x) names vs t n f z k =
      ap (option_and_then (λ y. typed_meant read_number true y (member (codes "$values") (listed (map tell vs)) no_members))) (text_told x t)
      ∙ ap (option_map (body (values true x) no_named)) (items_told (map tell vs) (map tr vs) k) ∙ ap (λ y. Some y) (unnamed (values true x) names (trees (map tr vs)) f)
  head_told (dictionary false) names vs t n f z k =
      ap (λ o. option_map (λ (y : Trees × Bool). body (dictionary y.1) no_named y.0) (both o (Some false))) (entries_told f.1 (map tell vs) (map tr vs) (length_told vs ∙ f.2) k)
      ∙ ap (λ y. Some y) (unnamed (dictionary false) names (trees (map tr vs)) f.0)
  head_told (dictionary true) names vs t n f z k =
      ap (λ o. option_map (λ (y : Trees × Bool). body (dictionary y.1) no_named y.0) (both o (Some true))) (entries_told f.1 (map tell vs) (map tr vs) (length_told vs ∙ f.2) k)
      ∙ ap (λ y. Some y) (unnamed (dictionary true) names (trees (map tr vs)) f.0)

  values_zip : (vs : List Value) → AllByRecursion (λ v. IsMeant (tell v) (tr v)) vs → AllZip IsMeant (map tell vs) (map tr vs)
  values_zip [] h = tt
  values_zip (v ∷ vs) h = (h.0, values_zip vs h.1)

  names_zip : (ps : List (List ℕ × Value)) → AllByRecursion (λ p. IsMeant (tell p.1) (tr p.1)) ps → AllZip IsNamed (told_names tell ps) (map (λ p. (p.0, tr p.1)) ps)
  names_zip [] h = tt
  names_zip (p ∷ ps) h = ((refl, h.0), names_zip ps h.1)

  names_texts : (ps : List (List ℕ × Value)) → AllByRecursion (λ p. IsText p.0) ps → AllByRecursion (λ p. IsText p.0) (told_names tell ps)
  names_texts [] h = tt
  names_texts (p ∷ ps) h = (h.0, names_texts ps h.1)

  node_told : (n : Node) → HasTexts n → Fits n.head n.names n.values → AllByRecursion (λ p. IsMeant (tell p.1) (tr p.1)) n.names → AllByRecursion (λ v. IsMeant (tell v) (tr v)) n.values
      → meant read_number (told_body digits n.head (told_names tell (by_name n.names)) (map tell n.values)) ≡ Some (node_tree tr n)
  node_told n t f ps vs =
      head_told n.head n.names n.values t.head (names_texts (by_name n.names) (by_name_all (λ p. IsText p.0) n.names t.names)) f
      (names_zip (by_name n.names) (by_name_all (λ p. IsMeant (tell p.1) (tr p.1)) n.names ps)) (values_zip n.values vs)

-- Leaves.

leaf_told : (w : Way) → AreDigits w.digits → (x : Leaf) → IsLeaf x → meant read_number (told_leaf w x) ≡ Some (said (read_leaf w x))
unfolding meant tag_of
leaf_told w d undefined h = refl
leaf_told w d null h = refl
leaf_told w d (boolean b) h = refl
leaf_told w d (integer n) h = integer_back n h
leaf_told w d (text x) h = text_said x (text_bytes x h) (text_test x h)
leaf_told w d (double p) h = go (is_odd p) refl
  where
    go : (b : Bool) → is_odd p ≡ b → meant read_number (told_double w.digits w.bare p) ≡ Some (said (read_leaf w (double p)))
    go true e = odd_double_back w.digits w.bare p d h e ∙ ap (λ b. Some (said (if b then double p else double_read w.bare p (whole_of p)))) (sym e)
    go false e = double_back w.digits w.bare p d h e ∙ ap (λ b. Some (said (if b then double p else double_read w.bare p (whole_of p)))) (sym e)

-- Values.

reached : (g : Graph) (i : ℕ) → IsReachedValue g (node i) → Reached g i
reached g i (inl e) = at_root e
reached g i (inr (j, r, h)) = inside j r h

called_told : (w : Way) (i : ℕ) → meant read_number (called w i) ≡ Some (meaning.called (label_of w i))
unfolding meant tag_of
called_told w i = refl

-- a node that is reached, where what is told of the reached values is meant
node_meant : (w : Way) (g : Graph) (n i : ℕ) → AreDigits w.digits → IsWhole g → Reached g i → ((v : Value) → IsReachedValue g v → meant read_number (told w g n v) ≡ Some (tree_of w g n v))
    → meant read_number (told_node w (told w g n) (node_at g i)) ≡ Some (node_tree (tree_of w g n) (node_at g i))
node_meant w g n i d whole r more =
    node_told w.digits d (told w g n) (tree_of w g n) (node_at g i) (whole.texts i r) (whole.fits i r)
    (each_from (λ (p : List ℕ × Value). IsMeant (told w g n p.1) (tree_of w g n p.1)) (node_at g i).names (λ k p e. more p.1 (inr (i, r, inr (k, p.0, e)))))
    (each_from (λ v. IsMeant (told w g n v) (tree_of w g n v)) (node_at g i).values (λ k v e. more v (inr (i, r, inl (k, e)))))

pub told_meant : ToldIsMeant
unfolding told tree_of
told_meant w g n (leaf x) d whole r = leaf_told w d x (whole.values (leaf x) r)
told_meant w g zero (node i) d whole r = called_told w i
told_meant w g (suc n) (node i) d whole r = go (in_table w i) (λ v s. told_meant w g n v d whole s)
  where
    go : (b : Bool) → ((v : Value) → IsReachedValue g v → meant read_number (told w g n v) ≡ Some (tree_of w g n v))
        → meant read_number (if b then called w i else told_node w (told w g n) (node_at g i)) ≡ Some (if b then meaning.called (label_of w i) else node_tree (tree_of w g n) (node_at g i))
    go true more = called_told w i
    go false more = node_meant w g n i d whole (reached g i r) more

-- a node of the table
pub node_told_at : (w : Way) (g : Graph) (n i : ℕ) → AreDigits w.digits → IsWhole g → Reached g i → meant read_number (told_node w (told w g n) (node_at g i)) ≡ Some (node_tree (tree_of w g n) (node_at g i))
node_told_at w g n i d whole r = node_meant w g n i d whole r (λ v s. told_meant w g n v d whole s)

-- the named pairs of a node
pub pairs_told_at : (w : Way) (g : Graph) (n i : ℕ) → AreDigits w.digits → IsWhole g → Reached g i
    → members_meant read_number (told_members (told_names (told w g n) (by_name (node_at g i).names))) ≡ Some (named_of (map (λ p. (p.0, tree_of w g n p.1)) (by_name (node_at g i).names)))
pairs_told_at w g n i d whole r =
    members_told (told_names (told w g n) (by_name (node_at g i).names)) (map (λ p. (p.0, tree_of w g n p.1)) (by_name (node_at g i).names))
    (names_texts w.digits d (told w g n) (tree_of w g n) (by_name (node_at g i).names) (by_name_all (λ p. IsText p.0) (node_at g i).names (whole.texts i r).names))
    (names_zip w.digits d (told w g n) (tree_of w g n) (by_name (node_at g i).names)
    (by_name_all (λ p. IsMeant (told w g n p.1) (tree_of w g n p.1)) (node_at g i).names
    (each_from (λ (p : List ℕ × Value). IsMeant (told w g n p.1) (tree_of w g n p.1)) (node_at g i).names (λ k p e. told_meant w g n p.1 d whole (inr (i, r, inr (k, p.0, e)))))))
