-- Trees that JSON means have as many parts as their kinds want.
use Rattle.std.proofs.Common.{◌≡◌, ℕ, suc, ◌*◌, Bool, true, false, List, length, Option, Some, refl, ap, subst, arith}
use Rattle.std.specs.Prelude.{option_map, option_and_then, codes, bytes_eq}
use Rattle.std.proofs.lemmas.Option.{same_Some}
use Rattle.json.specs.Json.{Json, no_items, no_members, item, member, Items, Members}
use Rattle.json.specs.Json as json
use Rattle.amf_wire.specs.WholeNumbers.{whole_of}
use Rattle.amf_graph.specs.declared.wrapped.Wrapped.TheVariants.{ArrayCollection, ArrayList, ObjectProxy}
use Rattle.amf_graph.specs.declared.wrapped.Wrapped.{Wrapped}
use Rattle.amf_graph.specs.Graph as graph
use Rattle.amf_graph.specs.Graph.{Head}
use Rattle.amf_text.specs.Tags.{Tag, tag_of}
use Rattle.amf_text.specs.Tags as tag
use Rattle.amf_text.specs.Scalars.{Reads}
use Rattle.amf_text.specs.Told.{is_rising}
use Rattle.amf_text.specs.Meant.{Tree, said, called, body, mixed, Trees, no_trees, tree, Named, named, no_named, keys_of, trees_of, if_text, bytes_meant, text_meant, pattern_meant, whole_meant, fits_int, fits_uint, flag_meant, last_flag, true_meant, label_meant, list_meant, class_names, are_those, Begun, both, if_last, plain_object, simple_body, as_integer, entry, mixed_body, traits_with, object_body, rising_body, meant, items_meant, values_meant, members_meant, keys_meant, pairs_meant, entries_meant, dictionary_meant, plain_meant, object_meant, array_names, fixed_meant, typed_meant, class_meant, begun_meant, sealed_meant, mixed_meant}
use Rattle.amf_text.proofs.Goals.{no_answer, and_then_is, map_is}
use Rattle.amf_text.proofs.Asked.{if_is, last_is, both_is}
use Rattle.amf_text.proofs.Complete.{truth_is, label_is}
use Rattle.amf_text.proofs.CompleteMembers.{by_tag, plain_by, fixed_by, class_by, begun_by, not_dynamic, is_dynamic}

abbrev pub how_many : Trees → ℕ
how_many no_trees = 0
how_many (tree t ts) = suc (how_many ts)

abbrev pub NoneUnless : Bool → Named → Type 0
NoneUnless true ns = Unit {0}
NoneUnless false ns = ns ≡ no_named

abbrev pub AreParts : Head → Named → Trees → Type 0
AreParts graph.array ns vs = Unit {0}
AreParts (graph.object t) ns vs = (how_many vs ≡ length t.sealed) × NoneUnless t.dynamic ns
AreParts (graph.wrapper c) ns vs = (ns ≡ no_named) × (how_many vs ≡ 1)
AreParts (graph.values f x) ns vs = ns ≡ no_named
AreParts (graph.dictionary f) ns vs = (ns ≡ no_named) × (n : ℕ) × (how_many vs ≡ 2 * n)
AreParts _ ns vs = (ns ≡ no_named) × (vs ≡ no_trees)

abbrev mutual
  pub TreeFits : Tree → Type 0
  TreeFits (said x) = Unit {0}
  TreeFits (called x) = Unit {0}
  TreeFits (body h ns vs) = AreParts h ns vs × NamedFit ns × TreesFit vs
  TreeFits (mixed t ns ss) = NoneUnless t.dynamic ns × NamedFit ns × NamedFit ss

  pub TreesFit : Trees → Type 0
  TreesFit no_trees = Unit {0}
  TreesFit (tree t ts) = TreeFits t × TreesFit ts

  pub NamedFit : Named → Type 0
  NamedFit no_named = Unit {0}
  NamedFit (named x t ts) = TreeFits t × NamedFit ts

abbrev pub AreEven : Trees → Type 0
AreEven ts = (n : ℕ) × (how_many ts ≡ 2 * n)

abbrev OfClass : Begun → Type 0
OfClass o = NoneUnless o.dynamic o.names × NamedFit o.names

sealed_many : (ss : Named) → how_many (trees_of ss) ≡ length (keys_of ss)
sealed_many no_named = refl
sealed_many (named x t ts) = ap suc (sealed_many ts)

sealed_fit : (ss : Named) → NamedFit ss → TreesFit (trees_of ss)
sealed_fit no_named f = tt
sealed_fit (named x t ts) f = (f.0, sealed_fit ts f.1)

object_fits : (o : Begun) (ss : Named) → OfClass o → NamedFit ss → TreeFits (object_body o ss)
object_fits o ss c f = ((sealed_many ss, c.0), c.1, sealed_fit ss f)

module _ (reads : Reads) where
  abbrev ValueFits : Json → Type 0
  ValueFits j = (x : Tree) → meant reads j ≡ Some x → TreeFits x

  abbrev AllValues : Items → Type 0
  AllValues no_items = Unit {0}
  AllValues (item j js) = ValueFits j × AllValues js

  abbrev Inside : Json → Type 0
  Inside (json.array js) = AllValues js
  Inside _ = Unit {0}

  abbrev Keys : Json → Type 0
  Keys (json.object ms) = (x : Named) → keys_meant reads ms ≡ Some x → NamedFit x
  Keys _ = Unit {0}

  pub record OfJson (j : Json) : Type 0 where
    pub value : ValueFits j
    pub list : (x : Trees) → values_meant reads j ≡ Some x → TreesFit x
    pub members : (x : Named) → members_meant reads j ≡ Some x → NamedFit x
    pub dictionary : (x : Trees) → dictionary_meant reads j ≡ Some x → TreesFit x × AreEven x
    pub sealed : (o : Begun) → OfClass o → (x : Tree) → sealed_meant reads o j ≡ Some x → TreeFits x
    pub keys : Keys j
    pub inside : Inside j

  pub record OfItems (js : Items) : Type 0 where
    pub items : (x : Trees) → items_meant reads js ≡ Some x → TreesFit x
    pub pairs : (x : Named) → pairs_meant reads js ≡ Some x → NamedFit x
    pub entries : (x : Trees) → entries_meant reads js ≡ Some x → TreesFit x × AreEven x
    pub values : AllValues js

  pub record OfMembers (ms : Members) : Type 0 where
    pub object : (x : Tree) → object_meant reads ms ≡ Some x → TreeFits x
    pub plain : (x : Named) → plain_meant reads ms ≡ Some x → NamedFit x
    pub keys : (x : Named) → keys_meant reads ms ≡ Some x → NamedFit x
    pub names : (vs : Trees) → TreesFit vs → (x : Tree) → array_names reads vs ms ≡ Some x → TreeFits x
    pub fixed : (b : Bool) (x : Tree) → fixed_meant reads b ms ≡ Some x → TreeFits x
    pub typed : (b : Bool) (c : List ℕ) (x : Tree) → typed_meant reads b c ms ≡ Some x → TreeFits x
    pub class : (c : List ℕ) (x : Tree) → class_meant reads c ms ≡ Some x → TreeFits x
    pub begun : (o : Begun) → OfClass o → (x : Tree) → begun_meant reads o ms ≡ Some x → TreeFits x
    pub mixed : (o : Begun) → OfClass o → (names : List (List ℕ)) (x : Tree) → mixed_meant reads o names ms ≡ Some x → TreeFits x

  -- Values.

  of_null : OfJson json.null
  unfolding meant
  of_null = record {
    value = λ x e. subst TreeFits (same_Some (said graph.null) x e) tt;
    list = λ x e. no_answer x e;
    members = λ x e. no_answer x e;
    dictionary = λ x e. no_answer x e;
    sealed = λ o c x e. no_answer x e;
    keys = tt;
    inside = tt;
  }

  of_boolean : (b : Bool) → OfJson (json.boolean b)
  unfolding meant
  of_boolean b = record {
    value = λ x e. subst TreeFits (same_Some (said (graph.boolean b)) x e) tt;
    list = λ x e. no_answer x e;
    members = λ x e. no_answer x e;
    dictionary = λ x e. no_answer x e;
    sealed = λ o c x e. no_answer x e;
    keys = tt;
    inside = tt;
  }

  of_string : (s : List ℕ) → OfJson (json.string s)
  unfolding meant
  of_string s = record {
    value = λ x e. subst TreeFits (same_Some (said (graph.text s)) x e) tt;
    list = λ x e. no_answer x e;
    members = λ x e. no_answer x e;
    dictionary = λ x e. no_answer x e;
    sealed = λ o c x e. no_answer x e;
    keys = tt;
    inside = tt;
  }

  number_said : ℕ → Tree
  number_said p = said (as_integer p (whole_of p))

  of_number : (s : List ℕ) → OfJson (json.number s)
  unfolding meant number_said
  of_number s = record {
    value = λ x e. let h = map_is number_said (reads s) x e in subst TreeFits h.2 tt;
    list = λ x e. no_answer x e;
    members = λ x e. no_answer x e;
    dictionary = λ x e. no_answer x e;
    sealed = λ o c x e. no_answer x e;
    keys = tt;
    inside = tt;
  }

  of_array : (js : Items) → OfItems js → OfJson (json.array js)
  unfolding meant
  of_array js i = record {
    value = λ x e. let h = map_is (body graph.array no_named) (items_meant reads js) x e in subst TreeFits h.2 (tt, tt, i.items h.0 h.1);
    list = i.items;
    members = i.pairs;
    dictionary = i.entries;
    sealed = λ o c x e. let h = map_is (object_body o) (pairs_meant reads js) x e in subst TreeFits h.2 (object_fits o h.0 c (i.pairs h.0 h.1));
    keys = tt;
    inside = i.values;
  }

  of_object : (ms : Members) → OfMembers ms → OfJson (json.object ms)
  unfolding meant
  of_object ms m = record {
    value = m.object;
    list = λ x e. no_answer x e;
    members = m.keys;
    dictionary = λ x e. no_answer x e;
    sealed = λ o c x e.
        let h = and_then_is (rising_body o) (keys_meant reads ms) x e in
        let r = if_is (is_rising (keys_of h.0)) (Some (object_body o h.0)) x h.2 in
        subst TreeFits (same_Some (object_body o h.0) x r.1) (object_fits o h.0 c (m.keys h.0 h.1));
    keys = m.keys;
    inside = tt;
  }

  -- Items.

  of_no_items : OfItems no_items
  unfolding meant
  of_no_items = record {
    items = λ x e. subst TreesFit (same_Some no_trees x e) tt;
    pairs = λ x e. subst NamedFit (same_Some no_named x e) tt;
    entries = λ x e. subst (λ y. TreesFit y × AreEven y) (same_Some no_trees x e) (tt, (0, refl));
    values = tt;
  }

  pair_item : (j : Json) (js : Items) → Inside j → ((x : Named) → pairs_meant reads js ≡ Some x → NamedFit x) → (x : Named) → pairs_meant reads (item j js) ≡ Some x → NamedFit x
  unfolding meant
  pair_item (json.array (item k (item v no_items))) js i rest x e =
      let h = and_then_is (λ y. option_and_then (λ t. option_map (named y t) (pairs_meant reads js)) (meant reads v)) (text_meant k) x e in
      let r = and_then_is (λ t. option_map (named h.0 t) (pairs_meant reads js)) (meant reads v) x h.2 in
      let m = map_is (named h.0 r.0) (pairs_meant reads js) x r.2 in
      subst NamedFit m.2 (i.1.0 r.0 r.1, rest m.0 m.1)
  pair_item (json.array no_items) js i rest x e = no_answer x e
  pair_item (json.array (item k no_items)) js i rest x e = no_answer x e
  pair_item (json.array (item k (item v (item w ws)))) js i rest x e = no_answer x e
  pair_item json.null js i rest x e = no_answer x e
  pair_item (json.boolean b) js i rest x e = no_answer x e
  pair_item (json.number s) js i rest x e = no_answer x e
  pair_item (json.string s) js i rest x e = no_answer x e
  pair_item (json.object ms) js i rest x e = no_answer x e

  two_more : (a b : Tree) (ts : Trees) → AreEven ts → AreEven (entry a b ts)
  two_more a b ts e = let h = e.1 in (suc e.0, omega (arith, h))

  entry_item : (j : Json) (js : Items) → Inside j → ((x : Trees) → entries_meant reads js ≡ Some x → TreesFit x × AreEven x) → (x : Trees) → entries_meant reads (item j js) ≡ Some x → TreesFit x × AreEven x
  unfolding meant
  entry_item (json.array (item k (item v no_items))) js i rest x e =
      let h = and_then_is (λ a. option_and_then (λ b. option_map (entry a b) (entries_meant reads js)) (meant reads v)) (meant reads k) x e in
      let r = and_then_is (λ b. option_map (entry h.0 b) (entries_meant reads js)) (meant reads v) x h.2 in
      let m = map_is (entry h.0 r.0) (entries_meant reads js) x r.2 in
      let s = rest m.0 m.1 in
      subst (λ y. TreesFit y × AreEven y) m.2 ((i.0 h.0 h.1, (i.1.0 r.0 r.1, s.0)), two_more h.0 r.0 m.0 s.1)
  entry_item (json.array no_items) js i rest x e = no_answer x e
  entry_item (json.array (item k no_items)) js i rest x e = no_answer x e
  entry_item (json.array (item k (item v (item w ws)))) js i rest x e = no_answer x e
  entry_item json.null js i rest x e = no_answer x e
  entry_item (json.boolean b) js i rest x e = no_answer x e
  entry_item (json.number s) js i rest x e = no_answer x e
  entry_item (json.string s) js i rest x e = no_answer x e
  entry_item (json.object ms) js i rest x e = no_answer x e

  of_item : (j : Json) (js : Items) → OfJson j → OfItems js → OfItems (item j js)
  unfolding meant
  of_item j js o i = record {
    items = λ x e.
        let h = and_then_is (λ t. option_map (tree t) (items_meant reads js)) (meant reads j) x e in
        let r = map_is (tree h.0) (items_meant reads js) x h.2 in
        subst TreesFit r.2 (o.value h.0 h.1, i.items r.0 r.1);
    pairs = pair_item j js o.inside i.pairs;
    entries = entry_item j js o.inside i.entries;
    values = (o.value, i.values);
  }

  -- Members.

  of_no_members : OfMembers no_members
  unfolding meant
  of_no_members = record {
    object = λ x e. subst TreeFits (same_Some (plain_object no_named) x e) ((refl, tt), tt, tt);
    plain = λ x e. subst NamedFit (same_Some no_named x e) tt;
    keys = λ x e. subst NamedFit (same_Some no_named x e) tt;
    names = λ vs f x e. no_answer x e;
    fixed = λ b x e. no_answer x e;
    typed = λ b c x e. no_answer x e;
    class = λ c x e. subst TreeFits (same_Some (object_body (not_dynamic reads c) no_named) x e) ((refl, refl), tt, tt);
    begun = λ o c x e. subst TreeFits (same_Some (object_body o no_named) x e) (object_fits o no_named c tt);
    mixed = λ o c names x e. no_answer x e;
  }

  -- a node without parts
  simple : {X : Type 0} (h : X → Head) (ms : Members) (o : Option X) (x : Tree) → ((y : X) → AreParts (h y) no_named no_trees) → if_last ms (option_map (λ y. simple_body (h y)) o) ≡ Some x → TreeFits x
  simple h ms o x is e =
      let l = last_is ms (option_map (λ y. simple_body (h y)) o) x e in
      let m = map_is (λ y. simple_body (h y)) o x l.1 in
      subst TreeFits m.2 (is m.0, tt, tt)

  wraps : (c : Wrapped) (j : Json) (ms : Members) → OfJson j → (x : Tree) → if_last ms (option_map (λ t. body (graph.wrapper c) no_named (tree t no_trees)) (meant reads j)) ≡ Some x → TreeFits x
  wraps c j ms o x e =
      let f = λ (t : Tree). body (graph.wrapper c) no_named (tree t no_trees) in
      let l = last_is ms (option_map f (meant reads j)) x e in
      let m = map_is f (meant reads j) x l.1 in
      subst TreeFits m.2 ((refl, refl), tt, (o.value m.0 m.1, tt))

  by_first : (k : List ℕ) (j : Json) (ms : Members) → OfJson j → OfMembers ms → (t : Tag) (x : Tree) → by_tag reads k j ms t ≡ Some x → TreeFits x
  by_first k j ms o m tag.name x e =
      let h = and_then_is (λ t. option_map (λ ts. plain_object (named k t ts)) (plain_meant reads ms)) (meant reads j) x e in
      let r = map_is (λ ts. plain_object (named k h.0 ts)) (plain_meant reads ms) x h.2 in
      subst TreeFits r.2 ((refl, tt), (o.value h.0 h.1, m.plain r.0 r.1), tt)
  by_first k j ms o m tag.undefined x e =
      let l = last_is ms (true_meant j) x e in
      subst TreeFits (truth_is j x l.1) tt
  by_first k j ms o m tag.double x e =
      let l = last_is ms (option_map (λ p. said (graph.double p)) (pattern_meant reads j)) x e in
      let h = map_is (λ p. said (graph.double p)) (pattern_meant reads j) x l.1 in
      subst TreeFits h.2 tt
  by_first k j ms o m tag.text x e =
      let l = last_is ms (option_map (λ x. said (graph.text x)) (option_and_then if_text (bytes_meant j))) x e in
      let h = map_is (λ x. said (graph.text x)) (option_and_then if_text (bytes_meant j)) x l.1 in
      subst TreeFits h.2 tt
  by_first k j ms o m tag.node x e =
      let l = last_is ms (label_meant j) x e in
      let c = label_is j x l.1 in
      subst TreeFits c.1 tt
  by_first k j ms o m tag.array x e =
      let h = and_then_is (λ ts. array_names reads ts ms) (values_meant reads j) x e in
      m.names h.0 (o.list h.0 h.1) x h.2
  by_first k j ms o m tag.class x e =
      let h = and_then_is (λ y. class_meant reads y ms) (text_meant j) x e in
      m.class h.0 x h.2
  by_first k j ms o m tag.collection x e = wraps ArrayCollection j ms o x e
  by_first k j ms o m tag.list x e = wraps ArrayList j ms o x e
  by_first k j ms o m tag.proxy x e = wraps ObjectProxy j ms o x e
  by_first k j ms o m tag.xmldoc x e = simple graph.xml_document ms (text_meant j) x (λ y. (refl, refl)) e
  by_first k j ms o m tag.xml x e = simple graph.xml ms (text_meant j) x (λ y. (refl, refl)) e
  by_first k j ms o m tag.date x e = simple graph.date ms (pattern_meant reads j) x (λ y. (refl, refl)) e
  by_first k j ms o m tag.bytes x e = simple graph.bytes ms (bytes_meant j) x (λ y. (refl, refl)) e
  by_first k j ms o m tag.doubles x e =
      let h = map_is (λ (p : List ℕ × Bool). simple_body (graph.doubles p.1 p.0)) (both (list_meant (pattern_meant reads) j) (last_flag (codes "$fixed") ms)) x e in
      subst TreeFits h.2 ((refl, refl), tt, tt)
  by_first k j ms o m tag.dictionary x e =
      let h = map_is (λ (p : Trees × Bool). body (graph.dictionary p.1) no_named p.0) (both (dictionary_meant reads j) (last_flag (codes "$weak") ms)) x e in
      let r = both_is (dictionary_meant reads j) (last_flag (codes "$weak") ms) h.0 h.1 in
      let d = o.dictionary h.0.0 r.0 in
      subst TreeFits h.2 ((refl, d.1.0, d.1.1), tt, d.0)
  by_first k j ms o m tag.fixed x e =
      let h = and_then_is (λ f. fixed_meant reads f ms) (flag_meant j) x e in
      m.fixed h.0 x h.2
  by_first k j ms o m tag.ints x e = simple (graph.ints false) ms (list_meant (λ i. option_and_then fits_int (whole_meant reads i)) j) x (λ y. (refl, refl)) e
  by_first k j ms o m tag.uints x e = simple (graph.uints false) ms (list_meant (λ i. option_and_then fits_uint (whole_meant reads i)) j) x (λ y. (refl, refl)) e
  by_first k j ms o m tag.type x e =
      let h = and_then_is (λ y. typed_meant reads false y ms) (text_meant j) x e in
      m.typed false h.0 x h.2
  by_first k j ms o m tag.names x e = no_answer x e
  by_first k j ms o m tag.sealed x e = no_answer x e
  by_first k j ms o m tag.dynamic x e = no_answer x e
  by_first k j ms o m tag.values x e = no_answer x e
  by_first k j ms o m tag.weak x e = no_answer x e
  by_first k j ms o m tag.unknown x e = no_answer x e

  plain_first : (k : List ℕ) (j : Json) (ms : Members) → OfJson j → OfMembers ms → (t : Tag) (x : Named) → plain_by reads k j ms t ≡ Some x → NamedFit x
  unfolding plain_by
  plain_first k j ms o m tag.name x e =
      let h = and_then_is (λ t. option_map (named k t) (plain_meant reads ms)) (meant reads j) x e in
      let r = map_is (named k h.0) (plain_meant reads ms) x h.2 in
      subst NamedFit r.2 (o.value h.0 h.1, m.plain r.0 r.1)
  plain_first k j ms o m _ x e = no_answer x e

  keys_first : (k : List ℕ) (j : Json) (ms : Members) → OfJson j → OfMembers ms → (x : Named) → keys_meant reads (member k j ms) ≡ Some x → NamedFit x
  unfolding meant
  keys_first k j ms o m x e =
      let h = and_then_is (λ t. option_map (named k t) (keys_meant reads ms)) (meant reads j) x e in
      let r = map_is (named k h.0) (keys_meant reads ms) x h.2 in
      subst NamedFit r.2 (o.value h.0 h.1, m.keys r.0 r.1)

  names_last : (k : List ℕ) (j : Json) (ms : Members) → OfJson j → (vs : Trees) → TreesFit vs → (x : Tree) → array_names reads vs (member k j ms) ≡ Some x → TreeFits x
  unfolding meant
  names_last k j no_members o vs f x e =
      let g = λ (ns : Named). body graph.array ns vs in
      let h = if_is (bytes_eq k (codes "$names")) (option_map g (members_meant reads j)) x e in
      let r = map_is g (members_meant reads j) x h.1 in
      subst TreeFits r.2 (tt, o.members r.0 r.1, f)
  names_last k j (member l i ms) o vs f x e = no_answer x e

  typed_last : (k : List ℕ) (j : Json) (ms : Members) → OfJson j → (b : Bool) (c : List ℕ) (x : Tree) → typed_meant reads b c (member k j ms) ≡ Some x → TreeFits x
  unfolding meant
  typed_last k j no_members o b c x e =
      let h = if_is (bytes_eq k (codes "$values")) (option_map (body (graph.values b c) no_named) (values_meant reads j)) x e in
      let r = map_is (body (graph.values b c) no_named) (values_meant reads j) x h.1 in
      subst TreeFits r.2 (refl, tt, o.list r.0 r.1)
  typed_last k j (member l i ms) o b c x e = no_answer x e

  mixed_last : (k : List ℕ) (j : Json) (ms : Members) → OfJson j → (o : Begun) → OfClass o → (names : List (List ℕ)) (x : Tree) → mixed_meant reads o names (member k j ms) ≡ Some x → TreeFits x
  unfolding meant
  mixed_last k (json.object ns) no_members of o c names x e =
      let h = if_is (bytes_eq k (codes "$sealed")) (option_and_then (mixed_body o names) (keys_meant reads ns)) x e in
      let r = and_then_is (mixed_body o names) (keys_meant reads ns) x h.1 in
      let y = mixed (traits_with o names) o.names r.0 in
      let t = if_is (are_those names (keys_of r.0)) (Some y) x r.2 in
      subst TreeFits (same_Some y x t.1) (c.0, c.1, of.keys r.0 r.1)
  mixed_last k (json.object ns) (member l i ms) of o c names x e = no_answer x e
  mixed_last k json.null ms of o c names x e = no_answer x e
  mixed_last k (json.boolean b) ms of o c names x e = no_answer x e
  mixed_last k (json.number s) ms of o c names x e = no_answer x e
  mixed_last k (json.string s) ms of o c names x e = no_answer x e
  mixed_last k (json.array js) ms of o c names x e = no_answer x e

  fixed_first : (j : Json) (ms : Members) → OfMembers ms → (b : Bool) (t : Tag) (x : Tree) → fixed_by reads b j ms t ≡ Some x → TreeFits x
  unfolding fixed_by
  fixed_first j ms m b tag.ints x e = simple (graph.ints b) ms (list_meant (λ i. option_and_then fits_int (whole_meant reads i)) j) x (λ y. (refl, refl)) e
  fixed_first j ms m b tag.uints x e = simple (graph.uints b) ms (list_meant (λ i. option_and_then fits_uint (whole_meant reads i)) j) x (λ y. (refl, refl)) e
  fixed_first j ms m b tag.type x e =
      let h = and_then_is (λ y. typed_meant reads b y ms) (text_meant j) x e in
      m.typed b h.0 x h.2
  fixed_first j ms m b _ x e = no_answer x e

  ordered : (j : Json) (ms : Members) → OfMembers ms → (o : Begun) → OfClass o → (x : Tree) → option_and_then (λ xs. mixed_meant reads o xs ms) (class_names j) ≡ Some x → TreeFits x
  ordered j ms m o c x e =
      let h = and_then_is (λ xs. mixed_meant reads o xs ms) (class_names j) x e in
      m.mixed o c h.0 x h.2

  class_first : (j : Json) (ms : Members) → OfJson j → OfMembers ms → (c : List ℕ) (t : Tag) (x : Tree) → class_by reads c j ms t ≡ Some x → TreeFits x
  unfolding class_by
  class_first j ms o m c tag.dynamic x e =
      let h = and_then_is (λ ns. begun_meant reads (is_dynamic reads c ns) ms) (members_meant reads j) x e in
      m.begun (is_dynamic reads c h.0) (tt, o.members h.0 h.1) x h.2
  class_first j ms o m c tag.names x e = ordered j ms m (not_dynamic reads c) (refl, tt) x e
  class_first j ms o m c tag.sealed x e =
      let l = last_is ms (sealed_meant reads (not_dynamic reads c) j) x e in
      o.sealed (not_dynamic reads c) (refl, tt) x l.1
  class_first j ms o m c _ x e = no_answer x e

  begun_first : (j : Json) (ms : Members) → OfJson j → OfMembers ms → (o : Begun) → OfClass o → (t : Tag) (x : Tree) → begun_by reads o j ms t ≡ Some x → TreeFits x
  unfolding begun_by
  begun_first j ms o m b c tag.names x e = ordered j ms m b c x e
  begun_first j ms o m b c tag.sealed x e =
      let l = last_is ms (sealed_meant reads b j) x e in
      o.sealed b c x l.1
  begun_first j ms o m b c _ x e = no_answer x e

  of_member : (k : List ℕ) (j : Json) (ms : Members) → OfJson j → OfMembers ms → OfMembers (member k j ms)
  unfolding meant plain_by fixed_by class_by begun_by
  of_member k j ms o m = record {
    object = λ x e. by_first k j ms o m (tag_of k) x e;
    plain = λ x e. plain_first k j ms o m (tag_of k) x e;
    keys = keys_first k j ms o m;
    names = names_last k j ms o;
    fixed = λ b x e. fixed_first j ms m b (tag_of k) x e;
    typed = typed_last k j ms o;
    class = λ c x e. class_first j ms o m c (tag_of k) x e;
    begun = λ b c x e. begun_first j ms o m b c (tag_of k) x e;
    mixed = mixed_last k j ms o;
  }

  mutual
    pub of_json : (j : Json) → OfJson j
    of_json json.null = of_null
    of_json (json.boolean b) = of_boolean b
    of_json (json.number s) = of_number s
    of_json (json.string s) = of_string s
    of_json (json.array js) = of_array js (of_items js)
    of_json (json.object ms) = of_object ms (of_members ms)

    pub of_items : (js : Items) → OfItems js
    of_items no_items = of_no_items
    of_items (item j js) = of_item j js (of_json j) (of_items js)

    pub of_members : (ms : Members) → OfMembers ms
    of_members no_members = of_no_members
    of_members (member k j ms) = of_member k j ms (of_json j) (of_members ms)
