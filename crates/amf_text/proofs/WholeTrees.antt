-- Values that a text means are sound: leaves, heads and parts such as the formats have.
use Rattle.std.proofs.Common.{◌≡◌, ℕ, suc, ◌*◌, Bool, true, false, List, [], length, Option, Some, None, ℤ, ◌<◌, ◌^◌, refl, ap, arith}
use Rattle.std.specs.Prelude.{⊤, option_map, option_and_then, codes, bytes_eq, FitsSigned}
use Rattle.std.specs.List.{AllByRecursion}
use Rattle.std.specs.Int.{w32}
use Rattle.json.specs.Json.{Json, no_items, no_members, item, member, Items, Members}
use Rattle.json.specs.Json as json
use Rattle.amf_wire.specs.Text.{IsText}
use Rattle.amf_wire.specs.WholeNumbers.{whole_of}
use Rattle.amf_graph.specs.declared.wrapped.Wrapped.{Wrapped}
use Rattle.amf_graph.specs.declared.wrapped.Wrapped.TheVariants.{ArrayCollection, ArrayList, ObjectProxy}
use Rattle.amf_graph.specs.Graph as graph
use Rattle.amf_graph.specs.Graph.{Traits, Head, IsPattern, IsLeaf, AreMembers, Fits, HasHeadTexts}
use Rattle.amf_text.specs.Tags.{Tag, tag_of}
use Rattle.amf_text.specs.Tags as tag
use Rattle.amf_text.specs.Scalars.{Reads}
use Rattle.amf_text.specs.Meant.{Tree, said, called, body, mixed, Trees, no_trees, tree, Named, no_named, named, keys_of, trees_of, if_text, bytes_meant, text_meant, pattern_meant, as_integer, whole_meant, fits_int, fits_uint, flag_meant, last_flag, true_meant, label_meant, list_meant, name_meant, are_new, class_names, if_true, Begun, traits_with, object_body, rising_body, are_those, mixed_body, entry, both, ints_meant, uints_meant, if_last, simple_body, plain_object, meant, items_meant, values_meant, members_meant, keys_meant, pairs_meant, entries_meant, dictionary_meant, plain_meant, object_meant, array_names, fixed_meant, typed_meant, class_meant, begun_meant, sealed_meant, mixed_meant}
use Rattle.amf_text.specs.Told.{is_rising}
use Rattle.amf_text.specs.Linked.{Numbers, values_from, names_from}
use Rattle.amf_text.proofs.IfThere.{Each, each_from, then_each, map_each, if_each}
use Rattle.amf_text.proofs.TokenTexts.{HasTexts, ItemsHaveTexts, MembersHaveTexts}
use Rattle.amf_text.proofs.WholeScalars.{IsByte, bytes_each, hex_text_each, text_each, name_each, list_each, AreSmall, pattern_each, as_integer_leaf, int_each, uint_each}
use Rattle.amf_text.proofs.CompleteMembers.{by_tag, plain_by, fixed_by, is_dynamic, not_dynamic, class_by, begun_by}

-- at whatever numbers its nodes stand
pub record IsSoundBody (h : Head) (ns : Named) (vs : Trees) : Type 0 where
  pub texts : HasHeadTexts h
  pub fits : (labels : Numbers) (m n : ℕ) → Fits h (names_from labels m ns) (values_from labels n vs)

pub record IsSoundMixed (t : Traits) (ns : Named) : Type 0 where
  pub texts : HasHeadTexts (graph.object t)
  pub members : (labels : Numbers) (m : ℕ) → AreMembers t.dynamic (names_from labels m ns)

abbrev mutual
  pub IsSoundTree : Tree → Type 0
  IsSoundTree (said x) = IsLeaf x
  IsSoundTree (called x) = ⊤
  IsSoundTree (body h ns vs) = IsSoundBody h ns vs × AreSoundNamed ns × AreSoundTrees vs
  IsSoundTree (mixed t ns ss) = IsSoundMixed t ns × AreSoundNamed ns × AreSoundNamed ss

  pub AreSoundTrees : Trees → Type 0
  AreSoundTrees no_trees = ⊤
  AreSoundTrees (tree t ts) = IsSoundTree t × AreSoundTrees ts

  pub AreSoundNamed : Named → Type 0
  AreSoundNamed no_named = ⊤
  AreSoundNamed (named x t ts) = IsText x × IsSoundTree t × AreSoundNamed ts

-- the keys and values of a dictionary
pub record AreEntries (ts : Trees) : Type 0 where
  pub sound : AreSoundTrees ts
  pub half : ℕ
  pub even : (labels : Numbers) (n : ℕ) → length (values_from labels n ts) ≡ 2 * half

pub record IsSoundBegun (o : Begun) : Type 0 where
  pub class : IsText o.class
  pub names : AreSoundNamed o.names
  pub members : (labels : Numbers) (m : ℕ) → AreMembers o.dynamic (names_from labels m o.names)

simple : (h : Head) → HasHeadTexts h → Fits h [] [] → IsSoundTree (simple_body h)
simple h t f = (record { texts = t; fits = λ labels m n. f }, tt, tt)

pub plain_is : (ns : Named) → AreSoundNamed ns → IsSoundTree (plain_object ns)
plain_is ns s = (record { texts = (([], tt, refl), tt); fits = λ labels m n. (refl, tt) }, s, tt)

-- Objects.

keys_texts : (ns : Named) → AreSoundNamed ns → AllByRecursion IsText (keys_of ns)
keys_texts no_named s = tt
keys_texts (named x t ts) s = (s.0, keys_texts ts s.2)

trees_sound : (ns : Named) → AreSoundNamed ns → AreSoundTrees (trees_of ns)
trees_sound no_named s = tt
trees_sound (named x t ts) s = (s.1, trees_sound ts s.2)

as_many : (ns : Named) (labels : Numbers) (n : ℕ) → length (values_from labels n (trees_of ns)) ≡ length (keys_of ns)
as_many no_named labels n = refl
as_many (named x t ts) labels n = ap suc (as_many ts labels _)

object_is : (o : Begun) (sealed : Named) → IsSoundBegun o → AreSoundNamed sealed → IsSoundTree (object_body o sealed)
object_is o sealed b s = (
  record { texts = (b.class, keys_texts sealed s); fits = λ labels m n. (as_many sealed labels n, b.members labels m) },
  b.names,
  trees_sound sealed s,
)

rising_is : (o : Begun) (sealed : Named) → IsSoundBegun o → AreSoundNamed sealed → Each IsSoundTree (rising_body o sealed)
rising_is o sealed b s = if_each IsSoundTree (is_rising (keys_of sealed)) (Some (object_body o sealed)) None (λ e. object_is o sealed b s) (λ e. tt)

mixed_is : (o : Begun) (names : List (List ℕ)) (sealed : Named) → IsSoundBegun o → AllByRecursion IsText names → AreSoundNamed sealed → Each IsSoundTree (mixed_body o names sealed)
mixed_is o names sealed b n s =
    if_each IsSoundTree (are_those names (keys_of sealed)) (Some (mixed (traits_with o names) o.names sealed)) None (λ e. (record { texts = (b.class, n); members = b.members }, b.names, s)) (λ e. tt)

bare_begun : (reads : Reads) (x : List ℕ) → IsText x → IsSoundBegun (not_dynamic reads x)
bare_begun reads x t = record { class = t; names = tt; members = λ labels m. refl }

open_begun : (reads : Reads) (x : List ℕ) (ns : Named) → IsText x → AreSoundNamed ns → IsSoundBegun (is_dynamic reads x ns)
open_begun reads x ns t s = record { class = t; names = s; members = λ labels m. tt }

-- Answers.

pub last_each : {X : Type 0} (P : X → Type 0) (ms : Members) (x : Option X) → Each P x → Each P (if_last ms x)
last_each P no_members x h = h
last_each P (member k j ms) x h = tt

both_each : {X Y : Type 0} (P : X → Type 0) (x : Option X) (y : Option Y) → Each P x → Each (λ p. P p.0) (both x y)
both_each {X = X} {Y = Y} P x y h = then_each P (λ (p : X × Y). P p.0) (λ a. option_map (λ b. (a, b)) y) x h (λ a p. map_each (λ (b : Y). ⊤) (λ (q : X × Y). P q.0) (λ b. (a, b)) y (each_from (λ (b : Y). ⊤) y (λ b e. tt)) (λ b t. p))

truth_each : (j : Json) → Each IsSoundTree (true_meant j)
truth_each json.null = tt
truth_each (json.boolean true) = tt
truth_each (json.boolean false) = tt
truth_each (json.number s) = tt
truth_each (json.string s) = tt
truth_each (json.array js) = tt
truth_each (json.object ms) = tt

label_each : (j : Json) → Each IsSoundTree (label_meant j)
label_each json.null = tt
label_each (json.boolean b) = tt
label_each (json.number s) = tt
label_each (json.string s) = tt
label_each (json.array js) = tt
label_each (json.object ms) = tt

names_each : (j : Json) → HasTexts j → Each (AllByRecursion IsText) (class_names j)
names_each j h =
    then_each (AllByRecursion IsText) (AllByRecursion IsText) (if_true (are_new [])) (list_meant name_meant j) (list_each IsText name_meant name_each j h)
    (λ xs a. if_each (AllByRecursion IsText) (are_new [] xs) (Some xs) None (λ e. a) (λ e. tt))

module _ (reads : Reads) (small : AreSmall reads) where
  abbrev Value : Json → Type 0
  Value j = Each IsSoundTree (meant reads j)

  abbrev Pairs : Items → Type 0
  Pairs js = Each AreSoundNamed (pairs_meant reads js)

  abbrev Entries : Items → Type 0
  Entries js = Each AreEntries (entries_meant reads js)

  pub record WholeValue (j : Json) : Type 0 where
    pub value : Value j
    pub list : Each AreSoundTrees (values_meant reads j)
    pub members : Each AreSoundNamed (members_meant reads j)
    pub dictionary : Each AreEntries (dictionary_meant reads j)
    pub sealed : (o : Begun) → IsSoundBegun o → Each IsSoundTree (sealed_meant reads o j)
    pub mixed : (o : Begun) (names : List (List ℕ)) (k : List ℕ) → IsSoundBegun o → AllByRecursion IsText names → Each IsSoundTree (mixed_meant reads o names (member k j no_members))
    pub pair : (rest : Items) → Pairs rest → Pairs (item j rest)
    pub part : (rest : Items) → Entries rest → Entries (item j rest)

  pub record WholeItems (js : Items) : Type 0 where
    pub items : Each AreSoundTrees (items_meant reads js)
    pub pairs : Pairs js
    pub entries : Entries js
    -- as a pair, and behind the first of one
    pub pair : (rest : Items) → Pairs rest → Pairs (item (json.array js) rest)
    pub part : (rest : Items) → Entries rest → Entries (item (json.array js) rest)
    pub pair_behind : (k : Json) → HasTexts k → (rest : Items) → Pairs rest → Pairs (item (json.array (item k js)) rest)
    pub part_behind : (k : Json) → Value k → (rest : Items) → Entries rest → Entries (item (json.array (item k js)) rest)

  pub record WholeMembers (ms : Members) : Type 0 where
    pub object : Each IsSoundTree (object_meant reads ms)
    pub plain : Each AreSoundNamed (plain_meant reads ms)
    pub keys : Each AreSoundNamed (keys_meant reads ms)
    pub names : (ts : Trees) → AreSoundTrees ts → Each IsSoundTree (array_names reads ts ms)
    pub fixed : (b : Bool) → Each IsSoundTree (fixed_meant reads b ms)
    pub typed : (b : Bool) (x : List ℕ) → IsText x → Each IsSoundTree (typed_meant reads b x ms)
    pub class : (x : List ℕ) → IsText x → Each IsSoundTree (class_meant reads x ms)
    pub begun : (o : Begun) → IsSoundBegun o → Each IsSoundTree (begun_meant reads o ms)
    pub mixed : (o : Begun) (names : List (List ℕ)) → IsSoundBegun o → AllByRecursion IsText names → Each IsSoundTree (mixed_meant reads o names ms)

  -- Values.

  of_null : WholeValue json.null
  unfolding meant
  of_null = record { value = tt; list = tt; members = tt; dictionary = tt; sealed = λ o b. tt; mixed = λ o names k b n. tt; pair = λ rest p. tt; part = λ rest p. tt }

  of_boolean : (b : Bool) → WholeValue (json.boolean b)
  unfolding meant
  of_boolean b = record { value = tt; list = tt; members = tt; dictionary = tt; sealed = λ o b. tt; mixed = λ o names k b n. tt; pair = λ rest p. tt; part = λ rest p. tt }

  of_string : (s : List ℕ) → IsText s → WholeValue (json.string s)
  unfolding meant
  of_string s h = record { value = h; list = tt; members = tt; dictionary = tt; sealed = λ o b. tt; mixed = λ o names k b n. tt; pair = λ rest p. tt; part = λ rest p. tt }

  of_number : (s : List ℕ) → WholeValue (json.number s)
  unfolding meant
  of_number s = record {
    value = map_each IsPattern IsSoundTree (λ p. said (as_integer p (whole_of p))) (reads s) (small s) as_integer_leaf;
    list = tt;
    members = tt;
    dictionary = tt;
    sealed = λ o b. tt;
    mixed = λ o names k b n. tt;
    pair = λ rest p. tt;
    part = λ rest p. tt;
  }

  array_is : (ns : Named) (ts : Trees) → AreSoundNamed ns → AreSoundTrees ts → IsSoundTree (body graph.array ns ts)
  array_is ns ts s t = (record { texts = tt; fits = λ labels m n. tt }, s, t)

  of_array : (js : Items) → WholeItems js → WholeValue (json.array js)
  unfolding meant
  of_array js s = record {
    value = map_each AreSoundTrees IsSoundTree (body graph.array no_named) (items_meant reads js) s.items (λ ts t. array_is no_named ts tt t);
    list = s.items;
    members = s.pairs;
    dictionary = s.entries;
    sealed = λ o b. map_each AreSoundNamed IsSoundTree (object_body o) (pairs_meant reads js) s.pairs (λ ns n. object_is o ns b n);
    mixed = λ o names k b n. tt;
    pair = s.pair;
    part = s.part;
  }

  of_object : (ms : Members) → WholeMembers ms → WholeValue (json.object ms)
  unfolding meant
  of_object ms m = record {
    value = m.object;
    list = tt;
    members = m.keys;
    dictionary = tt;
    sealed = λ o b. then_each AreSoundNamed IsSoundTree (rising_body o) (keys_meant reads ms) m.keys (λ ns n. rising_is o ns b n);
    mixed = λ o names k b t.
        if_each IsSoundTree (bytes_eq k (codes "$sealed")) (option_and_then (mixed_body o names) (keys_meant reads ms)) None
        (λ e. then_each AreSoundNamed IsSoundTree (mixed_body o names) (keys_meant reads ms) m.keys (λ ns n. mixed_is o names ns b t n)) (λ e. tt);
    pair = λ rest p. tt;
    part = λ rest p. tt;
  }

  -- Items.

  of_no_items : WholeItems no_items
  unfolding meant
  of_no_items = record {
    items = tt;
    pairs = tt;
    entries = record { sound = tt; half = 0; even = λ labels n. refl };
    pair = λ rest p. tt;
    part = λ rest p. tt;
    pair_behind = λ k h rest p. tt;
    part_behind = λ k h rest p. tt;
  }

  pair_last : (k j : Json) (js : Items) → HasTexts k → WholeValue j → (rest : Items) → Pairs rest → Pairs (item (json.array (item k (item j js))) rest)
  unfolding meant
  pair_last k j (item i js) h o rest p = tt
  pair_last k j no_items h o rest p =
      then_each IsText AreSoundNamed (λ x. option_and_then (λ t. option_map (named x t) (pairs_meant reads rest)) (meant reads j)) (text_meant k) (text_each k h)
      (λ x i. then_each IsSoundTree AreSoundNamed (λ t. option_map (named x t) (pairs_meant reads rest)) (meant reads j) o.value
      (λ t s. map_each AreSoundNamed AreSoundNamed (named x t) (pairs_meant reads rest) p (λ ns n. (i, s, n))))

  one_more : (a b : Tree) (ts : Trees) → IsSoundTree a → IsSoundTree b → AreEntries ts → AreEntries (entry a b ts)
  one_more a b ts s t e = record { sound = (s, (t, e.sound)); half = suc e.half; even = λ labels n. (let more = e.even labels in omega arith) }

  part_last : (k j : Json) (js : Items) → Value k → WholeValue j → (rest : Items) → Entries rest → Entries (item (json.array (item k (item j js))) rest)
  unfolding meant
  part_last k j (item i js) v o rest p = tt
  part_last k j no_items v o rest p =
      then_each IsSoundTree AreEntries (λ a. option_and_then (λ b. option_map (entry a b) (entries_meant reads rest)) (meant reads j)) (meant reads k) v
      (λ a s. then_each IsSoundTree AreEntries (λ b. option_map (entry a b) (entries_meant reads rest)) (meant reads j) o.value
      (λ b t. map_each AreEntries AreEntries (entry a b) (entries_meant reads rest) p (λ ts e. one_more a b ts s t e)))

  of_item : (j : Json) (js : Items) → HasTexts j → WholeValue j → WholeItems js → WholeItems (item j js)
  unfolding meant
  of_item j js h o s = record {
    items = then_each IsSoundTree AreSoundTrees (λ t. option_map (tree t) (items_meant reads js)) (meant reads j) o.value (λ t v. map_each AreSoundTrees AreSoundTrees (tree t) (items_meant reads js) s.items (λ ts w. (v, w)));
    pairs = o.pair js s.pairs;
    entries = o.part js s.entries;
    pair = λ rest p. s.pair_behind j h rest p;
    part = λ rest p. s.part_behind j o.value rest p;
    pair_behind = λ k i rest p. pair_last k j js i o rest p;
    part_behind = λ k v rest p. part_last k j js v o rest p;
  }

  -- Members.

  of_no_members : WholeMembers no_members
  unfolding meant
  of_no_members = record {
    object = plain_is no_named tt;
    plain = tt;
    keys = tt;
    names = λ ts s. tt;
    fixed = λ b. tt;
    typed = λ b x t. tt;
    class = λ x t. object_is (not_dynamic reads x) no_named (bare_begun reads x t) tt;
    begun = λ o b. object_is o no_named b tt;
    mixed = λ o names b n. tt;
  }

  wrapper_is : (c : Wrapped) (j : Json) (ms : Members) → WholeValue j → Each IsSoundTree (if_last ms (option_map (λ t. body (graph.wrapper c) no_named (tree t no_trees)) (meant reads j)))
  wrapper_is c j ms o =
      last_each IsSoundTree ms (option_map (λ t. body (graph.wrapper c) no_named (tree t no_trees)) (meant reads j))
      (map_each IsSoundTree IsSoundTree (λ t. body (graph.wrapper c) no_named (tree t no_trees)) (meant reads j) o.value (λ t s. (record { texts = tt; fits = λ labels m n. (refl, refl) }, tt, (s, tt))))

  text_head : (make : List ℕ → Head) → ((x : List ℕ) → IsText x → HasHeadTexts (make x) × Fits (make x) [] []) → (j : Json) (ms : Members) → HasTexts j → Each IsSoundTree (if_last ms (option_map (λ x. simple_body (make x)) (text_meant j)))
  text_head make fit j ms h =
      last_each IsSoundTree ms (option_map (λ x. simple_body (make x)) (text_meant j))
      (map_each IsText IsSoundTree (λ x. simple_body (make x)) (text_meant j) (text_each j h) (λ x t. let f = fit x t in simple (make x) f.0 f.1))

  whole_each : {X : Type 0} (P : X → Type 0) (f : ℤ → Option X) → ((n : ℤ) → Each P (f n)) → (j : Json) → HasTexts j → Each P (option_and_then f (whole_meant reads j))
  whole_each P f each j h = then_each (λ (n : ℤ). ⊤) P f (whole_meant reads j) (each_from (λ (n : ℤ). ⊤) (whole_meant reads j) (λ n e. tt)) (λ n t. each n)

  ints_is : (b : Bool) (j : Json) → HasTexts j → Each IsSoundTree (ints_meant reads b j)
  ints_is b j h =
      map_each (AllByRecursion (FitsSigned w32)) IsSoundTree (λ ns. simple_body (graph.ints b ns)) (list_meant (λ i. option_and_then fits_int (whole_meant reads i)) j)
      (list_each (FitsSigned w32) (λ i. option_and_then fits_int (whole_meant reads i)) (whole_each (FitsSigned w32) fits_int int_each) j h) (λ ns f. simple (graph.ints b ns) tt (f, refl, refl))

  uints_is : (b : Bool) (j : Json) → HasTexts j → Each IsSoundTree (uints_meant reads b j)
  uints_is b j h =
      map_each (AllByRecursion (λ n. n < 2 ^ 32)) IsSoundTree (λ ns. simple_body (graph.uints b ns)) (list_meant (λ i. option_and_then fits_uint (whole_meant reads i)) j)
      (list_each (λ n. n < 2 ^ 32) (λ i. option_and_then fits_uint (whole_meant reads i)) (whole_each (λ n. n < 2 ^ 32) fits_uint uint_each) j h) (λ ns f. simple (graph.uints b ns) tt (f, refl, refl))

  module _ (k : List ℕ) (j : Json) (ms : Members) (x : IsText k) (h : HasTexts j) (o : WholeValue j) (m : WholeMembers ms) where
    with_flag : (f : Bool → Option Tree) → ((b : Bool) → Each IsSoundTree (f b)) → Each IsSoundTree (option_and_then f (flag_meant j))
    with_flag f each = then_each (λ (b : Bool). ⊤) IsSoundTree f (flag_meant j) (each_from (λ (b : Bool). ⊤) (flag_meant j) (λ b e. tt)) (λ b t. each b)

    with_text : (f : List ℕ → Option Tree) → ((y : List ℕ) → IsText y → Each IsSoundTree (f y)) → Each IsSoundTree (option_and_then f (text_meant j))
    with_text f each = then_each IsText IsSoundTree f (text_meant j) (text_each j h) each

    object_whole : (t : Tag) → Each IsSoundTree (by_tag reads k j ms t)
    object_whole tag.name =
        then_each IsSoundTree IsSoundTree (λ t. option_map (λ ts. plain_object (named k t ts)) (plain_meant reads ms)) (meant reads j) o.value
        (λ t s. map_each AreSoundNamed IsSoundTree (λ ts. plain_object (named k t ts)) (plain_meant reads ms) m.plain (λ ts n. plain_is (named k t ts) (x, s, n)))
    object_whole tag.undefined = last_each IsSoundTree ms (true_meant j) (truth_each j)
    object_whole tag.double =
        last_each IsSoundTree ms (option_map (λ p. said (graph.double p)) (pattern_meant reads j)) (map_each IsPattern IsSoundTree (λ p. said (graph.double p)) (pattern_meant reads j) (pattern_each reads small j) (λ p f. f))
    object_whole tag.text =
        last_each IsSoundTree ms (option_map (λ y. said (graph.text y)) (option_and_then if_text (bytes_meant j)))
        (map_each IsText IsSoundTree (λ y. said (graph.text y)) (option_and_then if_text (bytes_meant j)) (hex_text_each j) (λ y t. t))
    object_whole tag.node = last_each IsSoundTree ms (label_meant j) (label_each j)
    object_whole tag.array = then_each AreSoundTrees IsSoundTree (λ ts. array_names reads ts ms) (values_meant reads j) o.list m.names
    object_whole tag.class = with_text (λ y. class_meant reads y ms) m.class
    object_whole tag.collection = wrapper_is ArrayCollection j ms o
    object_whole tag.list = wrapper_is ArrayList j ms o
    object_whole tag.proxy = wrapper_is ObjectProxy j ms o
    object_whole tag.xmldoc = text_head graph.xml_document (λ y t. (tt, (t, refl, refl))) j ms h
    object_whole tag.xml = text_head graph.xml (λ y t. (tt, (t, refl, refl))) j ms h
    object_whole tag.date =
        last_each IsSoundTree ms (option_map (λ p. simple_body (graph.date p)) (pattern_meant reads j))
        (map_each IsPattern IsSoundTree (λ p. simple_body (graph.date p)) (pattern_meant reads j) (pattern_each reads small j) (λ p f. simple (graph.date p) tt (f, refl, refl)))
    object_whole tag.bytes =
        last_each IsSoundTree ms (option_map (λ y. simple_body (graph.bytes y)) (bytes_meant j))
        (map_each (AllByRecursion IsByte) IsSoundTree (λ y. simple_body (graph.bytes y)) (bytes_meant j) (bytes_each j) (λ y f. simple (graph.bytes y) tt (f, refl, refl)))
    object_whole tag.doubles =
        map_each (λ (p : List ℕ × Bool). AllByRecursion IsPattern p.0) IsSoundTree (λ (p : List ℕ × Bool). simple_body (graph.doubles p.1 p.0)) (both (list_meant (pattern_meant reads) j) (last_flag (codes "$fixed") ms))
        (both_each (AllByRecursion IsPattern) (list_meant (pattern_meant reads) j) (last_flag (codes "$fixed") ms) (list_each IsPattern (pattern_meant reads) (λ i t. pattern_each reads small i) j h))
        (λ p f. simple (graph.doubles p.1 p.0) tt (f, refl, refl))
    object_whole tag.dictionary =
        map_each (λ (p : Trees × Bool). AreEntries p.0) IsSoundTree (λ (p : Trees × Bool). body (graph.dictionary p.1) no_named p.0) (both (dictionary_meant reads j) (last_flag (codes "$weak") ms))
        (both_each AreEntries (dictionary_meant reads j) (last_flag (codes "$weak") ms) o.dictionary)
        (λ p e. (record { texts = tt; fits = λ labels m n. (refl, e.half, e.even labels n) }, tt, e.sound))
    object_whole tag.fixed = with_flag (λ f. fixed_meant reads f ms) m.fixed
    object_whole tag.ints = last_each IsSoundTree ms (ints_meant reads false j) (ints_is false j h)
    object_whole tag.uints = last_each IsSoundTree ms (uints_meant reads false j) (uints_is false j h)
    object_whole tag.type = with_text (λ y. typed_meant reads false y ms) (m.typed false)
    object_whole tag.dynamic = tt
    object_whole tag.names = tt
    object_whole tag.sealed = tt
    object_whole tag.values = tt
    object_whole tag.weak = tt
    object_whole tag.unknown = tt

    plain_whole : (t : Tag) → Each AreSoundNamed (plain_by reads k j ms t)
    unfolding plain_by
    plain_whole tag.name =
        then_each IsSoundTree AreSoundNamed (λ t. option_map (named k t) (plain_meant reads ms)) (meant reads j) o.value
        (λ t s. map_each AreSoundNamed AreSoundNamed (named k t) (plain_meant reads ms) m.plain (λ ts n. (x, s, n)))
    plain_whole _ = tt

    fixed_whole : (b : Bool) (t : Tag) → Each IsSoundTree (fixed_by reads b j ms t)
    unfolding fixed_by
    fixed_whole b tag.ints = last_each IsSoundTree ms (ints_meant reads b j) (ints_is b j h)
    fixed_whole b tag.uints = last_each IsSoundTree ms (uints_meant reads b j) (uints_is b j h)
    fixed_whole b tag.type = with_text (λ y. typed_meant reads b y ms) (m.typed b)
    fixed_whole b _ = tt

    mixed_names : (b : Begun) → IsSoundBegun b → Each IsSoundTree (option_and_then (λ xs. mixed_meant reads b xs ms) (class_names j))
    mixed_names b s = then_each (AllByRecursion IsText) IsSoundTree (λ xs. mixed_meant reads b xs ms) (class_names j) (names_each j h) (λ xs t. m.mixed b xs s t)

    class_whole : (y : List ℕ) → IsText y → (t : Tag) → Each IsSoundTree (class_by reads y j ms t)
    unfolding class_by
    class_whole y c tag.dynamic =
        then_each AreSoundNamed IsSoundTree (λ ns. begun_meant reads (is_dynamic reads y ns) ms) (members_meant reads j) o.members (λ ns n. m.begun (is_dynamic reads y ns) (open_begun reads y ns c n))
    class_whole y c tag.names = mixed_names (not_dynamic reads y) (bare_begun reads y c)
    class_whole y c tag.sealed = last_each IsSoundTree ms (sealed_meant reads (not_dynamic reads y) j) (o.sealed (not_dynamic reads y) (bare_begun reads y c))
    class_whole y c _ = tt

    begun_whole : (b : Begun) → IsSoundBegun b → (t : Tag) → Each IsSoundTree (begun_by reads b j ms t)
    unfolding begun_by
    begun_whole b s tag.names = mixed_names b s
    begun_whole b s tag.sealed = last_each IsSoundTree ms (sealed_meant reads b j) (o.sealed b s)
    begun_whole b s _ = tt

  names_last : (k : List ℕ) (j : Json) (ms : Members) → WholeValue j → (ts : Trees) → AreSoundTrees ts → Each IsSoundTree (array_names reads ts (member k j ms))
  unfolding meant
  names_last k j no_members o ts s =
      if_each IsSoundTree (bytes_eq k (codes "$names")) (option_map (λ ns. body graph.array ns ts) (members_meant reads j)) None
      (λ e. map_each AreSoundNamed IsSoundTree (λ ns. body graph.array ns ts) (members_meant reads j) o.members (λ ns n. array_is ns ts n s)) (λ e. tt)
  names_last k j (member l i ms) o ts s = tt

  typed_last : (k : List ℕ) (j : Json) (ms : Members) → WholeValue j → (b : Bool) (x : List ℕ) → IsText x → Each IsSoundTree (typed_meant reads b x (member k j ms))
  unfolding meant
  typed_last k j no_members o b x t =
      if_each IsSoundTree (bytes_eq k (codes "$values")) (option_map (body (graph.values b x) no_named) (values_meant reads j)) None
      (λ e. map_each AreSoundTrees IsSoundTree (body (graph.values b x) no_named) (values_meant reads j) o.list (λ ts s. (record { texts = t; fits = λ labels m n. refl }, tt, s))) (λ e. tt)
  typed_last k j (member l i ms) o b x t = tt

  mixed_last : (k : List ℕ) (j : Json) (ms : Members) → WholeValue j → (b : Begun) (names : List (List ℕ)) → IsSoundBegun b → AllByRecursion IsText names → Each IsSoundTree (mixed_meant reads b names (member k j ms))
  unfolding meant
  mixed_last k j no_members o b names s t = o.mixed b names k s t
  mixed_last k json.null (member l i ms) o b names s t = tt
  mixed_last k (json.boolean c) (member l i ms) o b names s t = tt
  mixed_last k (json.number n) (member l i ms) o b names s t = tt
  mixed_last k (json.string n) (member l i ms) o b names s t = tt
  mixed_last k (json.array js) (member l i ms) o b names s t = tt
  mixed_last k (json.object ns) (member l i ms) o b names s t = tt

  of_member : (k : List ℕ) (j : Json) (ms : Members) → IsText k → HasTexts j → WholeValue j → WholeMembers ms → WholeMembers (member k j ms)
  unfolding meant plain_by fixed_by class_by begun_by
  of_member k j ms x h o m = record {
    object = object_whole k j ms x h o m (tag_of k);
    plain = plain_whole k j ms x h o m (tag_of k);
    keys = then_each IsSoundTree AreSoundNamed (λ t. option_map (named k t) (keys_meant reads ms)) (meant reads j) o.value (λ t s. map_each AreSoundNamed AreSoundNamed (named k t) (keys_meant reads ms) m.keys (λ ts n. (x, s, n)));
    names = names_last k j ms o;
    fixed = λ b. fixed_whole k j ms x h o m b (tag_of k);
    typed = typed_last k j ms o;
    class = λ y c. class_whole k j ms x h o m y c (tag_of k);
    begun = λ b s. begun_whole k j ms x h o m b s (tag_of k);
    mixed = mixed_last k j ms o;
  }

  mutual
    pub whole_value : (j : Json) → HasTexts j → WholeValue j
    whole_value json.null h = of_null
    whole_value (json.boolean b) h = of_boolean b
    whole_value (json.number s) h = of_number s
    whole_value (json.string s) h = of_string s h
    whole_value (json.array js) h = of_array js (whole_items js h)
    whole_value (json.object ms) h = of_object ms (whole_members ms h)

    whole_items : (js : Items) → ItemsHaveTexts js → WholeItems js
    whole_items no_items h = of_no_items
    whole_items (item j js) h = of_item j js h.0 (whole_value j h.0) (whole_items js h.1)

    pub whole_members : (ms : Members) → MembersHaveTexts ms → WholeMembers ms
    whole_members no_members h = of_no_members
    whole_members (member k j ms) h = of_member k j ms h.0 h.1.0 (whole_value j h.1.0) (whole_members ms h.1.1)
