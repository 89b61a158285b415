-- JSON whose numbers are written otherwise, where another reading reads them as before: values mean the same.
use Rattle.std.proofs.Common.{◌≡◌, ℕ, Bool, false, if◌then◌else◌, List, [], ◌∷◌, Option, Some, None, refl, ap, ap₂, ◌∙◌}
use Rattle.std.specs.Prelude.{option_map, option_and_then, codes, bytes_eq}
use Rattle.json.specs.Json.{Json, no_items, no_members, item, member, Items, Members}
use Rattle.json.specs.Json as json
use Rattle.amf_wire.specs.WholeNumbers.{whole_of}
use Rattle.amf_graph.specs.declared.wrapped.Wrapped.TheVariants.{ArrayCollection, ArrayList, ObjectProxy}
use Rattle.amf_graph.specs.Graph as graph
use Rattle.amf_text.specs.Tags.{Tag, tag_of}
use Rattle.amf_text.specs.Tags as tag
use Rattle.amf_text.specs.Scalars.{Reads}
use Rattle.amf_text.specs.Meant.{Tree, said, body, Trees, no_trees, tree, no_named, named, if_text, bytes_meant, text_meant, pattern_meant, as_integer, whole_meant, fits_int, fits_uint, flag_meant, last_flag, true_meant, label_meant, each, list_meant, name_meant, are_new, class_names, if_true, Begun, object_body, rising_body, mixed_body, entry, both, ints_meant, uints_meant, if_last, simple_body, plain_object, meant, items_meant, values_meant, members_meant, keys_meant, pairs_meant, entries_meant, dictionary_meant, plain_meant, object_meant, array_names, fixed_meant, typed_meant, class_meant, begun_meant, sealed_meant, mixed_meant}
use Rattle.amf_text.proofs.CompleteMembers.{by_tag, plain_by, fixed_by, is_dynamic, not_dynamic, class_by, begun_by}

abbrev mutual
  pub rewritten : (List ℕ → List ℕ) → Json → Json
  rewritten f json.null = json.null
  rewritten f (json.boolean b) = json.boolean b
  rewritten f (json.number s) = json.number (f s)
  rewritten f (json.string s) = json.string s
  rewritten f (json.array js) = json.array (rewritten_items f js)
  rewritten f (json.object ms) = json.object (rewritten_members f ms)

  pub rewritten_items : (List ℕ → List ℕ) → Items → Items
  rewritten_items f no_items = no_items
  rewritten_items f (item j js) = item (rewritten f j) (rewritten_items f js)

  pub rewritten_members : (List ℕ → List ℕ) → Members → Members
  rewritten_members f no_members = no_members
  rewritten_members f (member k j ms) = member k (rewritten f j) (rewritten_members f ms)

-- what is done with two answers that are one
pub then_same : {X Y : Type 0} (f g : X → Option Y) (o p : Option X) → o ≡ p → ((x : X) → f x ≡ g x) → option_and_then f o ≡ option_and_then g p
then_same {X = X} f g o p e h = ap (option_and_then f) e ∙ go p
  where
    go : (q : Option X) → option_and_then f q ≡ option_and_then g q
    go None = refl
    go (Some x) = h x

pub list_same : {X : Type 0} (f : List ℕ → List ℕ) (g h : Json → Option X) → ((j : Json) → g (rewritten f j) ≡ h j) → (j : Json) → list_meant g (rewritten f j) ≡ list_meant h j
list_same f g h same json.null = refl
list_same f g h same (json.boolean b) = refl
list_same f g h same (json.number s) = refl
list_same f g h same (json.string s) = refl
list_same f g h same (json.object ms) = refl
list_same f g h same (json.array js) = go js
  where
    go : (js : Items) → each g (rewritten_items f js) ≡ each h js
    go no_items = refl
    go (item j js) = ap₂ (λ o p. option_and_then (λ x. option_map (λ xs. x ∷ xs) p) o) (same j) (go js)

module _ (f : List ℕ → List ℕ) where
  -- Texts, flags and labels.

  bytes_same : (j : Json) → bytes_meant (rewritten f j) ≡ bytes_meant j
  bytes_same json.null = refl
  bytes_same (json.boolean b) = refl
  bytes_same (json.number s) = refl
  bytes_same (json.string s) = refl
  bytes_same (json.array js) = refl
  bytes_same (json.object ms) = refl

  pub text_same : (j : Json) → text_meant (rewritten f j) ≡ text_meant j
  text_same json.null = refl
  text_same (json.boolean b) = refl
  text_same (json.number s) = refl
  text_same (json.string s) = refl
  text_same (json.array js) = refl
  text_same (json.object no_members) = refl
  text_same (json.object (member k j no_members)) = ap (λ o. if bytes_eq k (codes "$text") then option_and_then if_text o else None) (bytes_same j)
  text_same (json.object (member k j (member l i ms))) = refl

  pub flag_same : (j : Json) → flag_meant (rewritten f j) ≡ flag_meant j
  flag_same json.null = refl
  flag_same (json.boolean b) = refl
  flag_same (json.number s) = refl
  flag_same (json.string s) = refl
  flag_same (json.array js) = refl
  flag_same (json.object ms) = refl

  truth_same : (j : Json) → true_meant (rewritten f j) ≡ true_meant j
  truth_same json.null = refl
  truth_same (json.boolean b) = refl
  truth_same (json.number s) = refl
  truth_same (json.string s) = refl
  truth_same (json.array js) = refl
  truth_same (json.object ms) = refl

  label_same : (j : Json) → label_meant (rewritten f j) ≡ label_meant j
  label_same json.null = refl
  label_same (json.boolean b) = refl
  label_same (json.number s) = refl
  label_same (json.string s) = refl
  label_same (json.array js) = refl
  label_same (json.object ms) = refl

  name_same : (j : Json) → name_meant (rewritten f j) ≡ name_meant j
  name_same json.null = refl
  name_same (json.boolean b) = refl
  name_same (json.number s) = refl
  name_same (json.string s) = refl
  name_same (json.array js) = refl
  name_same (json.object ms) = refl

  names_same : (j : Json) → class_names (rewritten f j) ≡ class_names j
  names_same j = ap (option_and_then (if_true (are_new []))) (list_same f name_meant name_meant name_same j)

  last_flag_same : (name : List ℕ) (ms : Members) → last_flag name (rewritten_members f ms) ≡ last_flag name ms
  last_flag_same name no_members = refl
  last_flag_same name (member k j no_members) = ap (λ o. if bytes_eq k name then o else None) (flag_same j)
  last_flag_same name (member k j (member l i ms)) = refl

  pub last_same : {X : Type 0} (ms : Members) (x y : Option X) → x ≡ y → if_last (rewritten_members f ms) x ≡ if_last ms y
  last_same no_members x y e = e
  last_same (member k j ms) x y e = refl

  module _ (reads other : Reads) (same : (s : List ℕ) → other (f s) ≡ reads s) where
    pattern_same : (j : Json) → pattern_meant other (rewritten f j) ≡ pattern_meant reads j
    pattern_same json.null = refl
    pattern_same (json.boolean b) = refl
    pattern_same (json.number s) = same s
    pattern_same (json.string s) = refl
    pattern_same (json.array js) = refl
    pattern_same (json.object ms) = refl

    pub whole_same : (j : Json) → whole_meant other (rewritten f j) ≡ whole_meant reads j
    whole_same json.null = refl
    whole_same (json.boolean b) = refl
    whole_same (json.number s) = ap (option_and_then whole_of) (same s)
    whole_same (json.string s) = refl
    whole_same (json.array js) = refl
    whole_same (json.object ms) = refl

    ints_same : (b : Bool) (j : Json) → ints_meant other b (rewritten f j) ≡ ints_meant reads b j
    ints_same b j =
        ap (option_map (λ ns. simple_body (graph.ints b ns)))
        (list_same f (λ i. option_and_then fits_int (whole_meant other i)) (λ i. option_and_then fits_int (whole_meant reads i)) (λ i. ap (option_and_then fits_int) (whole_same i)) j)

    uints_same : (b : Bool) (j : Json) → uints_meant other b (rewritten f j) ≡ uints_meant reads b j
    uints_same b j =
        ap (option_map (λ ns. simple_body (graph.uints b ns)))
        (list_same f (λ i. option_and_then fits_uint (whole_meant other i)) (λ i. option_and_then fits_uint (whole_meant reads i)) (λ i. ap (option_and_then fits_uint) (whole_same i)) j)

    -- What is the same of a value, of items and of members.

    abbrev Pairs : Items → Type 0
    Pairs js = pairs_meant other (rewritten_items f js) ≡ pairs_meant reads js

    abbrev Entries : Items → Type 0
    Entries js = entries_meant other (rewritten_items f js) ≡ entries_meant reads js

    pub record SameValue (j : Json) : Type 0 where
      pub value : meant other (rewritten f j) ≡ meant reads j
      pub list : values_meant other (rewritten f j) ≡ values_meant reads j
      pub members : members_meant other (rewritten f j) ≡ members_meant reads j
      pub dictionary : dictionary_meant other (rewritten f j) ≡ dictionary_meant reads j
      pub sealed : (o : Begun) → sealed_meant other o (rewritten f j) ≡ sealed_meant reads o j
      pub mixed : (o : Begun) (names : List (List ℕ)) (k : List ℕ) → mixed_meant other o names (member k (rewritten f j) no_members) ≡ mixed_meant reads o names (member k j no_members)
      pub pair : (rest : Items) → Pairs rest → Pairs (item j rest)
      pub part : (rest : Items) → Entries rest → Entries (item j rest)

    pub record SameItems (js : Items) : Type 0 where
      pub items : items_meant other (rewritten_items f js) ≡ items_meant reads js
      pub pairs : Pairs js
      pub entries : Entries js
      -- as a pair, and behind the first of one
      pub pair : (rest : Items) → Pairs rest → Pairs (item (json.array js) rest)
      pub part : (rest : Items) → Entries rest → Entries (item (json.array js) rest)
      pub pair_behind : (k : Json) (rest : Items) → Pairs rest → Pairs (item (json.array (item k js)) rest)
      pub part_behind : (k : Json) → meant other (rewritten f k) ≡ meant reads k → (rest : Items) → Entries rest → Entries (item (json.array (item k js)) rest)

    pub record SameMembers (ms : Members) : Type 0 where
      pub object : object_meant other (rewritten_members f ms) ≡ object_meant reads ms
      pub plain : plain_meant other (rewritten_members f ms) ≡ plain_meant reads ms
      pub keys : keys_meant other (rewritten_members f ms) ≡ keys_meant reads ms
      pub names : (ts : Trees) → array_names other ts (rewritten_members f ms) ≡ array_names reads ts ms
      pub fixed : (b : Bool) → fixed_meant other b (rewritten_members f ms) ≡ fixed_meant reads b ms
      pub typed : (b : Bool) (x : List ℕ) → typed_meant other b x (rewritten_members f ms) ≡ typed_meant reads b x ms
      pub class : (x : List ℕ) → class_meant other x (rewritten_members f ms) ≡ class_meant reads x ms
      pub begun : (o : Begun) → begun_meant other o (rewritten_members f ms) ≡ begun_meant reads o ms
      pub mixed : (o : Begun) (names : List (List ℕ)) → mixed_meant other o names (rewritten_members f ms) ≡ mixed_meant reads o names ms

    -- Values.

    of_null : SameValue json.null
    unfolding meant
    of_null = record { value = refl; list = refl; members = refl; dictionary = refl; sealed = λ o. refl; mixed = λ o names k. refl; pair = λ rest p. refl; part = λ rest p. refl }

    of_boolean : (b : Bool) → SameValue (json.boolean b)
    unfolding meant
    of_boolean b = record { value = refl; list = refl; members = refl; dictionary = refl; sealed = λ o. refl; mixed = λ o names k. refl; pair = λ rest p. refl; part = λ rest p. refl }

    of_string : (s : List ℕ) → SameValue (json.string s)
    unfolding meant
    of_string s = record { value = refl; list = refl; members = refl; dictionary = refl; sealed = λ o. refl; mixed = λ o names k. refl; pair = λ rest p. refl; part = λ rest p. refl }

    of_number : (s : List ℕ) → SameValue (json.number s)
    unfolding meant
    of_number s = record {
      value = ap (option_map (λ p. said (as_integer p (whole_of p)))) (same s);
      list = refl;
      members = refl;
      dictionary = refl;
      sealed = λ o. refl;
      mixed = λ o names k. refl;
      pair = λ rest p. refl;
      part = λ rest p. refl;
    }

    of_array : (js : Items) → SameItems js → SameValue (json.array js)
    unfolding meant
    of_array js s = record {
      value = ap (option_map (body graph.array no_named)) s.items;
      list = s.items;
      members = s.pairs;
      dictionary = s.entries;
      sealed = λ o. ap (option_map (object_body o)) s.pairs;
      mixed = λ o names k. refl;
      pair = s.pair;
      part = s.part;
    }

    of_object : (ms : Members) → SameMembers ms → SameValue (json.object ms)
    unfolding meant
    of_object ms m = record {
      value = m.object;
      list = refl;
      members = m.keys;
      dictionary = refl;
      sealed = λ o. ap (option_and_then (rising_body o)) m.keys;
      mixed = λ o names k. ap (λ x. if bytes_eq k (codes "$sealed") then option_and_then (mixed_body o names) x else None) m.keys;
      pair = λ rest p. refl;
      part = λ rest p. refl;
    }

    -- Items.

    of_no_items : SameItems no_items
    unfolding meant
    of_no_items = record { items = refl; pairs = refl; entries = refl; pair = λ rest p. refl; part = λ rest p. refl; pair_behind = λ k rest p. refl; part_behind = λ k e rest p. refl }

    pair_last : (k j : Json) (js : Items) → SameValue j → (rest : Items) → Pairs rest → Pairs (item (json.array (item k (item j js))) rest)
    unfolding meant
    pair_last k j (item i js) o rest p = refl
    pair_last k j no_items o rest p =
        ap (λ x. option_and_then (λ x. option_and_then (λ t. option_map (named x t) (pairs_meant other (rewritten_items f rest))) (meant other (rewritten f j))) x) (text_same k)
        ∙ ap₂ (λ a b. option_and_then (λ x. option_and_then (λ t. option_map (named x t) b) a) (text_meant k)) o.value p

    part_last : (k j : Json) (js : Items) → meant other (rewritten f k) ≡ meant reads k → SameValue j → (rest : Items) → Entries rest → Entries (item (json.array (item k (item j js))) rest)
    unfolding meant
    part_last k j (item i js) e o rest p = refl
    part_last k j no_items e o rest p =
        ap (λ x. option_and_then (λ a. option_and_then (λ b. option_map (entry a b) (entries_meant other (rewritten_items f rest))) (meant other (rewritten f j))) x) e
        ∙ ap₂ (λ y z. option_and_then (λ a. option_and_then (λ b. option_map (entry a b) z) y) (meant reads k)) o.value p

    of_item : (j : Json) (js : Items) → SameValue j → SameItems js → SameItems (item j js)
    unfolding meant
    of_item j js o s = record {
      items = ap₂ (λ a b. option_and_then (λ t. option_map (tree t) b) a) o.value s.items;
      pairs = o.pair js s.pairs;
      entries = o.part js s.entries;
      pair = λ rest p. s.pair_behind j rest p;
      part = λ rest p. s.part_behind j o.value rest p;
      pair_behind = λ k rest p. pair_last k j js o rest p;
      part_behind = λ k e rest p. part_last k j js e o rest p;
    }

    -- Members.

    of_no_members : SameMembers no_members
    unfolding meant
    of_no_members = record { object = refl; plain = refl; keys = refl; names = λ ts. refl; fixed = λ b. refl; typed = λ b x. refl; class = λ x. refl; begun = λ o. refl; mixed = λ o names. refl }

    module _ (k : List ℕ) (j : Json) (ms : Members) (o : SameValue j) (m : SameMembers ms) where
      object_same : (t : Tag) → by_tag other k (rewritten f j) (rewritten_members f ms) t ≡ by_tag reads k j ms t
      object_same tag.name = ap₂ (λ a b. option_and_then (λ t. option_map (λ ts. plain_object (named k t ts)) b) a) o.value m.plain
      object_same tag.undefined = last_same ms (true_meant (rewritten f j)) (true_meant j) (truth_same j)
      object_same tag.double =
          last_same ms (option_map (λ p. said (graph.double p)) (pattern_meant other (rewritten f j))) (option_map (λ p. said (graph.double p)) (pattern_meant reads j)) (ap (option_map (λ p. said (graph.double p))) (pattern_same j))
      object_same tag.text =
          last_same ms (option_map (λ x. said (graph.text x)) (option_and_then if_text (bytes_meant (rewritten f j)))) (option_map (λ x. said (graph.text x)) (option_and_then if_text (bytes_meant j)))
          (ap (λ b. option_map (λ x. said (graph.text x)) (option_and_then if_text b)) (bytes_same j))
      object_same tag.node = last_same ms (label_meant (rewritten f j)) (label_meant j) (label_same j)
      object_same tag.array = then_same (λ ts. array_names other ts (rewritten_members f ms)) (λ ts. array_names reads ts ms) (values_meant other (rewritten f j)) (values_meant reads j) o.list m.names
      object_same tag.class = then_same (λ x. class_meant other x (rewritten_members f ms)) (λ x. class_meant reads x ms) (text_meant (rewritten f j)) (text_meant j) (text_same j) m.class
      object_same tag.collection = let g = option_map (λ t. body (graph.wrapper ArrayCollection) no_named (tree t no_trees)) in last_same ms (g (meant other (rewritten f j))) (g (meant reads j)) (ap g o.value)
      object_same tag.list = let g = option_map (λ t. body (graph.wrapper ArrayList) no_named (tree t no_trees)) in last_same ms (g (meant other (rewritten f j))) (g (meant reads j)) (ap g o.value)
      object_same tag.proxy = let g = option_map (λ t. body (graph.wrapper ObjectProxy) no_named (tree t no_trees)) in last_same ms (g (meant other (rewritten f j))) (g (meant reads j)) (ap g o.value)
      object_same tag.xmldoc = let g = option_map (λ x. simple_body (graph.xml_document x)) in last_same ms (g (text_meant (rewritten f j))) (g (text_meant j)) (ap g (text_same j))
      object_same tag.xml = let g = option_map (λ x. simple_body (graph.xml x)) in last_same ms (g (text_meant (rewritten f j))) (g (text_meant j)) (ap g (text_same j))
      object_same tag.date = let g = option_map (λ p. simple_body (graph.date p)) in last_same ms (g (pattern_meant other (rewritten f j))) (g (pattern_meant reads j)) (ap g (pattern_same j))
      object_same tag.bytes = let g = option_map (λ x. simple_body (graph.bytes x)) in last_same ms (g (bytes_meant (rewritten f j))) (g (bytes_meant j)) (ap g (bytes_same j))
      object_same tag.doubles =
          ap₂ (λ a b. option_map (λ (p : List ℕ × Bool). simple_body (graph.doubles p.1 p.0)) (both a b)) (list_same f (pattern_meant other) (pattern_meant reads) pattern_same j) (last_flag_same (codes "$fixed") ms)
      object_same tag.dictionary = ap₂ (λ a b. option_map (λ (p : Trees × Bool). body (graph.dictionary p.1) no_named p.0) (both a b)) o.dictionary (last_flag_same (codes "$weak") ms)
      object_same tag.fixed = then_same (λ b. fixed_meant other b (rewritten_members f ms)) (λ b. fixed_meant reads b ms) (flag_meant (rewritten f j)) (flag_meant j) (flag_same j) m.fixed
      object_same tag.ints = last_same ms (ints_meant other false (rewritten f j)) (ints_meant reads false j) (ints_same false j)
      object_same tag.uints = last_same ms (uints_meant other false (rewritten f j)) (uints_meant reads false j) (uints_same false j)
      object_same tag.type = then_same (λ x. typed_meant other false x (rewritten_members f ms)) (λ x. typed_meant reads false x ms) (text_meant (rewritten f j)) (text_meant j) (text_same j) (m.typed false)
      object_same tag.dynamic = refl
      object_same tag.names = refl
      object_same tag.sealed = refl
      object_same tag.values = refl
      object_same tag.weak = refl
      object_same tag.unknown = refl

      plain_same : (t : Tag) → plain_by other k (rewritten f j) (rewritten_members f ms) t ≡ plain_by reads k j ms t
      unfolding plain_by
      plain_same tag.name = ap₂ (λ a b. option_and_then (λ t. option_map (named k t) b) a) o.value m.plain
      plain_same _ = refl

      fixed_same : (b : Bool) (t : Tag) → fixed_by other b (rewritten f j) (rewritten_members f ms) t ≡ fixed_by reads b j ms t
      unfolding fixed_by
      fixed_same b tag.ints = last_same ms (ints_meant other b (rewritten f j)) (ints_meant reads b j) (ints_same b j)
      fixed_same b tag.uints = last_same ms (uints_meant other b (rewritten f j)) (uints_meant reads b j) (uints_same b j)
      fixed_same b tag.type = then_same (λ x. typed_meant other b x (rewritten_members f ms)) (λ x. typed_meant reads b x ms) (text_meant (rewritten f j)) (text_meant j) (text_same j) (m.typed b)
      fixed_same b _ = refl

      mixed_names_same : (b : Begun) → option_and_then (λ xs. mixed_meant other b xs (rewritten_members f ms)) (class_names (rewritten f j)) ≡ option_and_then (λ xs. mixed_meant reads b xs ms) (class_names j)
      mixed_names_same b = then_same (λ xs. mixed_meant other b xs (rewritten_members f ms)) (λ xs. mixed_meant reads b xs ms) (class_names (rewritten f j)) (class_names j) (names_same j) (m.mixed b)

      class_same : (x : List ℕ) (t : Tag) → class_by other x (rewritten f j) (rewritten_members f ms) t ≡ class_by reads x j ms t
      unfolding class_by
      class_same x tag.dynamic =
          then_same (λ ns. begun_meant other (is_dynamic reads x ns) (rewritten_members f ms)) (λ ns. begun_meant reads (is_dynamic reads x ns) ms) (members_meant other (rewritten f j)) (members_meant reads j) o.members
          (λ ns. m.begun (is_dynamic reads x ns))
      class_same x tag.names = mixed_names_same (not_dynamic reads x)
      class_same x tag.sealed = last_same ms (sealed_meant other (not_dynamic reads x) (rewritten f j)) (sealed_meant reads (not_dynamic reads x) j) (o.sealed (not_dynamic reads x))
      class_same x _ = refl

      begun_same : (b : Begun) (t : Tag) → begun_by other b (rewritten f j) (rewritten_members f ms) t ≡ begun_by reads b j ms t
      unfolding begun_by
      begun_same b tag.names = mixed_names_same b
      begun_same b tag.sealed = last_same ms (sealed_meant other b (rewritten f j)) (sealed_meant reads b j) (o.sealed b)
      begun_same b _ = refl

    names_last : (k : List ℕ) (j : Json) (ms : Members) → SameValue j → (ts : Trees) → array_names other ts (rewritten_members f (member k j ms)) ≡ array_names reads ts (member k j ms)
    unfolding meant
    names_last k j no_members o ts = ap (λ x. if bytes_eq k (codes "$names") then option_map (λ ns. body graph.array ns ts) x else None) o.members
    names_last k j (member l i ms) o ts = refl

    typed_last : (k : List ℕ) (j : Json) (ms : Members) → SameValue j → (b : Bool) (x : List ℕ) → typed_meant other b x (rewritten_members f (member k j ms)) ≡ typed_meant reads b x (member k j ms)
    unfolding meant
    typed_last k j no_members o b x = ap (λ y. if bytes_eq k (codes "$values") then option_map (body (graph.values b x) no_named) y else None) o.list
    typed_last k j (member l i ms) o b x = refl

    -- nothing more may stand behind the sealed members
    mixed_more : (reads : Reads) (o : Begun) (names : List (List ℕ)) (k l : List ℕ) (j i : Json) (ms : Members) → mixed_meant reads o names (member k j (member l i ms)) ≡ None
    unfolding meant
    mixed_more reads o names k l json.null i ms = refl
    mixed_more reads o names k l (json.boolean b) i ms = refl
    mixed_more reads o names k l (json.number s) i ms = refl
    mixed_more reads o names k l (json.string s) i ms = refl
    mixed_more reads o names k l (json.array js) i ms = refl
    mixed_more reads o names k l (json.object ns) i ms = refl

    mixed_last : (k : List ℕ) (j : Json) (ms : Members) → SameValue j → (b : Begun) (names : List (List ℕ)) → mixed_meant other b names (rewritten_members f (member k j ms)) ≡ mixed_meant reads b names (member k j ms)
    mixed_last k j no_members o b names = o.mixed b names k
    mixed_last k j (member l i ms) o b names =
        mixed_more other b names k l (rewritten f j) (rewritten f i) (rewritten_members f ms) ∙ go (mixed_meant reads b names (member k j (member l i ms))) (mixed_more reads b names k l j i ms)
      where
        go : (x : Option Tree) → x ≡ None → None ≡ x
        go x e = cc

    of_member : (k : List ℕ) (j : Json) (ms : Members) → SameValue j → SameMembers ms → SameMembers (member k j ms)
    unfolding meant plain_by fixed_by class_by begun_by
    of_member k j ms o m = record {
      object = object_same k j ms o m (tag_of k);
      plain = plain_same k j ms o m (tag_of k);
      keys = ap₂ (λ a b. option_and_then (λ t. option_map (named k t) b) a) o.value m.keys;
      names = names_last k j ms o;
      fixed = λ b. fixed_same k j ms o m b (tag_of k);
      typed = typed_last k j ms o;
      class = λ x. class_same k j ms o m x (tag_of k);
      begun = λ b. begun_same k j ms o m b (tag_of k);
      mixed = mixed_last k j ms o;
    }

    mutual
      pub same_value : (j : Json) → SameValue j
      same_value json.null = of_null
      same_value (json.boolean b) = of_boolean b
      same_value (json.number s) = of_number s
      same_value (json.string s) = of_string s
      same_value (json.array js) = of_array js (same_items js)
      same_value (json.object ms) = of_object ms (same_members ms)

      pub same_items : (js : Items) → SameItems js
      same_items no_items = of_no_items
      same_items (item j js) = of_item j js (same_value j) (same_items js)

      pub same_members : (ms : Members) → SameMembers ms
      same_members no_members = of_no_members
      same_members (member k j ms) = of_member k j ms (same_value j) (same_members ms)
