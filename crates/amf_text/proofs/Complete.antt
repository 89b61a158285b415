-- What means something is what is asked for: each value, by the parts of its JSON.
use Rattle.std.proofs.Common.{◌≡◌, ℕ, Bool, true, false, List, [], ◌∷◌, ◌++◌, Option, Some, None, refl, sym, ap, ◌∙◌, subst, append_assoc}
use Rattle.std.specs.Prelude.{option_map, option_and_then, is_some, codes}
use Rattle.std.proofs.lemmas.Option.{same_Some}
use Rattle.json.specs.Token.{Token, begin_object, begin_array, end_array, string, number, boolean, null}
use Rattle.json.specs.Json.{Json, no_items, no_members, item, member, Items, Members}
use Rattle.json.specs.Json as json
use Rattle.json.specs.Tree.{json_tokens, items_tokens, members_tokens}
use Rattle.amf_wire.specs.WholeNumbers.{whole_of}
use Rattle.amf_graph.specs.Graph as graph
use Rattle.amf_text.specs.Scalars.{Reads}
use Rattle.amf_text.specs.Told.{is_rising}
use Rattle.amf_text.specs.Meant.{Tree, said, called, body, Trees, tree, Named, named, no_named, keys_of, text_meant, true_meant, label_meant, are_those, Begun, as_integer, entry, rising_body, object_body, meant, items_meant, values_meant, members_meant, keys_meant, pairs_meant, entries_meant, dictionary_meant, plain_meant, object_meant, array_names, fixed_meant, typed_meant, class_meant, begun_meant, sealed_meant, mixed_meant, is_body}
use Rattle.amf_text.specs.Linked.{are_rows}
use Rattle.amf_text.specs.Asks as ask
use Rattle.amf_text.specs.Asks.{Goal, step, node_key, value_key, vector_tag, class_key, begun_key, if_it}
use Rattle.amf_text.proofs.Goals.{no_answer, and_then_is, map_is, Done, joined, first_step}
use Rattle.amf_text.proofs.Asked.{if_is, some_is, one_token, test_token, text_done, items_of, list_more}

pub not_node : {Z : Type 0} (y x : Tree) → y ≡ x → is_body y ≡ false → is_body x ≡ true → Z
not_node y x e n b = let h : false ≡ true = sym n ∙ ap is_body e ∙ b in cc

pub truth_is : (j : Json) (x : Tree) → true_meant j ≡ Some x → said graph.undefined ≡ x
truth_is (json.boolean true) x e = same_Some (said graph.undefined) x e
truth_is (json.boolean false) x e = no_answer x e
truth_is json.null x e = no_answer x e
truth_is (json.number s) x e = no_answer x e
truth_is (json.string s) x e = no_answer x e
truth_is (json.array js) x e = no_answer x e
truth_is (json.object ms) x e = no_answer x e

pub label_is : (j : Json) (x : Tree) → label_meant j ≡ Some x → (l : List ℕ) × (called l ≡ x)
label_is (json.string s) x e = (s, same_Some (called s) x e)
label_is json.null x e = no_answer x e
label_is (json.boolean b) x e = no_answer x e
label_is (json.number s) x e = no_answer x e
label_is (json.array js) x e = no_answer x e
label_is (json.object ms) x e = no_answer x e

module _ (reads : Reads) where
  abbrev pub ValueDone : Json → Type 0
  ValueDone j = (x : Tree) → meant reads j ≡ Some x → Done reads (ask.value ∷ []) (json_tokens j)

  abbrev pub AllValues : Items → Type 0
  AllValues no_items = Unit {0}
  AllValues (item j js) = ValueDone j × AllValues js

  abbrev pub Inside : Json → Type 0
  Inside (json.array js) = AllValues js
  Inside _ = Unit {0}

  abbrev pub Those : Json → Type 0
  Those (json.object ms) = (names : List (List ℕ)) (x : Named) → keys_meant reads ms ≡ Some x → are_those names (keys_of x) ≡ true → Done reads (ask.those names ∷ []) (json_tokens (json.object ms))
  Those _ = Unit {0}

  pub record OfJson (j : Json) : Type 0 where
    pub value : ValueDone j
    pub node : (x : Tree) → meant reads j ≡ Some x → is_body x ≡ true → Done reads (ask.node ∷ []) (json_tokens j)
    pub list : (x : Trees) → values_meant reads j ≡ Some x → Done reads (ask.list ∷ []) (json_tokens j)
    pub members : (x : Named) → members_meant reads j ≡ Some x → Done reads (ask.members ∷ []) (json_tokens j)
    pub dictionary : (x : Trees) → dictionary_meant reads j ≡ Some x → Done reads (ask.entries_list ∷ []) (json_tokens j)
    pub sealed : (o : Begun) (x : Tree) → sealed_meant reads o j ≡ Some x → Done reads (ask.sealed ∷ []) (json_tokens j)
    pub those : Those j
    pub inside : Inside j

  pub record OfItems (js : Items) : Type 0 where
    pub items : (x : Trees) → items_meant reads js ≡ Some x → Done reads (ask.items ∷ []) (items_tokens js)
    pub pairs : (x : Named) → pairs_meant reads js ≡ Some x → Done reads (ask.pairs ∷ []) (items_tokens js)
    pub entries : (x : Trees) → entries_meant reads js ≡ Some x → Done reads (ask.entries ∷ []) (items_tokens js)
    pub values : AllValues js

  abbrev pub Rises : Option (List ℕ) → List (List ℕ) → Type 0
  Rises None xs = is_rising xs ≡ true
  Rises (Some last) xs = is_rising (last ∷ xs) ≡ true

  pub record OfMembers (ms : Members) : Type 0 where
    pub object : (x : Tree) → object_meant reads ms ≡ Some x → Done reads (ask.object ∷ []) (members_tokens ms)
    pub node_object : (x : Tree) → object_meant reads ms ≡ Some x → is_body x ≡ true → Done reads (ask.node_object ∷ []) (members_tokens ms)
    pub plain : (x : Named) → plain_meant reads ms ≡ Some x → Done reads (ask.plain ∷ []) (members_tokens ms)
    pub keys : (x : Named) → keys_meant reads ms ≡ Some x → Done reads (ask.keys ∷ []) (members_tokens ms)
    pub rising : (last : Option (List ℕ)) (x : Named) → keys_meant reads ms ≡ Some x → Rises last (keys_of x) → Done reads (ask.rising last ∷ []) (members_tokens ms)
    pub left : (names : List (List ℕ)) (x : Named) → keys_meant reads ms ≡ Some x → are_those names (keys_of x) ≡ true → Done reads (ask.left names ∷ []) (members_tokens ms)
    pub rows : (seen : List (List ℕ)) (x : Named) → keys_meant reads ms ≡ Some x → are_rows seen x ≡ true → Done reads (ask.row_keys seen ∷ []) (members_tokens ms)
    pub names : (ts : Trees) (x : Tree) → array_names reads ts ms ≡ Some x → Done reads (ask.key_is (codes "$names") ∷ ask.members ∷ ask.close ∷ []) (members_tokens ms)
    pub fixed : (f : Bool) (x : Tree) → fixed_meant reads f ms ≡ Some x → Done reads (ask.vector_key ∷ []) (members_tokens ms)
    pub typed : (f : Bool) (c : List ℕ) (x : Tree) → typed_meant reads f c ms ≡ Some x → Done reads (ask.key_is (codes "$values") ∷ ask.list ∷ ask.close ∷ []) (members_tokens ms)
    pub class : (c : List ℕ) (x : Tree) → class_meant reads c ms ≡ Some x → Done reads (ask.class_rest ∷ []) (members_tokens ms)
    pub begun : (o : Begun) (x : Tree) → begun_meant reads o ms ≡ Some x → Done reads (ask.begun ∷ []) (members_tokens ms)
    pub mixed : (o : Begun) (names : List (List ℕ)) (x : Tree) → mixed_meant reads o names ms ≡ Some x → Done reads (ask.key_is (codes "$sealed") ∷ ask.those names ∷ ask.close ∷ []) (members_tokens ms)

  -- Scalars.

  pub of_null : OfJson json.null
  unfolding step meant
  of_null = record {
    value = λ x e. one_token reads ask.value null refl;
    node = λ x e b. not_node (said graph.null) x (same_Some (said graph.null) x e) refl b;
    list = λ x e. no_answer x e;
    members = λ x e. no_answer x e;
    dictionary = λ x e. no_answer x e;
    sealed = λ o x e. no_answer x e;
    those = tt;
    inside = tt;
  }

  pub of_boolean : (b : Bool) → OfJson (json.boolean b)
  unfolding step meant
  of_boolean b = record {
    value = λ x e. one_token reads ask.value (boolean b) refl;
    node = λ x e n. not_node (said (graph.boolean b)) x (same_Some (said (graph.boolean b)) x e) refl n;
    list = λ x e. no_answer x e;
    members = λ x e. no_answer x e;
    dictionary = λ x e. no_answer x e;
    sealed = λ o x e. no_answer x e;
    those = tt;
    inside = tt;
  }

  pub of_string : (s : List ℕ) → OfJson (json.string s)
  unfolding step meant
  of_string s = record {
    value = λ x e. one_token reads ask.value (string s) refl;
    node = λ x e n. not_node (said (graph.text s)) x (same_Some (said (graph.text s)) x e) refl n;
    list = λ x e. no_answer x e;
    members = λ x e. no_answer x e;
    dictionary = λ x e. no_answer x e;
    sealed = λ o x e. no_answer x e;
    those = tt;
    inside = tt;
  }

  number_said : ℕ → Tree
  number_said p = said (as_integer p (whole_of p))

  pub of_number : (s : List ℕ) → OfJson (json.number s)
  unfolding step meant number_said
  of_number s = record {
    value = λ x e. let h = map_is number_said (reads s) x e in test_token reads ask.value (number s) (is_some (reads s)) refl (some_is (reads s) h.0 h.1);
    node = λ x e n. let h = map_is number_said (reads s) x e in not_node (number_said h.0) x h.2 refl n;
    list = λ x e. no_answer x e;
    members = λ x e. no_answer x e;
    dictionary = λ x e. no_answer x e;
    sealed = λ o x e. no_answer x e;
    those = tt;
    inside = tt;
  }

  -- Arrays and objects.

  pub of_array : (js : Items) → OfItems js → OfJson (json.array js)
  unfolding step meant
  of_array js i = record {
    value = λ x e. let h = map_is (body graph.array no_named) (items_meant reads js) x e in first_step reads ask.value begin_array (ask.items ∷ []) (items_tokens js) refl (i.items h.0 h.1);
    node = λ x e n. let h = map_is (body graph.array no_named) (items_meant reads js) x e in first_step reads ask.node begin_array (ask.items ∷ []) (items_tokens js) refl (i.items h.0 h.1);
    list = λ x e. first_step reads ask.list begin_array (ask.items ∷ []) (items_tokens js) refl (i.items x e);
    members = λ x e. first_step reads ask.members begin_array (ask.pairs ∷ []) (items_tokens js) refl (i.pairs x e);
    dictionary = λ x e. first_step reads ask.entries_list begin_array (ask.entries ∷ []) (items_tokens js) refl (i.entries x e);
    sealed = λ o x e. let h = map_is (object_body o) (pairs_meant reads js) x e in first_step reads ask.sealed begin_array (ask.pairs ∷ []) (items_tokens js) refl (i.pairs h.0 h.1);
    those = tt;
    inside = i.values;
  }

  pub of_object : (ms : Members) → OfMembers ms → OfJson (json.object ms)
  unfolding step meant
  of_object ms m = record {
    value = λ x e. first_step reads ask.value begin_object (ask.object ∷ []) (members_tokens ms) refl (m.object x e);
    node = λ x e n. first_step reads ask.node begin_object (ask.node_object ∷ []) (members_tokens ms) refl (m.node_object x e n);
    list = λ x e. no_answer x e;
    members = λ x e. first_step reads ask.members begin_object (ask.keys ∷ []) (members_tokens ms) refl (m.keys x e);
    dictionary = λ x e. no_answer x e;
    sealed = λ o x e.
        let h = and_then_is (rising_body o) (keys_meant reads ms) x e in
        let r = if_is (is_rising (keys_of h.0)) (Some (object_body o h.0)) x h.2 in
        first_step reads ask.sealed begin_object (ask.rising None ∷ []) (members_tokens ms) refl (m.rising None h.0 h.1 r.0);
    those = λ names x e t. first_step reads (ask.those names) begin_object (ask.left names ∷ []) (members_tokens ms) refl (m.left names x e t);
    inside = tt;
  }

  -- Items.

  pub of_no_items : OfItems no_items
  unfolding step meant
  of_no_items = record {
    items = λ x e. one_token reads ask.items end_array refl;
    pairs = λ x e. one_token reads ask.pairs end_array refl;
    entries = λ x e. one_token reads ask.entries end_array refl;
    values = tt;
  }

  -- two in brackets, and then more
  twins : (g h more : Goal) (a b c : List Token) → Done reads (g ∷ []) a → Done reads (h ∷ []) b → Done reads (more ∷ []) c
      → Done reads (g ∷ h ∷ ask.end_list ∷ more ∷ []) ((a ++ (b ++ end_array ∷ [])) ++ c)
  unfolding step
  twins g h more a b c d e f =
      subst (Done reads (g ∷ h ∷ ask.end_list ∷ more ∷ [])) (sym (append_assoc a (b ++ end_array ∷ []) c ∙ ap (λ l. a ++ l) (append_assoc b (end_array ∷ []) c)))
      (joined reads (g ∷ []) (h ∷ ask.end_list ∷ more ∷ []) a (b ++ end_array ∷ c) d
      (joined reads (h ∷ []) (ask.end_list ∷ more ∷ []) b (end_array ∷ c) e
      (joined reads (ask.end_list ∷ []) (more ∷ []) (end_array ∷ []) c refl f)))

  pair_item : (j : Json) (js : Items) → Inside j → ((x : Named) → pairs_meant reads js ≡ Some x → Done reads (ask.pairs ∷ []) (items_tokens js))
      → (x : Named) → pairs_meant reads (item j js) ≡ Some x → Done reads (ask.pairs ∷ []) (json_tokens j ++ items_tokens js)
  unfolding step meant
  pair_item (json.array (item k (item v no_items))) js i rest x e =
      let h = and_then_is (λ y. option_and_then (λ t. option_map (named y t) (pairs_meant reads js)) (meant reads v)) (text_meant k) x e in
      let r = and_then_is (λ t. option_map (named h.0 t) (pairs_meant reads js)) (meant reads v) x h.2 in
      let l = map_is (named h.0 r.0) (pairs_meant reads js) x r.2 in
      first_step reads ask.pairs begin_array (ask.text ∷ ask.value ∷ ask.end_list ∷ ask.pairs ∷ []) ((json_tokens k ++ (json_tokens v ++ end_array ∷ [])) ++ items_tokens js) refl
      (twins ask.text ask.value ask.pairs (json_tokens k) (json_tokens v) (items_tokens js) (text_done reads k h.0 h.1) (i.1.0 r.0 r.1) (rest l.0 l.1))
  pair_item (json.array no_items) js i rest x e = no_answer x e
  pair_item (json.array (item k no_items)) js i rest x e = no_answer x e
  pair_item (json.array (item k (item v (item w ws)))) js i rest x e = no_answer x e
  pair_item json.null js i rest x e = no_answer x e
  pair_item (json.boolean b) js i rest x e = no_answer x e
  pair_item (json.number s) js i rest x e = no_answer x e
  pair_item (json.string s) js i rest x e = no_answer x e
  pair_item (json.object ms) js i rest x e = no_answer x e

  entry_item : (j : Json) (js : Items) → Inside j → ((x : Trees) → entries_meant reads js ≡ Some x → Done reads (ask.entries ∷ []) (items_tokens js))
      → (x : Trees) → entries_meant reads (item j js) ≡ Some x → Done reads (ask.entries ∷ []) (json_tokens j ++ items_tokens js)
  unfolding step meant
  entry_item (json.array (item k (item v no_items))) js i rest x e =
      let h = and_then_is (λ a. option_and_then (λ b. option_map (entry a b) (entries_meant reads js)) (meant reads v)) (meant reads k) x e in
      let r = and_then_is (λ b. option_map (entry h.0 b) (entries_meant reads js)) (meant reads v) x h.2 in
      let l = map_is (entry h.0 r.0) (entries_meant reads js) x r.2 in
      first_step reads ask.entries begin_array (ask.value ∷ ask.value ∷ ask.end_list ∷ ask.entries ∷ []) ((json_tokens k ++ (json_tokens v ++ end_array ∷ [])) ++ items_tokens js) refl
      (twins ask.value ask.value ask.entries (json_tokens k) (json_tokens v) (items_tokens js) (i.0 h.0 h.1) (i.1.0 r.0 r.1) (rest l.0 l.1))
  entry_item (json.array no_items) js i rest x e = no_answer x e
  entry_item (json.array (item k no_items)) js i rest x e = no_answer x e
  entry_item (json.array (item k (item v (item w ws)))) js i rest x e = no_answer x e
  entry_item json.null js i rest x e = no_answer x e
  entry_item (json.boolean b) js i rest x e = no_answer x e
  entry_item (json.number s) js i rest x e = no_answer x e
  entry_item (json.string s) js i rest x e = no_answer x e
  entry_item (json.object ms) js i rest x e = no_answer x e

  pub of_item : (j : Json) (js : Items) → OfJson j → OfItems js → OfItems (item j js)
  unfolding meant
  of_item j js o i = record {
    items = λ x e.
        let h = and_then_is (λ t. option_map (tree t) (items_meant reads js)) (meant reads j) x e in
        let r = map_is (tree h.0) (items_meant reads js) x h.2 in
        list_more reads ask.items ask.value (items_of reads) (json_tokens j) (items_tokens js) (o.value h.0 h.1) (i.items r.0 r.1);
    pairs = pair_item j js o.inside i.pairs;
    entries = entry_item j js o.inside i.entries;
    values = (o.value, i.values);
  }
