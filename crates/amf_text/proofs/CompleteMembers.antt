-- What means something is what is asked for: objects, by their first key.
use Rattle.std.proofs.Common.{◌≡◌, ℕ, Bool, true, false, List, [], ◌∷◌, ◌++◌, Option, Some, None, refl, sym, ap, ◌∙◌, subst}
use Rattle.std.specs.Prelude.{option_map, option_and_then, codes, bytes_eq, not, ◌&&◌}
use Rattle.std.proofs.lemmas.Bool.{and_parts}
use Rattle.std.proofs.lemmas.Option.{same_Some}
use Rattle.json.specs.Token.{Token, end_object, key}
use Rattle.json.specs.Json.{Json, no_items, no_members, item, member, Items, Members}
use Rattle.json.specs.Json as json
use Rattle.json.specs.Tree.{json_tokens, members_tokens}
use Rattle.amf_graph.specs.declared.wrapped.Wrapped.TheVariants.{ArrayCollection, ArrayList, ObjectProxy}
use Rattle.amf_graph.specs.Graph as graph
use Rattle.amf_text.specs.Tags.{Tag, tag_of}
use Rattle.amf_text.specs.Tags as tag
use Rattle.amf_text.specs.Scalars.{Reads}
use Rattle.amf_text.specs.Told.{stands_in, comes_before, is_rising}
use Rattle.amf_text.specs.Meant.{Tree, said, called, body, Trees, no_trees, tree, Named, named, no_named, keys_of, if_text, bytes_meant, text_meant, pattern_meant, flag_meant, last_flag, true_meant, label_meant, list_meant, class_names, are_those, without, Begun, both, if_last, plain_object, simple_body, mixed_body, fixed_last, ints_meant, uints_meant, meant, values_meant, members_meant, keys_meant, dictionary_meant, plain_meant, object_meant, array_names, fixed_meant, typed_meant, class_meant, begun_meant, sealed_meant, mixed_meant, is_body}
use Rattle.amf_text.specs.Linked.{are_rows}
use Rattle.amf_text.specs.Asks as ask
use Rattle.amf_text.specs.Asks.{Goal, step, node_key, value_key, vector_tag, class_key, begun_key, if_it}
use Rattle.amf_text.proofs.Goals.{no_answer, and_then_is, map_is, Done, joined, first_step}
use Rattle.amf_text.proofs.Asked.{if_is, last_is, both_is, key_then, one_token, then_close, hex_done, text_hex_done, text_done, pattern_done, flag_done, truth_done, label_done, pattern_list_done, int_list_done, uint_list_done, class_names_done, last_flag_done}
use Rattle.amf_text.proofs.Complete.{not_node, truth_is, label_is, OfJson, OfItems, OfMembers, Rises, of_null, of_boolean, of_number, of_string, of_array, of_object, of_no_items, of_item}

module _ (reads : Reads) where
  -- No members.

  left_none : (names : List (List ℕ)) (x : Named) → no_named ≡ x → are_those names (keys_of x) ≡ true → Done reads (ask.left names ∷ []) (end_object ∷ [])
  unfolding step
  left_none [] x e h = one_token reads (ask.left []) end_object refl
  left_none (n ∷ ns) x e h = let f : false ≡ true = ap (λ y. are_those (n ∷ ns) (keys_of y)) e ∙ h in cc

  of_no_members : OfMembers reads no_members
  unfolding step meant
  of_no_members = record {
    object = λ x e. one_token reads ask.object end_object refl;
    node_object = λ x e b. one_token reads ask.node_object end_object refl;
    plain = λ x e. one_token reads ask.plain end_object refl;
    keys = λ x e. one_token reads ask.keys end_object refl;
    rising = λ last x e r. one_token reads (ask.rising last) end_object refl;
    left = λ names x e h. left_none names x (same_Some no_named x e) h;
    rows = λ seen x e h. one_token reads (ask.row_keys seen) end_object refl;
    names = λ ts x e. no_answer x e;
    fixed = λ f x e. no_answer x e;
    typed = λ f c x e. no_answer x e;
    class = λ c x e. one_token reads ask.class_rest end_object refl;
    begun = λ o x e. one_token reads ask.begun end_object refl;
    mixed = λ o names x e. no_answer x e;
  }

  -- A first member, and others behind it.

  -- what the first key of an object leaves
  abbrev Left : Tag → Tree → List Token → Type 0
  Left t x ts = (gs : List Goal) × (value_key t ≡ Some gs) × (is_body x ≡ true → node_key t ≡ Some gs) × Done reads gs ts

  abbrev pub by_tag : List ℕ → Json → Members → Tag → Option Tree
  by_tag k j ms t = elim t [
    | tag.name ↦ option_and_then (λ t. option_map (λ ts. plain_object (named k t ts)) (plain_meant reads ms)) (meant reads j)
    | tag.undefined ↦ if_last ms (true_meant j)
    | tag.double ↦ if_last ms (option_map (λ p. said (graph.double p)) (pattern_meant reads j))
    | tag.text ↦ if_last ms (option_map (λ x. said (graph.text x)) (option_and_then if_text (bytes_meant j)))
    | tag.node ↦ if_last ms (label_meant j)
    | tag.array ↦ option_and_then (λ ts. array_names reads ts ms) (values_meant reads j)
    | tag.class ↦ option_and_then (λ x. class_meant reads x ms) (text_meant j)
    | tag.collection ↦ if_last ms (option_map (λ t. body (graph.wrapper ArrayCollection) no_named (tree t no_trees)) (meant reads j))
    | tag.list ↦ if_last ms (option_map (λ t. body (graph.wrapper ArrayList) no_named (tree t no_trees)) (meant reads j))
    | tag.proxy ↦ if_last ms (option_map (λ t. body (graph.wrapper ObjectProxy) no_named (tree t no_trees)) (meant reads j))
    | tag.xmldoc ↦ if_last ms (option_map (λ x. simple_body (graph.xml_document x)) (text_meant j))
    | tag.xml ↦ if_last ms (option_map (λ x. simple_body (graph.xml x)) (text_meant j))
    | tag.date ↦ if_last ms (option_map (λ p. simple_body (graph.date p)) (pattern_meant reads j))
    | tag.bytes ↦ if_last ms (option_map (λ x. simple_body (graph.bytes x)) (bytes_meant j))
    | tag.doubles ↦ fixed_last graph.doubles (list_meant (pattern_meant reads) j) ms
    | tag.dictionary ↦ option_map (λ p. body (graph.dictionary p.1) no_named p.0) (both (dictionary_meant reads j) (last_flag (codes "$weak") ms))
    | tag.fixed ↦ option_and_then (λ f. fixed_meant reads f ms) (flag_meant j)
    | tag.ints ↦ if_last ms (ints_meant reads false j)
    | tag.uints ↦ if_last ms (uints_meant reads false j)
    | tag.type ↦ option_and_then (λ x. typed_meant reads false x ms) (text_meant j)
    | _ ↦ None
  ]

  pub tagged : (k : List ℕ) (j : Json) (ms : Members) → object_meant reads (member k j ms) ≡ by_tag k j ms (tag_of k)
  unfolding meant
  tagged k j ms = refl

  -- one value and the end of the object
  last_left : (t : Tag) (g : Goal) (x : Tree) (j : Json) (ms : Members) → value_key t ≡ Some (g ∷ ask.close ∷ []) → (is_body x ≡ true → node_key t ≡ Some (g ∷ ask.close ∷ []))
      → ms ≡ no_members → Done reads (g ∷ []) (json_tokens j) → Left t x (json_tokens j ++ members_tokens ms)
  last_left t g x j ms v n e d = (g ∷ ask.close ∷ [], v, n, then_close reads g (json_tokens j) ms e d)

  object_left : (k : List ℕ) (j : Json) (ms : Members) → OfJson reads j → OfMembers reads ms → (t : Tag) (x : Tree) → by_tag k j ms t ≡ Some x → Left t x (json_tokens j ++ members_tokens ms)
  unfolding value_key node_key
  object_left k j ms o m tag.name x e =
      let h = and_then_is (λ t. option_map (λ ts. plain_object (named k t ts)) (plain_meant reads ms)) (meant reads j) x e in
      let r = map_is (λ ts. plain_object (named k h.0 ts)) (plain_meant reads ms) x h.2 in
      (ask.value ∷ ask.plain ∷ [], refl, λ b. refl, joined reads (ask.value ∷ []) (ask.plain ∷ []) (json_tokens j) (members_tokens ms) (o.value h.0 h.1) (m.plain r.0 r.1))
  object_left k j ms o m tag.undefined x e =
      let l = last_is ms (true_meant j) x e in
      last_left tag.undefined ask.truth x j ms refl (not_node (said graph.undefined) x (truth_is j x l.1) refl) l.0 (truth_done reads j x l.1)
  object_left k j ms o m tag.double x e =
      let l = last_is ms (option_map (λ p. said (graph.double p)) (pattern_meant reads j)) x e in
      let h = map_is (λ p. said (graph.double p)) (pattern_meant reads j) x l.1 in
      last_left tag.double ask.pattern x j ms refl (not_node (said (graph.double h.0)) x h.2 refl) l.0 (pattern_done reads j h.0 h.1)
  object_left k j ms o m tag.text x e =
      let l = last_is ms (option_map (λ x. said (graph.text x)) (option_and_then if_text (bytes_meant j))) x e in
      let h = map_is (λ x. said (graph.text x)) (option_and_then if_text (bytes_meant j)) x l.1 in
      last_left tag.text ask.text_hex x j ms refl (not_node (said (graph.text h.0)) x h.2 refl) l.0 (text_hex_done reads j h.0 h.1)
  object_left k j ms o m tag.node x e =
      let l = last_is ms (label_meant j) x e in
      let c = label_is j x l.1 in
      last_left tag.node ask.label x j ms refl (not_node (called c.0) x c.1 refl) l.0 (label_done reads j x l.1)
  object_left k j ms o m tag.array x e =
      let h = and_then_is (λ ts. array_names reads ts ms) (values_meant reads j) x e in (
        ask.list ∷ ask.key_is (codes "$names") ∷ ask.members ∷ ask.close ∷ [],
        refl,
        λ b. refl,
        joined reads (ask.list ∷ []) (ask.key_is (codes "$names") ∷ ask.members ∷ ask.close ∷ []) (json_tokens j) (members_tokens ms) (o.list h.0 h.1) (m.names h.0 x h.2),
      )
  object_left k j ms o m tag.class x e =
      let h = and_then_is (λ y. class_meant reads y ms) (text_meant j) x e in (
        ask.text ∷ ask.class_rest ∷ [],
        refl,
        λ b. refl,
        joined reads (ask.text ∷ []) (ask.class_rest ∷ []) (json_tokens j) (members_tokens ms) (text_done reads j h.0 h.1) (m.class h.0 x h.2),
      )
  object_left k j ms o m tag.collection x e =
      let f = λ (t : Tree). body (graph.wrapper ArrayCollection) no_named (tree t no_trees) in
      let l = last_is ms (option_map f (meant reads j)) x e in
      let h = map_is f (meant reads j) x l.1 in
      last_left tag.collection ask.value x j ms refl (λ b. refl) l.0 (o.value h.0 h.1)
  object_left k j ms o m tag.list x e =
      let f = λ (t : Tree). body (graph.wrapper ArrayList) no_named (tree t no_trees) in
      let l = last_is ms (option_map f (meant reads j)) x e in
      let h = map_is f (meant reads j) x l.1 in
      last_left tag.list ask.value x j ms refl (λ b. refl) l.0 (o.value h.0 h.1)
  object_left k j ms o m tag.proxy x e =
      let f = λ (t : Tree). body (graph.wrapper ObjectProxy) no_named (tree t no_trees) in
      let l = last_is ms (option_map f (meant reads j)) x e in
      let h = map_is f (meant reads j) x l.1 in
      last_left tag.proxy ask.value x j ms refl (λ b. refl) l.0 (o.value h.0 h.1)
  object_left k j ms o m tag.xmldoc x e =
      let f = λ (y : List ℕ). simple_body (graph.xml_document y) in
      let l = last_is ms (option_map f (text_meant j)) x e in
      let h = map_is f (text_meant j) x l.1 in
      last_left tag.xmldoc ask.text x j ms refl (λ b. refl) l.0 (text_done reads j h.0 h.1)
  object_left k j ms o m tag.xml x e =
      let f = λ (y : List ℕ). simple_body (graph.xml y) in
      let l = last_is ms (option_map f (text_meant j)) x e in
      let h = map_is f (text_meant j) x l.1 in
      last_left tag.xml ask.text x j ms refl (λ b. refl) l.0 (text_done reads j h.0 h.1)
  object_left k j ms o m tag.date x e =
      let f = λ (p : ℕ). simple_body (graph.date p) in
      let l = last_is ms (option_map f (pattern_meant reads j)) x e in
      let h = map_is f (pattern_meant reads j) x l.1 in
      last_left tag.date ask.pattern x j ms refl (λ b. refl) l.0 (pattern_done reads j h.0 h.1)
  object_left k j ms o m tag.bytes x e =
      let f = λ (y : List ℕ). simple_body (graph.bytes y) in
      let l = last_is ms (option_map f (bytes_meant j)) x e in
      let h = map_is f (bytes_meant j) x l.1 in
      last_left tag.bytes ask.hex x j ms refl (λ b. refl) l.0 (hex_done reads j h.0 h.1)
  object_left k j ms o m tag.doubles x e =
      let h = map_is (λ (p : List ℕ × Bool). simple_body (graph.doubles p.1 p.0)) (both (list_meant (pattern_meant reads) j) (last_flag (codes "$fixed") ms)) x e in
      let r = both_is (list_meant (pattern_meant reads) j) (last_flag (codes "$fixed") ms) h.0 h.1 in (
        ask.pattern_list ∷ ask.flag_or_close (codes "$fixed") ∷ [],
        refl,
        λ b. refl,
        joined reads (ask.pattern_list ∷ []) (ask.flag_or_close (codes "$fixed") ∷ []) (json_tokens j) (members_tokens ms) (pattern_list_done reads j h.0.0 r.0) (last_flag_done reads (codes "$fixed") ms h.0.1 r.1),
      )
  object_left k j ms o m tag.dictionary x e =
      let h = map_is (λ (p : Trees × Bool). body (graph.dictionary p.1) no_named p.0) (both (dictionary_meant reads j) (last_flag (codes "$weak") ms)) x e in
      let r = both_is (dictionary_meant reads j) (last_flag (codes "$weak") ms) h.0 h.1 in (
        ask.entries_list ∷ ask.flag_or_close (codes "$weak") ∷ [],
        refl,
        λ b. refl,
        joined reads (ask.entries_list ∷ []) (ask.flag_or_close (codes "$weak") ∷ []) (json_tokens j) (members_tokens ms) (o.dictionary h.0.0 r.0) (last_flag_done reads (codes "$weak") ms h.0.1 r.1),
      )
  object_left k j ms o m tag.fixed x e =
      let h = and_then_is (λ f. fixed_meant reads f ms) (flag_meant j) x e in (
        ask.flag ∷ ask.vector_key ∷ [],
        refl,
        λ b. refl,
        joined reads (ask.flag ∷ []) (ask.vector_key ∷ []) (json_tokens j) (members_tokens ms) (flag_done reads j h.0 h.1) (m.fixed h.0 x h.2),
      )
  object_left k j ms o m tag.ints x e =
      let l = last_is ms (ints_meant reads false j) x e in
      last_left tag.ints ask.int_list x j ms refl (λ b. refl) l.0 (int_list_done reads false j x l.1)
  object_left k j ms o m tag.uints x e =
      let l = last_is ms (uints_meant reads false j) x e in
      last_left tag.uints ask.uint_list x j ms refl (λ b. refl) l.0 (uint_list_done reads false j x l.1)
  object_left k j ms o m tag.type x e =
      let h = and_then_is (λ y. typed_meant reads false y ms) (text_meant j) x e in (
        ask.text ∷ ask.key_is (codes "$values") ∷ ask.list ∷ ask.close ∷ [],
        refl,
        λ b. refl,
        joined reads (ask.text ∷ []) (ask.key_is (codes "$values") ∷ ask.list ∷ ask.close ∷ []) (json_tokens j) (members_tokens ms) (text_done reads j h.0 h.1) (m.typed false h.0 x h.2),
      )
  object_left k j ms o m tag.names x e = no_answer x e
  object_left k j ms o m tag.sealed x e = no_answer x e
  object_left k j ms o m tag.dynamic x e = no_answer x e
  object_left k j ms o m tag.values x e = no_answer x e
  object_left k j ms o m tag.weak x e = no_answer x e
  object_left k j ms o m tag.unknown x e = no_answer x e

  -- Plain members and keys.

  unfoldable pub plain_by : List ℕ → Json → Members → Tag → Option Named
  plain_by k j ms t = elim t [ tag.name ↦ option_and_then (λ t. option_map (named k t) (plain_meant reads ms)) (meant reads j) | _ ↦ None ]

  plain_first : (k : List ℕ) (j : Json) (ms : Members) → OfJson reads j → OfMembers reads ms → (t : Tag) → tag_of k ≡ t → (x : Named)
      → plain_by k j ms t ≡ Some x → Done reads (ask.plain ∷ []) (key k ∷ (json_tokens j ++ members_tokens ms))
  unfolding step plain_by
  plain_first k j ms o m tag.name n x e =
      let h = and_then_is (λ t. option_map (named k t) (plain_meant reads ms)) (meant reads j) x e in
      let r = map_is (named k h.0) (plain_meant reads ms) x h.2 in
      first_step reads ask.plain (key k) (ask.value ∷ ask.plain ∷ []) (json_tokens j ++ members_tokens ms) (ap (λ t. if_it (ask.is_name t) (ask.value ∷ ask.plain ∷ [])) n)
      (joined reads (ask.value ∷ []) (ask.plain ∷ []) (json_tokens j) (members_tokens ms) (o.value h.0 h.1) (m.plain r.0 r.1))
  plain_first k j ms o m _ n x e = no_answer x e

  key_parts : (k : List ℕ) (j : Json) (ms : Members) (x : Named) → keys_meant reads (member k j ms) ≡ Some x
      → (t : Tree) × (ts : Named) × (meant reads j ≡ Some t) × (keys_meant reads ms ≡ Some ts) × (named k t ts ≡ x)
  unfolding meant
  key_parts k j ms x e =
      let h = and_then_is (λ t. option_map (named k t) (keys_meant reads ms)) (meant reads j) x e in
      let r = map_is (named k h.0) (keys_meant reads ms) x h.2 in
      (h.0, r.0, h.1, r.1, r.2)

  keys_first : (k : List ℕ) (j : Json) (ms : Members) → OfJson reads j → OfMembers reads ms → (x : Named) → keys_meant reads (member k j ms) ≡ Some x → Done reads (ask.keys ∷ []) (key k ∷ (json_tokens j ++ members_tokens ms))
  unfolding step
  keys_first k j ms o m x e =
      let p = key_parts k j ms x e in
      first_step reads ask.keys (key k) (ask.value ∷ ask.keys ∷ []) (json_tokens j ++ members_tokens ms) refl
      (joined reads (ask.value ∷ []) (ask.keys ∷ []) (json_tokens j) (members_tokens ms) (o.value p.0 p.2) (m.keys p.1 p.3))

  rises_first : (last : Option (List ℕ)) (k : List ℕ) (ks : List (List ℕ)) → Rises reads last (k ∷ ks) → (ask.rises last k ≡ true) × Rises reads (Some k) ks
  rises_first None k ks r = (refl, r)
  rises_first (Some l) k ks r = and_parts (comes_before l k) (is_rising (k ∷ ks)) r

  rising_first : (k : List ℕ) (j : Json) (ms : Members) → OfJson reads j → OfMembers reads ms → (last : Option (List ℕ)) (x : Named) → keys_meant reads (member k j ms) ≡ Some x → Rises reads last (keys_of x)
      → Done reads (ask.rising last ∷ []) (key k ∷ (json_tokens j ++ members_tokens ms))
  unfolding step
  rising_first k j ms o m last x e r =
      let p = key_parts k j ms x e in
      let q = rises_first last k (keys_of p.1) (subst (λ y. Rises reads last (keys_of y)) (sym p.4) r) in
      first_step reads (ask.rising last) (key k) (ask.value ∷ ask.rising (Some k) ∷ []) (json_tokens j ++ members_tokens ms) (ap (λ t. if_it t (ask.value ∷ ask.rising (Some k) ∷ [])) q.0)
      (joined reads (ask.value ∷ []) (ask.rising (Some k) ∷ []) (json_tokens j) (members_tokens ms) (o.value p.0 p.2) (m.rising (Some k) p.1 p.3 q.1))

  left_first : (k : List ℕ) (j : Json) (ms : Members) → OfJson reads j → OfMembers reads ms → (names : List (List ℕ)) (x : Named) → keys_meant reads (member k j ms) ≡ Some x → are_those names (keys_of x) ≡ true
      → Done reads (ask.left names ∷ []) (key k ∷ (json_tokens j ++ members_tokens ms))
  unfolding step
  left_first k j ms o m names x e r =
      let p = key_parts k j ms x e in
      let q = and_parts (stands_in names k) (are_those (without k names) (keys_of p.1)) (subst (λ y. are_those names (keys_of y) ≡ true) (sym p.4) r) in
      go names q.0 (joined reads (ask.value ∷ []) (ask.left (without k names) ∷ []) (json_tokens j) (members_tokens ms) (o.value p.0 p.2) (m.left (without k names) p.1 p.3 q.1))
    where
      go : (ns : List (List ℕ)) → stands_in ns k ≡ true → Done reads (ask.value ∷ ask.left (without k ns) ∷ []) (json_tokens j ++ members_tokens ms) → Done reads (ask.left ns ∷ []) (key k ∷ (json_tokens j ++ members_tokens ms))
      go [] s d = let f : false ≡ true = s in cc
      go (n ∷ ns) s d = first_step reads (ask.left (n ∷ ns)) (key k) (ask.value ∷ ask.left (without k (n ∷ ns)) ∷ []) (json_tokens j ++ members_tokens ms) (ap (λ t. if_it t (ask.value ∷ ask.left (without k (n ∷ ns)) ∷ [])) s) d

  rows_first : (k : List ℕ) (j : Json) (ms : Members) → OfJson reads j → OfMembers reads ms → (seen : List (List ℕ)) (x : Named) → keys_meant reads (member k j ms) ≡ Some x → are_rows seen x ≡ true
      → Done reads (ask.row_keys seen ∷ []) (key k ∷ (json_tokens j ++ members_tokens ms))
  unfolding step
  rows_first k j ms o m seen x e r =
      let p = key_parts k j ms x e in
      let a = and_parts (is_body p.0) (not (stands_in seen k) && are_rows (k ∷ seen) p.1) (subst (λ y. are_rows seen y ≡ true) (sym p.4) r) in
      let b = and_parts (not (stands_in seen k)) (are_rows (k ∷ seen) p.1) a.1 in
      first_step reads (ask.row_keys seen) (key k) (ask.node ∷ ask.row_keys (k ∷ seen) ∷ []) (json_tokens j ++ members_tokens ms) (ap (λ t. if_it t (ask.node ∷ ask.row_keys (k ∷ seen) ∷ [])) b.0)
      (joined reads (ask.node ∷ []) (ask.row_keys (k ∷ seen) ∷ []) (json_tokens j) (members_tokens ms) (o.node p.0 p.2 a.0) (m.rows (k ∷ seen) p.1 p.3 b.1))

  -- Behind the first key.

  names_last : (k : List ℕ) (j : Json) (ms : Members) → OfJson reads j → (ts : Trees) (x : Tree) → array_names reads ts (member k j ms) ≡ Some x
      → Done reads (ask.key_is (codes "$names") ∷ ask.members ∷ ask.close ∷ []) (key k ∷ (json_tokens j ++ members_tokens ms))
  unfolding meant
  names_last k j no_members o ts x e =
      let f = λ (ns : Named). body graph.array ns ts in
      let h = if_is (bytes_eq k (codes "$names")) (option_map f (members_meant reads j)) x e in
      let r = map_is f (members_meant reads j) x h.1 in
      key_then reads (codes "$names") k (ask.members ∷ ask.close ∷ []) (json_tokens j ++ end_object ∷ []) h.0 (then_close reads ask.members (json_tokens j) no_members refl (o.members r.0 r.1))
  names_last k j (member l i ms) o ts x e = no_answer x e

  typed_last : (k : List ℕ) (j : Json) (ms : Members) → OfJson reads j → (f : Bool) (c : List ℕ) (x : Tree) → typed_meant reads f c (member k j ms) ≡ Some x
      → Done reads (ask.key_is (codes "$values") ∷ ask.list ∷ ask.close ∷ []) (key k ∷ (json_tokens j ++ members_tokens ms))
  unfolding meant
  typed_last k j no_members o f c x e =
      let h = if_is (bytes_eq k (codes "$values")) (option_map (body (graph.values f c) no_named) (values_meant reads j)) x e in
      let r = map_is (body (graph.values f c) no_named) (values_meant reads j) x h.1 in
      key_then reads (codes "$values") k (ask.list ∷ ask.close ∷ []) (json_tokens j ++ end_object ∷ []) h.0 (then_close reads ask.list (json_tokens j) no_members refl (o.list r.0 r.1))
  typed_last k j (member l i ms) o f c x e = no_answer x e

  mixed_last : (k : List ℕ) (j : Json) (ms : Members) → OfJson reads j → (o : Begun) (names : List (List ℕ)) (x : Tree) → mixed_meant reads o names (member k j ms) ≡ Some x
      → Done reads (ask.key_is (codes "$sealed") ∷ ask.those names ∷ ask.close ∷ []) (key k ∷ (json_tokens j ++ members_tokens ms))
  unfolding meant
  mixed_last k (json.object ns) no_members of o names x e =
      let h = if_is (bytes_eq k (codes "$sealed")) (option_and_then (mixed_body o names) (keys_meant reads ns)) x e in
      let r = and_then_is (mixed_body o names) (keys_meant reads ns) x h.1 in
      let t = if_is (are_those names (keys_of r.0)) (Some _) x r.2 in
      key_then reads (codes "$sealed") k (ask.those names ∷ ask.close ∷ []) (json_tokens (json.object ns) ++ end_object ∷ []) h.0
      (then_close reads (ask.those names) (json_tokens (json.object ns)) no_members refl (of.those names r.0 r.1 t.0))
  mixed_last k (json.object ns) (member l i ms) of o names x e = no_answer x e
  mixed_last k json.null ms of o names x e = no_answer x e
  mixed_last k (json.boolean b) ms of o names x e = no_answer x e
  mixed_last k (json.number s) ms of o names x e = no_answer x e
  mixed_last k (json.string s) ms of o names x e = no_answer x e
  mixed_last k (json.array js) ms of o names x e = no_answer x e

  unfoldable pub fixed_by : Bool → Json → Members → Tag → Option Tree
  fixed_by f j ms t = elim t [
    | tag.ints ↦ if_last ms (ints_meant reads f j)
    | tag.uints ↦ if_last ms (uints_meant reads f j)
    | tag.type ↦ option_and_then (λ x. typed_meant reads f x ms) (text_meant j)
    | _ ↦ None
  ]

  abbrev After : (Tag → Option (List Goal)) → Tag → List Token → Type 0
  After keys t ts = (gs : List Goal) × (keys t ≡ Some gs) × Done reads gs ts

  fixed_left : (j : Json) (ms : Members) → OfMembers reads ms → (f : Bool) (t : Tag) (x : Tree) → fixed_by f j ms t ≡ Some x → After vector_tag t (json_tokens j ++ members_tokens ms)
  unfolding fixed_by vector_tag
  fixed_left j ms m f tag.ints x e =
      let l = last_is ms (ints_meant reads f j) x e in
      (ask.int_list ∷ ask.close ∷ [], refl, then_close reads ask.int_list (json_tokens j) ms l.0 (int_list_done reads f j x l.1))
  fixed_left j ms m f tag.uints x e =
      let l = last_is ms (uints_meant reads f j) x e in
      (ask.uint_list ∷ ask.close ∷ [], refl, then_close reads ask.uint_list (json_tokens j) ms l.0 (uint_list_done reads f j x l.1))
  fixed_left j ms m f tag.type x e =
      let h = and_then_is (λ y. typed_meant reads f y ms) (text_meant j) x e in (
        ask.text ∷ ask.key_is (codes "$values") ∷ ask.list ∷ ask.close ∷ [],
        refl,
        joined reads (ask.text ∷ []) (ask.key_is (codes "$values") ∷ ask.list ∷ ask.close ∷ []) (json_tokens j) (members_tokens ms) (text_done reads j h.0 h.1) (m.typed f h.0 x h.2),
      )
  fixed_left j ms m f _ x e = no_answer x e

  abbrev pub not_dynamic : List ℕ → Begun
  not_dynamic c = record { class = c; dynamic = false; names = no_named }

  abbrev pub is_dynamic : List ℕ → Named → Begun
  is_dynamic c ns = record { class = c; dynamic = true; names = ns }

  unfoldable pub class_by : List ℕ → Json → Members → Tag → Option Tree
  class_by c j ms t = elim t [
    | tag.dynamic ↦ option_and_then (λ ns. begun_meant reads (is_dynamic c ns) ms) (members_meant reads j)
    | tag.names ↦ option_and_then (λ xs. mixed_meant reads (not_dynamic c) xs ms) (class_names j)
    | tag.sealed ↦ if_last ms (sealed_meant reads (not_dynamic c) j)
    | _ ↦ None
  ]

  names_left : (j : Json) (ms : Members) → OfMembers reads ms → (o : Begun) (x : Tree) → option_and_then (λ xs. mixed_meant reads o xs ms) (class_names j) ≡ Some x
      → Done reads (ask.class_names ∷ []) (json_tokens j ++ members_tokens ms)
  names_left j ms m o x e =
      let h = and_then_is (λ xs. mixed_meant reads o xs ms) (class_names j) x e in
      class_names_done reads j h.0 (members_tokens ms) h.1 (m.mixed o h.0 x h.2)

  class_left : (j : Json) (ms : Members) → OfJson reads j → OfMembers reads ms → (c : List ℕ) (t : Tag) (x : Tree) → class_by c j ms t ≡ Some x → After class_key t (json_tokens j ++ members_tokens ms)
  unfolding class_by class_key
  class_left j ms o m c tag.dynamic x e =
      let h = and_then_is (λ ns. begun_meant reads (is_dynamic c ns) ms) (members_meant reads j) x e in
      (ask.members ∷ ask.begun ∷ [], refl, joined reads (ask.members ∷ []) (ask.begun ∷ []) (json_tokens j) (members_tokens ms) (o.members h.0 h.1) (m.begun (is_dynamic c h.0) x h.2))
  class_left j ms o m c tag.names x e = (ask.class_names ∷ [], refl, names_left j ms m (not_dynamic c) x e)
  class_left j ms o m c tag.sealed x e =
      let l = last_is ms (sealed_meant reads (not_dynamic c) j) x e in
      (ask.sealed ∷ ask.close ∷ [], refl, then_close reads ask.sealed (json_tokens j) ms l.0 (o.sealed (not_dynamic c) x l.1))
  class_left j ms o m c _ x e = no_answer x e

  unfoldable pub begun_by : Begun → Json → Members → Tag → Option Tree
  begun_by b j ms t = elim t [
    | tag.names ↦ option_and_then (λ xs. mixed_meant reads b xs ms) (class_names j)
    | tag.sealed ↦ if_last ms (sealed_meant reads b j)
    | _ ↦ None
  ]

  begun_left : (j : Json) (ms : Members) → OfJson reads j → OfMembers reads ms → (b : Begun) (t : Tag) (x : Tree) → begun_by b j ms t ≡ Some x → After begun_key t (json_tokens j ++ members_tokens ms)
  unfolding begun_by begun_key
  begun_left j ms o m b tag.names x e = (ask.class_names ∷ [], refl, names_left j ms m b x e)
  begun_left j ms o m b tag.sealed x e =
      let l = last_is ms (sealed_meant reads b j) x e in
      (ask.sealed ∷ ask.close ∷ [], refl, then_close reads ask.sealed (json_tokens j) ms l.0 (o.sealed b x l.1))
  begun_left j ms o m b _ x e = no_answer x e

  of_member : (k : List ℕ) (j : Json) (ms : Members) → OfJson reads j → OfMembers reads ms → OfMembers reads (member k j ms)
  unfolding step meant plain_by fixed_by class_by begun_by
  of_member k j ms o m = record {
    object = λ x e. let l = object_left k j ms o m (tag_of k) x e in first_step reads ask.object (key k) l.0 (json_tokens j ++ members_tokens ms) l.1 l.3;
    node_object = λ x e b. let l = object_left k j ms o m (tag_of k) x e in first_step reads ask.node_object (key k) l.0 (json_tokens j ++ members_tokens ms) (l.2 b) l.3;
    plain = λ x e. plain_first k j ms o m (tag_of k) refl x e;
    keys = keys_first k j ms o m;
    rising = rising_first k j ms o m;
    left = left_first k j ms o m;
    rows = rows_first k j ms o m;
    names = names_last k j ms o;
    fixed = λ f x e. let l = fixed_left j ms m f (tag_of k) x e in first_step reads ask.vector_key (key k) l.0 (json_tokens j ++ members_tokens ms) l.1 l.2;
    typed = typed_last k j ms o;
    class = λ c x e. let l = class_left j ms o m c (tag_of k) x e in first_step reads ask.class_rest (key k) l.0 (json_tokens j ++ members_tokens ms) l.1 l.2;
    begun = λ b x e. let l = begun_left j ms o m b (tag_of k) x e in first_step reads ask.begun (key k) l.0 (json_tokens j ++ members_tokens ms) l.1 l.2;
    mixed = mixed_last k j ms o;
  }

  -- All of them.

  mutual
    pub of_json : (j : Json) → OfJson reads j
    of_json json.null = of_null reads
    of_json (json.boolean b) = of_boolean reads b
    of_json (json.number s) = of_number reads s
    of_json (json.string s) = of_string reads s
    of_json (json.array js) = of_array reads js (of_items js)
    of_json (json.object ms) = of_object reads ms (of_members ms)

    pub of_items : (js : Items) → OfItems reads js
    of_items no_items = of_no_items reads
    of_items (item j js) = of_item reads j js (of_json j) (of_items js)

    pub of_members : (ms : Members) → OfMembers reads ms
    of_members no_members = of_no_members
    of_members (member k j ms) = of_member k j ms (of_json j) (of_members ms)
