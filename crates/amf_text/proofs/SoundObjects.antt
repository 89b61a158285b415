-- What is asked for means something, where it does so of fewer tokens: objects by their first key, and what stands behind it.
use Rattle.std.proofs.Common.{◌≡◌, ℕ, ◌≤◌, Bool, true, false, if◌then◌else◌, List, [], ◌∷◌, ◌++◌, length, Option, Some, None, refl, sym, ap, ap₂, ◌∙◌, subst, append_assoc, append-nil}
use Rattle.std.specs.Prelude.{option_map, option_and_then, codes, bytes_eq, not, ◌&&◌}
use Rattle.std.proofs.lemmas.Option.{same_Some}
use Rattle.json.specs.Token.{Token, begin_object, end_object, begin_array, end_array, key, string}
use Rattle.json.specs.Json.{Json, no_items, no_members, item, member, Items, Members}
use Rattle.json.specs.Json as json
use Rattle.json.specs.Tree.{json_tokens, members_tokens, HasNumbers, ItemsHaveNumbers, MembersHaveNumbers}
use Rattle.json.specs.Print.{ArePrintable}
use Rattle.amf_graph.specs.declared.wrapped.Wrapped.TheVariants.{ArrayCollection, ArrayList, ObjectProxy}
use Rattle.amf_graph.specs.Graph as graph
use Rattle.amf_text.specs.Tags.{Tag, tag_of}
use Rattle.amf_text.specs.Tags as tag
use Rattle.amf_text.specs.Scalars.{Reads}
use Rattle.amf_text.specs.Told.{stands_in}
use Rattle.amf_text.specs.Meant.{Tree, said, body, mixed, Trees, no_trees, tree, Named, named, no_named, keys_of, bytes_meant, text_meant, pattern_meant, flag_meant, last_flag, true_meant, label_meant, each, list_meant, name_meant, are_new, class_names, are_those, if_true, if_last, both, simple_body, plain_object, rising_body, object_body, mixed_body, Begun, traits_with, is_body, meant, values_meant, members_meant, dictionary_meant, pairs_meant, object_meant, plain_meant, keys_meant, array_names, fixed_meant, typed_meant, class_meant, begun_meant, sealed_meant, mixed_meant}
use Rattle.amf_text.specs.Asks as ask
use Rattle.amf_text.specs.Asks.{Goal, step, node_key, value_key, vector_tag, class_key, begun_key, left_after, if_it}
use Rattle.amf_text.proofs.Goals.{no_answer, and_then_is, map_is, Done}
use Rattle.amf_text.proofs.Asked.{last_is, if_is}
use Rattle.amf_text.proofs.CompleteMembers.{by_tag, tagged, fixed_by, class_by, begun_by, is_dynamic, not_dynamic}
use Rattle.amf_text.proofs.Meets.{Meets, OfJson, hex_text, int_of, uint_of}
use Rattle.amf_text.proofs.Sound.{Below, Sound, cut, second_in, value_then, left_is, no_members_is, if_it_is}

-- What a first key begins is a node.

array_body : (reads : Reads) (ts : Trees) (ms : Members) (x : Tree) → array_names reads ts ms ≡ Some x → is_body x ≡ true
unfolding meant
array_body reads ts no_members x e = no_answer x e
array_body reads ts (member k j no_members) x e =
    let h = if_is (bytes_eq k (codes "$names")) (option_map (λ ns. body graph.array ns ts) (members_meant reads j)) x e in
    let r = map_is (λ ns. body graph.array ns ts) (members_meant reads j) x h.1 in
    ap is_body (sym r.2)
array_body reads ts (member k j (member l i ms)) x e = no_answer x e

mapped_body : {X : Type 0} (f : X → Tree) (ms : Members) (o : Option X) (x : Tree) → ((y : X) → is_body (f y) ≡ true) → if_last ms (option_map f o) ≡ Some x → is_body x ≡ true
mapped_body f ms o x b e =
    let l = last_is ms (option_map f o) x e in
    let r = map_is f o x l.1 in
    ap is_body (sym r.2) ∙ b r.0

typed_body : (reads : Reads) (f : Bool) (y : List ℕ) (ms : Members) (x : Tree) → typed_meant reads f y ms ≡ Some x → is_body x ≡ true
unfolding meant
typed_body reads f y no_members x e = no_answer x e
typed_body reads f y (member k j no_members) x e =
    let h = if_is (bytes_eq k (codes "$values")) (option_map (body (graph.values f y) no_named) (values_meant reads j)) x e in
    let r = map_is (body (graph.values f y) no_named) (values_meant reads j) x h.1 in
    ap is_body (sym r.2)
typed_body reads f y (member k j (member l i ms)) x e = no_answer x e

fixed_tag_body : (reads : Reads) (f : Bool) (j : Json) (ms : Members) (t : Tag) (x : Tree) → fixed_by reads f j ms t ≡ Some x → is_body x ≡ true
unfolding fixed_by
fixed_tag_body reads f j ms tag.ints x e = mapped_body (λ y. simple_body (graph.ints f y)) ms (list_meant (int_of reads) j) x (λ y. refl) e
fixed_tag_body reads f j ms tag.uints x e = mapped_body (λ y. simple_body (graph.uints f y)) ms (list_meant (uint_of reads) j) x (λ y. refl) e
fixed_tag_body reads f j ms tag.type x e = let h = and_then_is (λ y. typed_meant reads f y ms) (text_meant j) x e in typed_body reads f h.0 ms x h.2
fixed_tag_body reads f j ms _ x e = no_answer x e

fixed_body : (reads : Reads) (f : Bool) (ms : Members) (x : Tree) → fixed_meant reads f ms ≡ Some x → is_body x ≡ true
unfolding meant fixed_by
fixed_body reads f no_members x e = no_answer x e
fixed_body reads f (member k j ms) x e = fixed_tag_body reads f j ms (tag_of k) x e

sealed_body : (reads : Reads) (o : Begun) (j : Json) (x : Tree) → sealed_meant reads o j ≡ Some x → is_body x ≡ true
unfolding meant
sealed_body reads o (json.object ms) x e =
    let h = and_then_is (rising_body o) (keys_meant reads ms) x e in
    let r = rising_is o h.0 x h.2 in
    ap is_body (sym r)
  where
    rising_is : (o : Begun) (s : Named) (x : Tree) → rising_body o s ≡ Some x → object_body o s ≡ x
    rising_is o s x e = same_Some (object_body o s) x (if_is _ (Some (object_body o s)) x e).1
sealed_body reads o (json.array js) x e = let r = map_is (object_body o) (pairs_meant reads js) x e in ap is_body (sym r.2)
sealed_body reads o json.null x e = no_answer x e
sealed_body reads o (json.boolean b) x e = no_answer x e
sealed_body reads o (json.number s) x e = no_answer x e
sealed_body reads o (json.string s) x e = no_answer x e

mixed_node : (o : Begun) (names : List (List ℕ)) (s : Named) (x : Tree) → mixed_body o names s ≡ Some x → is_body x ≡ true
mixed_node o names s x e = let r = if_is (are_those names (keys_of s)) (Some _) x e in ap is_body (sym (same_Some _ x r.1))

mixed_last_body : (reads : Reads) (o : Begun) (names : List (List ℕ)) (ms : Members) (x : Tree) → mixed_meant reads o names ms ≡ Some x → is_body x ≡ true
unfolding meant
mixed_last_body reads o names (member k (json.object ms) no_members) x e =
    let h = if_is (bytes_eq k (codes "$sealed")) (option_and_then (mixed_body o names) (keys_meant reads ms)) x e in
    let r = and_then_is (mixed_body o names) (keys_meant reads ms) x h.1 in
    mixed_node o names r.0 x r.2
mixed_last_body reads o names no_members x e = no_answer x e
mixed_last_body reads o names (member k json.null ms) x e = no_answer x e
mixed_last_body reads o names (member k (json.boolean b) ms) x e = no_answer x e
mixed_last_body reads o names (member k (json.number s) ms) x e = no_answer x e
mixed_last_body reads o names (member k (json.string s) ms) x e = no_answer x e
mixed_last_body reads o names (member k (json.array js) ms) x e = no_answer x e
mixed_last_body reads o names (member k (json.object js) (member l i ms)) x e = no_answer x e

names_body : (reads : Reads) (o : Begun) (j : Json) (ms : Members) (x : Tree) → option_and_then (λ xs. mixed_meant reads o xs ms) (class_names j) ≡ Some x → is_body x ≡ true
names_body reads o j ms x e = let h = and_then_is (λ xs. mixed_meant reads o xs ms) (class_names j) x e in mixed_last_body reads o h.0 ms x h.2

last_sealed : (reads : Reads) (o : Begun) (j : Json) (ms : Members) (x : Tree) → if_last ms (sealed_meant reads o j) ≡ Some x → is_body x ≡ true
last_sealed reads o j ms x e = sealed_body reads o j x (last_is ms (sealed_meant reads o j) x e).1

begun_tag_body : (reads : Reads) (o : Begun) (j : Json) (ms : Members) (t : Tag) (x : Tree) → begun_by reads o j ms t ≡ Some x → is_body x ≡ true
unfolding begun_by
begun_tag_body reads o j ms tag.names x e = names_body reads o j ms x e
begun_tag_body reads o j ms tag.sealed x e = last_sealed reads o j ms x e
begun_tag_body reads o j ms _ x e = no_answer x e

begun_body : (reads : Reads) (o : Begun) (ms : Members) (x : Tree) → begun_meant reads o ms ≡ Some x → is_body x ≡ true
unfolding meant begun_by
begun_body reads o no_members x e = ap is_body (sym (same_Some (object_body o no_named) x e))
begun_body reads o (member k j ms) x e = begun_tag_body reads o j ms (tag_of k) x e

class_tag_body : (reads : Reads) (c : List ℕ) (j : Json) (ms : Members) (t : Tag) (x : Tree) → class_by reads c j ms t ≡ Some x → is_body x ≡ true
unfolding class_by
class_tag_body reads c j ms tag.dynamic x e =
    let h = and_then_is (λ ns. begun_meant reads (is_dynamic reads c ns) ms) (members_meant reads j) x e in
    begun_body reads (is_dynamic reads c h.0) ms x h.2
class_tag_body reads c j ms tag.names x e = names_body reads (not_dynamic reads c) j ms x e
class_tag_body reads c j ms tag.sealed x e = last_sealed reads (not_dynamic reads c) j ms x e
class_tag_body reads c j ms _ x e = no_answer x e

class_body : (reads : Reads) (c : List ℕ) (ms : Members) (x : Tree) → class_meant reads c ms ≡ Some x → is_body x ≡ true
unfolding meant class_by
class_body reads c no_members x e = ap is_body (sym (same_Some (object_body (not_dynamic reads c) no_named) x e))
class_body reads c (member k j ms) x e = class_tag_body reads c j ms (tag_of k) x e

-- names of a class are strings
names_have_numbers : (js : Items) (xs : List (List ℕ)) → each name_meant js ≡ Some xs → ItemsHaveNumbers js
names_have_numbers no_items xs e = tt
names_have_numbers (item (json.string s) js) xs e = let h = map_is (λ ys. s ∷ ys) (each name_meant js) xs e in (tt, names_have_numbers js h.0 h.1)
names_have_numbers (item json.null js) xs e = no_answer xs e
names_have_numbers (item (json.boolean b) js) xs e = no_answer xs e
names_have_numbers (item (json.number s) js) xs e = no_answer xs e
names_have_numbers (item (json.array is) js) xs e = no_answer xs e
names_have_numbers (item (json.object ms) js) xs e = no_answer xs e

names_numbers : (j : Json) (xs : List (List ℕ)) → class_names j ≡ Some xs → HasNumbers j
names_numbers (json.array js) xs e = let h = and_then_is (if_true (are_new [])) (each name_meant js) xs e in names_have_numbers js h.0 h.1
names_numbers json.null xs e = no_answer xs e
names_numbers (json.boolean b) xs e = no_answer xs e
names_numbers (json.number s) xs e = no_answer xs e
names_numbers (json.string s) xs e = no_answer xs e
names_numbers (json.object ms) xs e = no_answer xs e

module _ (reads : Reads) (n : ℕ) (below : Below reads n) where
  object_at : (k : List ℕ) (j : Json) (ms : Members) (t : Tag) (x : Tree) → tag_of k ≡ t → by_tag reads k j ms t ≡ Some x → object_meant reads (member k j ms) ≡ Some x
  object_at k j ms t x is e = tagged reads k j ms ∙ ap (by_tag reads k j ms) is ∙ e

  -- An object, by its first key.

  -- what the key, its value and what stands behind mean by f
  abbrev Means : {X : Type 0} → (Members → Option X) → List ℕ → List Token → Type 0
  Means {X} f k rest = (j : Json) × (ms : Members) × (x : X) × (rest ≡ json_tokens j ++ members_tokens ms) × HasNumbers j × MembersHaveNumbers ms × (f (member k j ms) ≡ Some x)

  -- a value alone
  last_means : {X : Type 0} (k : List ℕ) (t : Tag) (g : Goal) (f : Json → Option X) (h : X → Tree) (rest : List Token) → length rest ≤ n → ArePrintable rest → Done reads (g ∷ ask.close ∷ []) rest → tag_of k ≡ t
      → ((j : Json) (x : X) → f j ≡ Some x → by_tag reads k j no_members t ≡ Some (h x)) → ((ts : List Token) → Meets reads g ts → OfJson f ts) → Means (object_meant reads) k rest
  last_means k t g f h rest l p d is same meets_is =
      let c = cut reads n below g (ask.close ∷ []) rest l p d in
      let v = meets_is c.front c.meets in
      let e = below ask.close c.back c.short c.printable c.done in
      (v.0, no_members, h v.1, c.is ∙ ap₂ (λ a b. a ++ b) v.2 e, v.3, tt, object_at k v.0 no_members t (h v.1) is (same v.0 v.1 v.4))

  object_means : (k : List ℕ) (t : Tag) (gs : List Goal) (rest : List Token) → tag_of k ≡ t → value_key t ≡ Some gs → Done reads gs rest → length rest ≤ n → ArePrintable rest → Means (object_meant reads) k rest
  unfolding value_key node_key meant
  object_means k tag.name gs rest is e d l p =
      let m = value_then reads n below ask.plain rest l p (left_is reads (ask.value ∷ ask.plain ∷ []) gs rest e d) in
      let r = m.meets in
      let x = plain_object (named k m.tree r.1) in (
        m.json,
        r.0,
        x,
        m.is ∙ ap (λ a. json_tokens m.json ++ a) r.2,
        m.numbers,
        r.3,
        object_at k m.json r.0 tag.name x is (ap (option_and_then (λ t. option_map (λ ts. plain_object (named k t ts)) (plain_meant reads r.0))) m.meant_is ∙ ap (option_map (λ ts. plain_object (named k m.tree ts))) r.4),
      )
  object_means k tag.undefined gs rest is e d l p = last_means k tag.undefined ask.truth true_meant (λ x. x) rest l p (left_is reads (ask.truth ∷ ask.close ∷ []) gs rest e d) is (λ j x h. h) (λ ts m. m)
  object_means k tag.double gs rest is e d l p = last_means k tag.double ask.pattern (pattern_meant reads) (λ x. said (graph.double x)) rest l p (left_is reads (ask.pattern ∷ ask.close ∷ []) gs rest e d) is (λ j x h. ap (option_map (λ y. said (graph.double y))) h) (λ ts m. m)
  object_means k tag.text gs rest is e d l p = last_means k tag.text ask.text_hex hex_text (λ x. said (graph.text x)) rest l p (left_is reads (ask.text_hex ∷ ask.close ∷ []) gs rest e d) is (λ j x h. ap (option_map (λ y. said (graph.text y))) h) (λ ts m. m)
  object_means k tag.node gs rest is e d l p = last_means k tag.node ask.label label_meant (λ x. x) rest l p (left_is reads (ask.label ∷ ask.close ∷ []) gs rest e d) is (λ j x h. h) (λ ts m. m)
  object_means k tag.collection gs rest is e d l p = last_means k tag.collection ask.value (meant reads) (λ x. body (graph.wrapper ArrayCollection) no_named (tree x no_trees)) rest l p (left_is reads (ask.value ∷ ask.close ∷ []) gs rest e d) is (λ j x h. ap (option_map (λ y. body (graph.wrapper ArrayCollection) no_named (tree y no_trees))) h) (λ ts m. m)
  object_means k tag.list gs rest is e d l p = last_means k tag.list ask.value (meant reads) (λ x. body (graph.wrapper ArrayList) no_named (tree x no_trees)) rest l p (left_is reads (ask.value ∷ ask.close ∷ []) gs rest e d) is (λ j x h. ap (option_map (λ y. body (graph.wrapper ArrayList) no_named (tree y no_trees))) h) (λ ts m. m)
  object_means k tag.proxy gs rest is e d l p = last_means k tag.proxy ask.value (meant reads) (λ x. body (graph.wrapper ObjectProxy) no_named (tree x no_trees)) rest l p (left_is reads (ask.value ∷ ask.close ∷ []) gs rest e d) is (λ j x h. ap (option_map (λ y. body (graph.wrapper ObjectProxy) no_named (tree y no_trees))) h) (λ ts m. m)
  object_means k tag.xmldoc gs rest is e d l p = last_means k tag.xmldoc ask.text text_meant (λ x. simple_body (graph.xml_document x)) rest l p (left_is reads (ask.text ∷ ask.close ∷ []) gs rest e d) is (λ j x h. ap (option_map (λ y. simple_body (graph.xml_document y))) h) (λ ts m. m)
  object_means k tag.xml gs rest is e d l p = last_means k tag.xml ask.text text_meant (λ x. simple_body (graph.xml x)) rest l p (left_is reads (ask.text ∷ ask.close ∷ []) gs rest e d) is (λ j x h. ap (option_map (λ y. simple_body (graph.xml y))) h) (λ ts m. m)
  object_means k tag.date gs rest is e d l p = last_means k tag.date ask.pattern (pattern_meant reads) (λ x. simple_body (graph.date x)) rest l p (left_is reads (ask.pattern ∷ ask.close ∷ []) gs rest e d) is (λ j x h. ap (option_map (λ y. simple_body (graph.date y))) h) (λ ts m. m)
  object_means k tag.bytes gs rest is e d l p = last_means k tag.bytes ask.hex bytes_meant (λ x. simple_body (graph.bytes x)) rest l p (left_is reads (ask.hex ∷ ask.close ∷ []) gs rest e d) is (λ j x h. ap (option_map (λ y. simple_body (graph.bytes y))) h) (λ ts m. m)
  object_means k tag.ints gs rest is e d l p = last_means k tag.ints ask.int_list (list_meant (int_of reads)) (λ x. simple_body (graph.ints false x)) rest l p (left_is reads (ask.int_list ∷ ask.close ∷ []) gs rest e d) is (λ j x h. ap (option_map (λ y. simple_body (graph.ints false y))) h) (λ ts m. m)
  object_means k tag.uints gs rest is e d l p = last_means k tag.uints ask.uint_list (list_meant (uint_of reads)) (λ x. simple_body (graph.uints false x)) rest l p (left_is reads (ask.uint_list ∷ ask.close ∷ []) gs rest e d) is (λ j x h. ap (option_map (λ y. simple_body (graph.uints false y))) h) (λ ts m. m)
  object_means k tag.array gs rest is e d l p =
      let c = cut reads n below ask.list (ask.key_is (codes "$names") ∷ ask.members ∷ ask.close ∷ []) rest l p (left_is reads (ask.list ∷ ask.key_is (codes "$names") ∷ ask.members ∷ ask.close ∷ []) gs rest e d) in
      let v = c.meets in
      let s = second_in reads n below (codes "$names") ask.members c.back c.short c.printable c.done in
      let m = s.meets in
      let ms = member (codes "$names") m.0 no_members in
      let x = body graph.array m.1 v.1 in (
        v.0,
        ms,
        x,
        c.is ∙ ap₂ (λ a b. a ++ b) v.2 (s.is ∙ ap (λ a. key (codes "$names") ∷ (a ++ end_object ∷ [])) m.2),
        v.3,
        (m.3, tt),
        object_at k v.0 ms tag.array x is (ap (option_and_then (λ ts. array_names reads ts ms)) v.4 ∙ ap (option_map (λ ns. body graph.array ns v.1)) m.4),
      )
  object_means k tag.class gs rest is e d l p =
      let c = cut reads n below ask.text (ask.class_rest ∷ []) rest l p (left_is reads (ask.text ∷ ask.class_rest ∷ []) gs rest e d) in
      let v = c.meets in
      let m = below ask.class_rest c.back c.short c.printable c.done v.1 in
      (v.0, m.0, m.1, c.is ∙ ap₂ (λ a b. a ++ b) v.2 m.2, v.3, m.3, object_at k v.0 m.0 tag.class m.1 is (ap (option_and_then (λ y. class_meant reads y m.0)) v.4 ∙ m.4))
  object_means k tag.doubles gs rest is e d l p =
      let c = cut reads n below ask.pattern_list (ask.flag_or_close (codes "$fixed") ∷ []) rest l p (left_is reads (ask.pattern_list ∷ ask.flag_or_close (codes "$fixed") ∷ []) gs rest e d) in
      let v = c.meets in
      let m = below (ask.flag_or_close (codes "$fixed")) c.back c.short c.printable c.done in
      let x = simple_body (graph.doubles m.1 v.1) in
      (v.0, m.0, x, c.is ∙ ap₂ (λ a b. a ++ b) v.2 m.2, v.3, m.3, object_at k v.0 m.0 tag.doubles x is (ap₂ (λ a b. option_map (λ (y : List ℕ × Bool). simple_body (graph.doubles y.1 y.0)) (both a b)) v.4 m.4))
  object_means k tag.dictionary gs rest is e d l p =
      let c = cut reads n below ask.entries_list (ask.flag_or_close (codes "$weak") ∷ []) rest l p (left_is reads (ask.entries_list ∷ ask.flag_or_close (codes "$weak") ∷ []) gs rest e d) in
      let v = c.meets in
      let m = below (ask.flag_or_close (codes "$weak")) c.back c.short c.printable c.done in
      let x = body (graph.dictionary m.1) no_named v.1 in
      (v.0, m.0, x, c.is ∙ ap₂ (λ a b. a ++ b) v.2 m.2, v.3, m.3, object_at k v.0 m.0 tag.dictionary x is (ap₂ (λ a b. option_map (λ (y : Trees × Bool). body (graph.dictionary y.1) no_named y.0) (both a b)) v.4 m.4))
  object_means k tag.fixed gs rest is e d l p =
      let c = cut reads n below ask.flag (ask.vector_key ∷ []) rest l p (left_is reads (ask.flag ∷ ask.vector_key ∷ []) gs rest e d) in
      let v = c.meets in
      let m = below ask.vector_key c.back c.short c.printable c.done v.1 in
      (v.0, m.0, m.1, c.is ∙ ap₂ (λ a b. a ++ b) v.2 m.2, v.3, m.3, object_at k v.0 m.0 tag.fixed m.1 is (ap (option_and_then (λ f. fixed_meant reads f m.0)) v.4 ∙ m.4))
  object_means k tag.type gs rest is e d l p =
      let c = cut reads n below ask.text (ask.key_is (codes "$values") ∷ ask.list ∷ ask.close ∷ []) rest l p (left_is reads (ask.text ∷ ask.key_is (codes "$values") ∷ ask.list ∷ ask.close ∷ []) gs rest e d) in
      let v = c.meets in
      let s = second_in reads n below (codes "$values") ask.list c.back c.short c.printable c.done in
      let m = s.meets in
      let ms = member (codes "$values") m.0 no_members in
      let x = body (graph.values false v.1) no_named m.1 in (
        v.0,
        ms,
        x,
        c.is ∙ ap₂ (λ a b. a ++ b) v.2 (s.is ∙ ap (λ a. key (codes "$values") ∷ (a ++ end_object ∷ [])) m.2),
        v.3,
        (m.3, tt),
        object_at k v.0 ms tag.type x is (ap (option_and_then (λ y. typed_meant reads false y ms)) v.4 ∙ ap (option_map (body (graph.values false v.1) no_named)) m.4),
      )
  object_means k _ gs rest is e d l p = no_answer gs e

  pub object_sound : Sound reads n ask.object
  unfolding step meant
  object_sound end_object rest gs e d l p q = (no_members, plain_object no_named, no_members_is reads gs rest e d, tt, refl)
  object_sound (key k) rest gs e d l p q =
      let m = object_means k (tag_of k) gs rest refl e d l q in
      (member k m.0 m.1, m.2, ap (λ a. key k ∷ a) m.3, (m.4, m.5), m.6)
  object_sound _ rest gs e d l p q = no_answer gs e

  -- a row's object is one whose first key is no leaf's
  node_keys : (t : Tag) (gs : List Goal) → node_key t ≡ Some gs → value_key t ≡ Some gs
  unfolding node_key value_key
  node_keys tag.undefined gs e = no_answer gs e
  node_keys tag.double gs e = no_answer gs e
  node_keys tag.text gs e = no_answer gs e
  node_keys tag.node gs e = no_answer gs e
  node_keys _ gs e = e

  -- and what it means is a node, by its tag
  body_by : (k : List ℕ) (j : Json) (ms : Members) (t : Tag) (x : Tree) (gs : List Goal) → node_key t ≡ Some gs → by_tag reads k j ms t ≡ Some x → is_body x ≡ true
  unfolding node_key meant
  body_by k j ms tag.name x gs n e =
      let h = and_then_is (λ t. option_map (λ ts. plain_object (named k t ts)) (plain_meant reads ms)) (meant reads j) x e in
      let r = map_is (λ ts. plain_object (named k h.0 ts)) (plain_meant reads ms) x h.2 in
      ap is_body (sym r.2)
  body_by k j ms tag.array x gs n e = let h = and_then_is (λ ts. array_names reads ts ms) (values_meant reads j) x e in array_body reads h.0 ms x h.2
  body_by k j ms tag.class x gs n e = let h = and_then_is (λ y. class_meant reads y ms) (text_meant j) x e in class_body reads h.0 ms x h.2
  body_by k j ms tag.collection x gs n e = mapped_body (λ t. body (graph.wrapper ArrayCollection) no_named (tree t no_trees)) ms (meant reads j) x (λ t. refl) e
  body_by k j ms tag.list x gs n e = mapped_body (λ t. body (graph.wrapper ArrayList) no_named (tree t no_trees)) ms (meant reads j) x (λ t. refl) e
  body_by k j ms tag.proxy x gs n e = mapped_body (λ t. body (graph.wrapper ObjectProxy) no_named (tree t no_trees)) ms (meant reads j) x (λ t. refl) e
  body_by k j ms tag.xmldoc x gs n e = mapped_body (λ y. simple_body (graph.xml_document y)) ms (text_meant j) x (λ t. refl) e
  body_by k j ms tag.xml x gs n e = mapped_body (λ y. simple_body (graph.xml y)) ms (text_meant j) x (λ t. refl) e
  body_by k j ms tag.date x gs n e = mapped_body (λ y. simple_body (graph.date y)) ms (pattern_meant reads j) x (λ t. refl) e
  body_by k j ms tag.bytes x gs n e = mapped_body (λ y. simple_body (graph.bytes y)) ms (bytes_meant j) x (λ t. refl) e
  body_by k j ms tag.ints x gs n e = mapped_body (λ y. simple_body (graph.ints false y)) ms (list_meant (int_of reads) j) x (λ t. refl) e
  body_by k j ms tag.uints x gs n e = mapped_body (λ y. simple_body (graph.uints false y)) ms (list_meant (uint_of reads) j) x (λ t. refl) e
  body_by k j ms tag.doubles x gs n e =
      let h = map_is (λ (p : List ℕ × Bool). simple_body (graph.doubles p.1 p.0)) (both (list_meant (pattern_meant reads) j) (last_flag (codes "$fixed") ms)) x e in ap is_body (sym h.2)
  body_by k j ms tag.dictionary x gs n e =
      let h = map_is (λ (p : Trees × Bool). body (graph.dictionary p.1) no_named p.0) (both (dictionary_meant reads j) (last_flag (codes "$weak") ms)) x e in ap is_body (sym h.2)
  body_by k j ms tag.fixed x gs n e = let h = and_then_is (λ f. fixed_meant reads f ms) (flag_meant j) x e in fixed_body reads h.0 ms x h.2
  body_by k j ms tag.type x gs n e = let h = and_then_is (λ y. typed_meant reads false y ms) (text_meant j) x e in typed_body reads false h.0 ms x h.2
  body_by k j ms _ x gs n e = no_answer gs n

  -- What stands behind the first key.

  pub vector_means : (k : List ℕ) (t : Tag) (f : Bool) (gs : List Goal) (rest : List Token) → tag_of k ≡ t → vector_tag t ≡ Some gs → Done reads gs rest → length rest ≤ n → ArePrintable rest → Means (fixed_meant reads f) k rest
  unfolding vector_tag meant fixed_by
  vector_means k tag.ints f gs rest is e d l p =
      let c = cut reads n below ask.int_list (ask.close ∷ []) rest l p (left_is reads (ask.int_list ∷ ask.close ∷ []) gs rest e d) in
      let v = c.meets in
      let z = below ask.close c.back c.short c.printable c.done in
      (v.0, no_members, simple_body (graph.ints f v.1), c.is ∙ ap₂ (λ a b. a ++ b) v.2 z, v.3, tt, ap (fixed_by reads f v.0 no_members) is ∙ ap (option_map (λ y. simple_body (graph.ints f y))) v.4)
  vector_means k tag.uints f gs rest is e d l p =
      let c = cut reads n below ask.uint_list (ask.close ∷ []) rest l p (left_is reads (ask.uint_list ∷ ask.close ∷ []) gs rest e d) in
      let v = c.meets in
      let z = below ask.close c.back c.short c.printable c.done in
      (v.0, no_members, simple_body (graph.uints f v.1), c.is ∙ ap₂ (λ a b. a ++ b) v.2 z, v.3, tt, ap (fixed_by reads f v.0 no_members) is ∙ ap (option_map (λ y. simple_body (graph.uints f y))) v.4)
  vector_means k tag.type f gs rest is e d l p =
      let c = cut reads n below ask.text (ask.key_is (codes "$values") ∷ ask.list ∷ ask.close ∷ []) rest l p (left_is reads (ask.text ∷ ask.key_is (codes "$values") ∷ ask.list ∷ ask.close ∷ []) gs rest e d) in
      let v = c.meets in
      let s = second_in reads n below (codes "$values") ask.list c.back c.short c.printable c.done in
      let m = s.meets in
      let ms = member (codes "$values") m.0 no_members in (
        v.0,
        ms,
        body (graph.values f v.1) no_named m.1,
        c.is ∙ ap₂ (λ a b. a ++ b) v.2 (s.is ∙ ap (λ a. key (codes "$values") ∷ (a ++ end_object ∷ [])) m.2),
        v.3,
        (m.3, tt),
        ap (fixed_by reads f v.0 ms) is ∙ ap (option_and_then (λ y. typed_meant reads f y ms)) v.4 ∙ ap (option_map (body (graph.values f v.1) no_named)) m.4,
      )
  vector_means k _ f gs rest is e d l p = no_answer gs e

  -- sealed members behind their names, for any class
  pub names_means : (o : Begun) (k : List ℕ) (gs : List Goal) (rest : List Token) → Done reads (ask.class_names ∷ []) rest → length rest ≤ n → ArePrintable rest
      → (j : Json) × (xs : List (List ℕ)) × (ms : Members) × (x : Tree) × (rest ≡ json_tokens j ++ members_tokens ms) × MembersHaveNumbers ms × (class_names j ≡ Some xs) × (mixed_meant reads o xs ms ≡ Some x)
  names_means o k gs rest d l p = below ask.class_names rest l p d o

  pub class_means : (c : List ℕ) (k : List ℕ) (t : Tag) (gs : List Goal) (rest : List Token) → tag_of k ≡ t → class_key t ≡ Some gs → Done reads gs rest → length rest ≤ n → ArePrintable rest → Means (class_meant reads c) k rest
  unfolding class_key meant class_by
  class_means c k tag.dynamic gs rest is e d l p =
      let a = cut reads n below ask.members (ask.begun ∷ []) rest l p (left_is reads (ask.members ∷ ask.begun ∷ []) gs rest e d) in
      let v = a.meets in
      let m = below ask.begun a.back a.short a.printable a.done (is_dynamic reads c v.1) in
      (v.0, m.0, m.1, a.is ∙ ap₂ (λ x y. x ++ y) v.2 m.2, v.3, m.3, ap (class_by reads c v.0 m.0) is ∙ ap (option_and_then (λ ns. begun_meant reads (is_dynamic reads c ns) m.0)) v.4 ∙ m.4)
  class_means c k tag.sealed gs rest is e d l p =
      let a = cut reads n below ask.sealed (ask.close ∷ []) rest l p (left_is reads (ask.sealed ∷ ask.close ∷ []) gs rest e d) in
      let v = a.meets (not_dynamic reads c) in
      let z = below ask.close a.back a.short a.printable a.done in
      (v.0, no_members, v.1, a.is ∙ ap₂ (λ x y. x ++ y) v.2 z, v.3, tt, ap (class_by reads c v.0 no_members) is ∙ v.4)
  class_means c k tag.names gs rest is e d l p =
      let v = names_means (not_dynamic reads c) k gs rest (left_is reads (ask.class_names ∷ []) gs rest e d) l p in
      (v.0, v.2, v.3, v.4, names_numbers v.0 v.1 v.6, v.5, ap (class_by reads c v.0 v.2) is ∙ ap (option_and_then (λ xs. mixed_meant reads (not_dynamic reads c) xs v.2)) v.6 ∙ v.7)
  class_means c k _ gs rest is e d l p = no_answer gs e

  pub begun_means : (o : Begun) (k : List ℕ) (t : Tag) (gs : List Goal) (rest : List Token) → tag_of k ≡ t → begun_key t ≡ Some gs → Done reads gs rest → length rest ≤ n → ArePrintable rest → Means (begun_meant reads o) k rest
  unfolding begun_key meant begun_by
  begun_means o k tag.sealed gs rest is e d l p =
      let a = cut reads n below ask.sealed (ask.close ∷ []) rest l p (left_is reads (ask.sealed ∷ ask.close ∷ []) gs rest e d) in
      let v = a.meets o in
      let z = below ask.close a.back a.short a.printable a.done in
      (v.0, no_members, v.1, a.is ∙ ap₂ (λ x y. x ++ y) v.2 z, v.3, tt, ap (begun_by reads o v.0 no_members) is ∙ v.4)
  begun_means o k tag.names gs rest is e d l p =
      let v = names_means o k gs rest (left_is reads (ask.class_names ∷ []) gs rest e d) l p in
      (v.0, v.2, v.3, v.4, names_numbers v.0 v.1 v.6, v.5, ap (begun_by reads o v.0 v.2) is ∙ ap (option_and_then (λ xs. mixed_meant reads o xs v.2)) v.6 ∙ v.7)
  begun_means o k _ gs rest is e d l p = no_answer gs e

  pub class_rest_sound : Sound reads n ask.class_rest
  unfolding step meant
  class_rest_sound end_object rest gs e d l p q c = (no_members, object_body (not_dynamic reads c) no_named, no_members_is reads gs rest e d, tt, refl)
  class_rest_sound (key k) rest gs e d l p q c =
      let m = class_means c k (tag_of k) gs rest refl e d l q in
      (member k m.0 m.1, m.2, ap (λ a. key k ∷ a) m.3, (m.4, m.5), m.6)
  class_rest_sound _ rest gs e d l p q c = no_answer gs e

  pub begun_sound : Sound reads n ask.begun
  unfolding step meant
  begun_sound end_object rest gs e d l p q o = (no_members, object_body o no_named, no_members_is reads gs rest e d, tt, refl)
  begun_sound (key k) rest gs e d l p q o =
      let m = begun_means o k (tag_of k) gs rest refl e d l q in
      (member k m.0 m.1, m.2, ap (λ a. key k ∷ a) m.3, (m.4, m.5), m.6)
  begun_sound _ rest gs e d l p q o = no_answer gs e

  pub class_names_sound : Sound reads n ask.class_names
  unfolding step
  class_names_sound begin_array rest gs e d l p q o =
      let v = below (ask.more_names []) rest l q (left_is reads (ask.more_names [] ∷ []) gs rest e d) o in
      (json.array v.0, v.1, v.2, v.3, ap (λ a. begin_array ∷ a) v.4, v.5, ap (option_and_then (if_true (are_new []))) v.6 ∙ ap (λ b. if b then Some v.1 else None) v.7, v.8)
  class_names_sound _ rest gs e d l p q o = no_answer gs e

  pub more_names_sound : (seen : List (List ℕ)) → Sound reads n (ask.more_names seen)
  unfolding step meant
  more_names_sound seen end_array rest gs e d l p q o =
      let s = second_in reads n below (codes "$sealed") (ask.those seen) rest l q (left_is reads (ask.key_is (codes "$sealed") ∷ ask.those seen ∷ ask.close ∷ []) gs rest e d) in
      let m = s.meets in
      let ms = member (codes "$sealed") (json.object m.0) no_members in
      let x = mixed (traits_with o seen) o.names m.1 in (
        no_items,
        [],
        ms,
        x,
        ap (λ a. end_array ∷ a) (s.is ∙ ap (λ a. key (codes "$sealed") ∷ (a ++ end_object ∷ [])) m.2),
        (m.3, tt),
        refl,
        refl,
        ap (λ y. mixed_meant reads o y ms) (append-nil seen) ∙ ap (option_and_then (mixed_body o seen)) m.4 ∙ ap (λ b. if b then Some x else None) m.5,
      )
  more_names_sound seen (string s) rest gs e d l p q o =
      let i = if_it_is (not (stands_in seen s)) (ask.more_names (seen ++ s ∷ []) ∷ []) gs e in
      let v = below (ask.more_names (seen ++ s ∷ [])) rest l q (subst (λ x. Done reads x rest) (sym i.1) d) o in (
        item (json.string s) v.0,
        s ∷ v.1,
        v.2,
        v.3,
        ap (λ a. string s ∷ a) v.4,
        v.5,
        ap (option_map (λ xs. s ∷ xs)) v.6,
        ap (λ b. b && are_new (seen ++ s ∷ []) v.1) i.0 ∙ v.7,
        ap (λ y. mixed_meant reads o y v.2) (sym (append_assoc seen (s ∷ []) v.1)) ∙ v.8,
      )
  more_names_sound seen _ rest gs e d l p q o = no_answer gs e

  pub flag_or_close_sound : (k : List ℕ) → Sound reads n (ask.flag_or_close k)
  unfolding step
  flag_or_close_sound k end_object rest gs e d l p q = (no_members, false, no_members_is reads gs rest e d, tt, refl)
  flag_or_close_sound k (key s) rest gs e d l p q =
      let i = if_it_is (bytes_eq s k) (ask.flag ∷ ask.close ∷ []) gs e in
      let c = cut reads n below ask.flag (ask.close ∷ []) rest l q (subst (λ x. Done reads x rest) (sym i.1) d) in
      let v = c.meets in
      let z = below ask.close c.back c.short c.printable c.done in
      (member s v.0 no_members, v.1, ap (λ a. key s ∷ a) (c.is ∙ ap₂ (λ x y. x ++ y) v.2 z), (v.3, tt), ap (λ b. if b then flag_meant v.0 else None) i.0 ∙ v.4)
  flag_or_close_sound k _ rest gs e d l p q = no_answer gs e

  pub vector_key_sound : Sound reads n ask.vector_key
  unfolding step
  vector_key_sound (key k) rest gs e d l p q f =
      let m = vector_means k (tag_of k) f gs rest refl e d l q in
      (member k m.0 m.1, m.2, ap (λ a. key k ∷ a) m.3, (m.4, m.5), m.6)
  vector_key_sound _ rest gs e d l p q f = no_answer gs e

  pub node_object_sound : Sound reads n ask.node_object
  unfolding step meant
  node_object_sound end_object rest gs e d l p q = (no_members, plain_object no_named, no_members_is reads gs rest e d, tt, refl)
  node_object_sound (key k) rest gs e d l p q =
      let m = object_means k (tag_of k) gs rest refl (node_keys (tag_of k) gs e) d l q in
      let b = body_by k m.0 m.1 (tag_of k) m.2 gs e (sym (tagged reads k m.0 m.1) ∙ m.6) in
      (member k m.0 m.1, m.2, ap (λ a. key k ∷ a) m.3, (m.4, m.5), ap (option_and_then (if_true is_body)) m.6 ∙ ap (λ c. if c then Some m.2 else None) b)
  node_object_sound _ rest gs e d l p q = no_answer gs e

  pub node_sound : Sound reads n ask.node
  unfolding step meant
  node_sound begin_object rest gs e d l p q = let i = below ask.node_object rest l q (left_is reads (ask.node_object ∷ []) gs rest e d) in (json.object i.0, i.1, ap (λ a. begin_object ∷ a) i.2, i.3, i.4)
  node_sound begin_array rest gs e d l p q =
      let i = below ask.items rest l q (left_is reads (ask.items ∷ []) gs rest e d) in
      (json.array i.0, body graph.array no_named i.1, ap (λ a. begin_array ∷ a) i.2, i.3, ap (λ o. option_and_then (if_true is_body) (option_map (body graph.array no_named) o)) i.4)
  node_sound _ rest gs e d l p q = no_answer gs e
