-- What objects come to, by their first key.
use Rattle.std.proofs.Common.{◌≡◌, ℕ, ℤ, Bool, true, false, List, [], ◌∷◌, ◌++◌, Option, Some, None, refl, sym, ap, ◌∙◌, subst, append_assoc}
use Rattle.std.specs.Prelude.{option_map, option_and_then, codes, bytes_eq, not, ◌&&◌}
use Rattle.std.proofs.lemmas.Bool.{and_parts}
use Rattle.std.proofs.lemmas.Option.{same_Some}
use Rattle.json.specs.Token.{Token, end_object, key}
use Rattle.json.specs.Json.{Json, no_items, no_members, item, member, Items, Members}
use Rattle.json.specs.Json as json
use Rattle.json.specs.Tree.{json_tokens, members_tokens}
use Rattle.amf_graph.specs.declared.wrapped.Wrapped.TheVariants.{ArrayCollection, ArrayList, ObjectProxy}
use Rattle.amf_graph.specs.Graph as graph
use Rattle.amf_text.specs.Tags.{Tag, tag_of}
use Rattle.amf_text.specs.Tags as tag
use Rattle.amf_text.specs.Scalars.{Reads}
use Rattle.amf_text.specs.Told.{stands_in, comes_before, is_rising}
use Rattle.amf_text.specs.Meant.{Tree, said, called, body, mixed, Trees, no_trees, tree, Named, named, no_named, keys_of, if_text, bytes_meant, text_meant, pattern_meant, whole_meant, fits_int, fits_uint, flag_meant, last_flag, true_meant, label_meant, list_meant, class_names, are_those, without, Begun, both, if_last, plain_object, simple_body, mixed_body, traits_with, object_body, ints_meant, uints_meant, meant, values_meant, members_meant, keys_meant, dictionary_meant, plain_meant, array_names, fixed_meant, typed_meant, class_meant, begun_meant, sealed_meant, mixed_meant, is_body}
use Rattle.amf_text.specs.Linked.{are_rows}
use Rattle.amf_text.specs.Asks as ask
use Rattle.amf_text.specs.Asks.{Goal, step, node_key, value_key, vector_tag, class_key, begun_key, if_it}
use Rattle.amf_text.proofs.Goals.{no_answer, and_then_is, map_is}
use Rattle.amf_text.proofs.Asked.{if_is, last_is, both_is}
use Rattle.amf_text.proofs.Complete.{Rises, not_node, truth_is, label_is}
use Rattle.amf_text.proofs.CompleteMembers as complete
use Rattle.amf_text.proofs.CompleteMembers.{plain_by, fixed_by, class_by, begun_by, not_dynamic, is_dynamic}
use Rattle.amf_text_trees.specs.Pieces as piece
use Rattle.amf_text_trees.specs.Sheets as sheets
use Rattle.amf_text_trees.specs.Sheets.{Pairs, Kept, Sheet, count, begin, store, entry_of, after, after_trees, after_named, entries_in, pairs_in}
use Rattle.amf_text_trees.specs.Frames.{Frame, kept, simple, give}
use Rattle.amf_text_trees.specs.Frames as frame
use Rattle.amf_text_trees.specs.Gathering.{Draft, draft, giving, finish, finishing, by_tag, gather}
use Rattle.amf_text_trees.specs.Gathering as gathering
use Rattle.amf_text_trees.proofs.Taking.{Takes, joined, arrives, departs, first_step, one_token}
use Rattle.amf_text_trees.proofs.Scalars.{key_then, then_close, hex_gives, text_hex_gives, text_gives, pattern_gives, flag_gives, truth_gives, label_gives, pattern_list_gives, int_list_gives, uint_list_gives, class_names_give, last_flag_gives}
use Rattle.amf_text_trees.proofs.Values.{IsNamer, of_members_frame, of_plain_frame, told, class_of, begun_draft, Tells, Fills, OfJson, OfItems, OfMembers, fills_none, fills_as, of_null, of_boolean, of_number, of_string, of_array, of_object, of_no_items, of_item}

module _ (reads : Reads) where
  abbrev as_told : (q : Sheet) (fs : List Frame) {gs : List Goal} {ts : List Token} {d : Draft} {y x : Tree} → y ≡ x → Takes reads gs ts d (told q y fs) → Takes reads gs ts d (told q x fs)
  as_told q fs e d = arrives reads (ap (λ t. told q t fs) e) d

  -- No members.

  end_fills : (g : Goal) (f : Pairs → Option (List ℕ) → Frame) → IsNamer f → step reads g end_object ≡ Some [] → ((d : Draft) → gather reads g end_object d ≡ finishing d)
      → (x : Named) → no_named ≡ x → Fills reads g f (end_object ∷ []) x
  end_fills g f is s h x e ps l q fs =
      one_token reads g end_object (draft q (f ps l ∷ fs)) (finish (after_named q x) (f (ps ++ pairs_in q x) None ∷ fs)) s (h (draft q (f ps l ∷ fs)) ∙ fills_none reads f is ps l q fs x e)

  left_none : (names : List (List ℕ)) (x : Named) → no_named ≡ x → are_those names (keys_of x) ≡ true → Fills reads (ask.left names) frame.members (end_object ∷ []) x
  unfolding step gather
  left_none [] x e h = end_fills (ask.left []) frame.members of_members_frame refl (λ d. refl) x e
  left_none (n ∷ ns) x e h = let f : false ≡ true = ap (λ y. are_those (n ∷ ns) (keys_of y)) e ∙ h in cc

  of_no_members : OfMembers reads no_members
  unfolding step meant gather
  of_no_members = record {
    object = λ x e q fs. as_told q fs (same_Some (plain_object no_named) x e) (one_token reads ask.object end_object (draft q fs) (told q (plain_object no_named) fs) refl refl);
    node_object = λ x e b q fs. as_told q fs (same_Some (plain_object no_named) x e) (one_token reads ask.node_object end_object (draft q fs) (told q (plain_object no_named) fs) refl refl);
    plain = λ x e n. end_fills ask.plain (frame.plain n) (of_plain_frame n) refl (λ d. refl) x (same_Some no_named x e);
    keys = λ x e f is. end_fills ask.keys f is refl (λ d. refl) x (same_Some no_named x e);
    rising = λ last x e r. end_fills (ask.rising last) frame.members of_members_frame refl (λ d. refl) x (same_Some no_named x e);
    left = λ names x e h. left_none names x (same_Some no_named x e) h;
    rows = λ seen x e h. end_fills (ask.row_keys seen) frame.members of_members_frame refl (λ d. refl) x (same_Some no_named x e);
    names = λ ts x e. no_answer x e;
    fixed = λ b x e. no_answer x e;
    typed = λ b c x e. no_answer x e;
    class = λ c x e q fs.
        let o = not_dynamic reads c in
        as_told q fs (same_Some (object_body o no_named) x e) (one_token reads ask.class_rest end_object (begun_draft q o frame.class fs) (told q (object_body o no_named) fs) refl refl);
    begun = λ o x e q fs. as_told q fs (same_Some (object_body o no_named) x e) (one_token reads ask.begun end_object (begun_draft q o frame.class fs) (told q (object_body o no_named) fs) refl refl);
    mixed = λ o names x e. no_answer x e;
  }

  -- A first member, and others behind it.

  -- what the first key of an object leaves
  abbrev Opens : List ℕ → Tag → Tree → List Token → Type 0
  Opens k t x ts = (gs : List Goal) × (value_key t ≡ Some gs) × (is_body x ≡ true → node_key t ≡ Some gs) × ((q : Sheet) (fs : List Frame) → Takes reads gs ts (by_tag t k (draft q fs)) (told q x fs))

  -- one value and the end of the object, which is a node
  node_opens : (k : List ℕ) (t : Tag) (g : Goal) (y x : Tree) (j : Json) (ms : Members) → y ≡ x → value_key t ≡ Some (g ∷ ask.close ∷ []) → node_key t ≡ Some (g ∷ ask.close ∷ []) → ms ≡ no_members
      → ((q : Sheet) (fs : List Frame) → (e : Draft) × Takes reads (g ∷ []) (json_tokens j) (by_tag t k (draft q fs)) e × (finishing e ≡ told q y fs)) → Opens k t x (json_tokens j ++ members_tokens ms)
  node_opens k t g y x j ms is v n e d = (
    g ∷ ask.close ∷ [],
    v,
    λ b. n,
    λ q fs. let r = d q fs in as_told q fs is (arrives reads r.2 (then_close reads g (json_tokens j) ms (by_tag t k (draft q fs)) r.0 e r.1)),
  )

  -- or which is none
  scalar_opens : (k : List ℕ) (t : Tag) (g : Goal) (y x : Tree) (j : Json) (ms : Members) → y ≡ x → is_body y ≡ false → value_key t ≡ Some (g ∷ ask.close ∷ []) → ms ≡ no_members
      → ((q : Sheet) (fs : List Frame) → (e : Draft) × Takes reads (g ∷ []) (json_tokens j) (by_tag t k (draft q fs)) e × (finishing e ≡ told q y fs)) → Opens k t x (json_tokens j ++ members_tokens ms)
  scalar_opens k t g y x j ms is b v e d = (
    g ∷ ask.close ∷ [],
    v,
    not_node y x is b,
    λ q fs. let r = d q fs in as_told q fs is (arrives reads r.2 (then_close reads g (json_tokens j) ms (by_tag t k (draft q fs)) r.0 e r.1)),
  )

  object_opens : (k : List ℕ) (j : Json) (ms : Members) → OfJson reads j → OfMembers reads ms → (t : Tag) (x : Tree) → complete.by_tag reads k j ms t ≡ Some x → Opens k t x (json_tokens j ++ members_tokens ms)
  unfolding value_key node_key
  object_opens k j ms o m tag.name x e =
      let h = and_then_is (λ t. option_map (λ ts. plain_object (named k t ts)) (plain_meant reads ms)) (meant reads j) x e in
      let r = map_is (λ ts. plain_object (named k h.0 ts)) (plain_meant reads ms) x h.2 in (
        ask.value ∷ ask.plain ∷ [],
        refl,
        λ b. refl,
        λ q fs. as_told q fs r.2
            (joined reads (o.value h.0 h.1 (begin q) (frame.plain (count q) [] (Some k) ∷ fs)) (m.plain r.0 r.1 (count q) ((k, entry_of (begin q) h.0) ∷ []) None (after (begin q) h.0) fs)),
      )
  object_opens k j ms o m tag.undefined x e =
      let l = last_is ms (true_meant j) x e in
      scalar_opens k tag.undefined ask.truth (said graph.undefined) x j ms (truth_is j x l.1) refl refl l.0
      (λ q fs. (draft q (frame.whole (sheets.leaf graph.undefined) ∷ fs), truth_gives reads j x l.1 (draft q (frame.scalar tag.undefined ∷ fs)), refl))
  object_opens k j ms o m tag.double x e =
      let l = last_is ms (option_map (λ p. said (graph.double p)) (pattern_meant reads j)) x e in
      let h = map_is (λ p. said (graph.double p)) (pattern_meant reads j) x l.1 in
      scalar_opens k tag.double ask.pattern (said (graph.double h.0)) x j ms h.2 refl refl l.0
      (λ q fs. (draft q (frame.whole (sheets.leaf (graph.double h.0)) ∷ fs), pattern_gives reads j h.0 h.1 (draft q (frame.scalar tag.double ∷ fs)), refl))
  object_opens k j ms o m tag.text x e =
      let l = last_is ms (option_map (λ x. said (graph.text x)) (option_and_then if_text (bytes_meant j))) x e in
      let h = map_is (λ x. said (graph.text x)) (option_and_then if_text (bytes_meant j)) x l.1 in
      scalar_opens k tag.text ask.text_hex (said (graph.text h.0)) x j ms h.2 refl refl l.0
      (λ q fs. (draft q (frame.whole (sheets.leaf (graph.text h.0)) ∷ fs), text_hex_gives reads j h.0 h.1 (draft q (frame.scalar tag.text ∷ fs)), refl))
  object_opens k j ms o m tag.node x e =
      let l = last_is ms (label_meant j) x e in
      let c = label_is j x l.1 in
      scalar_opens k tag.node ask.label (called c.0) x j ms c.1 refl refl l.0
      (λ q fs. (draft (after q (called c.0)) (frame.whole (sheets.label c.0) ∷ fs), label_gives reads j (called c.0) (l.1 ∙ ap Some (sym c.1)) q (frame.scalar tag.node ∷ fs), refl))
  object_opens k j ms o m tag.array x e =
      let h = and_then_is (λ ts. array_names reads ts ms) (values_meant reads j) x e in
      (ask.list ∷ ask.key_is (codes "$names") ∷ ask.members ∷ ask.close ∷ [], refl, λ b. refl, λ q fs. joined reads (o.list h.0 h.1 (begin q) (frame.tagged (count q) tag.array ∷ fs)) (m.names h.0 x h.2 q fs))
  object_opens k j ms o m tag.class x e =
      let h = and_then_is (λ y. class_meant reads y ms) (text_meant j) x e in
      (ask.text ∷ ask.class_rest ∷ [], refl, λ b. refl, λ q fs. joined reads (text_gives reads j h.0 h.1 (draft (begin q) (frame.tagged (count q) tag.class ∷ fs))) (m.class h.0 x h.2 q fs))
  object_opens k j ms o m tag.collection x e =
      let f = λ (t : Tree). body (graph.wrapper ArrayCollection) no_named (tree t no_trees) in
      let l = last_is ms (option_map f (meant reads j)) x e in
      let h = map_is f (meant reads j) x l.1 in
      node_opens k tag.collection ask.value (f h.0) x j ms h.2 refl refl l.0
      (λ q fs. (draft (after (begin q) h.0) (frame.done (count q) (kept (graph.wrapper ArrayCollection) [] (entry_of (begin q) h.0 ∷ [])) ∷ fs), o.value h.0 h.1 (begin q) (frame.tagged (count q) tag.collection ∷ fs), refl))
  object_opens k j ms o m tag.list x e =
      let f = λ (t : Tree). body (graph.wrapper ArrayList) no_named (tree t no_trees) in
      let l = last_is ms (option_map f (meant reads j)) x e in
      let h = map_is f (meant reads j) x l.1 in
      node_opens k tag.list ask.value (f h.0) x j ms h.2 refl refl l.0
      (λ q fs. (draft (after (begin q) h.0) (frame.done (count q) (kept (graph.wrapper ArrayList) [] (entry_of (begin q) h.0 ∷ [])) ∷ fs), o.value h.0 h.1 (begin q) (frame.tagged (count q) tag.list ∷ fs), refl))
  object_opens k j ms o m tag.proxy x e =
      let f = λ (t : Tree). body (graph.wrapper ObjectProxy) no_named (tree t no_trees) in
      let l = last_is ms (option_map f (meant reads j)) x e in
      let h = map_is f (meant reads j) x l.1 in
      node_opens k tag.proxy ask.value (f h.0) x j ms h.2 refl refl l.0
      (λ q fs. (draft (after (begin q) h.0) (frame.done (count q) (kept (graph.wrapper ObjectProxy) [] (entry_of (begin q) h.0 ∷ [])) ∷ fs), o.value h.0 h.1 (begin q) (frame.tagged (count q) tag.proxy ∷ fs), refl))
  object_opens k j ms o m tag.xmldoc x e =
      let f = λ (y : List ℕ). simple_body (graph.xml_document y) in
      let l = last_is ms (option_map f (text_meant j)) x e in
      let h = map_is f (text_meant j) x l.1 in
      node_opens k tag.xmldoc ask.text (f h.0) x j ms h.2 refl refl l.0
      (λ q fs. (draft (begin q) (frame.done (count q) (simple (graph.xml_document h.0)) ∷ fs), text_gives reads j h.0 h.1 (draft (begin q) (frame.tagged (count q) tag.xmldoc ∷ fs)), refl))
  object_opens k j ms o m tag.xml x e =
      let f = λ (y : List ℕ). simple_body (graph.xml y) in
      let l = last_is ms (option_map f (text_meant j)) x e in
      let h = map_is f (text_meant j) x l.1 in
      node_opens k tag.xml ask.text (f h.0) x j ms h.2 refl refl l.0
      (λ q fs. (draft (begin q) (frame.done (count q) (simple (graph.xml h.0)) ∷ fs), text_gives reads j h.0 h.1 (draft (begin q) (frame.tagged (count q) tag.xml ∷ fs)), refl))
  object_opens k j ms o m tag.date x e =
      let f = λ (y : ℕ). simple_body (graph.date y) in
      let l = last_is ms (option_map f (pattern_meant reads j)) x e in
      let h = map_is f (pattern_meant reads j) x l.1 in
      node_opens k tag.date ask.pattern (f h.0) x j ms h.2 refl refl l.0
      (λ q fs. (draft (begin q) (frame.done (count q) (simple (graph.date h.0)) ∷ fs), pattern_gives reads j h.0 h.1 (draft (begin q) (frame.tagged (count q) tag.date ∷ fs)), refl))
  object_opens k j ms o m tag.bytes x e =
      let f = λ (y : List ℕ). simple_body (graph.bytes y) in
      let l = last_is ms (option_map f (bytes_meant j)) x e in
      let h = map_is f (bytes_meant j) x l.1 in
      node_opens k tag.bytes ask.hex (f h.0) x j ms h.2 refl refl l.0
      (λ q fs. (draft (begin q) (frame.done (count q) (simple (graph.bytes h.0)) ∷ fs), hex_gives reads j h.0 h.1 (draft (begin q) (frame.tagged (count q) tag.bytes ∷ fs)), refl))
  object_opens k j ms o m tag.doubles x e =
      let h = map_is (λ (p : List ℕ × Bool). simple_body (graph.doubles p.1 p.0)) (both (list_meant (pattern_meant reads) j) (last_flag (codes "$fixed") ms)) x e in
      let r = both_is (list_meant (pattern_meant reads) j) (last_flag (codes "$fixed") ms) h.0 h.1 in (
        ask.pattern_list ∷ ask.flag_or_close (codes "$fixed") ∷ [],
        refl,
        λ b. refl,
        λ q fs. as_told q fs h.2 (joined reads (pattern_list_gives reads j h.0.0 r.0 (draft (begin q) (frame.tagged (count q) tag.doubles ∷ fs)))
            (last_flag_gives reads (codes "$fixed") ms h.0.1 (frame.doubles (count q) h.0.0) (begin q) fs (λ b. refl) r.1)),
      )
  object_opens k j ms o m tag.dictionary x e =
      let h = map_is (λ (p : Trees × Bool). body (graph.dictionary p.1) no_named p.0) (both (dictionary_meant reads j) (last_flag (codes "$weak") ms)) x e in
      let r = both_is (dictionary_meant reads j) (last_flag (codes "$weak") ms) h.0 h.1 in (
        ask.entries_list ∷ ask.flag_or_close (codes "$weak") ∷ [],
        refl,
        λ b. refl,
        λ q fs. as_told q fs h.2 (joined reads (o.dictionary h.0.0 r.0 (begin q) (frame.tagged (count q) tag.dictionary ∷ fs))
            (last_flag_gives reads (codes "$weak") ms h.0.1 (frame.dictionary (count q) (entries_in (begin q) h.0.0)) (after_trees (begin q) h.0.0) fs (λ b. refl) r.1)),
      )
  object_opens k j ms o m tag.fixed x e =
      let h = and_then_is (λ f. fixed_meant reads f ms) (flag_meant j) x e in
      (ask.flag ∷ ask.vector_key ∷ [], refl, λ b. refl, λ q fs. joined reads (flag_gives reads j h.0 h.1 (draft (begin q) (frame.tagged (count q) tag.fixed ∷ fs))) (m.fixed h.0 x h.2 q fs))
  object_opens k j ms o m tag.ints x e =
      let f = λ (ns : List ℤ). simple_body (graph.ints false ns) in
      let l = last_is ms (ints_meant reads false j) x e in
      let h = map_is f (list_meant (λ i. option_and_then fits_int (whole_meant reads i)) j) x l.1 in
      node_opens k tag.ints ask.int_list (f h.0) x j ms h.2 refl refl l.0
      (λ q fs. (draft (begin q) (frame.done (count q) (simple (graph.ints false h.0)) ∷ fs), int_list_gives reads j h.0 h.1 (draft (begin q) (frame.vector (count q) tag.ints false ∷ fs)), refl))
  object_opens k j ms o m tag.uints x e =
      let f = λ (ns : List ℕ). simple_body (graph.uints false ns) in
      let l = last_is ms (uints_meant reads false j) x e in
      let h = map_is f (list_meant (λ i. option_and_then fits_uint (whole_meant reads i)) j) x l.1 in
      node_opens k tag.uints ask.uint_list (f h.0) x j ms h.2 refl refl l.0
      (λ q fs. (draft (begin q) (frame.done (count q) (simple (graph.uints false h.0)) ∷ fs), uint_list_gives reads j h.0 h.1 (draft (begin q) (frame.vector (count q) tag.uints false ∷ fs)), refl))
  object_opens k j ms o m tag.type x e =
      let h = and_then_is (λ y. typed_meant reads false y ms) (text_meant j) x e in
      (ask.text ∷ ask.key_is (codes "$values") ∷ ask.list ∷ ask.close ∷ [], refl, λ b. refl, λ q fs. joined reads (text_gives reads j h.0 h.1 (draft (begin q) (frame.vector (count q) tag.type false ∷ fs))) (m.typed false h.0 x h.2 q fs))
  object_opens k j ms o m tag.names x e = no_answer x e
  object_opens k j ms o m tag.sealed x e = no_answer x e
  object_opens k j ms o m tag.dynamic x e = no_answer x e
  object_opens k j ms o m tag.values x e = no_answer x e
  object_opens k j ms o m tag.weak x e = no_answer x e
  object_opens k j ms o m tag.unknown x e = no_answer x e

  -- Members of which the first one has this key.

  member_then : (f : Pairs → Option (List ℕ) → Frame) → IsNamer f → (g v more : Goal) (k : List ℕ) (t : Tree) (ts : Named) (a rest : List Token)
      → step reads g (key k) ≡ Some (v ∷ more ∷ []) → ((d : Draft) → gather reads g (key k) d ≡ giving (piece.text k) d)
      → Tells reads v a t → Fills reads more f rest ts → Fills reads g f (key k ∷ (a ++ rest)) (named k t ts)
  member_then f is g v more k t ts a rest s h d m ps l q fs =
      let end = finish (after_named q (named k t ts)) (f (ps ++ pairs_in q (named k t ts)) None ∷ fs) in
      first_step reads g (key k) (v ∷ more ∷ []) (a ++ rest) (draft q (f ps l ∷ fs)) end s
      (departs reads (h (draft q (f ps l ∷ fs)) ∙ ap (λ x. draft q (x ∷ fs)) (is.text ps l k))
      (joined reads (arrives reads (ap (λ x. draft (after q t) (x ∷ fs)) (is.value ps k (entry_of q t))) (d q (f ps (Some k) ∷ fs)))
      (arrives reads (ap (λ l. finish (after_named (after q t) ts) (f l None ∷ fs)) (append_assoc ps ((k, entry_of q t) ∷ []) (pairs_in (after q t) ts))) (m (ps ++ (k, entry_of q t) ∷ []) None (after q t) fs))))

  plain_first : (k : List ℕ) (j : Json) (ms : Members) → OfJson reads j → OfMembers reads ms → (t : Tag) → tag_of k ≡ t → (x : Named)
      → plain_by reads k j ms t ≡ Some x → (n : ℕ) → Fills reads ask.plain (frame.plain n) (key k ∷ (json_tokens j ++ members_tokens ms)) x
  unfolding step gather plain_by
  plain_first k j ms o m tag.name is x e n =
      let h = and_then_is (λ t. option_map (named k t) (plain_meant reads ms)) (meant reads j) x e in
      let r = map_is (named k h.0) (plain_meant reads ms) x h.2 in
      fills_as reads ask.plain (frame.plain n) (key k ∷ (json_tokens j ++ members_tokens ms)) (named k h.0 r.0) x r.2
      (member_then (frame.plain n) (of_plain_frame n) ask.plain ask.value ask.plain k h.0 r.0 (json_tokens j) (members_tokens ms)
      (ap (λ t. if_it (ask.is_name t) (ask.value ∷ ask.plain ∷ [])) is) (λ d. refl) (o.value h.0 h.1) (m.plain r.0 r.1 n))
  plain_first k j ms o m _ is x e n = no_answer x e

  key_parts : (k : List ℕ) (j : Json) (ms : Members) (x : Named) → keys_meant reads (member k j ms) ≡ Some x
      → (t : Tree) × (ts : Named) × (meant reads j ≡ Some t) × (keys_meant reads ms ≡ Some ts) × (named k t ts ≡ x)
  unfolding meant
  key_parts k j ms x e =
      let h = and_then_is (λ t. option_map (named k t) (keys_meant reads ms)) (meant reads j) x e in
      let r = map_is (named k h.0) (keys_meant reads ms) x h.2 in
      (h.0, r.0, h.1, r.1, r.2)

  keys_first : (k : List ℕ) (j : Json) (ms : Members) → OfJson reads j → OfMembers reads ms → (x : Named) → keys_meant reads (member k j ms) ≡ Some x
      → (f : Pairs → Option (List ℕ) → Frame) → IsNamer f → Fills reads ask.keys f (key k ∷ (json_tokens j ++ members_tokens ms)) x
  unfolding step gather
  keys_first k j ms o m x e f is =
      let q = key_parts k j ms x e in
      fills_as reads ask.keys f (key k ∷ (json_tokens j ++ members_tokens ms)) (named k q.0 q.1) x q.4
      (member_then f is ask.keys ask.value ask.keys k q.0 q.1 (json_tokens j) (members_tokens ms) refl (λ d. refl) (o.value q.0 q.2) (m.keys q.1 q.3 f is))

  rises_first : (last : Option (List ℕ)) (k : List ℕ) (ks : List (List ℕ)) → Rises reads last (k ∷ ks) → (ask.rises last k ≡ true) × Rises reads (Some k) ks
  rises_first None k ks r = (refl, r)
  rises_first (Some l) k ks r = and_parts (comes_before l k) (is_rising (k ∷ ks)) r

  rising_first : (k : List ℕ) (j : Json) (ms : Members) → OfJson reads j → OfMembers reads ms → (last : Option (List ℕ)) (x : Named) → keys_meant reads (member k j ms) ≡ Some x → Rises reads last (keys_of x)
      → Fills reads (ask.rising last) frame.members (key k ∷ (json_tokens j ++ members_tokens ms)) x
  unfolding step gather
  rising_first k j ms o m last x e r =
      let p = key_parts k j ms x e in
      let q = rises_first last k (keys_of p.1) (subst (λ y. Rises reads last (keys_of y)) (sym p.4) r) in
      fills_as reads (ask.rising last) frame.members (key k ∷ (json_tokens j ++ members_tokens ms)) (named k p.0 p.1) x p.4
      (member_then frame.members of_members_frame (ask.rising last) ask.value (ask.rising (Some k)) k p.0 p.1 (json_tokens j) (members_tokens ms)
      (ap (λ t. if_it t (ask.value ∷ ask.rising (Some k) ∷ [])) q.0) (λ d. refl) (o.value p.0 p.2) (m.rising (Some k) p.1 p.3 q.1))

  left_first : (k : List ℕ) (j : Json) (ms : Members) → OfJson reads j → OfMembers reads ms → (names : List (List ℕ)) (x : Named) → keys_meant reads (member k j ms) ≡ Some x → are_those names (keys_of x) ≡ true
      → Fills reads (ask.left names) frame.members (key k ∷ (json_tokens j ++ members_tokens ms)) x
  unfolding step gather
  left_first k j ms o m names x e r =
      let p = key_parts k j ms x e in
      let q = and_parts (stands_in names k) (are_those (without k names) (keys_of p.1)) (subst (λ y. are_those names (keys_of y) ≡ true) (sym p.4) r) in
      fills_as reads (ask.left names) frame.members (key k ∷ (json_tokens j ++ members_tokens ms)) (named k p.0 p.1) x p.4
      (member_then frame.members of_members_frame (ask.left names) ask.value (ask.left (without k names)) k p.0 p.1 (json_tokens j) (members_tokens ms)
      (go names q.0) (λ d. refl) (o.value p.0 p.2) (m.left (without k names) p.1 p.3 q.1))
    where
      go : (ns : List (List ℕ)) → stands_in ns k ≡ true → ask.left_step ns (key k) ≡ Some (ask.value ∷ ask.left (without k ns) ∷ [])
      go [] s = let f : false ≡ true = s in cc
      go (n ∷ ns) s = ap (λ t. if_it t (ask.value ∷ ask.left (without k (n ∷ ns)) ∷ [])) s

  rows_first : (k : List ℕ) (j : Json) (ms : Members) → OfJson reads j → OfMembers reads ms → (seen : List (List ℕ)) (x : Named) → keys_meant reads (member k j ms) ≡ Some x → are_rows seen x ≡ true
      → Fills reads (ask.row_keys seen) frame.members (key k ∷ (json_tokens j ++ members_tokens ms)) x
  unfolding step gather
  rows_first k j ms o m seen x e r =
      let p = key_parts k j ms x e in
      let a = and_parts (is_body p.0) (not (stands_in seen k) && are_rows (k ∷ seen) p.1) (subst (λ y. are_rows seen y ≡ true) (sym p.4) r) in
      let b = and_parts (not (stands_in seen k)) (are_rows (k ∷ seen) p.1) a.1 in
      fills_as reads (ask.row_keys seen) frame.members (key k ∷ (json_tokens j ++ members_tokens ms)) (named k p.0 p.1) x p.4
      (member_then frame.members of_members_frame (ask.row_keys seen) ask.node (ask.row_keys (k ∷ seen)) k p.0 p.1 (json_tokens j) (members_tokens ms)
      (ap (λ t. if_it t (ask.node ∷ ask.row_keys (k ∷ seen) ∷ [])) b.0) (λ d. refl) (o.node p.0 p.2 a.0) (m.rows (k ∷ seen) p.1 p.3 b.1))

  -- Behind the first key.

  names_last : (k : List ℕ) (j : Json) (ms : Members) → OfJson reads j → (vs : Trees) (x : Tree) → array_names reads vs (member k j ms) ≡ Some x → (q : Sheet) (fs : List Frame)
      → Takes reads (ask.key_is (codes "$names") ∷ ask.members ∷ ask.close ∷ []) (key k ∷ (json_tokens j ++ members_tokens ms)) (draft (after_trees (begin q) vs) (frame.listed (count q) (entries_in (begin q) vs) ∷ fs)) (told q x fs)
  unfolding meant
  names_last k j no_members o vs x e q fs =
      let f = λ (ns : Named). body graph.array ns vs in
      let h = if_is (bytes_eq k (codes "$names")) (option_map f (members_meant reads j)) x e in
      let r = map_is f (members_meant reads j) x h.1 in
      let s = after_trees (begin q) vs in
      let d = draft s (frame.listed (count q) (entries_in (begin q) vs) ∷ fs) in
      let k' = kept graph.array (pairs_in s r.0) (entries_in (begin q) vs) in
      as_told q fs r.2
      (key_then reads (codes "$names") k (ask.members ∷ ask.close ∷ []) (json_tokens j ++ end_object ∷ []) d (told q (f r.0) fs) h.0
      (then_close reads ask.members (json_tokens j) no_members d (draft (after_named s r.0) (frame.done (count q) k' ∷ fs)) refl (o.members r.0 r.1 frame.members of_members_frame s s d.frames refl)))
  names_last k j (member l i ms) o vs x e q fs = no_answer x e

  typed_last : (k : List ℕ) (j : Json) (ms : Members) → OfJson reads j → (b : Bool) (c : List ℕ) (x : Tree) → typed_meant reads b c (member k j ms) ≡ Some x → (q : Sheet) (fs : List Frame)
      → Takes reads (ask.key_is (codes "$values") ∷ ask.list ∷ ask.close ∷ []) (key k ∷ (json_tokens j ++ members_tokens ms)) (draft (begin q) (frame.typed (count q) b c ∷ fs)) (told q x fs)
  unfolding meant
  typed_last k j no_members o b c x e q fs =
      let f = body (graph.values b c) no_named in
      let h = if_is (bytes_eq k (codes "$values")) (option_map f (values_meant reads j)) x e in
      let r = map_is f (values_meant reads j) x h.1 in
      let d = draft (begin q) (frame.typed (count q) b c ∷ fs) in
      as_told q fs r.2
      (key_then reads (codes "$values") k (ask.list ∷ ask.close ∷ []) (json_tokens j ++ end_object ∷ []) d (told q (f r.0) fs) h.0
      (then_close reads ask.list (json_tokens j) no_members d (draft (after_trees (begin q) r.0) (frame.done (count q) (kept (graph.values b c) [] (entries_in (begin q) r.0)) ∷ fs)) refl (o.list r.0 r.1 (begin q) d.frames)))
  typed_last k j (member l i ms) o b c x e q fs = no_answer x e

  mixed_last : (k : List ℕ) (j : Json) (ms : Members) → OfJson reads j → (o : Begun) (names : List (List ℕ)) (x : Tree) → mixed_meant reads o names (member k j ms) ≡ Some x → (q : Sheet) (fs : List Frame)
      → Takes reads (ask.key_is (codes "$sealed") ∷ ask.those names ∷ ask.close ∷ []) (key k ∷ (json_tokens j ++ members_tokens ms)) (begun_draft q o (λ n c. frame.ordered n c names) fs) (told q x fs)
  unfolding meant
  mixed_last k (json.object ns) no_members of o names x e q fs =
      let h = if_is (bytes_eq k (codes "$sealed")) (option_and_then (mixed_body o names) (keys_meant reads ns)) x e in
      let r = and_then_is (mixed_body o names) (keys_meant reads ns) x h.1 in
      let y = mixed (traits_with o names) o.names r.0 in
      let t = if_is (are_those names (keys_of r.0)) (Some y) x r.2 in
      let s = after_named (begin q) o.names in
      let d = begun_draft q o (λ n c. frame.ordered n c names) fs in
      let k' = kept (graph.object (traits_with o names)) (pairs_in (begin q) o.names) (sheets.entries_by names (pairs_in s r.0)) in
      as_told q fs (same_Some y x t.1)
      (key_then reads (codes "$sealed") k (ask.those names ∷ ask.close ∷ []) (json_tokens (json.object ns) ++ end_object ∷ []) d (told q y fs) h.0
      (then_close reads (ask.those names) (json_tokens (json.object ns)) no_members d (draft (after_named s r.0) (frame.done (count q) k' ∷ fs)) refl (of.those names r.0 r.1 t.0 s d.frames)))
  mixed_last k (json.object ns) (member l i ms) of o names x e q fs = no_answer x e
  mixed_last k json.null ms of o names x e q fs = no_answer x e
  mixed_last k (json.boolean b) ms of o names x e q fs = no_answer x e
  mixed_last k (json.number s) ms of o names x e q fs = no_answer x e
  mixed_last k (json.string s) ms of o names x e q fs = no_answer x e
  mixed_last k (json.array js) ms of o names x e q fs = no_answer x e

  -- what a key behind the first one leaves
  abbrev After : (Tag → Option (List Goal)) → Tag → List Token → Draft → Draft → Type 0
  After keys t ts d e = (gs : List Goal) × (keys t ≡ Some gs) × Takes reads gs ts d e

  fixed_opens : (j : Json) (ms : Members) → OfMembers reads ms → (b : Bool) (t : Tag) (x : Tree) → fixed_by reads b j ms t ≡ Some x → (q : Sheet) (fs : List Frame)
      → After vector_tag t (json_tokens j ++ members_tokens ms) (draft (begin q) (frame.vector (count q) t b ∷ fs)) (told q x fs)
  unfolding fixed_by vector_tag
  fixed_opens j ms m b tag.ints x e q fs =
      let f = λ (ns : List ℤ). simple_body (graph.ints b ns) in
      let l = last_is ms (ints_meant reads b j) x e in
      let h = map_is f (list_meant (λ i. option_and_then fits_int (whole_meant reads i)) j) x l.1 in
      let d = draft (begin q) (frame.vector (count q) tag.ints b ∷ fs) in (
        ask.int_list ∷ ask.close ∷ [],
        refl,
        as_told q fs h.2 (then_close reads ask.int_list (json_tokens j) ms d (draft (begin q) (frame.done (count q) (simple (graph.ints b h.0)) ∷ fs)) l.0 (int_list_gives reads j h.0 h.1 d)),
      )
  fixed_opens j ms m b tag.uints x e q fs =
      let f = λ (ns : List ℕ). simple_body (graph.uints b ns) in
      let l = last_is ms (uints_meant reads b j) x e in
      let h = map_is f (list_meant (λ i. option_and_then fits_uint (whole_meant reads i)) j) x l.1 in
      let d = draft (begin q) (frame.vector (count q) tag.uints b ∷ fs) in (
        ask.uint_list ∷ ask.close ∷ [],
        refl,
        as_told q fs h.2 (then_close reads ask.uint_list (json_tokens j) ms d (draft (begin q) (frame.done (count q) (simple (graph.uints b h.0)) ∷ fs)) l.0 (uint_list_gives reads j h.0 h.1 d)),
      )
  fixed_opens j ms m b tag.type x e q fs =
      let h = and_then_is (λ y. typed_meant reads b y ms) (text_meant j) x e in
      (ask.text ∷ ask.key_is (codes "$values") ∷ ask.list ∷ ask.close ∷ [], refl, joined reads (text_gives reads j h.0 h.1 (draft (begin q) (frame.vector (count q) tag.type b ∷ fs))) (m.typed b h.0 x h.2 q fs))
  fixed_opens j ms m b _ x e q fs = no_answer x e

  names_open : (j : Json) (ms : Members) → OfMembers reads ms → (o : Begun) (x : Tree) → option_and_then (λ xs. mixed_meant reads o xs ms) (class_names j) ≡ Some x → (q : Sheet) (fs : List Frame)
      → Takes reads (ask.class_names ∷ []) (json_tokens j ++ members_tokens ms) (begun_draft q o frame.class fs) (told q x fs)
  names_open j ms m o x e q fs =
      let h = and_then_is (λ xs. mixed_meant reads o xs ms) (class_names j) x e in
      class_names_give reads j h.0 (members_tokens ms) (begun_draft q o frame.class fs) (told q x fs) h.1 (m.mixed o h.0 x h.2 q fs)

  sealed_opens : (j : Json) (ms : Members) → OfJson reads j → (o : Begun) (x : Tree) → if_last ms (sealed_meant reads o j) ≡ Some x → (q : Sheet) (fs : List Frame)
      → Takes reads (ask.sealed ∷ ask.close ∷ []) (json_tokens j ++ members_tokens ms) (begun_draft q o frame.class fs) (told q x fs)
  sealed_opens j ms of o x e q fs =
      let l = last_is ms (sealed_meant reads o j) x e in
      subst (λ y. Takes reads (ask.sealed ∷ ask.close ∷ []) (json_tokens j ++ members_tokens y) (begun_draft q o frame.class fs) (told q x fs)) (sym l.0) (of.sealed o x l.1 q fs)

  class_opens : (j : Json) (ms : Members) → OfJson reads j → OfMembers reads ms → (c : List ℕ) (t : Tag) (x : Tree) → class_by reads c j ms t ≡ Some x → (q : Sheet) (fs : List Frame)
      → After class_key t (json_tokens j ++ members_tokens ms) (draft (begin q) (gathering.class_by t (frame.class (count q) (class_of q (not_dynamic reads c)) ∷ fs))) (told q x fs)
  unfolding class_by class_key
  class_opens j ms o m c tag.dynamic x e q fs =
      let h = and_then_is (λ ns. begun_meant reads (is_dynamic reads c ns) ms) (members_meant reads j) x e in
      (ask.members ∷ ask.begun ∷ [], refl, joined reads (o.members h.0 h.1 frame.members of_members_frame (begin q) (begin q) (frame.dynamic (count q) c ∷ fs) refl) (m.begun (is_dynamic reads c h.0) x h.2 q fs))
  class_opens j ms o m c tag.names x e q fs = (ask.class_names ∷ [], refl, names_open j ms m (not_dynamic reads c) x e q fs)
  class_opens j ms o m c tag.sealed x e q fs = (ask.sealed ∷ ask.close ∷ [], refl, sealed_opens j ms o (not_dynamic reads c) x e q fs)
  class_opens j ms o m c _ x e q fs = no_answer x e

  begun_opens : (j : Json) (ms : Members) → OfJson reads j → OfMembers reads ms → (b : Begun) (t : Tag) (x : Tree) → begun_by reads b j ms t ≡ Some x → (q : Sheet) (fs : List Frame)
      → After begun_key t (json_tokens j ++ members_tokens ms) (draft (after_named (begin q) b.names) (gathering.class_by t (frame.class (count q) (class_of q b) ∷ fs))) (told q x fs)
  unfolding begun_by begun_key
  begun_opens j ms o m b tag.names x e q fs = (ask.class_names ∷ [], refl, names_open j ms m b x e q fs)
  begun_opens j ms o m b tag.sealed x e q fs = (ask.sealed ∷ ask.close ∷ [], refl, sealed_opens j ms o b x e q fs)
  begun_opens j ms o m b _ x e q fs = no_answer x e

  of_member : (k : List ℕ) (j : Json) (ms : Members) → OfJson reads j → OfMembers reads ms → OfMembers reads (member k j ms)
  unfolding step meant gather plain_by fixed_by class_by begun_by
  of_member k j ms o m = record {
    object = λ x e q fs.
        let l = object_opens k j ms o m (tag_of k) x e in
        first_step reads ask.object (key k) l.0 (json_tokens j ++ members_tokens ms) (draft q fs) (told q x fs) l.1 (l.3 q fs);
    node_object = λ x e b q fs.
        let l = object_opens k j ms o m (tag_of k) x e in
        first_step reads ask.node_object (key k) l.0 (json_tokens j ++ members_tokens ms) (draft q fs) (told q x fs) (l.2 b) (l.3 q fs);
    plain = λ x e. plain_first k j ms o m (tag_of k) refl x e;
    keys = keys_first k j ms o m;
    rising = rising_first k j ms o m;
    left = left_first k j ms o m;
    rows = rows_first k j ms o m;
    names = names_last k j ms o;
    fixed = λ b x e q fs.
        let l = fixed_opens j ms m b (tag_of k) x e q fs in
        first_step reads ask.vector_key (key k) l.0 (json_tokens j ++ members_tokens ms) (draft (begin q) (frame.fixed (count q) b ∷ fs)) (told q x fs) l.1 l.2;
    typed = typed_last k j ms o;
    class = λ c x e q fs.
        let l = class_opens j ms o m c (tag_of k) x e q fs in
        first_step reads ask.class_rest (key k) l.0 (json_tokens j ++ members_tokens ms) (begun_draft q (not_dynamic reads c) frame.class fs) (told q x fs) l.1 l.2;
    begun = λ b x e q fs.
        let l = begun_opens j ms o m b (tag_of k) x e q fs in
        first_step reads ask.begun (key k) l.0 (json_tokens j ++ members_tokens ms) (begun_draft q b frame.class fs) (told q x fs) l.1 l.2;
    mixed = mixed_last k j ms o;
  }

  -- All of them.

  mutual
    pub of_json : (j : Json) → OfJson reads j
    of_json json.null = of_null reads
    of_json (json.boolean b) = of_boolean reads b
    of_json (json.number s) = of_number reads s
    of_json (json.string s) = of_string reads s
    of_json (json.array js) = of_array reads js (of_items js)
    of_json (json.object ms) = of_object reads ms (of_members ms)

    pub of_items : (js : Items) → OfItems reads js
    of_items no_items = of_no_items reads
    of_items (item j js) = of_item reads j js (of_json j) (of_items js)

    pub of_members : (ms : Members) → OfMembers reads ms
    of_members no_members = of_no_members
    of_members (member k j ms) = of_member k j ms (of_json j) (of_members ms)
