-- What values come to, by the parts of their JSON.
use Rattle.std.proofs.Common.{◌≡◌, ℕ, Bool, true, false, List, [], ◌∷◌, ◌++◌, Option, Some, None, refl, sym, ap, ◌∙◌, subst, append_assoc, append-nil}
use Rattle.std.specs.Prelude.{option_map, option_and_then, is_some, codes}
use Rattle.std.proofs.lemmas.Option.{same_Some}
use Rattle.json.specs.Token.{Token, begin_object, end_object, begin_array, end_array, string, number, boolean, null}
use Rattle.json.specs.Json.{Json, no_items, no_members, item, member, Items, Members}
use Rattle.json.specs.Json as json
use Rattle.json.specs.Tree.{json_tokens, items_tokens, members_tokens}
use Rattle.amf_wire.specs.WholeNumbers.{whole_of}
use Rattle.amf_graph.specs.Graph as graph
use Rattle.amf_text.specs.Scalars.{Reads}
use Rattle.amf_text.specs.Told.{is_rising}
use Rattle.amf_text.specs.Meant.{Tree, said, body, Trees, no_trees, tree, Named, named, no_named, keys_of, trees_of, text_meant, are_those, Begun, traits_with, as_integer, entry, rising_body, object_body, meant, items_meant, values_meant, members_meant, keys_meant, pairs_meant, entries_meant, dictionary_meant, plain_meant, object_meant, array_names, fixed_meant, typed_meant, class_meant, begun_meant, sealed_meant, mixed_meant, is_body}
use Rattle.amf_text.specs.Linked.{are_rows}
use Rattle.amf_text.specs.Asks as ask
use Rattle.amf_text.specs.Asks.{Goal, step, if_it}
use Rattle.amf_text.proofs.Goals.{no_answer, and_then_is, map_is}
use Rattle.amf_text.proofs.Asked.{if_is, some_is}
use Rattle.amf_text.proofs.Complete.{Rises, not_node}
use Rattle.amf_text_trees.specs.Pieces as piece
use Rattle.amf_text_trees.specs.Sheets.{Entry, Pairs, Sheet, count, begin, entry_of, after, after_trees, after_named, entries_in, pairs_in}
use Rattle.amf_text_trees.specs.Frames.{Frame, Class, firsts, seconds, object_kept, take, give}
use Rattle.amf_text_trees.specs.Frames as frame
use Rattle.amf_text_trees.specs.Gathering.{Draft, draft, finish, said_piece, members_in, gather, given, trees_after}
use Rattle.amf_text_trees.proofs.Taking.{at, Takes, joined, arrives, departs, first_step, one_token, test_token}
use Rattle.amf_text_trees.proofs.Scalars.{then_close, text_gives}

-- The sealed members of an object are values with names.

pub firsts_are : (q : Sheet) (ts : Named) → firsts (pairs_in q ts) ≡ keys_of ts
firsts_are q no_named = refl
firsts_are q (named x t ts) = ap (λ l. x ∷ l) (firsts_are (after q t) ts)

pub seconds_are : (q : Sheet) (ts : Named) → seconds (pairs_in q ts) ≡ entries_in q (trees_of ts)
seconds_are q no_named = refl
seconds_are q (named x t ts) = ap (λ l. entry_of q t ∷ l) (seconds_are (after q t) ts)

pub named_after : (q : Sheet) (ts : Named) → after_named q ts ≡ after_trees q (trees_of ts)
named_after q no_named = refl
named_after q (named x t ts) = named_after (after q t) ts

-- Frames that take values, and members.

pub record IsLister (f : List Entry → Frame) : Type 0 where
  pub value : (es : List Entry) (e : Entry) → take (piece.value e) (f es) ≡ f (es ++ e ∷ [])

pub record IsNamer (f : Pairs → Option (List ℕ) → Frame) : Type 0 where
  pub text : (ps : Pairs) (l : Option (List ℕ)) (k : List ℕ) → take (piece.text k) (f ps l) ≡ f ps (Some k)
  pub value : (ps : Pairs) (k : List ℕ) (e : Entry) → take (piece.value e) (f ps (Some k)) ≡ f (ps ++ (k, e) ∷ []) None
  -- no name is left at the end
  pub ends : (q : Sheet) (ps : Pairs) (l : Option (List ℕ)) (fs : List Frame) → finish q (f ps l ∷ fs) ≡ finish q (f ps None ∷ fs)

of_list : IsLister frame.list
of_list = record { value = λ es e. refl }

of_items_frame : (n : ℕ) → IsLister (frame.items n)
of_items_frame n = record { value = λ es e. refl }

pub of_members_frame : IsNamer frame.members
of_members_frame = record { text = λ ps l k. refl; value = λ ps k e. refl; ends = λ q ps l fs. refl }

pub of_plain_frame : (n : ℕ) → IsNamer (frame.plain n)
of_plain_frame n = record { text = λ ps l k. refl; value = λ ps k e. refl; ends = λ q ps l fs. refl }

-- a tree is told behind this sheet, and the innermost frame takes it
abbrev pub told : Sheet → Tree → List Frame → Draft
told q t fs = draft (after q t) (give (piece.value (entry_of q t)) fs)

abbrev pub told_trees : Sheet → Trees → List Frame → Draft
told_trees q ts fs = draft (after_trees q ts) (give (piece.values (entries_in q ts)) fs)

abbrev pub told_named : Sheet → Named → List Frame → Draft
told_named q ts fs = draft (after_named q ts) (give (piece.members (pairs_in q ts)) fs)

-- an object that begins behind this sheet, when its dynamic members have come
abbrev pub class_of : Sheet → Begun → Class
class_of q o = record { name = o.class; dynamic = o.dynamic; members = pairs_in (begin q) o.names }

abbrev pub begun_draft : Sheet → Begun → (ℕ → Class → Frame) → List Frame → Draft
begun_draft q o make fs = draft (after_named (begin q) o.names) (make (count q) (class_of q o) ∷ fs)

-- its sealed members come
pub object_ends : (q : Sheet) (o : Begun) (ss : Named) (fs : List Frame)
    → finish (after_named (after_named (begin q) o.names) ss) (frame.done (count q) (object_kept (class_of q o) (pairs_in (after_named (begin q) o.names) ss)) ∷ fs) ≡ told q (object_body o ss) fs
object_ends q o ss fs =
    let r = after_named (begin q) o.names in
    let made = λ (keys : List (List ℕ)) (es : List Entry) (s : Sheet). finish s (frame.done (count q) (record { head = graph.object (traits_with o keys); names = pairs_in (begin q) o.names; values = es }) ∷ fs) in
    ap (λ keys. made keys (seconds (pairs_in r ss)) (after_named r ss)) (firsts_are r ss)
    ∙ ap (λ es. made (keys_of ss) es (after_named r ss)) (seconds_are r ss)
    ∙ ap (λ s. made (keys_of ss) (entries_in r (trees_of ss)) s) (named_after r ss)

module _ (reads : Reads) where
  -- a goal for one value, and one for the items or members of such a frame
  abbrev pub Tells : Goal → List Token → Tree → Type 0
  Tells g ts x = (q : Sheet) (fs : List Frame) → Takes reads (g ∷ []) ts (draft q fs) (told q x fs)

  abbrev pub Lists : Goal → (List Entry → Frame) → List Token → Trees → Type 0
  Lists g f ts x = (es : List Entry) (q : Sheet) (fs : List Frame) → Takes reads (g ∷ []) ts (draft q (f es ∷ fs)) (finish (after_trees q x) (f (es ++ entries_in q x) ∷ fs))

  abbrev pub Fills : Goal → (Pairs → Option (List ℕ) → Frame) → List Token → Named → Type 0
  Fills g f ts x = (ps : Pairs) (l : Option (List ℕ)) (q : Sheet) (fs : List Frame) → Takes reads (g ∷ []) ts (draft q (f ps l ∷ fs)) (finish (after_named q x) (f (ps ++ pairs_in q x) None ∷ fs))

  abbrev pub ValueTells : Json → Type 0
  ValueTells j = (x : Tree) → meant reads j ≡ Some x → Tells ask.value (json_tokens j) x

  abbrev pub AllValues : Items → Type 0
  AllValues no_items = Unit {0}
  AllValues (item j js) = ValueTells j × AllValues js

  abbrev pub Inside : Json → Type 0
  Inside (json.array js) = AllValues js
  Inside _ = Unit {0}

  abbrev pub Those : Json → Type 0
  Those (json.object ms) = (names : List (List ℕ)) (x : Named) → keys_meant reads ms ≡ Some x → are_those names (keys_of x) ≡ true
      → (q : Sheet) (fs : List Frame) → Takes reads (ask.those names ∷ []) (json_tokens (json.object ms)) (draft q fs) (told_named q x fs)
  Those _ = Unit {0}

  pub record OfJson (j : Json) : Type 0 where
    pub value : ValueTells j
    pub node : (x : Tree) → meant reads j ≡ Some x → is_body x ≡ true → Tells ask.node (json_tokens j) x
    pub list : (x : Trees) → values_meant reads j ≡ Some x → (q : Sheet) (fs : List Frame) → Takes reads (ask.list ∷ []) (json_tokens j) (draft q fs) (told_trees q x fs)
    pub members : (x : Named) → members_meant reads j ≡ Some x → (f : Pairs → Option (List ℕ) → Frame) → IsNamer f
        → (q r : Sheet) (fs : List Frame) → members_in q fs ≡ draft r (f [] None ∷ fs) → Takes reads (ask.members ∷ []) (json_tokens j) (draft q fs) (finish (after_named r x) (f (pairs_in r x) None ∷ fs))
    pub dictionary : (x : Trees) → dictionary_meant reads j ≡ Some x → (q : Sheet) (fs : List Frame) → Takes reads (ask.entries_list ∷ []) (json_tokens j) (draft q fs) (told_trees q x fs)
    pub sealed : (o : Begun) (x : Tree) → sealed_meant reads o j ≡ Some x → (q : Sheet) (fs : List Frame)
        → Takes reads (ask.sealed ∷ ask.close ∷ []) (json_tokens j ++ end_object ∷ []) (begun_draft q o frame.class fs) (told q x fs)
    pub those : Those j
    pub inside : Inside j

  pub record OfItems (js : Items) : Type 0 where
    pub items : (x : Trees) → items_meant reads js ≡ Some x → (f : List Entry → Frame) → IsLister f → Lists ask.items f (items_tokens js) x
    pub pairs : (x : Named) → pairs_meant reads js ≡ Some x → (f : Pairs → Option (List ℕ) → Frame) → IsNamer f → Fills ask.pairs f (items_tokens js) x
    pub entries : (x : Trees) → entries_meant reads js ≡ Some x → Lists ask.entries frame.list (items_tokens js) x
    pub values : AllValues js

  pub record OfMembers (ms : Members) : Type 0 where
    pub object : (x : Tree) → object_meant reads ms ≡ Some x → Tells ask.object (members_tokens ms) x
    pub node_object : (x : Tree) → object_meant reads ms ≡ Some x → is_body x ≡ true → Tells ask.node_object (members_tokens ms) x
    pub plain : (x : Named) → plain_meant reads ms ≡ Some x → (n : ℕ) → Fills ask.plain (frame.plain n) (members_tokens ms) x
    pub keys : (x : Named) → keys_meant reads ms ≡ Some x → (f : Pairs → Option (List ℕ) → Frame) → IsNamer f → Fills ask.keys f (members_tokens ms) x
    pub rising : (last : Option (List ℕ)) (x : Named) → keys_meant reads ms ≡ Some x → Rises reads last (keys_of x) → Fills (ask.rising last) frame.members (members_tokens ms) x
    pub left : (names : List (List ℕ)) (x : Named) → keys_meant reads ms ≡ Some x → are_those names (keys_of x) ≡ true → Fills (ask.left names) frame.members (members_tokens ms) x
    pub rows : (seen : List (List ℕ)) (x : Named) → keys_meant reads ms ≡ Some x → are_rows seen x ≡ true → Fills (ask.row_keys seen) frame.members (members_tokens ms) x
    pub names : (vs : Trees) (x : Tree) → array_names reads vs ms ≡ Some x → (q : Sheet) (fs : List Frame)
        → Takes reads (ask.key_is (codes "$names") ∷ ask.members ∷ ask.close ∷ []) (members_tokens ms) (draft (after_trees (begin q) vs) (frame.listed (count q) (entries_in (begin q) vs) ∷ fs)) (told q x fs)
    pub fixed : (b : Bool) (x : Tree) → fixed_meant reads b ms ≡ Some x → (q : Sheet) (fs : List Frame) → Takes reads (ask.vector_key ∷ []) (members_tokens ms) (draft (begin q) (frame.fixed (count q) b ∷ fs)) (told q x fs)
    pub typed : (b : Bool) (c : List ℕ) (x : Tree) → typed_meant reads b c ms ≡ Some x → (q : Sheet) (fs : List Frame)
        → Takes reads (ask.key_is (codes "$values") ∷ ask.list ∷ ask.close ∷ []) (members_tokens ms) (draft (begin q) (frame.typed (count q) b c ∷ fs)) (told q x fs)
    pub class : (c : List ℕ) (x : Tree) → class_meant reads c ms ≡ Some x → (q : Sheet) (fs : List Frame)
        → Takes reads (ask.class_rest ∷ []) (members_tokens ms) (begun_draft q (record { class = c; dynamic = false; names = no_named }) frame.class fs) (told q x fs)
    pub begun : (o : Begun) (x : Tree) → begun_meant reads o ms ≡ Some x → (q : Sheet) (fs : List Frame) → Takes reads (ask.begun ∷ []) (members_tokens ms) (begun_draft q o frame.class fs) (told q x fs)
    pub mixed : (o : Begun) (names : List (List ℕ)) (x : Tree) → mixed_meant reads o names ms ≡ Some x → (q : Sheet) (fs : List Frame)
        → Takes reads (ask.key_is (codes "$sealed") ∷ ask.those names ∷ ask.close ∷ []) (members_tokens ms) (begun_draft q o (λ n c. frame.ordered n c names) fs) (told q x fs)

  -- Said otherwise.

  abbrev as_told : (q : Sheet) (fs : List Frame) {gs : List Goal} {ts : List Token} {d : Draft} {y x : Tree} → y ≡ x → Takes reads gs ts d (told q y fs) → Takes reads gs ts d (told q x fs)
  as_told q fs e d = arrives reads (ap (λ t. told q t fs) e) d

  -- Scalars.

  pub of_null : OfJson json.null
  unfolding step meant gather
  of_null = record {
    value = λ x e q fs. as_told q fs (same_Some (said (graph.null)) x e) (one_token reads ask.value null (draft q fs) (told q (said (graph.null)) fs) refl refl);
    node = λ x e n. not_node (said (graph.null)) x (same_Some (said (graph.null)) x e) refl n;
    list = λ x e. no_answer x e;
    members = λ x e. no_answer x e;
    dictionary = λ x e. no_answer x e;
    sealed = λ o x e. no_answer x e;
    those = tt;
    inside = tt;
  }

  pub of_boolean : (b : Bool) → OfJson (json.boolean b)
  unfolding step meant gather
  of_boolean b = record {
    value = λ x e q fs. as_told q fs (same_Some (said (graph.boolean b)) x e) (one_token reads ask.value (boolean b) (draft q fs) (told q (said (graph.boolean b)) fs) refl refl);
    node = λ x e n. not_node (said (graph.boolean b)) x (same_Some (said (graph.boolean b)) x e) refl n;
    list = λ x e. no_answer x e;
    members = λ x e. no_answer x e;
    dictionary = λ x e. no_answer x e;
    sealed = λ o x e. no_answer x e;
    those = tt;
    inside = tt;
  }

  pub of_string : (s : List ℕ) → OfJson (json.string s)
  unfolding step meant gather
  of_string s = record {
    value = λ x e q fs. as_told q fs (same_Some (said (graph.text s)) x e) (one_token reads ask.value (string s) (draft q fs) (told q (said (graph.text s)) fs) refl refl);
    node = λ x e n. not_node (said (graph.text s)) x (same_Some (said (graph.text s)) x e) refl n;
    list = λ x e. no_answer x e;
    members = λ x e. no_answer x e;
    dictionary = λ x e. no_answer x e;
    sealed = λ o x e. no_answer x e;
    those = tt;
    inside = tt;
  }

  number_said : ℕ → Tree
  number_said p = said (as_integer p (whole_of p))

  pub of_number : (s : List ℕ) → OfJson (json.number s)
  unfolding step meant gather number_said
  of_number s = record {
    value = λ x e q fs.
        let h = map_is number_said (reads s) x e in
        as_told q fs h.2
        (test_token reads ask.value (number s) (is_some (reads s)) (draft q fs) (told q (number_said h.0) fs) refl (some_is (reads s) h.0 h.1) (ap (λ o. given said_piece (option_map (λ p. as_integer p (whole_of p)) o) (draft q fs)) h.1));
    node = λ x e n. let h = map_is number_said (reads s) x e in not_node (number_said h.0) x h.2 refl n;
    list = λ x e. no_answer x e;
    members = λ x e. no_answer x e;
    dictionary = λ x e. no_answer x e;
    sealed = λ o x e. no_answer x e;
    those = tt;
    inside = tt;
  }

  -- Arrays and objects.

  array_items : (js : Items) → OfItems js → (x : Tree) → option_map (body graph.array no_named) (items_meant reads js) ≡ Some x
      → (q : Sheet) (fs : List Frame) → Takes reads (ask.items ∷ []) (items_tokens js) (draft (begin q) (frame.items (count q) [] ∷ fs)) (told q x fs)
  array_items js i x e q fs =
      let h = map_is (body graph.array no_named) (items_meant reads js) x e in
      as_told q fs h.2 (i.items h.0 h.1 (frame.items (count q)) (of_items_frame (count q)) [] (begin q) fs)

  pub of_array : (js : Items) → OfItems js → OfJson (json.array js)
  unfolding step meant gather
  of_array js i = record {
    value = λ x e q fs. first_step reads ask.value begin_array (ask.items ∷ []) (items_tokens js) (draft q fs) (told q x fs) refl (array_items js i x e q fs);
    node = λ x e n q fs. first_step reads ask.node begin_array (ask.items ∷ []) (items_tokens js) (draft q fs) (told q x fs) refl (array_items js i x e q fs);
    list = λ x e q fs. first_step reads ask.list begin_array (ask.items ∷ []) (items_tokens js) (draft q fs) (told_trees q x fs) refl (i.items x e frame.list of_list [] q fs);
    members = λ x e f is q r fs m.
        first_step reads ask.members begin_array (ask.pairs ∷ []) (items_tokens js) (draft q fs) (finish (after_named r x) (f (pairs_in r x) None ∷ fs)) refl (departs reads m (i.pairs x e f is [] None r fs));
    dictionary = λ x e q fs. first_step reads ask.entries_list begin_array (ask.entries ∷ []) (items_tokens js) (draft q fs) (told_trees q x fs) refl (i.entries x e [] q fs);
    sealed = λ o x e q fs.
        let h = map_is (object_body o) (pairs_meant reads js) x e in
        let r = after_named (begin q) o.names in
        let d = begun_draft q o frame.class fs in
        let k = frame.done (count q) (object_kept (class_of q o) (pairs_in r h.0)) in
        as_told q fs h.2
        (arrives reads (object_ends q o h.0 fs)
        (then_close reads ask.sealed (json_tokens (json.array js)) no_members d (draft (after_named r h.0) (k ∷ fs)) refl
        (first_step reads ask.sealed begin_array (ask.pairs ∷ []) (items_tokens js) d (draft (after_named r h.0) (k ∷ fs)) refl (i.pairs h.0 h.1 frame.members of_members_frame [] None r d.frames))));
    those = tt;
    inside = i.values;
  }

  pub of_object : (ms : Members) → OfMembers ms → OfJson (json.object ms)
  unfolding step meant gather
  of_object ms m = record {
    value = λ x e q fs. first_step reads ask.value begin_object (ask.object ∷ []) (members_tokens ms) (draft q fs) (told q x fs) refl (m.object x e q fs);
    node = λ x e n q fs. first_step reads ask.node begin_object (ask.node_object ∷ []) (members_tokens ms) (draft q fs) (told q x fs) refl (m.node_object x e n q fs);
    list = λ x e. no_answer x e;
    members = λ x e f is q r fs i.
        first_step reads ask.members begin_object (ask.keys ∷ []) (members_tokens ms) (draft q fs) (finish (after_named r x) (f (pairs_in r x) None ∷ fs)) refl (departs reads i (m.keys x e f is [] None r fs));
    dictionary = λ x e. no_answer x e;
    sealed = λ o x e q fs.
        let h = and_then_is (rising_body o) (keys_meant reads ms) x e in
        let t = if_is (is_rising (keys_of h.0)) (Some (object_body o h.0)) x h.2 in
        let r = after_named (begin q) o.names in
        let d = begun_draft q o frame.class fs in
        let k = frame.done (count q) (object_kept (class_of q o) (pairs_in r h.0)) in
        as_told q fs (same_Some (object_body o h.0) x t.1)
        (arrives reads (object_ends q o h.0 fs)
        (then_close reads ask.sealed (json_tokens (json.object ms)) no_members d (draft (after_named r h.0) (k ∷ fs)) refl
        (first_step reads ask.sealed begin_object (ask.rising None ∷ []) (members_tokens ms) d (draft (after_named r h.0) (k ∷ fs)) refl (m.rising None h.0 h.1 t.0 [] None r d.frames))));
    those = λ names x e t q fs.
        first_step reads (ask.those names) begin_object (ask.left names ∷ []) (members_tokens ms) (draft q fs) (told_named q x fs) refl (m.left names x e t [] None q fs);
    inside = tt;
  }

  -- Items.

  -- these came before
  lists_none : (f : List Entry → Frame) (es : List Entry) (q : Sheet) (fs : List Frame) (x : Trees) → no_trees ≡ x → finish q (f es ∷ fs) ≡ finish (after_trees q x) (f (es ++ entries_in q x) ∷ fs)
  lists_none f es q fs x e = ap (λ l. finish q (f l ∷ fs)) (sym (append-nil es)) ∙ ap (λ y. finish (after_trees q y) (f (es ++ entries_in q y) ∷ fs)) e

  pub fills_none : (f : Pairs → Option (List ℕ) → Frame) → IsNamer f → (ps : Pairs) (l : Option (List ℕ)) (q : Sheet) (fs : List Frame) (x : Named) → no_named ≡ x
      → finish q (f ps l ∷ fs) ≡ finish (after_named q x) (f (ps ++ pairs_in q x) None ∷ fs)
  fills_none f is ps l q fs x e = is.ends q ps l fs ∙ ap (λ m. finish q (f m None ∷ fs)) (sym (append-nil ps)) ∙ ap (λ y. finish (after_named q y) (f (ps ++ pairs_in q y) None ∷ fs)) e

  pub of_no_items : OfItems no_items
  unfolding step meant gather
  of_no_items = record {
    items = λ x e f is es q fs. one_token reads ask.items end_array (draft q (f es ∷ fs)) (finish (after_trees q x) (f (es ++ entries_in q x) ∷ fs)) refl (lists_none f es q fs x (same_Some no_trees x e));
    pairs = λ x e f is ps l q fs. one_token reads ask.pairs end_array (draft q (f ps l ∷ fs)) (finish (after_named q x) (f (ps ++ pairs_in q x) None ∷ fs)) refl (fills_none f is ps l q fs x (same_Some no_named x e));
    entries = λ x e es q fs. one_token reads ask.entries end_array (draft q (frame.list es ∷ fs)) (finish (after_trees q x) (frame.list (es ++ entries_in q x) ∷ fs)) refl (lists_none frame.list es q fs x (same_Some no_trees x e));
    values = tt;
  }

  lists_as : (g : Goal) (f : List Entry → Frame) (ts : List Token) (y x : Trees) → y ≡ x → Lists g f ts y → Lists g f ts x
  lists_as g f ts y x e d = subst (Lists g f ts) e d

  pub fills_as : (g : Goal) (f : Pairs → Option (List ℕ) → Frame) (ts : List Token) (y x : Named) → y ≡ x → Fills g f ts y → Fills g f ts x
  fills_as g f ts y x e d = subst (Fills g f ts) e d

  -- an item is a value
  number_item : (t : Bool) (b : List Token) (d e : Draft)
      → option_and_then (λ s. trees_after reads s.goals s.draft b) (option_map (λ l. at (l ++ ask.items ∷ []) d) (if_it t [])) ≡ Some (at [] e)
      → option_and_then (λ s. trees_after reads s.goals s.draft b) (option_map (λ l. at (l ++ []) d) (ask.then_more ask.items (if_it t []))) ≡ Some (at [] e)
  number_item true b d e h = h
  number_item false b d e h = no_answer (at [] e) h

  as_item : (j : Json) (b : List Token) (d e : Draft) → Takes reads (ask.value ∷ ask.items ∷ []) (json_tokens j ++ b) d e → Takes reads (ask.items ∷ []) (json_tokens j ++ b) d e
  unfolding step gather
  as_item json.null b d e h = record { is = h.is }
  as_item (json.boolean t) b d e h = record { is = h.is }
  as_item (json.number s) b d e h = record { is = number_item (is_some (reads s)) b (given said_piece (option_map (λ p. as_integer p (whole_of p)) (reads s)) d) e h.is }
  as_item (json.string s) b d e h = record { is = h.is }
  as_item (json.array js) b d e h = record { is = h.is }
  as_item (json.object ms) b d e h = record { is = h.is }

  -- two in brackets, and then more
  twins : (g h more : Goal) (a b c : List Token) (d e f i : Draft) → Takes reads (g ∷ []) a d e → Takes reads (h ∷ []) b e f → Takes reads (more ∷ []) c f i
      → Takes reads (g ∷ h ∷ ask.end_list ∷ more ∷ []) ((a ++ (b ++ end_array ∷ [])) ++ c) d i
  unfolding step gather
  twins g h more a b c d e f i x y z =
      let end : Takes reads (ask.end_list ∷ []) (end_array ∷ []) f f = record { is = refl } in
      subst (λ ts. Takes reads (g ∷ h ∷ ask.end_list ∷ more ∷ []) ts d i) (sym (append_assoc a (b ++ end_array ∷ []) c ∙ ap (λ l. a ++ l) (append_assoc b (end_array ∷ []) c)))
      (joined reads x (joined reads y (joined reads end z)))

  pair_item : (j : Json) (js : Items) → Inside j → ((x : Named) → pairs_meant reads js ≡ Some x → (f : Pairs → Option (List ℕ) → Frame) → IsNamer f → Fills ask.pairs f (items_tokens js) x)
      → (x : Named) → pairs_meant reads (item j js) ≡ Some x → (f : Pairs → Option (List ℕ) → Frame) → IsNamer f → Fills ask.pairs f (json_tokens j ++ items_tokens js) x
  unfolding step meant gather
  pair_item (json.array (item k (item v no_items))) js i rest x e f is =
      let h = and_then_is (λ y. option_and_then (λ t. option_map (named y t) (pairs_meant reads js)) (meant reads v)) (text_meant k) x e in
      let r = and_then_is (λ t. option_map (named h.0 t) (pairs_meant reads js)) (meant reads v) x h.2 in
      let m = map_is (named h.0 r.0) (pairs_meant reads js) x r.2 in
      let ts = (json_tokens k ++ (json_tokens v ++ end_array ∷ [])) ++ items_tokens js in
      fills_as ask.pairs f (begin_array ∷ ts) (named h.0 r.0 m.0) x m.2 (λ ps l q fs.
      let end = finish (after_named q (named h.0 r.0 m.0)) (f (ps ++ pairs_in q (named h.0 r.0 m.0)) None ∷ fs) in
      let one = ps ++ (h.0, entry_of q r.0) ∷ [] in
      first_step reads ask.pairs begin_array (ask.text ∷ ask.value ∷ ask.end_list ∷ ask.pairs ∷ []) ts (draft q (f ps l ∷ fs)) end refl
      (twins ask.text ask.value ask.pairs (json_tokens k) (json_tokens v) (items_tokens js) (draft q (f ps l ∷ fs)) (draft q (f ps (Some h.0) ∷ fs)) (draft (after q r.0) (f one None ∷ fs)) end
      (arrives reads (ap (λ g. draft q (g ∷ fs)) (is.text ps l h.0)) (text_gives reads k h.0 h.1 (draft q (f ps l ∷ fs))))
      (arrives reads (ap (λ g. draft (after q r.0) (g ∷ fs)) (is.value ps h.0 (entry_of q r.0))) (i.1.0 r.0 r.1 q (f ps (Some h.0) ∷ fs)))
      (arrives reads (ap (λ l. finish (after_named (after q r.0) m.0) (f l None ∷ fs)) (append_assoc ps ((h.0, entry_of q r.0) ∷ []) (pairs_in (after q r.0) m.0))) (rest m.0 m.1 f is one None (after q r.0) fs))))
  pair_item (json.array no_items) js i rest x e f is = no_answer x e
  pair_item (json.array (item k no_items)) js i rest x e f is = no_answer x e
  pair_item (json.array (item k (item v (item w ws)))) js i rest x e f is = no_answer x e
  pair_item json.null js i rest x e f is = no_answer x e
  pair_item (json.boolean b) js i rest x e f is = no_answer x e
  pair_item (json.number s) js i rest x e f is = no_answer x e
  pair_item (json.string s) js i rest x e f is = no_answer x e
  pair_item (json.object ms) js i rest x e f is = no_answer x e

  entry_item : (j : Json) (js : Items) → Inside j → ((x : Trees) → entries_meant reads js ≡ Some x → Lists ask.entries frame.list (items_tokens js) x)
      → (x : Trees) → entries_meant reads (item j js) ≡ Some x → Lists ask.entries frame.list (json_tokens j ++ items_tokens js) x
  unfolding step meant gather
  entry_item (json.array (item k (item v no_items))) js i rest x e =
      let h = and_then_is (λ a. option_and_then (λ b. option_map (entry a b) (entries_meant reads js)) (meant reads v)) (meant reads k) x e in
      let r = and_then_is (λ b. option_map (entry h.0 b) (entries_meant reads js)) (meant reads v) x h.2 in
      let m = map_is (entry h.0 r.0) (entries_meant reads js) x r.2 in
      let ts = (json_tokens k ++ (json_tokens v ++ end_array ∷ [])) ++ items_tokens js in
      lists_as ask.entries frame.list (begin_array ∷ ts) (entry h.0 r.0 m.0) x m.2 (λ es q fs.
      let end = finish (after_trees q (entry h.0 r.0 m.0)) (frame.list (es ++ entries_in q (entry h.0 r.0 m.0)) ∷ fs) in
      let a = entry_of q h.0 in
      let b = entry_of (after q h.0) r.0 in
      let s = after (after q h.0) r.0 in
      let more = entries_in s m.0 in
      first_step reads ask.entries begin_array (ask.value ∷ ask.value ∷ ask.end_list ∷ ask.entries ∷ []) ts (draft q (frame.list es ∷ fs)) end refl
      (twins ask.value ask.value ask.entries (json_tokens k) (json_tokens v) (items_tokens js) (draft q (frame.list es ∷ fs)) (draft (after q h.0) (frame.list (es ++ a ∷ []) ∷ fs)) (draft s (frame.list ((es ++ a ∷ []) ++ b ∷ []) ∷ fs)) end
      (i.0 h.0 h.1 q (frame.list es ∷ fs))
      (i.1.0 r.0 r.1 (after q h.0) (frame.list (es ++ a ∷ []) ∷ fs))
      (arrives reads (ap (λ l. finish (after_trees s m.0) (frame.list l ∷ fs)) (append_assoc (es ++ a ∷ []) (b ∷ []) more ∙ append_assoc es (a ∷ []) (b ∷ more))) (rest m.0 m.1 ((es ++ a ∷ []) ++ b ∷ []) s fs))))
  entry_item (json.array no_items) js i rest x e = no_answer x e
  entry_item (json.array (item k no_items)) js i rest x e = no_answer x e
  entry_item (json.array (item k (item v (item w ws)))) js i rest x e = no_answer x e
  entry_item json.null js i rest x e = no_answer x e
  entry_item (json.boolean b) js i rest x e = no_answer x e
  entry_item (json.number s) js i rest x e = no_answer x e
  entry_item (json.string s) js i rest x e = no_answer x e
  entry_item (json.object ms) js i rest x e = no_answer x e

  value_item : (j : Json) (js : Items) → ValueTells j → OfItems js → (x : Trees) → items_meant reads (item j js) ≡ Some x → (f : List Entry → Frame) → IsLister f → Lists ask.items f (json_tokens j ++ items_tokens js) x
  unfolding meant
  value_item j js o i x e f is =
      let h = and_then_is (λ t. option_map (tree t) (items_meant reads js)) (meant reads j) x e in
      let r = map_is (tree h.0) (items_meant reads js) x h.2 in
      lists_as ask.items f (json_tokens j ++ items_tokens js) (tree h.0 r.0) x r.2 (λ es q fs.
      let end = finish (after_trees q (tree h.0 r.0)) (f (es ++ entries_in q (tree h.0 r.0)) ∷ fs) in
      as_item j (items_tokens js) (draft q (f es ∷ fs)) end
      (joined reads (arrives reads (ap (λ g. draft (after q h.0) (g ∷ fs)) (is.value es (entry_of q h.0))) (o h.0 h.1 q (f es ∷ fs)))
      (arrives reads (ap (λ l. finish (after_trees (after q h.0) r.0) (f l ∷ fs)) (append_assoc es (entry_of q h.0 ∷ []) (entries_in (after q h.0) r.0))) (i.items r.0 r.1 f is (es ++ entry_of q h.0 ∷ []) (after q h.0) fs))))

  pub of_item : (j : Json) (js : Items) → OfJson j → OfItems js → OfItems (item j js)
  of_item j js o i = record { items = value_item j js o.value i; pairs = pair_item j js o.inside i.pairs; entries = entry_item j js o.inside i.entries; values = (o.value, i.values) }
