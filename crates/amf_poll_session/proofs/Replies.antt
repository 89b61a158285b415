-- What a graph tells: the class of a message, and the items of a batch.
use Rattle.std.proofs.Common.{drop-cons, add-one, ◌≡◌, ◌∙◌, ℕ, ◌+◌, ◌<◌, Bool, true, false, ◌&&◌, if◌then◌else◌, List, [], ◌∷◌, ◌++◌, map, take, drop, get_or, length, Some, None, refl, sym, ap, subst, arith}
use Rattle.std.specs.Prelude.{flat_map, ℤ, pos, negsuc, ◌==◌}
use Rattle.std.proofs.lemmas.Bool.Decides.{nat_tests}
use Rattle.std.specs.List.{AllByRecursion, list_all}
use Rattle.std.proofs.lemmas.Grind.{flat_map-append}
use Rattle.std.proofs.lemmas.List.{map-append, append-nil, take-append-drop}
use Rattle.amf_graph.specs.declared.value.Value.{Value as Stored}
use Rattle.amf_graph.specs.declared.value.TextId.{TextId}
use Rattle.amf_graph.specs.Graph.{Value, Head, Graph}
use Rattle.amf_graph.specs.Arena.{Arena, StoredNode, Names, object, array, value_content, node_content, head_content, traits_at, graph_of}
use Rattle.amf_graph.specs.Building.{closed, stored_at}
use Rattle.amf_graph.specs.Grafting.{node_value}
use Rattle.amf_graph.specs.Rooted.{RootedArena, content}
use Rattle.amf_graph.specs.Views.{named}
use Rattle.amf_graph.proofs.Alls.{all_append}
use Rattle.flex_msgs.specs.Classes.{body_name, operation_name}
use Rattle.flex_msgs.specs.Lookup.{value_named, members_of, named_in, pairs_of}
use Rattle.flex_msgs.specs.Viewing.{whole_number}
use Rattle.flex_msgs.proofs.Looking.{node_content_at, object_pairs}
use Rattle.amf_poll_session.specs.declared.kind.MessageKind.{MessageKind}
use Rattle.amf_poll_session.specs.declared.kind.MessageKind.TheVariants.{Acknowledge, Sync, Invalidate, Async, Foreign}
use Rattle.amf_poll_session.specs.Replies.{command_kind, class_kind, head_kind, kind_at, member_at, item_at, unnamed_items, dense_items, items_at, is_item, body_of, are_items, bodies_in}
use Rattle.amf_poll_session.specs.Steps.{bodies_at, items_of, is_told, told_body, item_kind, SoFar, Bodies, AddsItem}

-- the kind of an object, by its class and its members
pub object_kind : (a : Arena) (root v : Stored) (i t : ℕ) (ms : List (ℕ × Stored)) (vs : List Stored) → v ≡ node_value i → stored_at a i ≡ closed (object t) ms vs
    → kind_at (graph_of a root) (value_content a v) ≡ class_kind (traits_at a t).class (whole_number (value_named operation_name (members_of (traits_at a t) (node_content a (stored_at a i)))))
object_kind a root v i t ms vs r e =
    let g = graph_of a root in
    ap (λ (z : Stored). kind_at g (value_content a z)) r
    ∙ ap (λ z. head_kind z.head z) (node_content_at a root i)
    ∙ ap (λ (d : Head). head_kind d (node_content a (stored_at a i))) (ap (λ (z : StoredNode). head_content a z.head) e)

-- a member of an object
pub object_member : (a : Arena) (root v found : Stored) (i t : ℕ) (name : List ℕ) (ms : List (ℕ × Stored)) (vs : List Stored) → v ≡ node_value i → stored_at a i ≡ closed (object t) ms vs
    → value_content a found ≡ named_in name (pairs_of (graph_of a root) (value_content a v)) → value_content a found ≡ named_in name (Some (members_of (traits_at a t) (node_content a (stored_at a i))))
object_member a root v found i t name ms vs r e is =
    is ∙ ap (λ (z : Stored). named_in name (pairs_of (graph_of a root) (value_content a z))) r ∙ ap (named_in name) (object_pairs a root i t ms vs e)

-- the items of an array
pub array_items : (a : Arena) (root v : Stored) (i : ℕ) (ms : List (ℕ × Stored)) (vs : List Stored) → v ≡ node_value i → stored_at a i ≡ closed array ms vs
    → items_at (graph_of a root) (value_content a v) ≡ unnamed_items (graph_of a root) (node_content a (closed array ms vs)).names (map (value_content a) vs)
array_items a root v i ms vs r e =
    let g = graph_of a root in
    ap (λ (z : Stored). items_at g (value_content a z)) r
    ∙ ap (λ z. dense_items g z.head z) (node_content_at a root i ∙ ap (node_content a) e)

unequal : (n m : ℕ) → (n ≡ m → ⊥) → (n == m) ≡ false
unequal n m h = grind (arith, nat_tests)

pub empty_list : {X : Type 0} (xs : List X) → (length xs == 0) ≡ true → xs ≡ []
empty_list [] e = refl
empty_list (x ∷ xs) e = absurd (let l : length (x ∷ xs) ≡ 0 = grind arith in omega (arith, l))

pub parted : {X : Type 0} (xs : List X) (k : ℕ) (d : X) → k < length xs → xs ≡ take k xs ++ get_or xs k d ∷ drop (k + 1) xs
parted {X = X} xs k d l = sym (take-append-drop k xs) ∙ ap (λ (ys : List X). take k xs ++ ys) (drop-cons xs k d l ∙ ap (λ (n : ℕ). get_or xs k d ∷ drop n xs) (sym (add-one k)))

-- Lists of items.

all_true : {X : Type 0} (p : X → Bool) (xs ys : List X) → list_all p xs ≡ true → list_all p (xs ++ ys) ≡ list_all p ys
all_true p [] ys e = refl
all_true p (x ∷ xs) ys e =
    let P : Bool → Type 0 = λ b. (b && list_all p xs) ≡ true → (b && list_all p (xs ++ ys)) ≡ list_all p ys in
    let at : (b : Bool) → P b = λ b. elim b as P [ true ↦ λ f. all_true p xs ys f | false ↦ λ f. absurd cc ] in
    at (p x) e

module _ (g : RootedArena) where
  items_more : (vs ws : List Stored) → items_of g (vs ++ ws) ≡ items_of g vs ++ items_of g ws
  items_more vs ws = ap (map (item_at (content g))) (map-append (value_content g.arena) vs ws) ∙ map-append (item_at (content g)) (map (value_content g.arena) vs) (map (value_content g.arena) ws)

  pub none_yet : (bodies : List Stored) → bodies ≡ [] → SoFar g [] bodies
  none_yet bodies e = record { are = refl; told = ap (bodies_at g) (sym e); names = subst (AllByRecursion (Names g.arena)) (sym e) tt }

  one_true : (v : Stored) → is_item (item_kind g v) ≡ true → list_all is_told (items_of g (v ∷ [])) ≡ true
  one_true v e = ap (λ (b : Bool). b && true) e

  -- a delivered message more
  pub delivered_more : (vs bodies new : List Stored) (v body : Stored) → SoFar g vs bodies → item_kind g v ≡ Async → value_content g.arena body ≡ member_at (content g) body_name (value_content g.arena v) → Names g.arena body
      → new ≡ bodies ++ body ∷ [] → SoFar g (vs ++ v ∷ []) new
  delivered_more vs bodies new v body s k is there e = record {
    are = ap (list_all is_told) (items_more vs (v ∷ [])) ∙ all_true is_told (items_of g vs) (items_of g (v ∷ [])) s.are ∙ one_true v (ap is_item k);
    told = ap (flat_map told_body) (items_more vs (v ∷ [])) ∙ flat_map-append told_body (items_of g vs) (items_of g (v ∷ []))
        ∙ ap (λ (l : List Graph). l ++ flat_map told_body (items_of g (v ∷ []))) s.told
        ∙ ap (λ (l : List Graph). bodies_at g bodies ++ l) (ap (λ (q : MessageKind). body_of q (record (content g) { root = member_at (content g) body_name (value_content g.arena v) }) ++ []) k ∙ ap (λ (x : Value). record (content g) { root = x } ∷ []) (sym is))
        ∙ sym (map-append (λ (w : Stored). record (content g) { root = value_content g.arena w }) bodies (body ∷ []))
        ∙ ap (bodies_at g) (sym e);
    names = subst (AllByRecursion (Names g.arena)) (sym e) (all_append (Names g.arena) bodies (body ∷ []) s.names (there, tt));
  }

  -- an invalidate more
  pub invalidate_more : (vs bodies : List Stored) (v : Stored) → SoFar g vs bodies → item_kind g v ≡ Invalidate → SoFar g (vs ++ v ∷ []) bodies
  invalidate_more vs bodies v s k = record {
    are = ap (list_all is_told) (items_more vs (v ∷ [])) ∙ all_true is_told (items_of g vs) (items_of g (v ∷ [])) s.are ∙ one_true v (ap is_item k);
    told = ap (flat_map told_body) (items_more vs (v ∷ [])) ∙ flat_map-append told_body (items_of g vs) (items_of g (v ∷ []))
        ∙ ap (λ (l : List Graph). l ++ flat_map told_body (items_of g (v ∷ []))) s.told
        ∙ ap (λ (l : List Graph). bodies_at g bodies ++ l) (ap (λ (q : MessageKind). body_of q (record (content g) { root = member_at (content g) body_name (value_content g.arena v) }) ++ []) k)
        ∙ append-nil (bodies_at g bodies);
    names = s.names;
  }

  -- an item that is neither
  pub other_item : (vs ws bodies : List Stored) (v : Stored) → SoFar g vs bodies → is_item (item_kind g v) ≡ false → list_all is_told (items_of g (vs ++ v ∷ ws)) ≡ false
  other_item vs ws bodies v s k =
      ap (list_all is_told) (items_more vs (v ∷ ws)) ∙ all_true is_told (items_of g vs) (items_of g (v ∷ ws)) s.are ∙ ap (λ (b : Bool). b && list_all is_told (items_of g ws)) k

  pub other_is : (v : Stored) (k : MessageKind) → item_kind g v ≡ k → (k ≡ Async → ⊥) → (k ≡ Invalidate → ⊥) → is_item (item_kind g v) ≡ false
  other_is v Acknowledge e a i = ap is_item e
  other_is v Sync e a i = ap is_item e
  other_is v Invalidate e a i = absurd (i refl)
  other_is v Async e a i = absurd (a refl)
  other_is v Foreign e a i = ap is_item e

  -- an array without names has these items
  pub unnamed_array : (v : Stored) (i : ℕ) (names : List (TextId × Stored)) (vs : List Stored) → v ≡ node_value i → stored_at g.arena i ≡ closed array (named names) vs → names ≡ []
      → items_at (content g) (value_content g.arena v) ≡ Some (items_of g vs)
  unnamed_array v i names vs r e none =
      array_items g.arena g.root v i (named names) vs r e
      ∙ ap (λ (ps : List (TextId × Stored)). unnamed_items (content g) (node_content g.arena (closed array (named ps) vs)).names (map (value_content g.arena) vs)) none

  pub added_so : (v : Stored) (old new : List Stored) (b : Bool) → b ≡ true → AddsItem g v old new b → (vs : List Stored) → SoFar g vs old → SoFar g (vs ++ v ∷ []) new
  added_so v old new true e a = a
  added_so v old new false e a = absurd cc

  pub not_added : (v : Stored) (old new : List Stored) (b : Bool) → b ≡ false → AddsItem g v old new b → is_item (item_kind g v) ≡ false
  not_added v old new true e a = absurd cc
  not_added v old new false e a = a

  -- one with names has none
  pub named_array : (v : Stored) (i : ℕ) (names : List (TextId × Stored)) (vs : List Stored) → v ≡ node_value i → stored_at g.arena i ≡ closed array (named names) vs → (length names == 0) ≡ false
      → items_at (content g) (value_content g.arena v) ≡ None
  named_array v i [] vs r e some = absurd (let l : length {A = TextId × Stored} [] ≡ 0 = refl in cc)
  named_array v i (p ∷ ps) vs r e some = array_items g.arena g.root v i (named (p ∷ ps)) vs r e

  -- The body of a batch, of which these are the items.

  pub no_items : (body : Value) → items_at (content g) body ≡ None → Bodies g body None
  no_items body e = ap (are_items Sync) e

  pub all_items : (body : Value) (vs bodies : List Stored) → items_at (content g) body ≡ Some (items_of g vs) → SoFar g vs bodies
      → (are_items Sync (items_at (content g) body) ≡ true) × (bodies_in Sync (items_at (content g) body) ≡ bodies_at g bodies)
  all_items body vs bodies e s = (ap (are_items Sync) e ∙ s.are, ap (bodies_in Sync) e ∙ s.told)

  pub bad_items : (body : Value) (vs ws bodies : List Stored) (v : Stored) → items_at (content g) body ≡ Some (items_of g (vs ++ v ∷ ws)) → SoFar g vs bodies → is_item (item_kind g v) ≡ false → Bodies g body None
  bad_items body vs ws bodies v e s k = ap (are_items Sync) e ∙ other_item vs ws bodies v s k

-- Whether a graph answers.

pub not_told : {X : Type 0} (a b c : Bool) (x y : X) → a ≡ false → (if a && b && c then x else y) ≡ y
not_told true b c x y e = absurd cc
not_told false b c x y e = refl

pub not_answered : {X : Type 0} (a b c : Bool) (x y : X) → a ≡ true → b ≡ false → (if a && b && c then x else y) ≡ y
not_answered true true c x y e f = absurd cc
not_answered true false c x y e f = refl
not_answered false b c x y e f = absurd cc

pub not_named : {X : Type 0} (a b c : Bool) (x y : X) → a ≡ true → b ≡ true → c ≡ false → (if a && b && c then x else y) ≡ y
not_named true true true x y e f h = absurd cc
not_named true true false x y e f h = refl
not_named true false c x y e f h = absurd cc
not_named false b c x y e f h = absurd cc

pub all_told : {X : Type 0} (a b c : Bool) (x y : X) → a ≡ true → b ≡ true → c ≡ true → (if a && b && c then x else y) ≡ x
all_told true true true x y e f h = refl
all_told true true false x y e f h = absurd cc
all_told true false c x y e f h = absurd cc
all_told false b c x y e f h = absurd cc

-- An operation that is neither that of a sync nor that of an invalidate.
pub other_number : (z : ℤ) → (z ≡ pos 4 → ⊥) → (z ≡ pos 10 → ⊥) → Foreign ≡ command_kind (Some z)
other_number (pos n) four ten =
    let P : Bool → Bool → Type 0 = λ b c. Foreign ≡ (if b then Sync else if c then Invalidate else Foreign) in
    let a : (n == 4) ≡ false = unequal n 4 (λ (e : n ≡ 4). four (ap pos e)) in
    let b : (n == 10) ≡ false = unequal n 10 (λ (e : n ≡ 10). ten (ap pos e)) in
    subst (λ (x : Bool). P x (n == 10)) (sym a) (subst (λ (x : Bool). P false x) (sym b) refl)
other_number (negsuc n) four ten = refl
