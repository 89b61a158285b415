-- The items of arguments, as a graph shows them.
use Rattle.std.proofs.Common.{◌≡◌, ℕ, zero, suc, ◌+◌, ◌<◌, ◌≤◌, Bool, List, [], ◌∷◌, ◌++◌, length, map, get_or, sum_by, Option, Some, None, refl, sym, ap, ◌∙◌, subst, arith}
use Rattle.std.specs.List.{AllByRecursion}
use Rattle.std.proofs.Math.ListN.{get_or-map}
use Rattle.std.proofs.lemmas.List.Sums.{get_or-le-sum_by}
use Rattle.amf_graph.specs.declared.value.Value.{Value as Stored}
use Rattle.amf_graph.specs.declared.value.Value.TheVariants.{Undefined, Null, Bool as Flag, Integer, Double, Text, Node as NodeRef}
use Rattle.amf_graph.specs.declared.value.NodeId.{NodeId}
use Rattle.amf_graph.specs.declared.value.TextId.{TextId}
use Rattle.amf_graph.specs.declared.value.TraitsId.{TraitsId}
use Rattle.amf_graph.specs.declared.views.NodeView.{NodeView}
use Rattle.amf_graph.specs.declared.views.NodeView.TheVariants as view
use Rattle.amf_graph.specs.Graph.{Value, node_at}
use Rattle.amf_graph.specs.Arena.{Arena, StoredNode, StoredHead, StoredTraits, array, object, head_content, node_content, value_content, text_at, traits_at, no_traits, graph_of, IsFinished, IsNodeIn, IsTraitsIn, HeadNames, Names, IsTextId}
use Rattle.amf_graph.specs.Bounds.{weight, bytes_of}
use Rattle.amf_graph.specs.Building.{stored_at, no_stored, closed, stored_traits}
use Rattle.amf_graph.specs.Grafting.{node_value}
use Rattle.amf_graph.specs.Views.{named, Shows}
use Rattle.std.proofs.lemmas.List.{map-append, length-map, length-append}
use Rattle.amf_graph.proofs.Alls.{all_at, all_append}
use Rattle.amf_graph.proofs.Built.{stands}
use Rattle.amf_service.specs.Made.{texts_of, AreTextsOf}
use Rattle.amf_service.specs.Shipped.{unnamed, items_by_kind, items_at, items_of, object_names, names_at}
use denote.Ref.{Bor}

pub shown : (a : Arena) (root : Stored) (i : ℕ) (n : StoredNode) → stored_at a i ≡ n → node_at (graph_of a root) i ≡ node_content a n
shown a root i n e = get_or-map (node_content a) a.nodes i no_stored ∙ ap (node_content a) e

items_shown : (a : Arena) (root : Stored) (i : ℕ) (n : StoredNode) → root ≡ node_value i → stored_at a i ≡ n → items_of (graph_of a root) ≡ items_by_kind (head_content a n.head) (node_content a n)
items_shown a root i n r e = ap (λ z. items_at (graph_of a root) (value_content a z)) r ∙ ap (λ z. items_by_kind z.head z) (shown a root i n e)

abbrev NotNode : Stored → Type 0
NotNode (NodeRef n) = ⊥
NotNode _ = Unit {0}

not_node : (v : Stored) → ((n : NodeId) → v ≡ NodeRef n → ⊥) → NotNode v
not_node (NodeRef n) h = h n refl
not_node _ h = tt

pub no_node_items : (a : Arena) (root : Stored) → ((n : NodeId) → root ≡ NodeRef n → ⊥) → None ≡ items_of (graph_of a root)
no_node_items a root h = go root (not_node root h)
  where
    go : (v : Stored) → NotNode v → None ≡ items_at (graph_of a root) (value_content a v)
    go Undefined h = refl
    go Null h = refl
    go (Flag b) h = refl
    go (Integer n) h = refl
    go (Double p) h = refl
    go (Text t) h = refl
    go (NodeRef n) h = absurd h

abbrev NotArray : NodeView → Type 0
NotArray (view.Array x y) = ⊥
NotArray _ = Unit {0}

not_array : (v : NodeView) → ((x : Bor (List Stored)) (y : Bor (List (TextId × Stored))) → v ≡ view.Array x y → ⊥) → NotArray v
not_array (view.Array x y) h = h x y refl
not_array _ h = tt

pub no_array_items : (a : Arena) (root : Stored) (i : ℕ) (v : NodeView) → root ≡ node_value i → Shows a (stored_at a i) v → ((x : Bor (List Stored)) (y : Bor (List (TextId × Stored))) → v ≡ view.Array x y → ⊥) → None ≡ items_of (graph_of a root)
no_array_items a root i v r s h = go v s (not_array v h)
  where
    go : (v : NodeView) → Shows a (stored_at a i) v → NotArray v → None ≡ items_of (graph_of a root)
    go (view.XmlDocument x) s h = sym (items_shown a root i _ r s.1)
    go (view.Xml x) s h = sym (items_shown a root i _ r s.1)
    go (view.Date p) s h = sym (items_shown a root i _ r s)
    go (view.Bytes x) s h = sym (items_shown a root i _ r s)
    go (view.Ints f ns) s h = sym (items_shown a root i _ r s)
    go (view.Uints f ns) s h = sym (items_shown a root i _ r s)
    go (view.Doubles f ns) s h = sym (items_shown a root i _ r s)
    go (view.Array x y) s h = absurd h
    go (view.Object x y z) s h = sym (items_shown a root i _ r s)
    go (view.Wrapper x y) s h = sym (items_shown a root i _ r s)
    go (view.Values x y z) s h = sym (items_shown a root i _ r s)
    go (view.Dictionary x y) s h = sym (items_shown a root i _ r s)

pub array_items : (a : Arena) (root : Stored) (i : ℕ) (items : List Stored) (names : List (TextId × Stored)) → root ≡ node_value i → stored_at a i ≡ closed array (named names) items → length names ≡ 0 → Some (map (value_content a) items) ≡ items_of (graph_of a root)
array_items a root i items [] r e l = sym (items_shown a root i (closed array [] items) r e)
array_items a root i items (p ∷ ps) r e l = absurd (omega (arith, l))

pub named_items : (a : Arena) (root : Stored) (i : ℕ) (items : List Stored) (names : List (TextId × Stored)) → root ≡ node_value i → stored_at a i ≡ closed array (named names) items → (length names ≡ 0 → ⊥) → None ≡ items_of (graph_of a root)
named_items a root i items [] r e l = absurd (l refl)
named_items a root i items (p ∷ ps) r e l = sym (items_shown a root i (closed array (named (p ∷ ps)) items) r e)

-- The values and names of a node are the graph's, and fewer than its weight.

node_in : (a : Arena) (i : ℕ) → IsFinished a → i < length a.nodes → IsNodeIn a (stored_at a i)
node_in a i f l = stands a i f.built l

pub values_in : (a : Arena) (i : ℕ) (n : StoredNode) → IsFinished a → i < length a.nodes → stored_at a i ≡ n → AllByRecursion (Names a) n.values
values_in a i n f l e = subst (λ (m : StoredNode). AllByRecursion (Names a) m.values) e (node_in a i f l).values

pub node_light : (a : Arena) (i : ℕ) (n : StoredNode) → i < length a.nodes → stored_at a i ≡ n → length n.names + length n.values < weight a
node_light a i n l e =
    let s = get_or-le-sum_by (λ (n : StoredNode). length n.names + length n.values + bytes_of n.head) a.nodes i no_stored l in
    subst (λ (m : StoredNode). length m.names + length m.values < weight a) e (omega (arith, s))

-- The names of an object's members.

sealed_texts : (a : Arena) (ids : List TextId) → map (text_at a) (map (λ x. x.0) ids) ≡ texts_of a ids
sealed_texts a [] = refl
sealed_texts a (x ∷ ids) = ap (λ w. text_at a x.0 ∷ w) (sealed_texts a ids)

member_texts : (a : Arena) (members : List (TextId × Stored)) → map (λ (q : List ℕ × Value). q.0) (map (λ (p : ℕ × Stored). (text_at a p.0, value_content a p.1)) (named members)) ≡ texts_of a (map (λ p. p.0) members)
member_texts a [] = refl
member_texts a (p ∷ ps) = ap (λ w. text_at a p.0.0 ∷ w) (member_texts a ps)

module _ (a : Arena) (i t : ℕ) (n : StoredNode) (members : List (TextId × Stored)) (sealed : List Stored) (class : TextId) (dynamic : Bool) (ids names : List TextId) (e : stored_at a i ≡ closed (object t) (named members) sealed) (s : get_or a.traits t no_traits ≡ stored_traits class dynamic ids) (m : names ≡ ids ++ map (λ p. p.0) members) where
  pub object_names_shown : (root v : Stored) → v ≡ node_value i → Some (texts_of a names) ≡ names_at (graph_of a root) (value_content a v)
  object_names_shown root v r =
      let all : texts_of a names ≡ (traits_at a t).sealed ++ map (λ (q : List ℕ × Value). q.0) (map (λ (p : ℕ × Stored). (text_at a p.0, value_content a p.1)) (named members)) =
      ap (texts_of a) m ∙ map-append (λ (x : TextId). text_at a x.0) ids (map (λ p. p.0) members)
      ∙ ap (λ w. w ++ texts_of a (map (λ p. p.0) members)) (sym (sealed_texts a ids) ∙ ap (λ (z : StoredTraits). map (text_at a) z.sealed) (sym s))
      ∙ ap (λ w. (traits_at a t).sealed ++ w) (sym (member_texts a members)) in
      ap (λ w. Some w) all ∙ sym (ap (λ (z : Stored). names_at (graph_of a root) (value_content a z)) r ∙ ap (λ z. object_names z.head z) (shown a root i (closed (object t) (named members) sealed) e))

  there_all : (ps : List (TextId × Stored)) → AllByRecursion (λ p. IsTextId a p.0 × Names a p.1) (named ps) → AllByRecursion (λ (x : TextId). IsTextId a x.0) (map (λ p. p.0) ps)
  there_all [] h = tt
  there_all (p ∷ ps) h = (h.0.0, there_all ps h.1)

  there_ids : (xs : List TextId) → AllByRecursion (IsTextId a) (map (λ x. x.0) xs) → AllByRecursion (λ (x : TextId). IsTextId a x.0) xs
  there_ids [] h = tt
  there_ids (x ∷ xs) h = (h.0, there_ids xs h.1)

  traits_there : IsFinished a → i < length a.nodes → t < length a.traits
  traits_there f l = subst (HeadNames a) (ap (λ (z : StoredNode). z.head) e) (node_in a i f l).head

  pub object_names_there : IsFinished a → i < length a.nodes → AreTextsOf a names
  object_names_there f l =
      let k = all_at (IsTraitsIn a) a.traits t no_traits (traits_there f l) f.built.traits in
      let w = subst (IsNodeIn a) e (node_in a i f l) in
      subst (AreTextsOf a) (sym m)
      (all_append (λ (x : TextId). IsTextId a x.0) ids (map (λ p. p.0) members)
      (there_ids ids (subst (λ (z : StoredTraits). AllByRecursion (IsTextId a) z.sealed) s k.sealed))
      (there_all members w.names))

  pub object_names_few : IsFinished a → i < length a.nodes → length names ≤ weight a
  object_names_few f l =
      let x = get_or-le-sum_by (λ (n : StoredNode). length n.names + length n.values + bytes_of n.head) a.nodes i no_stored l in
      let y = get_or-le-sum_by (λ (t : StoredTraits). 1 + length t.sealed) a.traits t no_traits (traits_there f l) in
      let z : length (stored_at a i).names ≡ length members = ap (λ (n : StoredNode). length n.names) e ∙ length-map members (λ p. (p.0.0, p.1)) in
      let w : length (get_or a.traits t no_traits).sealed ≡ length ids = ap (λ (t : StoredTraits). length t.sealed) s ∙ length-map ids (λ x. x.0) in
      let q : length names ≡ length ids + length members = ap length m ∙ length-append ids (map (λ p. p.0) members) ∙ ap (λ k. length ids + k) (length-map members (λ p. p.0)) in
      omega (arith, x, y, z, w, q)
