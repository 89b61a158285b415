-- The root of a call is an array, and its item is there.
use Rattle.std.proofs.Common.{◌≡◌, ℕ, ◌<◌, List, [], ◌∷◌, length, map, refl, sym, ap, ◌∙◌, subst}
use Rattle.amf_graph.specs.declared.value.NodeId.{NodeId}
use Rattle.amf_graph.specs.declared.value.Value.{Value as Stored}
use Rattle.amf_graph.specs.declared.value.Value.TheVariants.{Node}
use Rattle.amf_graph.specs.declared.value.TextId.{TextId}
use Rattle.amf_graph.specs.declared.views.NodeView.{NodeView}
use Rattle.amf_graph.specs.declared.views.NodeView.TheVariants as view
use Rattle.std.specs.Borrow.{Bor}
use Rattle.std.specs.List.{AllByRecursion}
use Rattle.amf_graph.specs.Arena.{StoredHead, StoredNode, IsFinished, IsNodeIn, Names, xml_document, date, array, object, wrapper, xml, bytes, ints, uints, doubles, values, dictionary}
use Rattle.amf_graph.specs.Building.{no_stored, stored_at, closed}
use Rattle.amf_graph.specs.Rooted.{RootedArena}
use Rattle.amf_graph.specs.Views.{Shows, named, flat}
use Rattle.amf_graph.proofs.Alls.{all_at}
use Rattle.amf_packet.specs.Items.{IsCallOf}

module _ (g : RootedArena) (item : Stored) (c : IsCallOf g item) (n : NodeId) (is : g.root ≡ Node n) where
  same : c.place ≡ n
  same = let e : Node c.place ≡ Node n = sym c.is_root ∙ is in cc

  pub node_there : n.0 < length g.arena.nodes
  node_there = subst (λ (k : NodeId). k.0 < length g.arena.nodes) same c.there

  head_is : (stored_at g.arena n.0).head ≡ array
  head_is = subst (λ (k : NodeId). (stored_at g.arena k.0).head ≡ array) same c.head

  values_are : (stored_at g.arena n.0).values ≡ item ∷ []
  values_are = subst (λ (k : NodeId). (stored_at g.arena k.0).values ≡ item ∷ []) same c.only

  other : {P : Type 0} (h : StoredHead) (ps : List (ℕ × Stored)) (vs : List Stored) → stored_at g.arena n.0 ≡ closed h ps vs → (h ≡ array → ⊥) → P
  other h ps vs e not = absurd (not (sym (ap (λ (m : StoredNode). m.head) e) ∙ head_is))

  -- its view is an array of the item
  abbrev pub IsView : NodeView → Type 0
  IsView v = (items : Bor (List Stored)) × (names : Bor (List (TextId × Stored))) × (v ≡ view.Array items names) × (items.now ≡ item ∷ [])

  pub view_array : (v : NodeView) → Shows g.arena (stored_at g.arena n.0) v → IsView v
  view_array (view.XmlDocument text) (x, e, t) = other (xml_document x) [] [] e (λ h. cc)
  view_array (view.Xml text) (x, e, t) = other (xml x) [] [] e (λ h. cc)
  view_array (view.Date p) e = other (date p.0) [] [] e (λ h. cc)
  view_array (view.Bytes x) e = other (bytes x.now) [] [] e (λ h. cc)
  view_array (view.Ints fixed items) e = other (ints fixed items.now) [] [] e (λ h. cc)
  view_array (view.Uints fixed items) e = other (uints fixed items.now) [] [] e (λ h. cc)
  view_array (view.Doubles fixed items) e = other (doubles fixed (map (λ p. p.0) items.now)) [] [] e (λ h. cc)
  view_array (view.Array items names) e = (items, names, refl, sym (ap (λ (m : StoredNode). m.values) e) ∙ values_are)
  view_array (view.Object t sealed members) e = other (object t.0) (named members.now) sealed.now e (λ h. cc)
  view_array (view.Wrapper class value) e = other (wrapper class) [] (value ∷ []) e (λ h. cc)
  view_array (view.Values fixed of items) e = other (values fixed of.0) [] items.now e (λ h. cc)
  view_array (view.Dictionary weak entries) e = other (dictionary weak) [] (flat entries.now) e (λ h. cc)

  pub items_are : (items : Bor (List Stored)) (names : Bor (List (TextId × Stored))) → Shows g.arena (stored_at g.arena n.0) (view.Array items names) → items.now ≡ item ∷ []
  items_are items names e = sym (ap (λ (m : StoredNode). m.values) e) ∙ values_are

-- the item is a value of the graph
pub item_named : (g : RootedArena) (item : Stored) → IsCallOf g item → IsFinished g.arena → Names g.arena item
item_named g item c f =
    let n = all_at (IsNodeIn g.arena) g.arena.nodes c.place.0 no_stored c.there f.built.nodes in
    (subst (λ (vs : List Stored). AllByRecursion (Names g.arena) vs) c.only n.values).0
