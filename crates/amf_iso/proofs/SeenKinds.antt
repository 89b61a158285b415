-- Nodes whose heads are the same are shown by views of one kind.
use Rattle.std.proofs.Common.{◌≡◌, ℕ, Bool, List, [], Bor, sym, refl, ap, ◌∙◌, subst}
use Rattle.std.specs.Prelude.{ℤ}
use Rattle.amf_wire.specs.declared.pattern.Pattern.{Pattern}
use Rattle.amf_graph.specs.declared.kind.NodeKind.{NodeKind}
use Rattle.amf_graph.specs.declared.kind.NodeKind.TheVariants as kind
use Rattle.amf_graph.specs.declared.value.Value.{Value as Stored}
use Rattle.amf_graph.specs.declared.value.TextId.{TextId}
use Rattle.amf_graph.specs.declared.value.TraitsId.{TraitsId}
use Rattle.amf_graph.specs.declared.views.NodeView.{NodeView}
use Rattle.amf_graph.specs.declared.views.NodeView.TheVariants as view
use Rattle.amf_graph.specs.declared.wrapped.Wrapped.{Wrapped}
use Rattle.amf_graph.specs.Arena.{Arena, StoredNode, graph_of, head_content}
use Rattle.amf_graph.specs.Building.{stored_at}
use Rattle.amf_graph.specs.Graph as graph
use Rattle.amf_graph.specs.Graph.{Head, node_at}
use Rattle.amf_graph.specs.Isomorphic.{NodesMatch}
use Rattle.amf_graph.specs.Views.{Shows}
use Rattle.amf_iso.proofs.HeadFacts.{head_shown}
use Rattle.amf_iso.proofs.Held.{view_is, values_held}

abbrev pub seen_kind : NodeView → NodeKind
seen_kind (view.XmlDocument x) = kind.XmlDocument
seen_kind (view.Xml x) = kind.Xml
seen_kind (view.Date x) = kind.Date
seen_kind (view.Bytes x) = kind.Bytes
seen_kind (view.Ints x y) = kind.Ints
seen_kind (view.Uints x y) = kind.Uints
seen_kind (view.Doubles x y) = kind.Doubles
seen_kind (view.Array x y) = kind.Array
seen_kind (view.Object x y z) = kind.Object
seen_kind (view.Wrapper x y) = kind.Wrapper
seen_kind (view.Values x y z) = kind.Values
seen_kind (view.Dictionary x y) = kind.Dictionary

abbrev head_kind : Head → NodeKind
head_kind (graph.xml_document x) = kind.XmlDocument
head_kind (graph.xml x) = kind.Xml
head_kind (graph.date x) = kind.Date
head_kind (graph.bytes x) = kind.Bytes
head_kind (graph.ints x y) = kind.Ints
head_kind (graph.uints x y) = kind.Uints
head_kind (graph.doubles x y) = kind.Doubles
head_kind graph.array = kind.Array
head_kind (graph.object x) = kind.Object
head_kind (graph.wrapper x) = kind.Wrapper
head_kind (graph.values x y) = kind.Values
head_kind (graph.dictionary x) = kind.Dictionary

-- a view of this kind is made of what such a view has
abbrev pub IsOf : NodeKind → NodeView → Type 0
IsOf kind.XmlDocument w = (x : Bor (List ℕ)) × (w ≡ view.XmlDocument x)
IsOf kind.Xml w = (x : Bor (List ℕ)) × (w ≡ view.Xml x)
IsOf kind.Date w = (x : Pattern) × (w ≡ view.Date x)
IsOf kind.Bytes w = (x : Bor (List ℕ)) × (w ≡ view.Bytes x)
IsOf kind.Ints w = (x : Bool) × (y : Bor (List ℤ)) × (w ≡ view.Ints x y)
IsOf kind.Uints w = (x : Bool) × (y : Bor (List ℕ)) × (w ≡ view.Uints x y)
IsOf kind.Doubles w = (x : Bool) × (y : Bor (List Pattern)) × (w ≡ view.Doubles x y)
IsOf kind.Array w = (x : Bor (List Stored)) × (y : Bor (List (TextId × Stored))) × (w ≡ view.Array x y)
IsOf kind.Object w = (x : TraitsId) × (y : Bor (List Stored)) × (z : Bor (List (TextId × Stored))) × (w ≡ view.Object x y z)
IsOf kind.Wrapper w = (x : Wrapped) × (y : Stored) × (w ≡ view.Wrapper x y)
IsOf kind.Values w = (x : Bool) × (y : TextId) × (z : Bor (List Stored)) × (w ≡ view.Values x y z)
IsOf kind.Dictionary w = (x : Bool) × (y : Bor (List (Stored × Stored))) × (w ≡ view.Dictionary x y)

its_kind : (w : NodeView) → IsOf (seen_kind w) w
its_kind (view.XmlDocument x) = (x, refl)
its_kind (view.Xml x) = (x, refl)
its_kind (view.Date x) = (x, refl)
its_kind (view.Bytes x) = (x, refl)
its_kind (view.Ints x y) = (x, y, refl)
its_kind (view.Uints x y) = (x, y, refl)
its_kind (view.Doubles x y) = (x, y, refl)
its_kind (view.Array x y) = (x, y, refl)
its_kind (view.Object x y z) = (x, y, z, refl)
its_kind (view.Wrapper x y) = (x, y, refl)
its_kind (view.Values x y z) = (x, y, z, refl)
its_kind (view.Dictionary x y) = (x, y, refl)

kind_shown : (a : Arena) (n : StoredNode) (v : NodeView) → Shows a n v → head_kind (head_content a n.head) ≡ seen_kind v
kind_shown a n (view.XmlDocument x) s = ap (λ (m : StoredNode). head_kind (head_content a m.head)) s.1
kind_shown a n (view.Xml x) s = ap (λ (m : StoredNode). head_kind (head_content a m.head)) s.1
kind_shown a n (view.Date x) s = ap (λ (m : StoredNode). head_kind (head_content a m.head)) s
kind_shown a n (view.Bytes x) s = ap (λ (m : StoredNode). head_kind (head_content a m.head)) s
kind_shown a n (view.Ints x y) s = ap (λ (m : StoredNode). head_kind (head_content a m.head)) s
kind_shown a n (view.Uints x y) s = ap (λ (m : StoredNode). head_kind (head_content a m.head)) s
kind_shown a n (view.Doubles x y) s = ap (λ (m : StoredNode). head_kind (head_content a m.head)) s
kind_shown a n (view.Array x y) s = ap (λ (m : StoredNode). head_kind (head_content a m.head)) s
kind_shown a n (view.Object x y z) s = ap (λ (m : StoredNode). head_kind (head_content a m.head)) s
kind_shown a n (view.Wrapper x y) s = ap (λ (m : StoredNode). head_kind (head_content a m.head)) s
kind_shown a n (view.Values x y z) s = ap (λ (m : StoredNode). head_kind (head_content a m.head)) s
kind_shown a n (view.Dictionary x y) s = ap (λ (m : StoredNode). head_kind (head_content a m.head)) s

module _ (a b : Arena) (root stem : Stored) (i j : ℕ) where
  pub same_kind : (v w : NodeView) → Shows a (stored_at a i) v → Shows b (stored_at b j) w → (node_at (graph_of a root) i).head ≡ (node_at (graph_of b stem) j).head → IsOf (seen_kind v) w
  same_kind v w s t h =
      let heads : head_content a (stored_at a i).head ≡ head_content b (stored_at b j).head = sym (head_shown a root i _ refl) ∙ h ∙ head_shown b stem j _ refl in
      subst (λ k. IsOf k w) (sym (sym (kind_shown a _ v s) ∙ ap head_kind heads ∙ kind_shown b _ w t)) (its_kind w)

  -- nodes that hold nothing
  pub leaves_held : (P : ℕ → ℕ → Type 0) (v w : NodeView) → Shows a (stored_at a i) v → Shows b (stored_at b j) w → (node_at (graph_of a root) i).head ≡ (node_at (graph_of b stem) j).head
      → ((x : Bor (List Stored)) (y : Bor (List (TextId × Stored))) → v ≡ view.Array x y → ⊥) → ((x : TraitsId) (y : Bor (List Stored)) (z : Bor (List (TextId × Stored))) → v ≡ view.Object x y z → ⊥)
      → ((x : Wrapped) (y : Stored) → v ≡ view.Wrapper x y → ⊥) → ((x : Bool) (y : TextId) (z : Bor (List Stored)) → v ≡ view.Values x y z → ⊥)
      → ((x : Bool) (y : Bor (List (Stored × Stored))) → v ≡ view.Dictionary x y → ⊥) → NodesMatch P (node_at (graph_of a root) i) (node_at (graph_of b stem) j)
  leaves_held P (view.XmlDocument x) w s t h not_a not_o not_w not_v not_d = let r = same_kind (view.XmlDocument x) w s t h in let u = view_is b j w (view.XmlDocument r.0) r.1 t in (values_held P a b root stem i j _ _ [] [] s.1 u.1 h).1 tt
  leaves_held P (view.Xml x) w s t h not_a not_o not_w not_v not_d = let r = same_kind (view.Xml x) w s t h in let u = view_is b j w (view.Xml r.0) r.1 t in (values_held P a b root stem i j _ _ [] [] s.1 u.1 h).1 tt
  leaves_held P (view.Date x) w s t h not_a not_o not_w not_v not_d = let r = same_kind (view.Date x) w s t h in let u = view_is b j w (view.Date r.0) r.1 t in (values_held P a b root stem i j _ _ [] [] s u h).1 tt
  leaves_held P (view.Bytes x) w s t h not_a not_o not_w not_v not_d = let r = same_kind (view.Bytes x) w s t h in let u = view_is b j w (view.Bytes r.0) r.1 t in (values_held P a b root stem i j _ _ [] [] s u h).1 tt
  leaves_held P (view.Ints x y) w s t h not_a not_o not_w not_v not_d = let r = same_kind (view.Ints x y) w s t h in let u = view_is b j w (view.Ints r.0 r.1) r.2 t in (values_held P a b root stem i j _ _ [] [] s u h).1 tt
  leaves_held P (view.Uints x y) w s t h not_a not_o not_w not_v not_d = let r = same_kind (view.Uints x y) w s t h in let u = view_is b j w (view.Uints r.0 r.1) r.2 t in (values_held P a b root stem i j _ _ [] [] s u h).1 tt
  leaves_held P (view.Doubles x y) w s t h not_a not_o not_w not_v not_d = let r = same_kind (view.Doubles x y) w s t h in let u = view_is b j w (view.Doubles r.0 r.1) r.2 t in (values_held P a b root stem i j _ _ [] [] s u h).1 tt
  leaves_held P (view.Array x y) w s t h not_a not_o not_w not_v not_d = absurd (not_a x y refl)
  leaves_held P (view.Object x y z) w s t h not_a not_o not_w not_v not_d = absurd (not_o x y z refl)
  leaves_held P (view.Wrapper x y) w s t h not_a not_o not_w not_v not_d = absurd (not_w x y refl)
  leaves_held P (view.Values x y z) w s t h not_a not_o not_w not_v not_d = absurd (not_v x y z refl)
  leaves_held P (view.Dictionary x y) w s t h not_a not_o not_w not_v not_d = absurd (not_d x y refl)
