-- Which views are those of wrappers, and what they wrap.
use Rattle.std.proofs.Common.{◌≡◌, ℕ, ◌<◌, length, Bool, true, false, cond, List, [], ◌∷◌, sym, refl, ap, ◌∙◌, subst}
use Rattle.std.proofs.Math.ListN.{get_or-map}
use Rattle.std.specs.List.{AllByRecursion}
use Rattle.amf_graph.specs.declared.value.Value.{Value as Stored}
use Rattle.amf_graph.specs.declared.kind.NodeKind.{NodeKind}
use Rattle.amf_graph.specs.declared.kind.NodeKind.TheVariants as kind
use Rattle.amf_graph.specs.declared.wrapped.Wrapped.{Wrapped}
use Rattle.amf_graph.specs.declared.views.NodeView.{NodeView}
use Rattle.amf_graph.specs.declared.views.NodeView.TheVariants as view
use Rattle.amf_graph.specs.Graph.{node, Node, node_at}
use Rattle.amf_graph.specs.Arena.{Arena, StoredNode, StoredHead, xml_document, date, array, object, wrapper, xml, bytes, ints, uints, doubles, values, dictionary, head_content, value_content, node_content, graph_of, Names, IsNodeIn, IsFinished}
use Rattle.amf_graph.specs.Building.{stored_at, no_stored, closed, kind_of}
use Rattle.amf_graph.specs.Views.{Shows}
use Rattle.amf_graph.proofs.Alls.{all_at}
use Rattle.amf0_spelling.specs.Lowered.{is_wrapper, first_of_values, unwrapped}

-- a node by content, of which it is known what is kept
pub shown : (a : Arena) (root : Stored) (i : ℕ) (n : StoredNode) → stored_at a i ≡ n → node_at (graph_of a root) i ≡ node_content a n
shown a root i n e = get_or-map (node_content a) a.nodes i no_stored ∙ ap (node_content a) e

-- its values are the arena's
pub values_in : (a : Arena) (i : ℕ) (n : StoredNode) → IsFinished a → i < length a.nodes → stored_at a i ≡ n → AllByRecursion (Names a) n.values
values_in a i n f l e = subst (λ (m : StoredNode). AllByRecursion (Names a) m.values) e (all_at (IsNodeIn a) a.nodes i no_stored l f.built.nodes).values

abbrev wraps_kind : NodeKind → Bool
wraps_kind kind.Wrapper = true
wraps_kind _ = false

other_kind : (k : NodeKind) → (k ≡ kind.Wrapper → ⊥) → wraps_kind k ≡ false
other_kind kind.Wrapper n = absurd (n refl)
other_kind kind.XmlDocument n = refl
other_kind kind.Xml n = refl
other_kind kind.Date n = refl
other_kind kind.Bytes n = refl
other_kind kind.Ints n = refl
other_kind kind.Uints n = refl
other_kind kind.Doubles n = refl
other_kind kind.Array n = refl
other_kind kind.Object n = refl
other_kind kind.Values n = refl
other_kind kind.Dictionary n = refl

head_by_kind : (a : Arena) (h : StoredHead) → is_wrapper (head_content a h) ≡ wraps_kind (kind_of h)
head_by_kind a (xml_document x) = refl
head_by_kind a (date p) = refl
head_by_kind a array = refl
head_by_kind a (object t) = refl
head_by_kind a (wrapper c) = refl
head_by_kind a (xml x) = refl
head_by_kind a (bytes x) = refl
head_by_kind a (ints f ns) = refl
head_by_kind a (uints f ns) = refl
head_by_kind a (doubles f ns) = refl
head_by_kind a (values f x) = refl
head_by_kind a (dictionary f) = refl

module _ (a : Arena) (root : Stored) (i : ℕ) where
  -- its kind tells whether it is a wrapper
  by_kind : (k : NodeKind) → k ≡ kind_of (stored_at a i).head → is_wrapper (node_at (graph_of a root) i).head ≡ wraps_kind k
  by_kind k e = ap (λ (n : Node). is_wrapper n.head) (shown a root i (stored_at a i) refl) ∙ head_by_kind a (stored_at a i).head ∙ ap wraps_kind (sym e)

  pub wrapper_by_kind : kind.Wrapper ≡ kind_of (stored_at a i).head → is_wrapper (node_at (graph_of a root) i).head ≡ true
  wrapper_by_kind e = by_kind kind.Wrapper e

  pub other_by_kind : (k : NodeKind) → k ≡ kind_of (stored_at a i).head → (k ≡ kind.Wrapper → ⊥) → is_wrapper (node_at (graph_of a root) i).head ≡ false
  other_by_kind k e n = by_kind k e ∙ other_kind k n

  -- what a node of this kind shows
  head_is : (h : StoredHead) (ps : List (ℕ × Stored)) (vs : List Stored) → stored_at a i ≡ closed h ps vs → (node_at (graph_of a root) i).head ≡ head_content a h
  head_is h ps vs e = ap (λ (n : Node). n.head) (shown a root i (closed h ps vs) e)

  pub wrapper_unwraps : (c : Wrapped) (v : Stored) → stored_at a i ≡ closed (wrapper c) [] (v ∷ []) → value_content a v ≡ unwrapped (graph_of a root) (node i)
  wrapper_unwraps c v e = subst (λ (n : Node). value_content a v ≡ cond (is_wrapper n.head) (first_of_values n.values (node i)) (node i)) (sym (shown a root i (closed (wrapper c) [] (v ∷ [])) e)) refl

  other_is : (x : NodeView) → Shows a (stored_at a i) x → ((c : Wrapped) (v : Stored) → x ≡ view.Wrapper c v → ⊥) → is_wrapper (node_at (graph_of a root) i).head ≡ false
  other_is (view.Wrapper c v) s n = absurd (n c v refl)
  other_is (view.XmlDocument x) s n = ap is_wrapper (head_is _ [] [] s.1)
  other_is (view.Xml x) s n = ap is_wrapper (head_is _ [] [] s.1)
  other_is (view.Date p) s n = ap is_wrapper (head_is _ [] [] s)
  other_is (view.Bytes x) s n = ap is_wrapper (head_is _ [] [] s)
  other_is (view.Ints f ns) s n = ap is_wrapper (head_is _ [] [] s)
  other_is (view.Uints f ns) s n = ap is_wrapper (head_is _ [] [] s)
  other_is (view.Doubles f ns) s n = ap is_wrapper (head_is _ [] [] s)
  other_is (view.Array x y) s n = ap is_wrapper (head_is _ _ _ s)
  other_is (view.Object x y z) s n = ap is_wrapper (head_is _ _ _ s)
  other_is (view.Values x y z) s n = ap is_wrapper (head_is _ _ _ s)
  other_is (view.Dictionary x y) s n = ap is_wrapper (head_is _ _ _ s)

  pub not_wrapped : is_wrapper (node_at (graph_of a root) i).head ≡ false → node i ≡ unwrapped (graph_of a root) (node i)
  not_wrapped e = ap (λ b. cond b (first_of_values (node_at (graph_of a root) i).values (node i)) (node i)) (sym e)

  pub other_stays : (x : NodeView) → Shows a (stored_at a i) x → ((c : Wrapped) (v : Stored) → x ≡ view.Wrapper c v → ⊥) → node i ≡ unwrapped (graph_of a root) (node i)
  other_stays x s n = not_wrapped (other_is x s n)
