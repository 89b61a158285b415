-- What two nodes with one head hold.
use Rattle.std.proofs.Common.{◌≡◌, ℕ, List, [], sym, ap, ◌∙◌, subst}
use Rattle.std.specs.Prelude.{◌↔◌}
use Rattle.std.specs.List.{AllZip}
use Rattle.amf_graph.specs.declared.value.Value.{Value as Stored}
use Rattle.amf_graph.specs.declared.views.NodeView.{NodeView}
use Rattle.amf_graph.specs.Graph.{Node, node_at}
use Rattle.amf_graph.specs.ByName.{by_name}
use Rattle.amf_graph.specs.Isomorphic.{ValuesMatch, PairsMatch, NodesMatch}
use Rattle.amf_graph.specs.Arena.{Arena, StoredHead, StoredNode, graph_of, head_content, node_content}
use Rattle.amf_graph.specs.Building.{stored_at, closed}
use Rattle.amf_graph.specs.Views.{Shows}
use Rattle.amf_graph.proofs.Growth.{names_content, values_content}
use Rattle.amf_iso.proofs.MetValues.{shown}

-- what a view shows that is known to be this one
pub view_is : (a : Arena) (i : ℕ) (v u : NodeView) → v ≡ u → Shows a (stored_at a i) v → Shows a (stored_at a i) u
view_is a i v u e s = subst (λ w. Shows a (stored_at a i) w) e s

module _ (P : ℕ → ℕ → Type 0) (a b : Arena) (root stem : Stored) (i j : ℕ) where
  abbrev pub Held : StoredNode → StoredNode → Type 0
  Held n m = AllZip (PairsMatch P) (by_name (names_content a n.names)) (by_name (names_content b m.names)) × AllZip (ValuesMatch P) (values_content a n.values) (values_content b m.values)

  -- two nodes with one head are alike where what they hold is
  pub held : (n m : StoredNode) → stored_at a i ≡ n → stored_at b j ≡ m → (node_at (graph_of a root) i).head ≡ (node_at (graph_of b stem) j).head → NodesMatch P (node_at (graph_of a root) i) (node_at (graph_of b stem) j) ↔ Held n m
  held n m e f h =
      let p = shown a root i n e in
      let q = shown b stem j m f in
      let same : head_content a n.head ≡ head_content b m.head = sym (ap (λ (x : Node). x.head) p) ∙ h ∙ ap (λ (x : Node). x.head) q in (
        λ z. let w : NodesMatch P (node_content a n) (node_content b m) = subst (λ (y : Node). NodesMatch P (node_content a n) y) q (subst (λ (x : Node). NodesMatch P x (node_at (graph_of b stem) j)) p z) in (w.names, w.values),
        λ z. subst (λ (x : Node). NodesMatch P x (node_at (graph_of b stem) j)) (sym p) (subst (λ (y : Node). NodesMatch P (node_content a n) y) (sym q) (record { head = same; names = z.0; values = z.1 })),
      )

  -- a node without pairs
  pub values_held : (h k : StoredHead) (vs ws : List Stored) → stored_at a i ≡ closed h [] vs → stored_at b j ≡ closed k [] ws → (node_at (graph_of a root) i).head ≡ (node_at (graph_of b stem) j).head → NodesMatch P (node_at (graph_of a root) i) (node_at (graph_of b stem) j) ↔ AllZip (ValuesMatch P) (values_content a vs) (values_content b ws)
  values_held h k vs ws e f d =
      let w = held (closed h [] vs) (closed k [] ws) e f d in
      (λ z. (w.0 z).1, λ y. w.1 (tt, y))
