-- What a builder keeps has a lowering, within its bounds.
use Rattle.std.proofs.Common.{ℕ, ◌+◌, ◌<◌, length, sym, subst, arith}
use Rattle.std.specs.List.{AllByRecursion}
use Rattle.amf_graph.specs.declared.value.Value.{Value as Stored}
use Rattle.amf_wire.specs.Text.{IsText}
use Rattle.amf_graph.specs.Graph.{Node, Graph, IsValue}
use Rattle.amf_graph.specs.Small.{IsFew, count_of}
use Rattle.amf_graph.specs.Bounds.{items_of, parts_of, NodeWithin, IsWithinBounds}
use Rattle.amf_graph.specs.Arena.{Arena, StoredNode, text_at, value_content, head_content, node_content, graph_of, Names, IsTextId, IsNodeIn, IsBuilt, IsFinished}
use Rattle.amf_graph.proofs.Alls.{all_weaker, all_map}
use Rattle.amf_graph.proofs.Finished.{value_good, at_place, finished}
use Rattle.amf_graph.proofs.FinishedSmall.{same_count, names_long, values_long, finished_small}
use Rattle.amf0_spelling.specs.LawsLowering.{HaveValues, IsSound, HasRoom, IsReadyLowering}
use Rattle.amf0_spelling.proofs.LowLaws.{lowering_exists}
use Rattle.amf0_spelling.proofs.LowBounds.{ready_lowering}

node_sound : (a : Arena) → AllByRecursion IsText a.texts → (n : StoredNode) → IsNodeIn a n → HaveValues (node_content a n)
node_sound a t n h = (
  all_map IsValue (value_content a) n.values (all_weaker (Names a) (λ v. IsValue (value_content a v)) n.values (value_good a t) h.values),
  all_map (λ p. IsValue p.1) (λ p. (text_at a p.0, value_content a p.1)) n.names (all_weaker (λ p. IsTextId a p.0 × Names a p.1) (λ p. IsValue (value_content a p.1)) n.names (λ p y. value_good a t p.1 y.1) h.names),
)

pub sound : (a : Arena) (root : Stored) → IsBuilt a → Names a root → IsSound (graph_of a root)
sound a root b r = record {
  root = value_good a b.texts root r;
  nodes = all_map HaveValues (node_content a) a.nodes (all_weaker (IsNodeIn a) (λ n. HaveValues (node_content a n)) a.nodes (node_sound a b.texts) b.nodes);
}

abbrev HasNodeRoom : Node → Type 0
HasNodeRoom n = IsFew (length n.names + count_of n.head (length n.values))

node_room : (a : Arena) (n : StoredNode) → NodeWithin n → HasNodeRoom (node_content a n)
node_room a n w =
    subst (λ k. IsFew (k + count_of (head_content a n.head) (length (node_content a n).values))) (sym (names_long a n.names))
    (subst (λ k. IsFew (length n.names + count_of (head_content a n.head) k)) (sym (values_long a n.values))
    (subst (λ k. IsFew (length n.names + k)) (sym (same_count a n.head (length n.values))) (last (items_of n.head) (length n.names) (parts_of n.head (length n.values)) w.together)))
  where
    last : (x y z : ℕ) → x + y + z < 268435456 → IsFew (y + z)
    last x y z l = omega arith

room : (a : Arena) (root : Stored) → IsWithinBounds a → HasRoom (graph_of a root)
room a root b i r = at_place a HasNodeRoom a.nodes i (all_weaker NodeWithin (λ n. HasNodeRoom (node_content a n)) a.nodes (node_room a) b.nodes) (omega arith)

pub built_lowering : (a : Arena) (root : Stored) → IsFinished a → IsWithinBounds a → Names a root → (h : Graph) × IsReadyLowering (graph_of a root) h
built_lowering a root f b r =
    let g = graph_of a root in
    let o = lowering_exists g (sound a root f.built r) in
    (o.0, ready_lowering g o.0 (finished a root f r) (finished_small a root f b r) (room a root b) o.1)
