-- The nodes of the tables behind a part are the graph's, where those before were; and the nodes before, among those after an end.
use Rattle.std.proofs.Common.{◌≡◌, ℕ, zero, suc, ◌<◌, List, [], ◌∷◌, length, map, take, sym, ap, ◌∙◌, subst, inl, inr}
use Rattle.std.specs.List.{AllByRecursion}
use Rattle.std.proofs.lemmas.List.{take_at}
use Rattle.amf_wire.specs.Style.{canonical}
use Rattle.amf_graph.specs.declared.value.NodeId.{NodeId}
use Rattle.amf_graph.specs.Graph.{Value, leaf, node, Graph, node_at}
use Rattle.amf3_spelling.specs.Tables.{Tables, add_node}
use Rattle.amf3_spelling.specs.Refusals3.{leaf_marker}
use Rattle.amf3_spelling.specs.ByteSpelling.{Spelling, Segment, step, value, byte, segments_of, leaf_segments, Segments, ValueBy, NodeIn, Spells}
use Rattle.amf3_write.specs.declared.output.Output.{Output}
use Rattle.amf3_write.specs.Writes.{BeginsWith, WritesValue}
use Rattle.amf3_write.proofs.NamedPairs.{all_push}

module _ (g : Graph) where
  abbrev Inside : Tables → Type 0
  Inside t = AllByRecursion (λ i. i < length g.nodes) t.nodes

  abbrev Stays : Spelling Tables → Type 0
  Stays A = (t : Tables) (b : List ℕ) (t' : Tables) → A t b t' → Inside t → Inside t'

  stays_same : (t t' : Tables) → t'.nodes ≡ t.nodes → Inside t → Inside t'
  stays_same t t' e h = subst (λ w. AllByRecursion (λ i. i < length g.nodes) w) (sym e) h

  stays_segments : (R : Value → Spelling Tables) → ((v : Value) → Stays (R v)) → (ps : List Segment) → Stays (Segments R canonical ps)
  stays_segments R f [] t b t' p h = stays_same t t' (ap (λ (w : Tables). w.nodes) p.1) h
  stays_segments R f (step x ∷ ps) t b t' p h = stays_segments R f ps p.mid p.back t' p.second (stays_same t p.mid (ap (λ (w : Tables). w.nodes) p.first.2) h)
  stays_segments R f (value v ∷ ps) t b t' p h = stays_segments R f ps p.mid p.back t' p.second (f v t p.front p.mid p.first h)

  stays_value : (N : ℕ → Spelling Tables) → ((i : ℕ) → Stays (N i)) → (v : Value) → Stays (ValueBy N canonical g v)
  stays_value N f (leaf x) t b t' p h = stays_segments (λ v t b t'. ⊥) (λ v t b t' q. absurd q) (step (byte (leaf_marker x)) ∷ leaf_segments x) t b t' p.1 h
  stays_value N f (node i) t b t' p h = f i t p.0 t' p.2 h

  stays_node : (d i : ℕ) → Stays (NodeIn d canonical g i)
  stays_node zero i t b t' p h = stays_same t t' (ap (λ (w : Tables). w.nodes) p.same) h
  stays_node (suc d) i t b t' (inl p) h = stays_same t t' (ap (λ (w : Tables). w.nodes) p.same) h
  stays_node (suc d) i t b t' (inr p) h =
      stays_segments (Spells d canonical g) (stays_value (NodeIn d canonical g) (stays_node d)) (segments_of (node_at g i).head p.wire (node_at g i).values) (add_node t i) b t' p.body (all_push (λ j. j < length g.nodes) t.nodes i h p.exists)

  pub value_inside : (v : Value) (o n : Output) (k : ℕ) → length g.nodes ≡ k → WritesValue g v o n → AllByRecursion (λ i. i < k) o.tables.nodes → AllByRecursion (λ i. i < k) n.tables.nodes
  value_inside v o n k e w h =
      let height = w.spelled.0 in
      subst (λ k. AllByRecursion (λ i. i < k) n.tables.nodes) e
      (stays_value (NodeIn height canonical g) (stays_node height) v o.tables w.bytes n.tables w.spelled.1 (subst (λ k. AllByRecursion (λ i. i < k) o.tables.nodes) (sym e) h))

-- the first of the nodes, so many as there were, are those that there were
pub nodes_before : (ns met : List NodeId) (old new : List ℕ) (count : ℕ) → count ≡ length old → ns ≡ met → map (λ i. i.0) met ≡ take count new → BeginsWith old new → map (λ i. i.0) ns ≡ old
nodes_before ns met old new count c same e b = ap (map {A = NodeId} {B = ℕ} (λ i. i.0)) same ∙ e ∙ ap (take count) b.is ∙ take_at old b.rest count (sym c)

pub ids_inside : (ns : List NodeId) (n : ℕ) (old : List ℕ) → map (λ i. i.0) ns ≡ old → AllByRecursion (λ i. i < n) old → AllByRecursion (λ (i : NodeId). i.0 < n) ns
ids_inside ns n old e h = go ns (subst (λ w. AllByRecursion (λ i. i < n) w) (sym e) h)
  where
    go : (ns : List NodeId) → AllByRecursion (λ i. i < n) (map (λ i. i.0) ns) → AllByRecursion (λ (i : NodeId). i.0 < n) ns
    go [] h = tt
    go (i ∷ ns) h = (h.0, go ns h.1)
