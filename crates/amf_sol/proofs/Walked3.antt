-- A canonical spelling in AMF 3 walks the graph in order, over nodes without empty names. Of the nodes that were spelled the first ones may have no place.
use Rattle.std.proofs.Common.{◌≡◌, ◌≢◌, ℕ, zero, suc, List, [], ◌∷◌, ◌++◌, slice_get, Some, sym, ap, ◌∙◌, subst, inl, inr, append_assoc}
use Rattle.std.specs.List.{AllByRecursion}
use Rattle.amf_io.specs.Field.{Field, flat}
use Rattle.amf_wire.specs.Style.{canonical}
use Rattle.amf_graph.specs.Graph.{AllNamed, Value, leaf, node, Graph, node_at}
use Rattle.amf_graph.specs.Order.{seconds, Walks, past, again, first}
use Rattle.amf_graph.proofs.Alls.{all_push}
use Rattle.amf_graph.proofs.Lists.{at_right}
use Rattle.amf_graph.proofs.NameOrder.{by_name_all, by_name_all_back}
use Rattle.amf3_spelling.specs.Tables.{Tables, add_node}
use Rattle.amf3_spelling.specs.Refusals3.{leaf_marker}
use Rattle.amf3_spelling.specs.Words3.{Text}
use Rattle.amf3_spelling.specs.Segments3.{Lifted}
use Rattle.amf3_spelling.specs.Spells3.{Spells3}
use Rattle.amf3_spelling.proofs.ByteSpelling.{Spelling, Segment, step, value, byte, segments_of, leaf_segments, Segments, Placed, Begun, ValueBy, NodeIn, Spells}
use Rattle.amf3_spelling.proofs.BytesOf.{to_spells}
use Rattle.amf3_spelling.proofs.Ordered3.{met, segment_values, segments_met, leaf_none}
use Rattle.amf_sol.specs.SharedObject.{PairsBy}

module _ (g : Graph) (before : List ℕ) where
  -- these first ones have no place, and each other has one
  abbrev pub Even : Tables → Type 0
  Even t = t.done ≡ before ++ t.nodes

  abbrev pub AreNamed : List ℕ → Type 0
  AreNamed = AllByRecursion (λ i. AllNamed (node_at g i).names)

  -- a walk on from the tables behind is one over the values from the tables before
  pub record Led (t t' : Tables) (vs : List Value) : Type 0 where
    pub even : Even t'
    pub named : AreNamed t.nodes → AreNamed t'.nodes
    pub walks : (ws : List Value) (all : List ℕ) → Walks g t'.done ws all → Walks g t.done (vs ++ ws) all

  abbrev Leads : Spelling Tables → List Value → Type 0
  Leads A vs = (t : Tables) (b : List ℕ) (t' : Tables) → Even t → A t b t' → Led t t' vs

  led_same : (t t' : Tables) → t'.nodes ≡ t.nodes → t'.done ≡ t.done → Even t → Led t t' []
  led_same t t' e f h = record {
    even = f ∙ h ∙ ap (λ w. before ++ w) (sym e);
    named = λ n. subst (λ w. AreNamed w) (sym e) n;
    walks = λ ws all w. subst (λ z. Walks g z ws all) f w;
  }

  led_then : (t u v : Tables) (vs ws : List Value) → Led t u vs → Led u v ws → Led t v (vs ++ ws)
  led_then t u v vs ws a b = record {
    even = b.even;
    named = λ n. b.named (a.named n);
    walks = λ xs all w. subst (λ z. Walks g t.done z all) (sym (append_assoc vs ws xs)) (a.walks (ws ++ xs) all (b.walks xs all w));
  }

  led_segments : (R : Value → Spelling Tables) → ((v : Value) → Leads (R v) (v ∷ [])) → (ps : List Segment) → Leads (Segments R canonical ps) (segment_values ps)
  led_segments R f [] t b t' h p = led_same t t' (ap (λ (w : Tables). w.nodes) p.1) (ap (λ (w : Tables). w.done) p.1) h
  led_segments R f (step x ∷ ps) t b t' h p =
      let a = led_same t p.mid (ap (λ (w : Tables). w.nodes) p.first.2) (ap (λ (w : Tables). w.done) p.first.2) h in
      led_then t p.mid t' [] (segment_values ps) a (led_segments R f ps p.mid p.back t' a.even p.second)
  led_segments R f (value v ∷ ps) t b t' h p =
      let a = f v t p.front p.mid h p.first in
      led_then t p.mid t' (v ∷ []) (segment_values ps) a (led_segments R f ps p.mid p.back t' a.even p.second)

  led_placed : (i : ℕ) → Leads (Placed canonical i) (node i ∷ [])
  led_placed i t b t' h p =
      let a = led_same t t' (ap (λ (w : Tables). w.nodes) p.same) (ap (λ (w : Tables). w.done) p.same) h in
      let o = at_right before t.nodes p.place i p.here in
      let there : slice_get t.done o.0 ≡ Some i = subst (λ z. slice_get z o.0 ≡ Some i) (sym h) o.1 in
      record { even = a.even; named = a.named; walks = λ ws all w. again i o.0 there (a.walks ws all w) }

  led_begun : (R : Value → Spelling Tables) → ((v : Value) → Leads (R v) (v ∷ [])) → (i : ℕ) → Leads (Begun R canonical g i) (node i ∷ [])
  led_begun R f i t b t' h p =
      let a = node_at g i in
      let begun : Even (add_node t i) = ap (λ w. w ++ i ∷ []) h ∙ append_assoc before t.nodes (i ∷ []) in
      let o = led_segments R f (segments_of a.head p.wire a.values) (add_node t i) b t' begun p.body in
      let names : AllNamed a.names = by_name_all_back (λ q. q.0 ≢ []) a.names (subst (λ w. AllNamed w) p.sorted (by_name_all (λ q. q.0 ≢ []) p.wire p.named)) in
      record {
        even = o.even;
        named = λ n. o.named (all_push (λ j. AllNamed (node_at g j).names) t.nodes i n names);
        walks = λ ws all w. first i p.exists p.new (subst (λ x. Walks g (t.done ++ i ∷ []) (met a.head x a.values ++ ws) all) p.in_order (subst (λ x. Walks g (t.done ++ i ∷ []) (x ++ ws) all) (segments_met a.head p.wire a.values p.fits) (o.walks ws all w)));
      }

  led_value : (N : ℕ → Spelling Tables) → ((i : ℕ) → Leads (N i) (node i ∷ [])) → (v : Value) → Leads (ValueBy N canonical g v) (v ∷ [])
  led_value N f (leaf x) t b t' h p =
      let o = led_segments (λ v t b t'. ⊥) (λ v t b t' h e. absurd e) (step (byte (leaf_marker x)) ∷ leaf_segments x) t b t' h p.1 in
      record { even = o.even; named = o.named; walks = λ ws all w. past x (subst (λ y. Walks g t.done (y ++ ws) all) (leaf_none x) (o.walks ws all w)) }
  led_value N f (node i) t b t' h p = f i t p.0 t' h p.2

  led_node : (d i : ℕ) → Leads (NodeIn d canonical g i) (node i ∷ [])
  led_node zero i t b t' h p = led_placed i t b t' h p
  led_node (suc d) i t b t' h (inl p) = led_placed i t b t' h p
  led_node (suc d) i t b t' h (inr p) = led_begun (Spells d canonical g) (led_value (NodeIn d canonical g) (led_node d)) i t b t' h p

  led_spells : (v : Value) (t : Tables) (fs : List Field) (t' : Tables) → Even t → Spells3 canonical g v t fs t' → Led t t' (v ∷ [])
  led_spells v t fs t' h (n, x) = led_value (NodeIn n canonical g) (led_node n) v t (flat fs) t' h (to_spells n canonical g v t fs t' x)

  -- the pairs of a file
  pub led_pairs : (ps : List (List ℕ × Value)) (t : Tables) (fs : List Field) (t' : Tables) → Even t → PairsBy (λ x. Lifted (Text canonical x)) (Spells3 canonical g) ps t fs t' → Led t t' (seconds ps)
  led_pairs [] t fs t' h z = led_same t t' (ap (λ (w : Tables). w.nodes) z.1) (ap (λ (w : Tables). w.done) z.1) h
  led_pairs (p ∷ ps) t fs t' h z =
      let a = led_same t z.mid (ap (λ (w : Tables). w.nodes) z.first.2) (ap (λ (w : Tables). w.done) z.first.2) h in
      let y = z.second in
      let b = led_spells p.1 z.mid y.front y.mid a.even y.first in
      let x = y.second in
      let c = led_same y.mid x.mid (ap (λ (w : Tables). w.nodes) x.first.1) (ap (λ (w : Tables). w.done) x.first.1) b.even in
      let d = led_pairs ps x.mid x.back t' c.even x.second in
      led_then t z.mid t' [] (p.1 ∷ seconds ps) a (led_then z.mid y.mid t' (p.1 ∷ []) (seconds ps) b (led_then y.mid x.mid t' [] (seconds ps) c d))
