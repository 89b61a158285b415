-- What a spelling does to the tables of nodes.
use Rattle.std.proofs.Common.{◌≡◌, ℕ, zero, suc, ◌<◌, ◌≤◌, List, [], ◌∷◌, ◌++◌, length, slice_get, Some, sym, ap, ◌∙◌, subst, inl, inr, arith}
use Rattle.amf_wire.specs.Style.{Style}
use Rattle.amf_graph.specs.Graph.{Leaf, Value, leaf, node, Graph, node_at}
use Rattle.amf_graph.specs.Order.{Absent, IsDistinct}
use Rattle.amf_graph.proofs.Lists.{at_left, at_end, at_push, length_pushed}
use Rattle.amf_graph.proofs.Walks.{Within, distinct_push}
use Rattle.amf3_spelling.specs.Tables.{Tables, add_node}
use Rattle.amf3_spelling.specs.Refusals3.{leaf_marker}
use Rattle.amf3_spelling.proofs.ByteSpelling.{Spelling, Step, StepOf, Segment, step, value, Lifted, Segments, Placed, ValueBy, NodeIn, Spells, leaf_segments, byte, segments_of}

abbrev pub Listed : List ℕ → List ℕ → Type 0
Listed xs ys = (k i : ℕ) → slice_get xs k ≡ Some i → (l : ℕ) × (slice_get ys l ≡ Some i)

-- tables of a graph
pub record Proper (g : Graph) (t : Tables) : Type 0 where
  pub once : IsDistinct t.done
  pub places : IsDistinct t.nodes
  pub listed : Listed t.nodes t.done
  pub within : Within g t.done

-- what a spelling does to the tables of nodes
pub record Stays (g : Graph) (t t' : Tables) : Type 0 where
  pub longer : length t.done ≤ length t'.done
  pub stays : (k i : ℕ) → slice_get t.done k ≡ Some i → slice_get t'.done k ≡ Some i
  pub proper : Proper g t → Proper g t'
  pub level : t.nodes ≡ t.done → t'.nodes ≡ t'.done

pub stays_same : (g : Graph) (t t' : Tables) → t'.nodes ≡ t.nodes → t'.done ≡ t.done → Stays g t t'
stays_same g t t' e f = record {
  longer = omega (arith, ap length f);
  stays = λ k i h. ap (λ w. slice_get w k) f ∙ h;
  proper = λ p. record {
    once = subst (λ w. IsDistinct w) (sym f) p.once;
    places = subst (λ w. IsDistinct w) (sym e) p.places;
    listed = subst (λ w. Listed w t'.done) (sym e) (subst (λ w. Listed t.nodes w) (sym f) p.listed);
    within = subst (λ w. Within g w) (sym f) p.within;
  };
  level = λ l. e ∙ l ∙ sym f;
}

pub stays_twice : (g : Graph) (t u v : Tables) → Stays g t u → Stays g u v → Stays g t v
stays_twice g t u v a b = record {
  longer = omega (arith, a.longer, b.longer);
  stays = λ k i h. b.stays k i (a.stays k i h);
  proper = λ p. b.proper (a.proper p);
  level = λ l. b.level (a.level l);
}

pub stays_begun : (g : Graph) (t : Tables) (n : ℕ) → n < length g.nodes → Absent t.done n → Stays g t (add_node t n)
stays_begun g t n l new = record {
  longer = omega (arith, length_pushed t.done n);
  stays = λ k i h. at_left t.done (n ∷ []) k i h;
  proper = λ p. record {
    once = distinct_push t.done n new p.once;
    places = distinct_push t.nodes n (λ k e. let o = p.listed k n e in new o.0 o.1) p.places;
    listed = λ k i a. elim (at_push t.nodes n k i a) [
      | inl q ↦ let o = p.listed k i q in (o.0, at_left t.done (n ∷ []) o.0 i o.1)
      | inr q ↦ (length t.done, subst (λ w. slice_get (t.done ++ n ∷ []) (length t.done) ≡ Some w) q.1 (at_end t.done n))
    ];
    within = λ k i a. elim (at_push t.done n k i a) [ inl q ↦ p.within k i q | inr q ↦ subst (λ w. w < length g.nodes) q.1 l ];
  };
  level = λ e. ap (λ w. w ++ n ∷ []) e;
}

abbrev pub Keeps : Graph → Spelling Tables → Type 0
Keeps g A = (t : Tables) (b : List ℕ) (t' : Tables) → A t b t' → Stays g t t'

pub keeps_step : (g : Graph) (s : Style) (x : Step) → Keeps g (Lifted (StepOf s x))
keeps_step g s x t b t' p = stays_same g t t' (ap (λ (w : Tables). w.nodes) p.2) (ap (λ (w : Tables). w.done) p.2)

pub keeps_segments : (g : Graph) (s : Style) (R : Value → Spelling Tables) → ((v : Value) → Keeps g (R v)) → (ps : List Segment) → Keeps g (Segments R s ps)
keeps_segments g s R h [] t b t' p = stays_same g t t' (ap (λ (w : Tables). w.nodes) p.1) (ap (λ (w : Tables). w.done) p.1)
keeps_segments g s R h (step x ∷ ps) t b t' p = stays_twice g t p.mid t' (keeps_step g s x t p.front p.mid p.first) (keeps_segments g s R h ps p.mid p.back t' p.second)
keeps_segments g s R h (value v ∷ ps) t b t' p = stays_twice g t p.mid t' (h v t p.front p.mid p.first) (keeps_segments g s R h ps p.mid p.back t' p.second)

pub keeps_leaf : (g : Graph) (s : Style) (x : Leaf) → Keeps g (Segments (λ v t b t'. ⊥) s (step (byte (leaf_marker x)) ∷ leaf_segments x))
keeps_leaf g s x = keeps_segments g s (λ v t b t'. ⊥) (λ v t b t' p. absurd p) (step (byte (leaf_marker x)) ∷ leaf_segments x)

pub keeps_value : (g : Graph) (s : Style) (N : ℕ → Spelling Tables) → ((i : ℕ) → Keeps g (N i)) → (v : Value) → Keeps g (ValueBy N s g v)
keeps_value g s N h (leaf x) t b t' p = keeps_leaf g s x t b t' p.1
keeps_value g s N h (node i) t b t' p = h i t p.0 t' p.2

pub keeps_placed : (g : Graph) (s : Style) (i : ℕ) → Keeps g (Placed s i)
keeps_placed g s i t b t' p = stays_same g t t' (ap (λ (w : Tables). w.nodes) p.same) (ap (λ (w : Tables). w.done) p.same)

pub keeps_node : (g : Graph) (s : Style) (d i : ℕ) → Keeps g (NodeIn d s g i)
keeps_node g s zero i t b t' p = keeps_placed g s i t b t' p
keeps_node g s (suc d) i t b t' (inl p) = keeps_placed g s i t b t' p
keeps_node g s (suc d) i t b t' (inr p) =
    stays_twice g t (add_node t i) t' (stays_begun g t i p.exists p.new)
    (keeps_segments g s (Spells d s g) (keeps_value g s (NodeIn d s g) (keeps_node g s d)) (segments_of (node_at g i).head p.wire (node_at g i).values) (add_node t i) b t' p.body)

pub keeps_spells : (g : Graph) (s : Style) (d : ℕ) (v : Value) → Keeps g (Spells d s g v)
keeps_spells g s d = keeps_value g s (NodeIn d s g) (keeps_node g s d)
