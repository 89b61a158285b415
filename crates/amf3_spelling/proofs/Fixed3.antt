-- A graph has at most one canonical spelling.
use Rattle.std.proofs.Common.{◌≡◌, ℕ, zero, suc, ◌*◌, List, [], ◌∷◌, ◌++◌, slice_get, Some, sym, ap, ◌∙◌, subst, inl, inr}
use Rattle.amf_wire.specs.Style.{canonical}
use Rattle.amf_wire.specs.U29.{IsU29}
use Rattle.amf_graph.specs.Graph.{Value, leaf, node, Graph, node_at}
use Rattle.amf_graph.specs.Order.{Absent}
use Rattle.amf_graph.proofs.Lists.{no_entry}
use Rattle.amf3_spelling.specs.Tables.{Tables, no_tables, with_words, add_node}
use Rattle.amf3_spelling.specs.Refusals3.{marker, leaf_marker}
use Rattle.amf3_spelling.proofs.ByteSpelling.{Spelling, Then, Step, StepOf, Segment, step, value, byte, segments_of, leaf_segments, Lifted, Segments, Placed, Begun, ValueBy, NodeIn, Spells, Spelled}
use Rattle.amf3_spelling.proofs.Numbers3.{number_fixed}
use Rattle.amf3_spelling.proofs.Steps3.{step_fixed}
use Rattle.amf3_spelling.proofs.Stays3.{Keeps, Proper, stays_begun, keeps_step, keeps_spells}

pub proper_none : (g : Graph) → Proper g no_tables
proper_none g = record {
  once = λ j k i e f. absurd (no_entry j i e);
  places = λ j k i e f. absurd (no_entry j i e);
  listed = λ k i e. absurd (no_entry k i e);
  within = λ k i e. absurd (no_entry k i e);
}

module _ (g : Graph) where
  abbrev Fixed : Spelling Tables → Spelling Tables → Type 0
  Fixed A B = (t : Tables) (b c : List ℕ) (t' u' : Tables) → Proper g t → A t b t' → B t c u' → (b ≡ c) × (t' ≡ u')

  fixed_then : (A A' B B' : Spelling Tables) → Keeps g A → Fixed A A' → Fixed B B' → Fixed (Then A B) (Then A' B')
  fixed_then A A' B B' k f s t b c t' u' d x y =
      let o = f t x.front y.front x.mid y.mid d x.first y.first in
      let n = s x.mid x.back y.back t' u' ((k t x.front x.mid x.first).proper d) x.second (subst (λ w. B' w y.back u') (sym o.1) y.second) in
      (x.joined ∙ ap (λ w. w ++ x.back) o.0 ∙ ap (λ w. y.front ++ w) n.0 ∙ sym y.joined, n.1)

  fixed_lifted : (x : Step) → Fixed (Lifted (StepOf canonical x)) (Lifted (StepOf canonical x))
  fixed_lifted x t b c t' u' d p q =
      let o = step_fixed x t.words p.0 q.0 b c p.1 q.1 in
      (o.0, p.2 ∙ ap (λ w. with_words t w) o.1 ∙ sym q.2)

  fixed_segments : (R R' : Value → Spelling Tables) → ((v : Value) → Keeps g (R v)) → ((v : Value) → Fixed (R v) (R' v)) → (ps : List Segment) → Fixed (Segments R canonical ps) (Segments R' canonical ps)
  fixed_segments R R' k f [] t b c t' u' d x y = (x.0 ∙ sym y.0, x.1 ∙ sym y.1)
  fixed_segments R R' k f (step x ∷ ps) t b c t' u' d p q = fixed_then (Lifted (StepOf canonical x)) (Lifted (StepOf canonical x)) (Segments R canonical ps) (Segments R' canonical ps) (keeps_step g canonical x) (fixed_lifted x) (fixed_segments R R' k f ps) t b c t' u' d p q
  fixed_segments R R' k f (value v ∷ ps) t b c t' u' d p q = fixed_then (R v) (R' v) (Segments R canonical ps) (Segments R' canonical ps) (k v) (f v) (fixed_segments R R' k f ps) t b c t' u' d p q

  fixed_placed : (i : ℕ) → Fixed (Placed canonical i) (Placed canonical i)
  fixed_placed i t b c t' u' d x y =
      (number_fixed (2 * x.place) b c x.spelled (subst (λ w. IsU29 canonical (2 * w) c) (d.places y.place x.place i y.here x.here) y.spelled), x.same ∙ sym y.same)

  fixed_begun : (R R' : Value → Spelling Tables) → ((v : Value) → Keeps g (R v)) → ((v : Value) → Fixed (R v) (R' v)) → (i : ℕ) → Fixed (Begun R canonical g i) (Begun R' canonical g i)
  fixed_begun R R' k f i t b c t' u' d x y =
      let a = node_at g i in
      let same : y.wire ≡ x.wire = y.in_order ∙ sym x.in_order in
      fixed_segments R R' k f (segments_of a.head x.wire a.values) (add_node t i) b c t' u' ((stays_begun g t i x.exists x.new).proper d) x.body
      (subst (λ w. Segments R' canonical (segments_of a.head w a.values) (add_node t i) c u') same y.body)

  fixed_value : (N N' : ℕ → Spelling Tables) → ((i : ℕ) → Fixed (N i) (N' i)) → (v : Value) → Fixed (ValueBy N canonical g v) (ValueBy N' canonical g v)
  fixed_value N N' f (leaf x) t b c t' u' d p q = fixed_segments (λ v t b t'. ⊥) (λ v t b t'. ⊥) (λ v t b t' e. absurd e) (λ v t b c t' u' d e f. absurd e) (step (byte (leaf_marker x)) ∷ leaf_segments x) t b c t' u' d p.1 q.1
  fixed_value N N' f (node i) t b c t' u' d x y = let o = f i t x.0 y.0 t' u' d x.2 y.2 in (x.1 ∙ ap (λ w. marker (node_at g i).head ∷ w) o.0 ∙ sym y.1, o.1)

  listed_new : (i : ℕ) (t : Tables) (k : ℕ) → Proper g t → Absent t.done i → slice_get t.nodes k ≡ Some i → ⊥
  listed_new i t k d new e = let o = d.listed k i e in new o.0 o.1

  fixed_node : (d e i : ℕ) → Fixed (NodeIn d canonical g i) (NodeIn e canonical g i)
  fixed_node zero zero i t b c t' u' k x y = fixed_placed i t b c t' u' k x y
  fixed_node zero (suc e) i t b c t' u' k x (inl y) = fixed_placed i t b c t' u' k x y
  fixed_node zero (suc e) i t b c t' u' k x (inr y) = absurd (listed_new i t x.place k y.new x.here)
  fixed_node (suc d) zero i t b c t' u' k (inl x) y = fixed_placed i t b c t' u' k x y
  fixed_node (suc d) zero i t b c t' u' k (inr x) y = absurd (listed_new i t y.place k x.new y.here)
  fixed_node (suc d) (suc e) i t b c t' u' k (inl x) (inl y) = fixed_placed i t b c t' u' k x y
  fixed_node (suc d) (suc e) i t b c t' u' k (inl x) (inr y) = absurd (listed_new i t x.place k y.new x.here)
  fixed_node (suc d) (suc e) i t b c t' u' k (inr x) (inl y) = absurd (listed_new i t y.place k x.new y.here)
  fixed_node (suc d) (suc e) i t b c t' u' k (inr x) (inr y) = fixed_begun (Spells d canonical g) (Spells e canonical g) (keeps_spells g canonical d) (fixed_value (NodeIn d canonical g) (NodeIn e canonical g) (fixed_node d e)) i t b c t' u' k x y

  pub fixed_spells : (d e : ℕ) (v : Value) → Fixed (Spells d canonical g v) (Spells e canonical g v)
  fixed_spells d e v = fixed_value (NodeIn d canonical g) (NodeIn e canonical g) (fixed_node d e) v

  pub one_alone : (b c : List ℕ) → Spelled canonical g b → Spelled canonical g c → b ≡ c
  one_alone b c x y = (fixed_spells x.0 y.0 g.root no_tables b c x.1 y.1 (proper_none g) x.2 y.2).0
