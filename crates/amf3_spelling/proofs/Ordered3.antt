-- The nodes of a canonical spelling are met in canonical order.
use Rattle.std.proofs.Common.{◌≡◌, ℕ, zero, suc, Bool, true, false, cond, List, [], ◌∷◌, ◌++◌, sym, refl, ap, ◌∙◌, subst, inl, inr, append-nil}
use Rattle.amf_wire.specs.Style.{canonical}
use Rattle.amf_graph.specs.Graph.{Leaf, undefined, null, boolean, integer, double, text, Value, leaf, node, Head, date, array, object, wrapper, bytes, xml_document, xml, ints, uints, doubles, values, dictionary, Graph, node_at, Fits, AreMembers}
use Rattle.amf_graph.specs.Order.{is_array, seconds, Walks, over, past, again, first, IsOrder}
use Rattle.amf3_spelling.specs.Tables.{Tables, no_tables, add_node}
use Rattle.amf3_spelling.specs.Refusals3.{leaf_marker}
use Rattle.amf3_spelling.proofs.ByteSpelling.{Spelling, Segment, step, value, byte, values_then, pairs_then, segments_of, Segments, Placed, Begun, ValueBy, NodeIn, Spells, Spelled, leaf_segments}
use Rattle.amf3_spelling.proofs.Stays3.{Keeps, Proper, stays_begun, keeps_step, keeps_spells}
use Rattle.amf3_spelling.proofs.Fixed3.{proper_none}

-- the values of a node in the order in which they are met, its pairs in the order w
abbrev pub met : Head → List (List ℕ × Value) → List Value → List Value
met a w vs = cond (is_array a) (seconds w ++ vs) (vs ++ seconds w)

-- the values among the segments
abbrev pub segment_values : List Segment → List Value
segment_values [] = []
segment_values (step x ∷ ps) = segment_values ps
segment_values (value v ∷ ps) = v ∷ segment_values ps

values_segment : (vs : List Value) (ps : List Segment) → segment_values (values_then vs ps) ≡ vs ++ segment_values ps
values_segment [] ps = refl
values_segment (v ∷ vs) ps = ap (λ w. v ∷ w) (values_segment vs ps)

pairs_segment : (w : List (List ℕ × Value)) (ps : List Segment) → segment_values (pairs_then w ps) ≡ seconds w ++ segment_values ps
pairs_segment [] ps = refl
pairs_segment (p ∷ w) ps = ap (λ v. p.1 ∷ v) (pairs_segment w ps)

members_segment : (f : Bool) (w : List (List ℕ × Value)) → AreMembers f w → segment_values (cond f (pairs_then w []) []) ≡ seconds w
members_segment true w e = pairs_segment w [] ∙ append-nil (seconds w)
members_segment false w e = ap seconds (sym e)

both_none : (w : List (List ℕ × Value)) (vs : List Value) → w ≡ [] → vs ≡ [] → [] ≡ vs ++ seconds w
both_none w vs e f = ap (λ v. v ++ seconds []) (sym f) ∙ ap (λ v. vs ++ seconds v) (sym e)

no_names : (w : List (List ℕ × Value)) (vs : List Value) → w ≡ [] → segment_values (values_then vs []) ≡ vs ++ seconds w
no_names w vs e = values_segment vs [] ∙ ap (λ v. vs ++ seconds v) (sym e)

-- kind by kind: the values among the segments are the values met
pub segments_met : (a : Head) (w : List (List ℕ × Value)) (vs : List Value) → Fits a w vs → segment_values (segments_of a w vs) ≡ met a w vs
segments_met (date p) w vs f = both_none w vs f.1 f.2
segments_met array w vs f = pairs_segment w (values_then vs []) ∙ ap (λ v. seconds w ++ v) (values_segment vs [] ∙ append-nil vs)
segments_met (object t) w vs f = values_segment vs (cond t.dynamic (pairs_then w []) []) ∙ ap (λ v. vs ++ v) (members_segment t.dynamic w f.1)
segments_met (wrapper c) w vs f = no_names w vs f.0
segments_met (bytes x) w vs f = both_none w vs f.1 f.2
segments_met (xml_document x) w vs f = both_none w vs f.1 f.2
segments_met (xml x) w vs f = both_none w vs f.1 f.2
segments_met (ints i x) w vs f = both_none w vs f.1 f.2
segments_met (uints i x) w vs f = both_none w vs f.1 f.2
segments_met (doubles i x) w vs f = both_none w vs f.1 f.2
segments_met (values i c) w vs f = no_names w vs f
segments_met (dictionary i) w vs f = no_names w vs f.0

pub leaf_none : (x : Leaf) → segment_values (leaf_segments x) ≡ []
leaf_none undefined = refl
leaf_none null = refl
leaf_none (boolean b) = refl
leaf_none (integer n) = refl
leaf_none (double p) = refl
leaf_none (text x) = refl

module _ (g : Graph) where
  -- a walk on from the tables after is one from the tables before
  abbrev Leads : Spelling Tables → List Value → Type 0
  Leads A vs = (t : Tables) (b : List ℕ) (t' : Tables) → Proper g t → A t b t' → (ws : List Value) (zs : List ℕ) → Walks g t'.done ws zs → Walks g t.done (vs ++ ws) zs

  leads_segments : (R : Value → Spelling Tables) → ((v : Value) → Keeps g (R v)) → ((v : Value) → Leads (R v) (v ∷ [])) → (ps : List Segment) → Leads (Segments R canonical ps) (segment_values ps)
  leads_segments R k f [] t b t' d p ws zs w = subst (λ (x : Tables). Walks g x.done ws zs) p.1 w
  leads_segments R k f (step x ∷ ps) t b t' d p ws zs w =
      let kept = keeps_step g canonical x t p.front p.mid p.first in
      let o = leads_segments R k f ps p.mid p.back t' (kept.proper d) p.second ws zs w in
      subst (λ (x : Tables). Walks g x.done (segment_values ps ++ ws) zs) p.first.2 o
  leads_segments R k f (value v ∷ ps) t b t' d p ws zs w =
      let kept = k v t p.front p.mid p.first in
      f v t p.front p.mid d p.first (segment_values ps ++ ws) zs (leads_segments R k f ps p.mid p.back t' (kept.proper d) p.second ws zs w)

  leads_placed : (i : ℕ) → Leads (Placed canonical i) (node i ∷ [])
  leads_placed i t b t' d p ws zs w = let o = d.listed p.place i p.here in again i o.0 o.1 (subst (λ (x : Tables). Walks g x.done ws zs) p.same w)

  leads_begun : (R : Value → Spelling Tables) → ((v : Value) → Keeps g (R v)) → ((v : Value) → Leads (R v) (v ∷ [])) → (i : ℕ) → Leads (Begun R canonical g i) (node i ∷ [])
  leads_begun R k f i t b t' d p ws zs w =
      let a = node_at g i in
      let o = leads_segments R k f (segments_of a.head p.wire a.values) (add_node t i) b t' ((stays_begun g t i p.exists p.new).proper d) p.body ws zs w in
      first i p.exists p.new (subst (λ x. Walks g (t.done ++ i ∷ []) (met a.head x a.values ++ ws) zs) p.in_order (subst (λ x. Walks g (t.done ++ i ∷ []) (x ++ ws) zs) (segments_met a.head p.wire a.values p.fits) o))

  leads_value : (N : ℕ → Spelling Tables) → ((i : ℕ) → Leads (N i) (node i ∷ [])) → (v : Value) → Leads (ValueBy N canonical g v) (v ∷ [])
  leads_value N f (leaf x) t b t' d p ws zs w =
      past x (go (leaf_none x) (leads_segments (λ v t b t'. ⊥) (λ v t b t' e. absurd e) (λ v t b t' d e. absurd e) (step (byte (leaf_marker x)) ∷ leaf_segments x) t b t' d p.1 ws zs w))
    where
      go : segment_values (leaf_segments x) ≡ [] → Walks g t.done (segment_values (leaf_segments x) ++ ws) zs → Walks g t.done ws zs
      go e w = subst (λ y. Walks g t.done (y ++ ws) zs) e w
  leads_value N f (node i) t b t' d p ws zs w = f i t p.0 t' d p.2 ws zs w

  leads_node : (d i : ℕ) → Leads (NodeIn d canonical g i) (node i ∷ [])
  leads_node zero i t b t' k p ws zs w = leads_placed i t b t' k p ws zs w
  leads_node (suc d) i t b t' k (inl p) ws zs w = leads_placed i t b t' k p ws zs w
  leads_node (suc d) i t b t' k (inr p) ws zs w = leads_begun (Spells d canonical g) (keeps_spells g canonical d) (leads_value (NodeIn d canonical g) (leads_node d)) i t b t' k p ws zs w

  -- the nodes done in the end are those of the walk
  pub in_order : (b : List ℕ) (x : Spelled canonical g b) → IsOrder g x.1.done
  in_order b x = leads_value (NodeIn x.0 canonical g) (leads_node x.0) g.root no_tables b x.1 (proper_none g) x.2 [] x.1.done over
