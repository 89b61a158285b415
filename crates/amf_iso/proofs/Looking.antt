-- A walk over two graphs, pair after pair.
use Rattle.std.proofs.Common.{◌≡◌, ℕ, zero, suc, ◌+◌, ◌<◌, ◌≤◌, List, [], ◌∷◌, length, map, slice_get, Some, sym, refl, ap, ◌∙◌, subst, inl, inr, arith}
use Rattle.std.specs.Prelude.{◌↔◌, Bool, true, false, IsTrue, Result, Ok, Err, IfOk}
use Rattle.std.proofs.lemmas.Bool.{cases_eq}
use Rattle.std.proofs.lemmas.List.{length-map}
use Rattle.std.proofs.lemmas.Option.{same_Some, slice_get_within}
use Rattle.amf_graph.specs.declared.value.Value.{Value as Stored}
use Rattle.amf_graph.specs.declared.value.NodeId.{NodeId}
use Rattle.amf_graph.specs.Graph.{Graph, node_at}
use Rattle.amf_graph.specs.Arena.{Arena, graph_of, node_content}
use Rattle.amf_graph.specs.Isomorphic.{StandIn, Isomorphic}
use Rattle.amf_graph.proofs.Lists.{entry}
use Rattle.amf_graph.proofs.Matching.{nodes_more}
use Rattle.amf_iso.specs.declared.walk.Walk.{Walk}
use Rattle.amf_iso.specs.Walking.{met, AreAmong, ArePaired, IsSound, Met, StoredMatch, NodePair, AllNodesMatch}
use Rattle.amf_iso.proofs.Pairing.{somes_few, nowhere}
use Rattle.amf_iso.proofs.Meeting.{Lasts, stored_lasts, stays_among}

at_map : {X Y : Type 0} (f : X → Y) (xs : List X) (k : ℕ) (x : X) → slice_get xs k ≡ Some x → slice_get (map f xs) k ≡ Some (f x)
at_map f [] k x e = cc
at_map f (y ∷ ys) zero x e = ap (λ w. Some (f w)) (same_Some y x e)
at_map f (y ∷ ys) (suc k) x e = at_map f ys k x e

pub pair_at : (w : Walk) (k : ℕ) (p : NodeId × NodeId) → slice_get w.pairs.items k ≡ Some p → slice_get (met w) k ≡ Some (p.0.0, p.1.0)
pair_at w k p e = at_map (λ p. (p.0.0, p.1.0)) w.pairs.items k p e

pub left_within : (a b : Arena) (w : Walk) (k i j : ℕ) → IsSound a b w → slice_get (met w) k ≡ Some (i, j) → i < length a.nodes
left_within a b w k i j s e = let t = slice_get_within w.partners.items i (Some j) (s.partner i j (k, e)) in omega (arith, t, s.places)

pub right_within : (a b : Arena) (w : Walk) (k i j : ℕ) → IsSound a b w → slice_get (met w) k ≡ Some (i, j) → j < length b.nodes
right_within a b w k i j s e = let t = slice_get_within w.taken.items j true (s.marked i j (k, e)) in omega (arith, t, s.marks)

-- there are no more pairs than left nodes
pub pairs_few : (a b : Arena) (w : Walk) → IsSound a b w → length w.pairs.items ≤ length a.nodes
pairs_few a b w s = omega (arith, s.few, s.places, somes_few w.partners.items)

nodes_last : (g h : Graph) (i j : ℕ) → Lasts (NodePair g h i j)
nodes_last g h i j ps qs k m = nodes_more (StandIn ps) (StandIn qs) k (node_at g i) (node_at h j) m

module _ (a b : Arena) (g h : Graph) (old : Walk) where
  -- the nodes of each pair before this place are alike
  pub record Looked (now : Walk) (next : ℕ) : Type 0 where
    pub sound : IsSound a b now
    pub grown : (k : ℕ) (p : ℕ × ℕ) → slice_get (met old) k ≡ Some p → slice_get (met now) k ≡ Some p
    pub low : next ≤ length (met now)
    pub done : (k i j : ℕ) → k < next → slice_get (met now) k ≡ Some (i, j) → NodePair g h i j (met now)
    pub forced : (pairs : List (ℕ × ℕ)) → ArePaired pairs → AreAmong (met old) pairs → AllNodesMatch g h pairs → AreAmong (met now) pairs

  pub looked_none : IsSound a b old → Looked old 0
  looked_none s = record { sound = s; grown = λ k p e. e; low = omega arith; done = λ k i j l e. absurd (omega arith); forced = λ pairs o f z. f }

  pub looked_more : (now new : Walk) (next i j : ℕ) → Looked now next → slice_get (met now) next ≡ Some (i, j) → Met a b now new (NodePair g h i j) true → Looked new (next + 1)
  looked_more now new next i j l e m =
      let at : slice_get (met new) next ≡ Some (i, j) = m.grown next (i, j) e in
      record {
        sound = m.sound;
        grown = λ k p f. m.grown k p (l.grown k p f);
        low = omega (arith, slice_get_within (met new) next (i, j) at);
        done = λ k x y s f.
            elim (cases_eq k next) [
              | inl p ↦
                  let same : (i, j) ≡ (x, y) = same_Some (i, j) (x, y) (sym at ∙ subst (λ n. slice_get (met new) n ≡ Some (x, y)) p f) in
                  subst (λ (w : ℕ × ℕ). NodePair g h w.0 w.1 (met new)) same (m.alike refl)
              | inr o ↦
                  let r = entry (met now) k (omega (arith, s, o, l.low)) in
                  let same : r.0 ≡ (x, y) = same_Some r.0 (x, y) (sym (m.grown k r.0 r.1) ∙ f) in
                  nodes_last g h x y (met now) (met new) (stays_among (met now) (met new) m.grown) (l.done k x y (omega (arith, s, o)) (r.1 ∙ ap (λ w. Some w) same))
            ];
        forced = λ pairs o f z. let k = l.forced pairs o f z in (m.forced pairs o k (z i j (k i j (next, e)))).1;
      }

  pub looked_other : (now new : Walk) (next i j : ℕ) → Looked now next → slice_get (met now) next ≡ Some (i, j) → Met a b now new (NodePair g h i j) false → Met a b old new (AllNodesMatch g h) false
  looked_other now new next i j l e m = record {
    sound = m.sound;
    grown = λ k p f. m.grown k p (l.grown k p f);
    alike = λ t. absurd (let no : false ≡ true = t in cc);
    forced = λ pairs o f z. let k = l.forced pairs o f z in m.forced pairs o k (z i j (k i j (next, e)));
  }

  pub looked_all : (now : Walk) (next : ℕ) → Looked now next → length (met now) ≤ next → Met a b old now (AllNodesMatch g h) true
  looked_all now next l e = record {
    sound = l.sound;
    grown = l.grown;
    alike = λ t i j s. let w = slice_get_within (met now) s.0 (i, j) s.1 in l.done s.0 i j (omega (arith, w, e)) s.1;
    forced = λ pairs o f z. (refl, l.forced pairs o f z);
  }

module _ (a b : Arena) (root stem : Stored) (start mid : Walk) (none : met start ≡ []) where
  any_has : (pairs : List (ℕ × ℕ)) → AreAmong (met start) pairs
  any_has pairs i j s = absurd (nowhere (met start) s.0 (i, j) none s.1)

  paired_of : (g h : Graph) (z : Isomorphic g h) → ArePaired z.pairs
  paired_of g h z = record { left = z.left; right = z.right }

  -- other roots
  pub other_roots : Met a b start mid (StoredMatch a b root stem) false → IsTrue false ↔ Isomorphic (graph_of a root) (graph_of b stem)
  other_roots m = (λ t. absurd (let no : false ≡ true = t in cc), λ z. (m.forced z.pairs (paired_of (graph_of a root) (graph_of b stem) z) (any_has z.pairs) z.root).0)

  -- the pairs that were met pair the graphs, and those of any pairing are among them
  pub decides : (new : Walk) (r : Bool) → Met a b start mid (StoredMatch a b root stem) true → Met a b mid new (AllNodesMatch (graph_of a root) (graph_of b stem)) r → IsTrue r ↔ Isomorphic (graph_of a root) (graph_of b stem)
  decides new r m n = (
    λ t.
        let s = n.sound in
        record {
          pairs = met new;
          left = λ i j k p q. same_Some j k (same_Some (Some j) (Some k) (sym (s.partner i j p) ∙ s.partner i k q));
          right = s.right;
          within = λ i j p.
              let left = slice_get_within new.partners.items i (Some j) (s.partner i j p) in
              let right = slice_get_within new.taken.items j true (s.marked i j p) in
              (omega (arith, left, s.places, length-map a.nodes (node_content a)), omega (arith, right, s.marks, length-map b.nodes (node_content b)));
          root = stored_lasts a b root stem (met mid) (met new) (stays_among (met mid) (met new) n.grown) (m.alike refl);
          nodes = n.alike t;
        },
    λ z.
        let o = paired_of (graph_of a root) (graph_of b stem) z in
        let k = m.forced z.pairs o (any_has z.pairs) z.root in
        (n.forced z.pairs o k.1 z.nodes).0,
  )

  pub ok_decides : {E : Type 0} (new : Walk) (r : Result Bool E) → Met a b start mid (StoredMatch a b root stem) true → IfOk r (λ same. Met a b mid new (AllNodesMatch (graph_of a root) (graph_of b stem)) same) → IfOk r (λ same. IsTrue same ↔ Isomorphic (graph_of a root) (graph_of b stem))
  ok_decides new (Ok r) m n = decides new r m n
  ok_decides new (Err e) m n = n
