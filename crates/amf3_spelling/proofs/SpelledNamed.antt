-- What is spelled has no empty name: each node to which the root leads was spelled inline, with its names.
use Rattle.std.proofs.Common.{◌≡◌, ◌≢◌, ℕ, zero, suc, List, [], ◌∷◌, slice_get, Some, refl, ap, subst, inl, inr, arith}
use Rattle.std.specs.List.{AllZip, AllByRecursion}
use Rattle.amf_io.specs.Field.{Field, flat}
use Rattle.amf_wire.specs.Style.{Style}
use Rattle.amf_graph.specs.Graph.{AllNamed, Value, leaf, node, Graph, node_at}
use Rattle.amf_graph.specs.ByName.{by_name}
use Rattle.amf_graph.specs.Isomorphic.{ValuesMatch, PairsMatch}
use Rattle.amf_graph.specs.Reached.{Reached, at_root, inside, Holds, IsNamed}
use Rattle.amf_graph.proofs.Alls.{each_at}
use Rattle.amf_graph.proofs.Lists.{at_push, no_entry}
use Rattle.amf_graph.proofs.NameOrder.{by_name_all, by_name_all_back}
use Rattle.amf_graph.proofs.Walks.{In}
use Rattle.amf3_spelling.specs.Tables.{Tables, no_tables, add_node}
use Rattle.amf3_spelling.specs.Refusals3.{leaf_marker}
use Rattle.amf3_spelling.specs.Spells3.{IsSpelling3}
use Rattle.amf3_spelling.proofs.ByteSpelling.{Spelling, Segment, step, value, byte, segments_of, leaf_segments, Segments, Placed, Begun, ValueBy, NodeIn, Spells}
use Rattle.amf3_spelling.proofs.Alike3.{Paired, After, alike}
use Rattle.amf3_spelling.proofs.BytesOf.{to_spells}

-- the nodes that were spelled inline have names
abbrev pub AreNamed : Graph → Tables → Type 0
AreNamed g t = (k i : ℕ) → slice_get t.done k ≡ Some i → AllNamed (node_at g i).names

-- what is spelled adds no node without names
abbrev pub KeepsNames : Graph → Spelling Tables → Type 0
KeepsNames g A = (t : Tables) (b : List ℕ) (t' : Tables) → A t b t' → AreNamed g t → AreNamed g t'

module _ (g : Graph) (s : Style) where
  same_names : (t t' : Tables) → t'.done ≡ t.done → AreNamed g t → AreNamed g t'
  same_names t t' e h k i a = h k i (subst (λ w. slice_get w k ≡ Some i) e a)

  names_segments : (R : Value → Spelling Tables) → ((v : Value) → KeepsNames g (R v)) → (ps : List Segment) → KeepsNames g (Segments R s ps)
  names_segments R f [] t b t' p h = same_names t t' (ap (λ (w : Tables). w.done) p.1) h
  names_segments R f (step x ∷ ps) t b t' p h = names_segments R f ps p.mid p.back t' p.second (same_names t p.mid (ap (λ (w : Tables). w.done) p.first.2) h)
  names_segments R f (value v ∷ ps) t b t' p h = names_segments R f ps p.mid p.back t' p.second (f v t p.front p.mid p.first h)

  names_begun : (R : Value → Spelling Tables) → ((v : Value) → KeepsNames g (R v)) → (i : ℕ) → KeepsNames g (Begun R s g i)
  names_begun R f i t b t' p h =
      let a = node_at g i in
      let named : AllNamed a.names = by_name_all_back (λ q. q.0 ≢ []) a.names (subst (λ w. AllNamed w) p.sorted (by_name_all (λ q. q.0 ≢ []) p.wire p.named)) in
      names_segments R f (segments_of a.head p.wire a.values) (add_node t i) b t' p.body
      (λ k j e. elim (at_push t.done i k j e) [ inl q ↦ h k j q | inr q ↦ subst (λ n. AllNamed (node_at g n).names) q.1 named ])

  pub names_value : (N : ℕ → Spelling Tables) → ((i : ℕ) → KeepsNames g (N i)) → (v : Value) → KeepsNames g (ValueBy N s g v)
  names_value N f (leaf x) t b t' p h = names_segments (λ v t b t'. ⊥) (λ v t b t' e. absurd e) (step (byte (leaf_marker x)) ∷ leaf_segments x) t b t' p.1 h
  names_value N f (node i) t b t' p h = f i t p.0 t' p.2 h

  names_placed : (i : ℕ) → KeepsNames g (Placed s i)
  names_placed i t b t' p h = same_names t t' (ap (λ (w : Tables). w.done) p.same) h

  pub names_node : (d i : ℕ) → KeepsNames g (NodeIn d s g i)
  names_node zero i t b t' p h = names_placed i t b t' p h
  names_node (suc d) i t b t' (inl p) h = names_placed i t b t' p h
  names_node (suc d) i t b t' (inr p) h = names_begun (Spells d s g) (names_value (NodeIn d s g) (names_node d)) i t b t' p h

-- what matches itself at one place stands at a place
self_in : (t : Tables) (v : Value) → ValuesMatch (Paired t t) v v → In t.done v
self_in t (leaf x) m = tt
self_in t (node i) m = (m.0, m.1)

selves_in : (t : Tables) (vs : List Value) → AllZip (ValuesMatch (Paired t t)) vs vs → AllByRecursion (In t.done) vs
selves_in t [] m = tt
selves_in t (v ∷ vs) m = (self_in t v m.0, selves_in t vs m.1)

pairs_in : (t : Tables) (ps : List (List ℕ × Value)) → AllZip (PairsMatch (Paired t t)) ps ps → AllByRecursion (λ p. In t.done p.1) ps
pairs_in t [] m = tt
pairs_in t (p ∷ ps) m = (self_in t p.1 m.0.1, pairs_in t ps m.1)

module _ (s : Style) (n : ℕ) (g : Graph) (b : List ℕ) (t : Tables) (spelled : Spells n s g g.root no_tables b t) where
  -- a spelling is alike to itself
  abbrev itself : After g g no_tables no_tables t t [] [] (λ P. ValuesMatch P g.root g.root)
  itself = alike g g s s n n g.root g.root no_tables no_tables b b [] [] t t (record { words = refl; size = refl; level = refl; pairs = λ k i j e f. absurd (no_entry k i e) }) spelled spelled refl

  held : (j k : ℕ) → slice_get t.done k ≡ Some j → (v : Value) → Holds (node_at g j) v → In t.done v
  held j k e v h =
      let a = node_at g j in
      let m = itself.fresh k j j (omega arith) e e in
      elim h [
        | inl p ↦ each_at (In t.done) a.values p.0 v (selves_in t a.values m.values) p.1
        | inr p ↦ each_at (λ q. In t.done q.1) a.names p.0 (p.1, v) (by_name_all_back (λ q. In t.done q.1) a.names (pairs_in t (by_name a.names) m.names)) p.2
      ]

  done : (i : ℕ) → Reached g i → (k : ℕ) × (slice_get t.done k ≡ Some i)
  done i (at_root e) = self_in t (node i) (subst (λ v. ValuesMatch (Paired t t) v v) e itself.says)
  done i (inside j r h) = let o = done j r in held j o.0 o.1 (node i) h

  all_named : IsNamed g
  all_named i r = let o = done i r in names_value g s (NodeIn n s g) (names_node g s n) g.root no_tables b t spelled (λ k i e. absurd (no_entry k i e)) o.0 i o.1

pub spelled_named : (s : Style) (g : Graph) (fs : List Field) → IsSpelling3 s g fs → IsNamed g
spelled_named s g fs (t, (n, z)) = all_named s n g (flat fs) t (to_spells n s g g.root no_tables fs t z)
