-- A canonical spelling of some height is one of each greater height.
use Rattle.std.proofs.Common.{◌≡◌, ℕ, zero, suc, ◌+◌, Bool, false, List, [], ◌∷◌, length, inl, inr, subst, arith}
use Rattle.amf_wire.specs.Style.{canonical}
use Rattle.amf_graph.specs.Graph.{Value, leaf, node, Head, xml_document, date, array, object, wrapper, xml, bytes, ints, uints, doubles, values, dictionary, Graph, node_at}
use Rattle.amf3_spelling.specs.Then.{Spelling, Then, Plain}
use Rattle.amf0_spelling.specs.Tables0.{Tables0, add_node0}
use Rattle.amf0_spelling.specs.Segments0.{Short, Values0, Pairs0, Count0, PairsBy0, is_empty}
use Rattle.amf0_spelling.specs.Spells0.{NodeBy0, InlineIn0, SpellsIn0}
use Rattle.amf0_spelling.proofs.Forget0.{Implies}

then_more : (A B A' B' : Spelling Tables0) → Implies A A' → Implies B B' → Implies (Then A B) (Then A' B')
then_more A B A' B' f g t fs t' z = record { front = z.front; back = z.back; mid = z.mid; joined = z.joined; first = f t z.front z.mid z.first; second = g z.mid z.back t' z.second }

module _ (R S : Bool → Value → Spelling Tables0) (f : (b : Bool) (v : Value) → Implies (R b v) (S b v)) where
  pub values_more : (vs : List Value) → Implies (Values0 R vs) (Values0 S vs)
  values_more [] t fs t' z = z
  values_more (v ∷ vs) t fs t' z = then_more (R false v) (Values0 R vs) (S false v) (Values0 S vs) (f false v) (values_more vs) t fs t' z

  pub pairs_more : (ps : List (List ℕ × Value)) → Implies (Pairs0 R ps) (Pairs0 S ps)
  pairs_more [] t fs t' z = z
  pairs_more (p ∷ ps) t fs t' z =
      then_more (Plain (Short p.0)) (Then (R (is_empty p.0) p.1) (Pairs0 R ps)) (Plain (Short p.0)) (Then (S (is_empty p.0) p.1) (Pairs0 S ps)) (λ u gs u' y. y)
      (then_more (R (is_empty p.0) p.1) (Pairs0 R ps) (S (is_empty p.0) p.1) (Pairs0 S ps) (f (is_empty p.0) p.1) (pairs_more ps)) t fs t' z

  pairs_by_more : (ps : List (List ℕ × Value)) → Implies (PairsBy0 R canonical ps) (PairsBy0 S canonical ps)
  pairs_by_more ps t fs t' z = record { pairs = z.pairs; same_names = z.same_names; in_order = z.in_order; spelled = pairs_more z.pairs t fs t' z.spelled }

  node_more : (i : ℕ) (h : Head) (ps : List (List ℕ × Value)) (vs : List Value) (m : ℕ) → Implies (NodeBy0 R canonical i h ps vs m) (NodeBy0 S canonical i h ps vs m)
  node_more i (object c) ps vs m t fs t' (h, inl z) = (h, inl (z.0, z.1, pairs_by_more ps (add_node0 t i) fs t' z.2))
  node_more i (object c) ps vs m t fs t' (h, inr z) = (h, inr (z.0, z.1, then_more (Plain (Short c.class)) (PairsBy0 R canonical ps) (Plain (Short c.class)) (PairsBy0 S canonical ps) (λ u gs u' y. y) (pairs_by_more ps) (add_node0 t i) fs t' z.2))
  node_more i array ps vs m t fs t' (inl z) = inl (z.0, z.1, z.2, then_more (Plain (Count0 canonical (length ps))) (PairsBy0 R canonical ps) (Plain (Count0 canonical (length ps))) (PairsBy0 S canonical ps) (λ u gs u' y. y) (pairs_by_more ps) (add_node0 t i) fs t' z.3)
  node_more i array ps vs m t fs t' (inr z) = inr (z.0, z.1, z.2, then_more _ (Values0 R vs) _ (Values0 S vs) (λ u gs u' y. y) (values_more vs) (add_node0 t i) fs t' z.3)
  node_more i (date p) ps vs m t fs t' z = z
  node_more i (xml_document x) ps vs m t fs t' z = z
  node_more i (wrapper c) ps vs m t fs t' z = z
  node_more i (xml x) ps vs m t fs t' z = z
  node_more i (bytes x) ps vs m t fs t' z = z
  node_more i (ints g ns) ps vs m t fs t' z = z
  node_more i (uints g ns) ps vs m t fs t' z = z
  node_more i (doubles g ns) ps vs m t fs t' z = z
  node_more i (values g x) ps vs m t fs t' z = z
  node_more i (dictionary g) ps vs m t fs t' z = z

module _ (g : Graph) where
  abbrev At : ℕ → Bool → Value → Spelling Tables0
  At n = SpellsIn0 n canonical g

  value_more : (n m : ℕ) → ((b : Bool) (i : ℕ) → Implies (InlineIn0 n canonical g b i) (InlineIn0 m canonical g b i)) → (b : Bool) (v : Value) → Implies (At n b v) (At m b v)
  value_more n m f b (leaf x) t fs t' z = z
  value_more n m f b (node i) t fs t' (inl (inl z)) = inl (inl z)
  value_more n m f b (node i) t fs t' (inl (inr z)) = inl (inr (f b i t fs t' z))
  value_more n m f b (node i) t fs t' (inr z) = inr z

  inline_more : (n k : ℕ) (b : Bool) (i : ℕ) → Implies (InlineIn0 n canonical g b i) (InlineIn0 (n + k) canonical g b i)
  inline_more zero k b i t fs t' z = absurd z
  inline_more (suc n) k b i t fs t' z = subst (λ m. InlineIn0 m canonical g b i t fs t') (more n k) (go (value_more n (n + k) (inline_more n k)) z)
    where
      more : (n k : ℕ) → suc (n + k) ≡ suc n + k
      more n k = omega arith

      go : ((b : Bool) (v : Value) → Implies (At n b v) (At (n + k) b v)) → InlineIn0 (suc n) canonical g b i t fs t' → InlineIn0 (suc (n + k)) canonical g b i t fs t'
      go f z = record {
        there = z.there;
        new = z.new;
        fits = z.fits;
        marker = z.marker;
        rest = z.rest;
        fields = z.fields;
        behind = node_more (At n) (At (n + k)) f i (node_at g i).head (node_at g i).names (node_at g i).values z.marker t z.rest t' z.behind;
      }

  pub higher : (n k : ℕ) (b : Bool) (v : Value) → Implies (At n b v) (At (n + k) b v)
  higher n k = value_more n (n + k) (inline_more n k)
