-- A canonical spelling in AMF 0 is a spelling: what is asked of it alone is forgotten.
use Rattle.std.proofs.Common.{ℕ, zero, suc, Bool, false, List, [], ◌∷◌, length, inl, inr}
use Rattle.amf_io.specs.Field.{Field}
use Rattle.amf_wire.specs.Style.{Style, free}
use Rattle.amf_graph.specs.Graph.{Leaf, undefined, null, boolean, integer, double, text, Value, leaf, node, Head, xml_document, date, array, object, wrapper, xml, bytes, ints, uints, doubles, values, dictionary, Graph, node_at}
use Rattle.amf3_spelling.specs.Then.{Spelling, Then, Plain}
use Rattle.amf0_spelling.specs.Tables0.{Tables0, add_node0}
use Rattle.amf0_spelling.specs.Segments0.{Short, LeafBy0, Values0, Pairs0, Count0, PairsBy0, is_empty}
use Rattle.amf0_spelling.specs.Spells0.{NodeBy0, ValueBy0, InlineIn0, SpellsIn0, Spells0, Spelled0}

-- A implies B
abbrev pub Implies : {S : Type 0} → (S → List Field → S → Type 0) → (S → List Field → S → Type 0) → Type 0
Implies {S} A B = (t : S) (fs : List Field) (t' : S) → A t fs t' → B t fs t'

then_implies : {S : Type 0} (A B A' B' : S → List Field → S → Type 0) → Implies A A' → Implies B B' → Implies (Then A B) (Then A' B')
then_implies A B A' B' f g t fs t' z = record { front = z.front; back = z.back; mid = z.mid; joined = z.joined; first = f t z.front z.mid z.first; second = g z.mid z.back t' z.second }

leaf_by : (s : Style) (at : Bool) (x : Leaf) → Implies (LeafBy0 s at x) (LeafBy0 free at x)
leaf_by s at undefined t fs t' (inl z) = inl z
leaf_by s at undefined t fs t' (inr z) = inr (tt, z.1)
leaf_by s at null t fs t' z = z
leaf_by s at (boolean b) t fs t' (rest, (m, h, e), f, a) = (rest, (m, (h.0, h.1, tt), e), f, a)
leaf_by s at (integer n) t fs t' z = z
leaf_by s at (double p) t fs t' z = z
leaf_by s at (text x) t fs t' (inl z) = inl z
leaf_by s at (text x) t fs t' (inr z) = inr (tt, z.1)

values_by : (R R' : Bool → Value → Spelling Tables0) → ((b : Bool) (v : Value) → Implies (R b v) (R' b v)) → (vs : List Value) → Implies (Values0 R vs) (Values0 R' vs)
values_by R R' f [] t fs t' z = z
values_by R R' f (v ∷ vs) t fs t' z = then_implies (R false v) (Values0 R vs) (R' false v) (Values0 R' vs) (f false v) (values_by R R' f vs) t fs t' z

pairs_by : (R R' : Bool → Value → Spelling Tables0) → ((b : Bool) (v : Value) → Implies (R b v) (R' b v)) → (ps : List (List ℕ × Value)) → Implies (Pairs0 R ps) (Pairs0 R' ps)
pairs_by R R' f [] t fs t' z = z
pairs_by R R' f (p ∷ ps) t fs t' z =
    then_implies (Plain (Short p.0)) (Then (R (is_empty p.0) p.1) (Pairs0 R ps)) (Plain (Short p.0)) (Then (R' (is_empty p.0) p.1) (Pairs0 R' ps)) (λ u gs u' y. y)
    (then_implies (R (is_empty p.0) p.1) (Pairs0 R ps) (R' (is_empty p.0) p.1) (Pairs0 R' ps) (f (is_empty p.0) p.1) (pairs_by R R' f ps)) t fs t' z

pairs_of : (R R' : Bool → Value → Spelling Tables0) → ((b : Bool) (v : Value) → Implies (R b v) (R' b v)) → (s : Style) (ps : List (List ℕ × Value)) → Implies (PairsBy0 R s ps) (PairsBy0 R' free ps)
pairs_of R R' f s ps t fs t' z = record { pairs = z.pairs; same_names = z.same_names; in_order = tt; spelled = pairs_by R R' f z.pairs t fs t' z.spelled }

count_by : (s : Style) (n : ℕ) → Implies {S = Tables0} (Plain (Count0 s n)) (Plain (Count0 free n))
count_by s n t fs t' ((m, l, o, e), a) = ((m, l, tt, e), a)

node_by : (R R' : Bool → Value → Spelling Tables0) → ((b : Bool) (v : Value) → Implies (R b v) (R' b v)) → (s : Style) (i : ℕ) (h : Head) (ps : List (List ℕ × Value)) (vs : List Value) (m : ℕ) → Implies (NodeBy0 R s i h ps vs m) (NodeBy0 R' free i h ps vs m)
node_by R R' f s i (object c) ps vs m t fs t' (h, inl z) = (h, inl (z.0, z.1, pairs_of R R' f s ps (add_node0 t i) fs t' z.2))
node_by R R' f s i (object c) ps vs m t fs t' (h, inr z) = (h, inr (z.0, tt, then_implies (Plain (Short c.class)) (PairsBy0 R s ps) (Plain (Short c.class)) (PairsBy0 R' free ps) (λ u gs u' y. y) (pairs_of R R' f s ps) (add_node0 t i) fs t' z.2))
node_by R R' f s i array ps vs m t fs t' (inl z) = inl (z.0, z.1, tt, then_implies (Plain (Count0 s (length ps))) (PairsBy0 R s ps) (Plain (Count0 free (length ps))) (PairsBy0 R' free ps) (count_by s (length ps)) (pairs_of R R' f s ps) (add_node0 t i) fs t' z.3)
node_by R R' f s i array ps vs m t fs t' (inr z) = inr (z.0, z.1, z.2, then_implies _ (Values0 R vs) _ (Values0 R' vs) (λ u gs u' y. y) (values_by R R' f vs) (add_node0 t i) fs t' z.3)
node_by R R' f s i (date p) ps vs m t fs t' (e, zone, l, o, g, a) = (e, zone, l, tt, g, a)
node_by R R' f s i (xml_document x) ps vs m t fs t' z = z
node_by R R' f s i (wrapper c) ps vs m t fs t' z = z
node_by R R' f s i (xml x) ps vs m t fs t' z = z
node_by R R' f s i (bytes x) ps vs m t fs t' z = z
node_by R R' f s i (ints g ns) ps vs m t fs t' z = z
node_by R R' f s i (uints g ns) ps vs m t fs t' z = z
node_by R R' f s i (doubles g ns) ps vs m t fs t' z = z
node_by R R' f s i (values g x) ps vs m t fs t' z = z
node_by R R' f s i (dictionary g) ps vs m t fs t' z = z

value_by : (I I' : Bool → ℕ → Spelling Tables0) (s : Style) → ((b : Bool) (i : ℕ) → Implies (I b i) (I' b i)) → (g : Graph) (b : Bool) (v : Value) → Implies (ValueBy0 I s g b v) (ValueBy0 I' free g b v)
value_by I I' s f g b (leaf x) t fs t' (inl z) = inl (leaf_by s _ x t fs t' z)
value_by I I' s f g b (leaf x) t fs t' (inr z) = inr (tt, z.1)
value_by I I' s f g b (node i) t fs t' (inl (inl z)) = inl (inl z)
value_by I I' s f g b (node i) t fs t' (inl (inr z)) = inl (inr (f b i t fs t' z))
value_by I I' s f g b (node i) t fs t' (inr z) = inr (tt, z.1)

inline_in : (n : ℕ) (s : Style) (g : Graph) (b : Bool) (i : ℕ) → Implies (InlineIn0 n s g b i) (InlineIn0 n free g b i)
inline_in zero s g b i t fs t' z = z
inline_in (suc n) s g b i t fs t' z = record {
  there = z.there;
  new = z.new;
  fits = z.fits;
  marker = z.marker;
  rest = z.rest;
  fields = z.fields;
  behind = node_by (SpellsIn0 n s g) (SpellsIn0 n free g) (value_by (InlineIn0 n s g) (InlineIn0 n free g) s (inline_in n s g) g) s i
      (node_at g i).head (node_at g i).names (node_at g i).values z.marker t z.rest t' z.behind;
}

pub forget0 : (s : Style) (g : Graph) (v : Value) → Implies (Spells0 s g v) (Spells0 free g v)
forget0 s g v t fs t' z = (z.0, value_by (InlineIn0 z.0 s g) (InlineIn0 z.0 free g) s (inline_in z.0 s g) g false v t fs t' z.1)

pub forget_spelled0 : (s : Style) (g : Graph) (b : List ℕ) → Spelled0 s g b → Spelled0 free g b
forget_spelled0 s g b (fs, (t, z), e) = (fs, (t, forget0 s g g.root _ fs t z), e)
