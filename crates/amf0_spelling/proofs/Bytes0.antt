-- The fields of a spelling of AMF 0 are of bytes.
use Rattle.std.proofs.Common.{◌≡◌, ℕ, zero, suc, ◌<◌, Bool, true, false, List, [], ◌∷◌, ◌++◌, length, arith, inl, inr}
use Rattle.std.specs.Int.{to_be_bytes, w16}
use Rattle.amf_wire.specs.Style.{Style, free}
use Rattle.amf_io.specs.Field.{Field, flat, text_kind, AreBytes}
use Rattle.amf_graph.specs.Graph.{Leaf, undefined, null, boolean, integer, double, text, Value, leaf, node, Head, xml_document, date, array, object, wrapper, xml, bytes, ints, uints, doubles, values, dictionary, Graph, node_at}
use Rattle.amf3_spelling.specs.Then.{Spelling, Then, Plain}
use Rattle.amf0_spelling.specs.Tables0.{Tables0, add_node0}
use Rattle.amf0_spelling.specs.Segments0.{Short, Long, Marked0, LeafBy0, Values0, Pairs0, Count0, PairsBy0, is_empty}
use Rattle.amf0_spelling.specs.Spells0.{NodeBy0, Switched, ValueBy0, InlineIn0, SpellsIn0, Spells0}
use Rattle.amf3_spelling.proofs.Lighter3.{AllBytes, flat_bytes, bytes_joined, bytes_as, contents_bytes, text_bytes, be_4, be_8, bytes3}

abbrev Are : {S : Type 0} → (S → List Field → S → Type 0) → Type 0
Are {S} A = (t : S) (fs : List Field) (t' : S) → A t fs t' → AllBytes fs

pub be_2 : (n : ℕ) → AreBytes (to_be_bytes w16 n)
be_2 n = (omega arith, (omega arith, tt))

are_then : {S : Type 0} (A B : S → List Field → S → Type 0) → Are A → Are B → Are (Then A B)
are_then A B f g t fs t' z = bytes_as (z.front ++ z.back) fs z.joined (bytes_joined z.front z.back (f t z.front z.mid z.first) (g z.mid z.back t' z.second))

pub short_bytes : (x : List ℕ) (fs : List Field) → Short x fs → AllBytes fs
short_bytes x fs (t, l, e) = bytes_as _ fs e (be_2 (length x), contents_bytes text_kind x (text_bytes x t))

long_bytes : (x : List ℕ) (fs : List Field) → Long x fs → AllBytes fs
long_bytes x fs (t, l, e) = bytes_as _ fs e (be_4 (length x), contents_bytes text_kind x (text_bytes x t))

marked : (may_end : Bool) (m : ℕ) (P : List Field → Type 0) (t : Tables0) → m < 256 → ((fs : List Field) → P fs → AllBytes fs) → (fs : List Field) (t' : Tables0) → Marked0 may_end m P t fs t' → AllBytes fs
marked may_end m P t h f fs t' (rest, p, g, a) = bytes_as _ fs g ((h, tt), f rest p)

nothing : (fs : List Field) → fs ≡ [] → AllBytes fs
nothing fs e = bytes_as [] fs e tt

leaf_bytes : (s : Style) (may_end : Bool) (x : Leaf) → Are (LeafBy0 s may_end x)
leaf_bytes s may_end undefined t fs t' (inl z) = marked may_end 0x06 (λ rest. rest ≡ []) t (omega arith) nothing fs t' z
leaf_bytes s may_end undefined t fs t' (inr z) = marked may_end 0x0D (λ rest. rest ≡ []) t (omega arith) nothing fs t' z.1
leaf_bytes s may_end null t fs t' z = marked may_end 0x05 (λ rest. rest ≡ []) t (omega arith) nothing fs t' z
leaf_bytes s may_end (boolean b) t fs t' z = marked may_end 0x01 _ t (omega arith) (λ gs (m, h, e). bytes_as _ gs e ((h.1, tt), tt)) fs t' z
leaf_bytes s may_end (integer n) t fs t' z = absurd z
leaf_bytes s may_end (double p) t fs t' z = marked may_end 0x00 _ t (omega arith) (λ gs e. bytes_as _ gs e (be_8 p, tt)) fs t' z.1
leaf_bytes s may_end (text x) t fs t' (inl z) = marked may_end 0x02 (Short x) t (omega arith) (short_bytes x) fs t' z
leaf_bytes s may_end (text x) t fs t' (inr z) = marked may_end 0x0C (Long x) t (omega arith) (long_bytes x) fs t' z.1

plain_bytes : (P : List Field → Type 0) → ((fs : List Field) → P fs → AllBytes fs) → Are {S = Tables0} (Plain P)
plain_bytes P f t fs t' z = f fs z.0

values_bytes : (R : Bool → Value → Spelling Tables0) → ((b : Bool) (v : Value) → Are (R b v)) → (vs : List Value) → Are (Values0 R vs)
values_bytes R f [] t fs t' z = nothing fs z.0
values_bytes R f (v ∷ vs) t fs t' z = are_then (R false v) (Values0 R vs) (f false v) (values_bytes R f vs) t fs t' z

pairs_bytes : (R : Bool → Value → Spelling Tables0) → ((b : Bool) (v : Value) → Are (R b v)) → (ps : List (List ℕ × Value)) → Are (Pairs0 R ps)
pairs_bytes R f [] t fs t' z =
    bytes_as (z.front ++ z.back) fs z.joined (bytes_joined z.front z.back (short_bytes [] z.front z.first.0)
    (marked true 0x09 (λ rest. rest ≡ []) z.mid (omega arith) nothing z.back t' z.second))
pairs_bytes R f (p ∷ ps) t fs t' z =
    are_then (Plain (Short p.0)) (Then (R (is_empty p.0) p.1) (Pairs0 R ps)) (plain_bytes (Short p.0) (short_bytes p.0))
    (are_then (R (is_empty p.0) p.1) (Pairs0 R ps) (f (is_empty p.0) p.1) (pairs_bytes R f ps)) t fs t' z

named_pairs : (R : Bool → Value → Spelling Tables0) → ((b : Bool) (v : Value) → Are (R b v)) → (s : Style) (ps : List (List ℕ × Value)) → Are (PairsBy0 R s ps)
named_pairs R f s ps t fs t' z = pairs_bytes R f z.pairs t fs t' z.spelled

count_bytes : (s : Style) (n : ℕ) (fs : List Field) → Count0 s n fs → AllBytes fs
count_bytes s n fs (m, l, o, e) = bytes_as _ fs e (be_4 m, tt)

-- a node, with its marker
record NodeBytes (m : ℕ) (fs : List Field) : Type 0 where
  rest : AllBytes fs
  is_marker : m < 256

node_bytes : (R : Bool → Value → Spelling Tables0) → ((b : Bool) (v : Value) → Are (R b v)) → (s : Style) (i : ℕ) (h : Head) (ps : List (List ℕ × Value)) (vs : List Value) (m : ℕ) (t : Tables0) (fs : List Field) (t' : Tables0) → NodeBy0 R s i h ps vs m t fs t' → NodeBytes m fs
node_bytes R f s i (object c) ps vs m t fs t' (h, inl z) = record { rest = named_pairs R f s ps (add_node0 t i) fs t' z.2; is_marker = let e = z.0 in omega (arith, e) }
node_bytes R f s i (object c) ps vs m t fs t' (h, inr z) = record { rest = are_then (Plain (Short c.class)) (PairsBy0 R s ps) (plain_bytes (Short c.class) (short_bytes c.class)) (named_pairs R f s ps) (add_node0 t i) fs t' z.2; is_marker = let e = z.0 in omega (arith, e) }
node_bytes R f s i array ps vs m t fs t' (inl z) = record { rest = are_then (Plain (Count0 s (length ps))) (PairsBy0 R s ps) (plain_bytes (Count0 s (length ps)) (count_bytes s (length ps))) (named_pairs R f s ps) (add_node0 t i) fs t' z.3; is_marker = let e = z.0 in omega (arith, e) }
node_bytes R f s i array ps vs m t fs t' (inr z) = record { rest = are_then _ (Values0 R vs) (λ u gs u' y. bytes_as _ gs y.0 (be_4 (length vs), tt)) (values_bytes R f vs) (add_node0 t i) fs t' z.3; is_marker = let e = z.0 in omega (arith, e) }
node_bytes R f s i (date p) ps vs m t fs t' (e, zone, l, o, g, a) = record { rest = bytes_as _ fs g (be_8 p, (be_2 zone, tt)); is_marker = omega (arith, e) }
node_bytes R f s i (xml_document x) ps vs m t fs t' (e, z, a) = record { rest = long_bytes x fs z; is_marker = omega (arith, e) }
node_bytes R f s i (wrapper c) ps vs m t fs t' z = absurd z
node_bytes R f s i (xml x) ps vs m t fs t' z = absurd z
node_bytes R f s i (bytes x) ps vs m t fs t' z = absurd z
node_bytes R f s i (ints g ns) ps vs m t fs t' z = absurd z
node_bytes R f s i (uints g ns) ps vs m t fs t' z = absurd z
node_bytes R f s i (doubles g ns) ps vs m t fs t' z = absurd z
node_bytes R f s i (values g x) ps vs m t fs t' z = absurd z
node_bytes R f s i (dictionary g) ps vs m t fs t' z = absurd z

switched_bytes : (may_end : Bool) (g : Graph) (v : Value) → Are (Switched may_end g v)
switched_bytes may_end g v t fs t' z = bytes_as _ fs z.fields ((omega arith, tt), bytes3 free g v t.amf3 z.rest z.after z.spelled)

value_bytes : (I : Bool → ℕ → Spelling Tables0) (s : Style) → ((b : Bool) (i : ℕ) → Are (I b i)) → (g : Graph) (b : Bool) (v : Value) → Are (ValueBy0 I s g b v)
value_bytes I s f g b (leaf x) t fs t' (inl z) = leaf_bytes s _ x t fs t' z
value_bytes I s f g b (leaf x) t fs t' (inr z) = switched_bytes _ g (leaf x) t fs t' z.1
value_bytes I s f g b (node i) t fs t' (inl (inl z)) = bytes_as _ fs z.fields ((omega arith, tt), (be_2 z.place, tt))
value_bytes I s f g b (node i) t fs t' (inl (inr z)) = f b i t fs t' z
value_bytes I s f g b (node i) t fs t' (inr z) = switched_bytes _ g (node i) t fs t' z.1

inline_bytes : (n : ℕ) (s : Style) (g : Graph) (b : Bool) (i : ℕ) → Are (InlineIn0 n s g b i)
inline_bytes zero s g b i t fs t' z = absurd z
inline_bytes (suc n) s g b i t fs t' z =
    let c : NodeBytes z.marker z.rest = node_bytes (SpellsIn0 n s g) (value_bytes (InlineIn0 n s g) s (inline_bytes n s g) g) s i (node_at g i).head (node_at g i).names (node_at g i).values z.marker t z.rest t' z.behind in
    bytes_as _ fs z.fields ((c.is_marker, tt), c.rest)

pub bytes0 : (s : Style) (g : Graph) (v : Value) (t : Tables0) (fs : List Field) (t' : Tables0) → Spells0 s g v t fs t' → AreBytes (flat fs)
bytes0 s g v t fs t' (n, z) = flat_bytes fs (value_bytes (InlineIn0 n s g) s (inline_bytes n s g) g false v t fs t' z)
