-- A canonical spelling of AMF 0 never switches to AMF 3.
use Rattle.std.proofs.Common.{◌≡◌, ℕ, zero, suc, Bool, false, List, [], ◌∷◌, length, inl, inr, refl, ap, ◌∙◌}
use Rattle.amf_io.specs.Field.{Field}
use Rattle.amf_wire.specs.Style.{canonical}
use Rattle.amf_graph.specs.Graph.{Value, leaf, node, Head, xml_document, date, array, object, wrapper, xml, bytes, ints, uints, doubles, values, dictionary, Graph, node_at}
use Rattle.amf3_spelling.specs.Then.{Spelling, Then, Plain}
use Rattle.amf0_spelling.specs.Tables0.{Tables0, add_node0}
use Rattle.amf0_spelling.specs.Segments0.{Short, Marked0, Values0, Pairs0, Count0, PairsBy0, is_empty}
use Rattle.amf0_spelling.specs.Spells0.{NodeBy0, ValueBy0, InlineIn0, SpellsIn0, Spells0}
use Rattle.amf0_spelling.proofs.Stays0.{leaf_still}

-- whether a marker has switched stays as it was
abbrev Still : Spelling Tables0 → Type 0
Still A = (t : Tables0) (fs : List Field) (t' : Tables0) → A t fs t' → t'.switched ≡ t.switched

same_still : (t t' : Tables0) → t' ≡ t → t'.switched ≡ t.switched
same_still t t' e = ap (λ (w : Tables0). w.switched) e

then_still : (A B : Spelling Tables0) → Still A → Still B → Still (Then A B)
then_still A B f g t fs t' z = g z.mid z.back t' z.second ∙ f t z.front z.mid z.first

plain_still : (P : List Field → Type 0) → Still (Plain P)
plain_still P t fs t' z = same_still t t' z.1

values_still : (R : Bool → Value → Spelling Tables0) → ((b : Bool) (v : Value) → Still (R b v)) → (vs : List Value) → Still (Values0 R vs)
values_still R f [] t fs t' z = same_still t t' z.1
values_still R f (v ∷ vs) t fs t' z = then_still (R false v) (Values0 R vs) (f false v) (values_still R f vs) t fs t' z

pairs_still : (R : Bool → Value → Spelling Tables0) → ((b : Bool) (v : Value) → Still (R b v)) → (ps : List (List ℕ × Value)) → Still (Pairs0 R ps)
pairs_still R f [] t fs t' z = same_still z.mid t' z.second.3 ∙ same_still t z.mid z.first.1
pairs_still R f (p ∷ ps) t fs t' z =
    then_still (Plain (Short p.0)) (Then (R (is_empty p.0) p.1) (Pairs0 R ps)) (plain_still (Short p.0))
    (then_still (R (is_empty p.0) p.1) (Pairs0 R ps) (f (is_empty p.0) p.1) (pairs_still R f ps)) t fs t' z

named_still : (R : Bool → Value → Spelling Tables0) → ((b : Bool) (v : Value) → Still (R b v)) → (ps : List (List ℕ × Value)) → Still (PairsBy0 R canonical ps)
named_still R f ps t fs t' z = pairs_still R f z.pairs t fs t' z.spelled

node_still : (R : Bool → Value → Spelling Tables0) → ((b : Bool) (v : Value) → Still (R b v)) → (i : ℕ) (h : Head) (ps : List (List ℕ × Value)) (vs : List Value) (m : ℕ) → Still (NodeBy0 R canonical i h ps vs m)
node_still R f i (object c) ps vs m t fs t' (h, inl z) = named_still R f ps (add_node0 t i) fs t' z.2
node_still R f i (object c) ps vs m t fs t' (h, inr z) = then_still (Plain (Short c.class)) (PairsBy0 R canonical ps) (plain_still (Short c.class)) (named_still R f ps) (add_node0 t i) fs t' z.2
node_still R f i array ps vs m t fs t' (inl z) = then_still (Plain (Count0 canonical (length ps))) (PairsBy0 R canonical ps) (plain_still (Count0 canonical (length ps))) (named_still R f ps) (add_node0 t i) fs t' z.3
node_still R f i array ps vs m t fs t' (inr z) = values_still R f vs z.3.mid z.3.back t' z.3.second ∙ same_still (add_node0 t i) z.3.mid z.3.first.1
node_still R f i (date p) ps vs m t fs t' (e, zone, l, o, g, a) = ap (λ (w : Tables0). w.switched) a
node_still R f i (xml_document x) ps vs m t fs t' z = ap (λ (w : Tables0). w.switched) z.2
node_still R f i (wrapper c) ps vs m t fs t' z = absurd z
node_still R f i (xml x) ps vs m t fs t' z = absurd z
node_still R f i (bytes x) ps vs m t fs t' z = absurd z
node_still R f i (ints g ns) ps vs m t fs t' z = absurd z
node_still R f i (uints g ns) ps vs m t fs t' z = absurd z
node_still R f i (doubles g ns) ps vs m t fs t' z = absurd z
node_still R f i (values g x) ps vs m t fs t' z = absurd z
node_still R f i (dictionary g) ps vs m t fs t' z = absurd z

value_still : (I : Bool → ℕ → Spelling Tables0) → ((b : Bool) (i : ℕ) → Still (I b i)) → (g : Graph) (b : Bool) (v : Value) → Still (ValueBy0 I canonical g b v)
value_still I f g b (leaf x) t fs t' (inl z) = same_still t t' (leaf_still canonical b x t fs t' z)
value_still I f g b (leaf x) t fs t' (inr z) = absurd z.0
value_still I f g b (node i) t fs t' (inl (inl z)) = same_still t t' z.same
value_still I f g b (node i) t fs t' (inl (inr z)) = f b i t fs t' z
value_still I f g b (node i) t fs t' (inr z) = absurd z.0

inline_still : (n : ℕ) (g : Graph) (b : Bool) (i : ℕ) → Still (InlineIn0 n canonical g b i)
inline_still zero g b i t fs t' z = absurd z
inline_still (suc n) g b i t fs t' z =
    let a = node_at g i in
    node_still (SpellsIn0 n canonical g) (value_still (InlineIn0 n canonical g) (inline_still n g) g) i a.head a.names a.values z.marker t z.rest t' z.behind

pub never_switches : (g : Graph) (v : Value) (t : Tables0) (fs : List Field) (t' : Tables0) → Spells0 canonical g v t fs t' → t'.switched ≡ t.switched
never_switches g v t fs t' z = value_still (InlineIn0 z.0 canonical g) (inline_still z.0 g) g false v t fs t' z.1
