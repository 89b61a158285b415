-- A canonical spelling is a spelling: what is asked of it alone is forgotten.
use Rattle.std.proofs.Common.{ℕ, zero, suc, List, [], ◌∷◌, inl, inr}
use Rattle.amf_io.specs.Field.{Kind, Field}
use Rattle.amf_wire.specs.Style.{Style, free}
use Rattle.amf_wire.specs.U29.{IsU29}
use Rattle.amf_graph.specs.Graph.{Leaf, undefined, null, boolean, integer, double, text, Value, leaf, node, Head, xml_document, date, array, object, wrapper, xml, bytes, ints, uints, doubles, values, dictionary, Graph, node_at, class_name}
use Rattle.amf3_spelling.specs.Tables.{Entry, plain, external, Words, Tables, add_node}
use Rattle.amf3_spelling.specs.Then.{Spelling, Then, Plain}
use Rattle.amf3_spelling.specs.Words3.{TextBy, empty, whole, placed, Text, Texts, EntryTexts, EntryNumber, TraitsBy, given, placed as by_place}
use Rattle.amf3_spelling.specs.Segments3.{Segment, flag, four, eight, raw, chars, word, value, Fixed, Lifted, Segments, segments_of}
use Rattle.amf3_spelling.specs.Headers3.{HeaderBy}
use Rattle.amf3_spelling.specs.Nodes3.{Placed, Begun}
use Rattle.amf3_spelling.specs.Spells3.{LeafBy, ValueBy, InlineIn, SpellsIn, Spells3, Spelled3}

-- A implies B
abbrev pub Implies : {S : Type 0} → (S → List Field → S → Type 0) → (S → List Field → S → Type 0) → Type 0
Implies {S} A B = (t : S) (fs : List Field) (t' : S) → A t fs t' → B t fs t'

pub then_implies : {S : Type 0} (A B A' B' : S → List Field → S → Type 0) → Implies A A' → Implies B B' → Implies (Then A B) (Then A' B')
then_implies A B A' B' f g t fs t' z = record { front = z.front; back = z.back; mid = z.mid; joined = z.joined; first = f t z.front z.mid z.first; second = g z.mid z.back t' z.second }

forget_u29 : (s : Style) (n : ℕ) (b : List ℕ) → IsU29 s n b → IsU29 free n b
forget_u29 s n b u = record { spelled = u.spelled; shortest = tt }

text_by : (s : Style) (header : Kind) (contents : ℕ → Kind) (x : List ℕ) → Implies (TextBy s header contents x) (TextBy free header contents x)
text_by s header contents x t fs t' (empty e h u f a) = empty e h (forget_u29 s 1 h u) f a
text_by s header contents x t fs t' (whole e i o h u f a) = whole e i tt h (forget_u29 s _ h u) f a
text_by s header contents x t fs t' (placed e k i o h u f a) = placed tt k i tt h (forget_u29 s _ h u) f a

text_of : (s : Style) (x : List ℕ) → Implies (Text s x) (Text free x)
text_of s x t fs t' z = text_by s _ _ x t fs t' z

texts_of : (s : Style) (xs : List (List ℕ)) → Implies (Texts s xs) (Texts free xs)
texts_of s [] t fs t' z = z
texts_of s (x ∷ xs) t fs t' z = then_implies (Text s x) (Texts s xs) (Text free x) (Texts free xs) (text_of s x) (texts_of s xs) t fs t' z

entry_texts : (s : Style) (e : Entry) → Implies (EntryTexts s e) (EntryTexts free e)
entry_texts s (plain c) t fs t' z = texts_of s (c.class ∷ c.sealed) t fs t' z
entry_texts s (external c) t fs t' z = text_by s _ _ (class_name c) t fs t' z

entry_number : (s : Style) (e : Entry) (n : ℕ) → EntryNumber s e n → EntryNumber free e n
entry_number s (plain c) n z = z
entry_number s (external c) n (unused, e, o) = (unused, e, tt)

traits_by : (s : Style) (e : Entry) (n : ℕ) → Implies (TraitsBy s e n) (TraitsBy free e n)
traits_by s e n t fs t' (given o number u texts a) = given tt (entry_number s e n number) u (entry_texts s e t fs u texts) a
traits_by s e n t fs t' (by_place k i o number f a) = by_place k i tt number f a

header_by : (s : Style) (h : Head) (vs : List Value) (n : ℕ) → Implies (HeaderBy s h vs n) (HeaderBy free h vs n)
header_by s (xml_document x) vs n t fs t' z = z
header_by s (date p) vs n t fs t' (unused, o, z) = (unused, tt, z)
header_by s array vs n t fs t' z = z
header_by s (object c) vs n t fs t' z = traits_by s (plain c) n t fs t' z
header_by s (wrapper c) vs n t fs t' z = traits_by s (external c) n t fs t' z
header_by s (xml x) vs n t fs t' z = z
header_by s (bytes x) vs n t fs t' z = z
header_by s (ints f ns) vs n t fs t' z = z
header_by s (uints f ns) vs n t fs t' z = z
header_by s (doubles f ns) vs n t fs t' z = z
header_by s (values f x) vs n t fs t' z = z
header_by s (dictionary f) vs n t fs t' z = z

fixed_segment : (s : Style) (p : Segment) (fs : List Field) → Fixed s p fs → Fixed free p fs
fixed_segment s (flag f) fs (m, h, e) = (m, (h.0, h.1, tt), e)
fixed_segment s (four n) fs z = z
fixed_segment s (eight n) fs z = z
fixed_segment s (raw x) fs z = z
fixed_segment s (chars x) fs z = z
fixed_segment s (word x) fs z = z
fixed_segment s (value v) fs z = z

lifted_implies : (A B : Spelling Words) → Implies A B → Implies (Lifted A) (Lifted B)
lifted_implies A B f t fs t' (w, z, e) = (w, f t.words fs w z, e)

plain_implies : (s : Style) (p : Segment) → Implies {S = Tables} (Plain (Fixed s p)) (Plain (Fixed free p))
plain_implies s p t fs t' (z, e) = (fixed_segment s p fs z, e)

segments : (R R' : Value → Spelling Tables) (s : Style) → ((v : Value) → Implies (R v) (R' v)) → (ps : List Segment) → Implies (Segments R s ps) (Segments R' free ps)
segments R R' s f [] t fs t' z = z
segments R R' s f (word x ∷ ps) t fs t' z = then_implies (Lifted (Text s x)) (Segments R s ps) (Lifted (Text free x)) (Segments R' free ps) (lifted_implies (Text s x) (Text free x) (text_of s x)) (segments R R' s f ps) t fs t' z
segments R R' s f (value v ∷ ps) t fs t' z = then_implies (R v) (Segments R s ps) (R' v) (Segments R' free ps) (f v) (segments R R' s f ps) t fs t' z
segments R R' s f (flag b ∷ ps) t fs t' z = then_implies (Plain (Fixed s (flag b))) (Segments R s ps) (Plain (Fixed free (flag b))) (Segments R' free ps) (plain_implies s (flag b)) (segments R R' s f ps) t fs t' z
segments R R' s f (four n ∷ ps) t fs t' z = then_implies (Plain (Fixed s (four n))) (Segments R s ps) (Plain (Fixed free (four n))) (Segments R' free ps) (plain_implies s (four n)) (segments R R' s f ps) t fs t' z
segments R R' s f (eight n ∷ ps) t fs t' z = then_implies (Plain (Fixed s (eight n))) (Segments R s ps) (Plain (Fixed free (eight n))) (Segments R' free ps) (plain_implies s (eight n)) (segments R R' s f ps) t fs t' z
segments R R' s f (raw x ∷ ps) t fs t' z = then_implies (Plain (Fixed s (raw x))) (Segments R s ps) (Plain (Fixed free (raw x))) (Segments R' free ps) (plain_implies s (raw x)) (segments R R' s f ps) t fs t' z
segments R R' s f (chars x ∷ ps) t fs t' z = then_implies (Plain (Fixed s (chars x))) (Segments R s ps) (Plain (Fixed free (chars x))) (Segments R' free ps) (plain_implies s (chars x)) (segments R R' s f ps) t fs t' z

named_by : (s : Style) (g : Graph) (i : ℕ) → Implies (Placed s g i) (Placed free g i)
named_by s g i t fs t' z = record { place = z.place; header = z.header; there = z.there; spelled = forget_u29 s _ z.header z.spelled; fields = z.fields; same = z.same }

begun_by : (R R' : Value → Spelling Tables) (s : Style) → ((v : Value) → Implies (R v) (R' v)) → (g : Graph) (i : ℕ) → Implies (Begun R s g i) (Begun R' free g i)
begun_by R R' s f g i t fs t' z = record {
  there = z.there;
  new = z.new;
  fits = z.fits;
  pairs = z.pairs;
  same_names = z.same_names;
  in_order = tt;
  named = z.named;
  number = z.number;
  header = z.header;
  spelled = forget_u29 s z.number z.header z.spelled;
  rest = z.rest;
  fields = z.fields;
  behind = then_implies (Lifted (HeaderBy s (node_at g i).head (node_at g i).values z.number)) (Segments R s (segments_of (node_at g i).head z.pairs (node_at g i).values))
      (Lifted (HeaderBy free (node_at g i).head (node_at g i).values z.number)) (Segments R' free (segments_of (node_at g i).head z.pairs (node_at g i).values))
      (lifted_implies (HeaderBy s (node_at g i).head (node_at g i).values z.number) (HeaderBy free (node_at g i).head (node_at g i).values z.number) (header_by s (node_at g i).head (node_at g i).values z.number))
      (segments R R' s f (segments_of (node_at g i).head z.pairs (node_at g i).values)) (add_node t i) z.rest t' z.behind;
}

leaf_by : (s : Style) (x : Leaf) → Implies (LeafBy s x) (LeafBy free x)
leaf_by s undefined t fs t' z = z
leaf_by s null t fs t' z = z
leaf_by s (boolean b) t fs t' z = z
leaf_by s (integer n) t fs t' (digits, u, e, a) = (digits, forget_u29 s _ digits u, e, a)
leaf_by s (double p) t fs t' z = z
leaf_by s (text x) t fs t' z = text_of s x t fs t' z

value_by : (I I' : ℕ → Spelling Tables) (s : Style) → ((i : ℕ) → Implies (I i) (I' i)) → (g : Graph) (v : Value) → Implies (ValueBy I s g v) (ValueBy I' free g v)
value_by I I' s f g (leaf x) t fs t' (h, z) = (h, then_implies _ (Lifted (LeafBy s x)) _ (Lifted (LeafBy free x)) (λ u gs u' y. y) (lifted_implies (LeafBy s x) (LeafBy free x) (leaf_by s x)) t fs t' z)
value_by I I' s f g (node i) t fs t' (inl z) = inl (named_by s g i t fs t' z)
value_by I I' s f g (node i) t fs t' (inr z) = inr (f i t fs t' z)

inline_in : (n : ℕ) (s : Style) (g : Graph) (i : ℕ) → Implies (InlineIn n s g i) (InlineIn n free g i)
inline_in zero s g i t fs t' z = z
inline_in (suc n) s g i t fs t' z = begun_by (SpellsIn n s g) (SpellsIn n free g) s (value_by (InlineIn n s g) (InlineIn n free g) s (inline_in n s g) g) g i t fs t' z

-- the same fields, in the same height
pub forget_in : (n : ℕ) (s : Style) (g : Graph) (v : Value) → Implies (SpellsIn n s g v) (SpellsIn n free g v)
forget_in n s g v = value_by (InlineIn n s g) (InlineIn n free g) s (inline_in n s g) g v

pub forget3 : (s : Style) (g : Graph) (v : Value) → Implies (Spells3 s g v) (Spells3 free g v)
forget3 s g v t fs t' (n, z) = (n, forget_in n s g v t fs t' z)

pub forget_spelled3 : (s : Style) (g : Graph) (b : List ℕ) → Spelled3 s g b → Spelled3 free g b
forget_spelled3 s g b (fs, (t, z), e) = (fs, (t, forget3 s g g.root _ fs t z), e)
