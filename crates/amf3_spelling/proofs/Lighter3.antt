-- A spelling of AMF 3 is one too where fewer nodes have been spelled before it, whatever the root of the graph is; and its fields are of bytes.
use Rattle.std.proofs.Common.{◌≡◌, ℕ, zero, suc, ◌<◌, Bool, true, false, cond, ℤ, List, [], ◌∷◌, ◌++◌, length, slice_get, Some, None, ap, sym, subst, arith, inl, inr}
use Rattle.std.specs.List.{AllByRecursion, AllZip, concat}
use Rattle.std.specs.Int.{to_be_bytes, w32, w64}
use Rattle.amf_wire.specs.Style.{Style}
use Rattle.amf_wire.specs.U29.{SpellsU29, one, two, three, four as four_digits, IsU29}
use Rattle.amf_wire.specs.Text.{Range, rows, IsWithin, IsUnit, IsText}
use Rattle.amf_io.specs.Field.{Kind, Field, flat, field, contents, raw_kind, text_kind, AreBytes}
use Rattle.amf_io.proofs.Bytes.{bytes_append}
use Rattle.amf_graph.specs.Graph.{Leaf, undefined, null, boolean, integer, double, text, Value, leaf, node, Head, xml_document, date, array, object, wrapper, xml, bytes, ints, uints, doubles, values, dictionary, Fits, Node, Graph, node_at, class_name}
use Rattle.amf_graph.specs.Order.{Absent}
use Rattle.amf_graph.proofs.Lists.{at_left, at_end, at_push}
use Rattle.amf3_spelling.specs.Tables.{Entry, plain, external, Words, Tables, add_node}
use Rattle.amf3_spelling.specs.Then.{Spelling, Then, Plain}
use Rattle.amf3_spelling.specs.Refusals3.{leaf_marker, marker}
use Rattle.amf3_spelling.specs.Words3.{TextBy, empty, whole, placed, Text, Texts, EntryTexts, TraitsBy, given, placed as by_place}
use Rattle.amf3_spelling.specs.Segments3.{Segment, flag, four, eight, raw, chars, word, value, Fixed, Lifted, Segments, segments_of, values_then, pairs_then, fours, signed_fours, eights}
use Rattle.amf3_spelling.specs.Headers3.{HeaderBy}
use Rattle.amf3_spelling.specs.Nodes3.{Begun}
use Rattle.amf3_spelling.specs.Spells3.{LeafBy, Marked, ValueBy, InlineIn, SpellsIn, Spells3}

-- Fields of bytes.

abbrev pub AllBytes : List Field → Type 0
AllBytes = AllByRecursion (λ f. AreBytes f.bytes)

pub flat_bytes : (fs : List Field) → AllBytes fs → AreBytes (flat fs)
flat_bytes [] h = tt
flat_bytes (f ∷ fs) h = bytes_append f.bytes (flat fs) h.0 (flat_bytes fs h.1)

pub bytes_joined : (fs gs : List Field) → AllBytes fs → AllBytes gs → AllBytes (fs ++ gs)
bytes_joined [] gs a b = b
bytes_joined (f ∷ fs) gs (h, a) b = (h, bytes_joined fs gs a b)

pub bytes_as : (fs gs : List Field) → gs ≡ fs → AllBytes fs → AllBytes gs
bytes_as fs gs e a = subst AllBytes (sym e) a

pub byte_small : (n : ℕ) → n < 256 → AreBytes (n ∷ [])
byte_small n h = (h, tt)

u29_bytes : (n : ℕ) (b : List ℕ) → SpellsU29 n b → AreBytes b
u29_bytes n b (one a l e f) = subst AreBytes (sym f) (omega arith, tt)
u29_bytes n b (two a c l m e f) = subst AreBytes (sym f) (omega arith, (omega arith, tt))
u29_bytes n b (three a c d l m o e f) = subst AreBytes (sym f) (omega arith, (omega arith, (omega arith, tt)))
u29_bytes n b (four_digits a c d g l m o p e f) = subst AreBytes (sym f) (omega arith, (omega arith, (omega arith, (p, tt))))

-- the ranges of a row are of bytes
are_ranges : AllByRecursion (λ row. AllByRecursion (λ (r : Range). r.1 < 256) row) rows
are_ranges =
    ((omega arith, tt), ((omega arith, (omega arith, tt)), ((omega arith, (omega arith, (omega arith, tt))), ((omega arith, (omega arith, (omega arith, tt))), ((omega arith, (omega arith, (omega arith, tt))), ((omega arith, (omega arith, (omega arith, tt))), ((omega arith, (omega arith, (omega arith, (omega arith, tt)))), ((omega arith, (omega arith, (omega arith, (omega arith, tt)))), ((omega arith, (omega arith, (omega arith, (omega arith, tt)))), ((omega arith, (omega arith, (omega arith, tt))), ((omega arith, (omega arith, tt)), tt)))))))))))

row_at : (P : List Range → Type 0) (rs : List (List Range)) (k : ℕ) (row : List Range) → AllByRecursion P rs → slice_get rs k ≡ Some row → P row
row_at P [] k row h e = let none : None ≡ Some row = e in absurd cc
row_at P (r ∷ rs) zero row h e = let s : r ≡ row = cc in subst P s h.0
row_at P (r ∷ rs) (suc k) row h e = row_at P rs k row h.1 e

within_bytes : (row : List Range) (b : List ℕ) → AllByRecursion (λ (r : Range). r.1 < 256) row → AllZip IsWithin row b → AreBytes b
within_bytes [] [] h z = tt
within_bytes [] (x ∷ b) h z = absurd z
within_bytes (r ∷ row) [] h z = absurd z
within_bytes (r ∷ row) (x ∷ b) h z = (let p = h.0 in let q = z.0.1 in omega (arith, p, q), within_bytes row b h.1 z.1)

unit_bytes : (b : List ℕ) → IsUnit b → AreBytes b
unit_bytes b (k, row, e, z) = within_bytes row b (row_at (λ row. AllByRecursion (λ (r : Range). r.1 < 256) row) rows k row are_ranges e) z

units_bytes : (us : List (List ℕ)) → AllByRecursion IsUnit us → AreBytes (concat us)
units_bytes [] h = tt
units_bytes (u ∷ us) h = bytes_append u (concat us) (unit_bytes u h.0) (units_bytes us h.1)

pub text_bytes : (x : List ℕ) → IsText x → AreBytes x
text_bytes x (us, h, e) = subst AreBytes (sym e) (units_bytes us h)

pub contents_bytes : (kind : ℕ → Kind) (x : List ℕ) → AreBytes x → AllBytes (contents kind x)
contents_bytes kind [] h = tt
contents_bytes kind (b ∷ x) h = (h, tt)

-- Fewer nodes that have been spelled.

abbrev pub Fewer : List ℕ → List ℕ → Type 0
Fewer d e = (i : ℕ) → Absent d i → Absent e i

pub fewer_more : (d e : List ℕ) (j : ℕ) → Fewer d e → Fewer (d ++ j ∷ []) (e ++ j ∷ [])
fewer_more d e j f i none k s =
    let before : Absent d i = λ m t. none m (at_left d (j ∷ []) m i t) in
    elim (at_push e j k i s) [
      | inl t ↦ f i before k t
      | inr p ↦ none (length d) (subst (λ w. slice_get (d ++ j ∷ []) (length d) ≡ Some w) p.1 (at_end d j))
    ]

abbrev pub at_done : Tables → List ℕ → Tables
at_done t d = record { words = t.words; nodes = t.nodes; done = d }

-- behind the same fields, B relates the tables with fewer nodes that have been spelled
pub record Lightly (B : Spelling Tables) (t : Tables) (fs : List Field) (t' : Tables) (d : List ℕ) : Type 0 where
  pub bytes : AllBytes fs
  pub after : List ℕ
  pub spelled : B (at_done t d) fs (at_done t' after)
  pub fewer : Fewer t'.done after

abbrev pub Lighter : Spelling Tables → Spelling Tables → Type 0
Lighter A B = (t : Tables) (fs : List Field) (t' : Tables) → A t fs t' → (d : List ℕ) → Fewer t.done d → Lightly B t fs t' d

lighter_then : (A A' B B' : Spelling Tables) → Lighter A A' → Lighter B B' → Lighter (Then A B) (Then A' B')
lighter_then A A' B B' f g t fs t' z d h =
    let x = f t z.front z.mid z.first d h in
    let y = g z.mid z.back t' z.second x.after x.fewer in
    record {
      bytes = bytes_as (z.front ++ z.back) fs z.joined (bytes_joined z.front z.back x.bytes y.bytes);
      after = y.after;
      spelled = record { front = z.front; back = z.back; mid = at_done z.mid x.after; joined = z.joined; first = x.spelled; second = y.spelled };
      fewer = y.fewer;
    }

-- what changes words alone
abbrev Bytes : Spelling Words → Type 0
Bytes A = (w : Words) (fs : List Field) (w' : Words) → A w fs w' → AllBytes fs

lighter_lifted : (A : Spelling Words) → Bytes A → Lighter (Lifted A) (Lifted A)
lighter_lifted A b t fs t' (w, z, e) d h = record {
  bytes = b t.words fs w z;
  after = d;
  spelled = (w, z, ap (λ (u : Tables). at_done u d) e);
  fewer = subst (λ (u : Tables). Fewer u.done d) (sym e) h;
}

lighter_plain : (P : List Field → Type 0) → ((fs : List Field) → P fs → AllBytes fs) → Lighter (Plain P) (Plain P)
lighter_plain P b t fs t' (z, e) d h = record { bytes = b fs z; after = d; spelled = (z, ap (λ (u : Tables). at_done u d) e); fewer = subst (λ (u : Tables). Fewer u.done d) (sym e) h }

-- texts and traits

u29_field : (s : Style) (n : ℕ) (k : Kind) (h : List ℕ) → IsU29 s n h → AreBytes (field k h).bytes
u29_field s n k h u = u29_bytes n h u.spelled

text_by : (s : Style) (header : Kind) (kind : ℕ → Kind) (x : List ℕ) (w : Words) (fs : List Field) (w' : Words) → TextBy s header kind x w fs w' → AllBytes fs
text_by s header kind x w fs w' (empty e h u f a) = bytes_as _ fs f (u29_field s 1 header h u, tt)
text_by s header kind x w fs w' (whole e i o h u f a) = bytes_as _ fs f (u29_field s _ header h u, (text_bytes x i, tt))
text_by s header kind x w fs w' (placed e k i o h u f a) = bytes_as _ fs f (u29_field s _ header h u, tt)

text_of : (s : Style) (x : List ℕ) → Bytes (Text s x)
text_of s x w fs w' z = text_by s _ _ x w fs w' z

texts_of : (s : Style) (xs : List (List ℕ)) → Bytes (Texts s xs)
texts_of s [] w fs w' z = bytes_as [] fs z.0 tt
texts_of s (x ∷ xs) w fs w' z = bytes_as (z.front ++ z.back) fs z.joined (bytes_joined z.front z.back (text_of s x w z.front z.mid z.first) (texts_of s xs z.mid z.back w' z.second))

entry_texts : (s : Style) (e : Entry) → Bytes (EntryTexts s e)
entry_texts s (plain c) w fs w' z = texts_of s (c.class ∷ c.sealed) w fs w' z
entry_texts s (external c) w fs w' z = text_by s _ _ (class_name c) w fs w' z

traits_by : (s : Style) (e : Entry) (n : ℕ) → Bytes (TraitsBy s e n)
traits_by s e n w fs w' (given o number u texts a) = entry_texts s e w fs u texts
traits_by s e n w fs w' (by_place k i o number f a) = bytes_as [] fs f tt

header_by : (s : Style) (h : Head) (vs : List Value) (n : ℕ) → Bytes (HeaderBy s h vs n)
header_by s (xml_document x) vs n w fs w' z = bytes_as [] fs z.1.0 tt
header_by s (date p) vs n w fs w' (unused, o, z) = bytes_as [] fs z.1.0 tt
header_by s array vs n w fs w' z = bytes_as [] fs z.1.0 tt
header_by s (object c) vs n w fs w' z = traits_by s (plain c) n w fs w' z
header_by s (wrapper c) vs n w fs w' z = traits_by s (external c) n w fs w' z
header_by s (xml x) vs n w fs w' z = bytes_as [] fs z.1.0 tt
header_by s (bytes x) vs n w fs w' z = bytes_as [] fs z.1.0 tt
header_by s (ints f ns) vs n w fs w' z = bytes_as [] fs z.1.0 tt
header_by s (uints f ns) vs n w fs w' z = bytes_as [] fs z.1.0 tt
header_by s (doubles f ns) vs n w fs w' z = bytes_as [] fs z.1.0 tt
header_by s (values f x) vs n w fs w' z = bytes_as [] fs z.1.0 tt
header_by s (dictionary f) vs n w fs w' (entries, e, z) = bytes_as [] fs z.1.0 tt

pub be_4 : (n : ℕ) → AreBytes (to_be_bytes w32 n)
be_4 n = (omega arith, (omega arith, (omega arith, (omega arith, tt))))

pub be_8 : (n : ℕ) → AreBytes (to_be_bytes w64 n)
be_8 n = (omega arith, (omega arith, (omega arith, (omega arith, (omega arith, (omega arith, (omega arith, (omega arith, tt))))))))

leaf_by : (s : Style) (x : Leaf) → Bytes (LeafBy s x)
leaf_by s undefined w fs w' z = bytes_as [] fs z.0 tt
leaf_by s null w fs w' z = bytes_as [] fs z.0 tt
leaf_by s (boolean b) w fs w' z = bytes_as [] fs z.0 tt
leaf_by s (integer n) w fs w' (digits, u, e, a) = bytes_as _ fs e (u29_bytes _ digits u.spelled, tt)
leaf_by s (double p) w fs w' z = bytes_as _ fs z.0 (be_8 p, tt)
leaf_by s (text x) w fs w' z = text_of s x w fs w' z

-- parts

abbrev IsGood : Segment → Type 0
IsGood (raw x) = AreBytes x
IsGood (chars x) = IsText x
IsGood _ = Unit {0}

fixed_segment : (s : Style) (p : Segment) → IsGood p → (fs : List Field) → Fixed s p fs → AllBytes fs
fixed_segment s (flag f) good fs (m, h, e) = bytes_as _ fs e ((h.1, tt), tt)
fixed_segment s (four n) good fs e = bytes_as _ fs e (be_4 n, tt)
fixed_segment s (eight n) good fs e = bytes_as _ fs e (be_8 n, tt)
fixed_segment s (raw x) good fs e = bytes_as _ fs e (contents_bytes raw_kind x good)
fixed_segment s (chars x) good fs e = bytes_as _ fs e (contents_bytes text_kind x (text_bytes x good))
fixed_segment s (word x) good fs e = absurd e
fixed_segment s (value v) good fs e = absurd e

segments : (R R' : Value → Spelling Tables) (s : Style) → ((v : Value) → Lighter (R v) (R' v)) → (ps : List Segment) → AllByRecursion IsGood ps → Lighter (Segments R s ps) (Segments R' s ps)
segments R R' s f [] good t fs t' z d h = record { bytes = bytes_as [] fs z.0 tt; after = d; spelled = (z.0, ap (λ (u : Tables). at_done u d) z.1); fewer = subst (λ (u : Tables). Fewer u.done d) (sym z.1) h }
segments R R' s f (word x ∷ ps) (g, good) t fs t' z d h = lighter_then (Lifted (Text s x)) (Lifted (Text s x)) (Segments R s ps) (Segments R' s ps) (lighter_lifted (Text s x) (text_of s x)) (segments R R' s f ps good) t fs t' z d h
segments R R' s f (value v ∷ ps) (g, good) t fs t' z d h = lighter_then (R v) (R' v) (Segments R s ps) (Segments R' s ps) (f v) (segments R R' s f ps good) t fs t' z d h
segments R R' s f (flag b ∷ ps) (g, good) t fs t' z d h = lighter_then (Plain (Fixed s (flag b))) (Plain (Fixed s (flag b))) (Segments R s ps) (Segments R' s ps) (lighter_plain (Fixed s (flag b)) (fixed_segment s (flag b) g)) (segments R R' s f ps good) t fs t' z d h
segments R R' s f (four n ∷ ps) (g, good) t fs t' z d h = lighter_then (Plain (Fixed s (four n))) (Plain (Fixed s (four n))) (Segments R s ps) (Segments R' s ps) (lighter_plain (Fixed s (four n)) (fixed_segment s (four n) g)) (segments R R' s f ps good) t fs t' z d h
segments R R' s f (eight n ∷ ps) (g, good) t fs t' z d h = lighter_then (Plain (Fixed s (eight n))) (Plain (Fixed s (eight n))) (Segments R s ps) (Segments R' s ps) (lighter_plain (Fixed s (eight n)) (fixed_segment s (eight n) g)) (segments R R' s f ps good) t fs t' z d h
segments R R' s f (raw x ∷ ps) (g, good) t fs t' z d h = lighter_then (Plain (Fixed s (raw x))) (Plain (Fixed s (raw x))) (Segments R s ps) (Segments R' s ps) (lighter_plain (Fixed s (raw x)) (fixed_segment s (raw x) g)) (segments R R' s f ps good) t fs t' z d h
segments R R' s f (chars x ∷ ps) (g, good) t fs t' z d h = lighter_then (Plain (Fixed s (chars x))) (Plain (Fixed s (chars x))) (Segments R s ps) (Segments R' s ps) (lighter_plain (Fixed s (chars x)) (fixed_segment s (chars x) g)) (segments R R' s f ps good) t fs t' z d h

good_values : (vs : List Value) (ps : List Segment) → AllByRecursion IsGood ps → AllByRecursion IsGood (values_then vs ps)
good_values [] ps good = good
good_values (v ∷ vs) ps good = (tt, good_values vs ps good)

good_pairs : (pairs : List (List ℕ × Value)) (ps : List Segment) → AllByRecursion IsGood ps → AllByRecursion IsGood (pairs_then pairs ps)
good_pairs [] ps good = (tt, good)
good_pairs (p ∷ pairs) ps good = (tt, (tt, good_pairs pairs ps good))

good_fours : (ns : List ℕ) → AllByRecursion IsGood (fours ns)
good_fours [] = tt
good_fours (n ∷ ns) = (tt, good_fours ns)

good_signed : (ns : List ℤ) → AllByRecursion IsGood (signed_fours ns)
good_signed [] = tt
good_signed (n ∷ ns) = (tt, good_signed ns)

good_eights : (ns : List ℕ) → AllByRecursion IsGood (eights ns)
good_eights [] = tt
good_eights (n ∷ ns) = (tt, good_eights ns)

good_members : (dynamic : Bool) (pairs : List (List ℕ × Value)) → AllByRecursion IsGood (cond dynamic (pairs_then pairs []) [])
good_members true pairs = good_pairs pairs [] tt
good_members false pairs = tt

good_segments : (h : Head) (pairs names : List (List ℕ × Value)) (vs : List Value) → Fits h names vs → AllByRecursion IsGood (segments_of h pairs vs)
good_segments (xml_document x) pairs names vs fits = (fits.0, tt)
good_segments (date p) pairs names vs fits = (tt, tt)
good_segments array pairs names vs fits = good_pairs pairs (values_then vs []) (good_values vs [] tt)
good_segments (object c) pairs names vs fits = good_values vs (cond c.dynamic (pairs_then pairs []) []) (good_members c.dynamic pairs)
good_segments (wrapper c) pairs names vs fits = good_values vs [] tt
good_segments (xml x) pairs names vs fits = (fits.0, tt)
good_segments (bytes x) pairs names vs fits = (fits.0, tt)
good_segments (ints f ns) pairs names vs fits = (tt, good_signed ns)
good_segments (uints f ns) pairs names vs fits = (tt, good_fours ns)
good_segments (doubles f ns) pairs names vs fits = (tt, good_eights ns)
good_segments (values f x) pairs names vs fits = (tt, (tt, good_values vs [] tt))
good_segments (dictionary f) pairs names vs fits = (tt, good_values vs [] tt)

-- values

leaf_marker_byte : (x : Leaf) → leaf_marker x < 256
leaf_marker_byte undefined = omega arith
leaf_marker_byte null = omega arith
leaf_marker_byte (boolean false) = omega arith
leaf_marker_byte (boolean true) = omega arith
leaf_marker_byte (integer n) = omega arith
leaf_marker_byte (double p) = omega arith
leaf_marker_byte (text x) = omega arith

marker_byte : (h : Head) → marker h < 256
marker_byte (xml_document x) = omega arith
marker_byte (date p) = omega arith
marker_byte array = omega arith
marker_byte (object t) = omega arith
marker_byte (wrapper c) = omega arith
marker_byte (xml x) = omega arith
marker_byte (bytes x) = omega arith
marker_byte (ints f ns) = omega arith
marker_byte (uints f ns) = omega arith
marker_byte (doubles f ns) = omega arith
marker_byte (values f x) = omega arith
marker_byte (dictionary f) = omega arith

lighter_marked : (x : Leaf) → Lighter (Marked (leaf_marker x)) (Marked (leaf_marker x))
lighter_marked x t fs t' (z, e) d h = record { bytes = bytes_as _ fs z ((leaf_marker_byte x, tt), tt); after = d; spelled = (z, ap (λ (u : Tables). at_done u d) e); fewer = subst (λ (u : Tables). Fewer u.done d) (sym e) h }

-- the same nodes, whatever is the root
abbrev pub rooted : List Node → Value → Graph
rooted ns r = record { nodes = ns; root = r }

value_by : (I I' : ℕ → Spelling Tables) (s : Style) → ((i : ℕ) → Lighter (I i) (I' i)) → (ns : List Node) (r q : Value) (v : Value) → Lighter (ValueBy I s (rooted ns r) v) (ValueBy I' s (rooted ns q) v)
value_by I I' s f ns r q (leaf x) t fs t' (l, z) d h =
    let y = lighter_then (Marked (leaf_marker x)) (Marked (leaf_marker x)) (Lifted (LeafBy s x)) (Lifted (LeafBy s x)) (lighter_marked x) (lighter_lifted (LeafBy s x) (leaf_by s x)) t fs t' z d h in
    record { bytes = y.bytes; after = y.after; spelled = (l, y.spelled); fewer = y.fewer }
value_by I I' s f ns r q (node i) t fs t' (inl z) d h = record {
  bytes = bytes_as _ fs z.fields ((marker_byte (node_at (rooted ns r) i).head, tt), (u29_bytes _ z.header z.spelled.spelled, tt));
  after = d;
  spelled = inl (record { place = z.place; header = z.header; there = z.there; spelled = z.spelled; fields = z.fields; same = ap (λ (u : Tables). at_done u d) z.same });
  fewer = subst (λ (u : Tables). Fewer u.done d) (sym z.same) h;
}
value_by I I' s f ns r q (node i) t fs t' (inr z) d h =
    let y = f i t fs t' z d h in
    record { bytes = y.bytes; after = y.after; spelled = inr y.spelled; fewer = y.fewer }

begun_by : (R R' : Value → Spelling Tables) (s : Style) → ((v : Value) → Lighter (R v) (R' v)) → (ns : List Node) (r q : Value) (i : ℕ) → Lighter (Begun R s (rooted ns r) i) (Begun R' s (rooted ns q) i)
begun_by R R' s f ns r q i t fs t' z d h =
    let a : Head = (node_at (rooted ns r) i).head in
    let vs : List Value = (node_at (rooted ns r) i).values in
    let y = lighter_then (Lifted (HeaderBy s a vs z.number)) (Lifted (HeaderBy s a vs z.number)) (Segments R s (segments_of a z.pairs vs)) (Segments R' s (segments_of a z.pairs vs))
    (lighter_lifted (HeaderBy s a vs z.number) (header_by s a vs z.number)) (segments R R' s f (segments_of a z.pairs vs) (good_segments a z.pairs (node_at (rooted ns r) i).names vs z.fits))
    (add_node t i) z.rest t' z.behind (d ++ i ∷ []) (fewer_more t.done d i h) in
    record {
      bytes = bytes_as _ fs z.fields ((marker_byte a, tt), (u29_bytes _ z.header z.spelled.spelled, y.bytes));
      after = y.after;
      spelled = record {
        there = z.there;
        new = h i z.new;
        fits = z.fits;
        pairs = z.pairs;
        same_names = z.same_names;
        in_order = z.in_order;
        named = z.named;
        number = z.number;
        header = z.header;
        spelled = z.spelled;
        rest = z.rest;
        fields = z.fields;
        behind = y.spelled;
      };
      fewer = y.fewer;
    }

inline_in : (n : ℕ) (s : Style) (ns : List Node) (r q : Value) (i : ℕ) → Lighter (InlineIn n s (rooted ns r) i) (InlineIn n s (rooted ns q) i)
inline_in zero s ns r q i t fs t' z d h = absurd z
inline_in (suc n) s ns r q i t fs t' z d h = begun_by (SpellsIn n s (rooted ns r)) (SpellsIn n s (rooted ns q)) s (value_by (InlineIn n s (rooted ns r)) (InlineIn n s (rooted ns q)) s (inline_in n s ns r q) ns r q) ns r q i t fs t' z d h

pub lighter3 : (s : Style) (ns : List Node) (r q : Value) (v : Value) → Lighter (Spells3 s (rooted ns r) v) (Spells3 s (rooted ns q) v)
lighter3 s ns r q v t fs t' (n, z) d h =
    let y = value_by (InlineIn n s (rooted ns r)) (InlineIn n s (rooted ns q)) s (inline_in n s ns r q) ns r q v t fs t' z d h in
    record { bytes = y.bytes; after = y.after; spelled = (n, y.spelled); fewer = y.fewer }

pub bytes3 : (s : Style) (g : Graph) (v : Value) (t : Tables) (fs : List Field) (t' : Tables) → Spells3 s g v t fs t' → AllBytes fs
bytes3 s g v t fs t' z = (lighter3 s g.nodes g.root g.root v t fs t' z t.done (λ i none. none)).bytes
