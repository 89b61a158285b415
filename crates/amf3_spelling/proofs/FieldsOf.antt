-- Bytes that spell a value are those of fields that spell it.
use Rattle.std.proofs.Common.{◌≡◌, ℕ, zero, suc, ◌+◌, ◌*◌, Bool, true, false, cond, List, [], ◌∷◌, ◌++◌, length, ℤ, sym, refl, ap, ◌∙◌, subst, inl, inr, arith, append_assoc, append-nil}
use Rattle.std.specs.Int.{to_be_bytes, w32, w64, cast_unsigned}
use Rattle.amf_io.specs.Field.{Kind, Field, field, flat, contents, text_kind, raw_kind, u29_kind, no_refusal}
use Rattle.amf_wire.specs.Style.{Style}
use Rattle.amf_wire.specs.U29.{IsU29}
use Rattle.amf_graph.specs.Graph.{Leaf, undefined, null, boolean, integer, double, text, Value, leaf, node, Head, date, array, object, wrapper, bytes, xml_document, xml, ints, uints, doubles, values, dictionary, Graph, node_at, class_name, Fits}
use Rattle.amf_graph.proofs.NameOrder.{by_name_length}
use Rattle.amf3_spelling.specs.Tables.{Entry, plain, external, Words, Tables, no_tables, with_words}
use Rattle.amf3_spelling.specs.Refusals3.{marker, leaf_marker, text_header_kind, class_header_kind, class_kind}
use Rattle.amf3_spelling.specs.Then.{Spelling as Fields, Then as FieldThen}
use Rattle.amf3_spelling.specs.Words3.{TextBy, empty as empty_text, whole as whole_text, placed as placed_text, Text as FieldText, Texts as FieldTexts, EntryTexts, TraitsBy, given as given_traits, placed as named_traits}
use Rattle.amf3_spelling.specs.Segments3 as fields
use Rattle.amf3_spelling.specs.Headers3.{HeaderBy, marker_field, header_field}
use Rattle.amf3_spelling.specs.Nodes3 as nodes
use Rattle.amf3_spelling.specs.Spells3.{LeafBy, Marked, InlineIn, Spelled3}
use Rattle.amf3_spelling.specs.Spells3 as spells
use Rattle.amf3_spelling.proofs.ByteSpelling.{Spelling, Then, Text, empty, whole, placed, Texts, entry_texts, TraitsOf, given, indexed, byte, flag, raw, word, StepOf, Segment, step, value, values_then, pairs_then, four_bytes, signed_bytes, eight_bytes, header_step, body, leaf_segments, Lifted, Segments, Placed, Begun, ValueBy, NodeIn, Spells, Spelled}
use Rattle.amf3_spelling.proofs.BytesOf.{fits_too, flat_append, flat_contents}

-- fields of these bytes
abbrev pub Of : {S : Type 0} → (S → List Field → S → Type 0) → S → List ℕ → S → Type 0
Of {S} A t b t' = (fs : List Field) × A t fs t' × (b ≡ flat fs)

abbrev pub From : {S : Type 0} → (S → List Field → S → Type 0) → (S → List ℕ → S → Type 0) → Type 0
From {S} A B = (t : S) (b : List ℕ) (t' : S) → B t b t' → Of A t b t'

of_then : {S : Type 0} (A A' : S → List Field → S → Type 0) (t m t' : S) (b x y : List ℕ) → b ≡ x ++ y → Of A t x m → Of A' m y t' → Of (FieldThen A A') t b t'
of_then A A' t m t' b x y e f g = (f.0 ++ g.0, record { front = f.0; back = g.0; mid = m; joined = refl; first = f.1; second = g.1 }, e ∙ ap (λ w. w ++ y) f.2 ∙ ap (λ w. flat f.0 ++ w) g.2 ∙ sym (flat_append f.0 g.0))

from_then : {S : Type 0} (A A' : S → List Field → S → Type 0) (B B' : S → List ℕ → S → Type 0) → From A B → From A' B' → From (FieldThen A A') (Then B B')
from_then A A' B B' f g t b t' z = of_then A A' t z.mid t' b z.front z.back z.joined (f t z.front z.mid z.first) (g z.mid z.back t' z.second)

from_text_by : (s : Style) (header : Kind) (contents : ℕ → Kind) (x : List ℕ) → From (TextBy s header contents x) (Text s x)
from_text_by s header contents x t b t' (empty e u a) = (field header b ∷ [], empty_text e b u refl a, sym (append-nil b))
from_text_by s header contents x t b t' (whole e i o h u j a) = (field header h ∷ field (contents (length x)) x ∷ [], whole_text e i o h u refl a, j ∙ ap (λ w. h ++ w) (sym (append-nil x)))
from_text_by s header contents x t b t' (placed e k i o u a) = (field header b ∷ [], placed_text e k i o b u refl a, sym (append-nil b))

from_text : (s : Style) (x : List ℕ) → From (FieldText s x) (Text s x)
from_text s x t b t' z = from_text_by s (text_header_kind (length t.texts)) text_kind x t b t' z

from_texts : (s : Style) (xs : List (List ℕ)) → From (FieldTexts s xs) (Texts s xs)
from_texts s [] t b t' z = ([], (refl, z.1), z.0)
from_texts s (x ∷ xs) t b t' z = from_then (FieldText s x) (FieldTexts s xs) (Text s x) (Texts s xs) (from_text s x) (from_texts s xs) t b t' z

from_entry : (s : Style) (e : Entry) → From (EntryTexts s e) (Texts s (entry_texts e))
from_entry s (plain c) t b t' z = from_texts s (c.class ∷ c.sealed) t b t' z
from_entry s (external c) t b t' z =
    let o = from_text_by s (class_header_kind t.texts) class_kind (class_name c) t z.front z.mid z.first in
    (o.0, subst (λ (w : Words). TextBy s (class_header_kind t.texts) class_kind (class_name c) t o.0 w) (sym z.second.1) o.1, z.joined ∙ ap (λ w. z.front ++ w) z.second.0 ∙ append-nil z.front ∙ o.2)

from_lifted : (A : Fields Words) (B : Spelling Words) → From A B → From (fields.Lifted A) (Lifted B)
from_lifted A B f t b t' (w, z, e) = let o = f t.words b w z in (o.0, (w, o.1, e), o.2)

-- one field of these bytes
one_field : (k : Kind) (b : List ℕ) → b ≡ flat (field k b ∷ [])
one_field k b = sym (append-nil b)

module _ (s : Style) (R : Value → Fields Tables) (R' : Value → Spelling Tables) (r : (v : Value) → From (R v) (R' v)) where
  abbrev FromSegments : List fields.Segment → List Segment → Type 0
  FromSegments ps qs = From (fields.Segments R s ps) (Segments R' s qs)

  from_end : FromSegments [] []
  from_end t b t' z = ([], (refl, z.1), z.0)

  from_value : (v : Value) (ps : List fields.Segment) (qs : List Segment) → FromSegments ps qs → FromSegments (fields.value v ∷ ps) (value v ∷ qs)
  from_value v ps qs k t b t' z = from_then (R v) (fields.Segments R s ps) (R' v) (Segments R' s qs) (r v) k t b t' z

  from_word : (x : List ℕ) (ps : List fields.Segment) (qs : List Segment) → FromSegments ps qs → FromSegments (fields.word x ∷ ps) (step (word x) ∷ qs)
  from_word x ps qs k t b t' z = from_then (fields.Lifted (FieldText s x)) (fields.Segments R s ps) (Lifted (Text s x)) (Segments R' s qs) (from_lifted (FieldText s x) (Text s x) (from_text s x)) k t b t' z

  -- a step that changes no table leaves the tables
  same_tables : (t t' : Tables) (w : Words) → w ≡ t.words → t' ≡ with_words t w → t' ≡ t
  same_tables t t' w e f = f ∙ ap (λ z. with_words t z) e

  from_flags : (f : Bool) (ps : List fields.Segment) (qs : List Segment) → FromSegments ps qs → FromSegments (fields.flag f ∷ ps) (step (flag f) ∷ qs)
  from_flags f ps qs k t b t' z =
      let m = z.first.1.0.0 in
      let o = k z.mid z.back t' z.second in (
        field (raw_kind 1) (m ∷ []) ∷ o.0,
        record { front = field (raw_kind 1) (m ∷ []) ∷ []; back = o.0; mid = z.mid; joined = refl; first = ((m, z.first.1.0.2, refl), same_tables t z.mid z.first.0 z.first.1.1 z.first.2); second = o.1 },
        z.joined ∙ ap (λ w. w ++ z.back) z.first.1.0.1 ∙ ap (λ w. m ∷ w) o.2,
      )

  from_values : (vs : List Value) (ps : List fields.Segment) (qs : List Segment) → FromSegments ps qs → FromSegments (fields.values_then vs ps) (values_then vs qs)
  from_values [] ps qs k = k
  from_values (v ∷ vs) ps qs k = from_value v (fields.values_then vs ps) (values_then vs qs) (from_values vs ps qs k)

  from_pairs : (w : List (List ℕ × Value)) (ps : List fields.Segment) (qs : List Segment) → FromSegments ps qs → FromSegments (fields.pairs_then w ps) (pairs_then w qs)
  from_pairs [] ps qs k = from_word [] ps qs k
  from_pairs (p ∷ w) ps qs k = from_word p.0 (fields.value p.1 ∷ fields.pairs_then w ps) (value p.1 ∷ pairs_then w qs) (from_value p.1 (fields.pairs_then w ps) (pairs_then w qs) (from_pairs w ps qs k))

  from_members : (f : Bool) (w : List (List ℕ × Value)) → FromSegments (cond f (fields.pairs_then w []) []) (cond f (pairs_then w []) [])
  from_members true w = from_pairs w [] [] from_end
  from_members false w = from_end

  -- segments that change nothing, of these bytes
  abbrev Still : List fields.Segment → List ℕ → Type 0
  Still ps x = (t : Tables) → Of (fields.Segments R s ps) t x t

  from_raw : (ps : List fields.Segment) (x : List ℕ) → Still ps x → FromSegments ps (step (raw x) ∷ [])
  from_raw ps x k t b t' z =
      let o = k t in
      let same : t' ≡ t = z.second.1 ∙ same_tables t z.mid z.first.0 z.first.1.1 z.first.2 in
      (o.0, subst (λ (w : Tables). fields.Segments R s ps t o.0 w) (sym same) o.1, z.joined ∙ ap (λ w. z.front ++ w) z.second.0 ∙ append-nil z.front ∙ z.first.1.0 ∙ o.2)

  still_chars : (x : List ℕ) → Still (fields.chars x ∷ []) x
  still_chars x t = (contents text_kind x, record { front = contents text_kind x; back = []; mid = t; joined = sym (append-nil (contents text_kind x)); first = (refl, refl); second = (refl, refl) }, sym (flat_contents text_kind x))

  still_bytes : (x : List ℕ) → Still (fields.raw x ∷ []) x
  still_bytes x t = (contents raw_kind x, record { front = contents raw_kind x; back = []; mid = t; joined = sym (append-nil (contents raw_kind x)); first = (refl, refl); second = (refl, refl) }, sym (flat_contents raw_kind x))

  still_eight : (p : ℕ) → Still (fields.eight p ∷ []) (to_be_bytes w64 p)
  still_eight p t = (field (raw_kind 8) (to_be_bytes w64 p) ∷ [], record { front = field (raw_kind 8) (to_be_bytes w64 p) ∷ []; back = []; mid = t; joined = refl; first = (refl, refl); second = (refl, refl) }, one_field (raw_kind 8) (to_be_bytes w64 p))

  still_fours : (ns : List ℕ) → Still (fields.fours ns) (four_bytes ns)
  still_fours [] t = ([], (refl, refl), refl)
  still_fours (n ∷ ns) t = let o = still_fours ns t in (field (raw_kind 4) (to_be_bytes w32 n) ∷ o.0, record { front = field (raw_kind 4) (to_be_bytes w32 n) ∷ []; back = o.0; mid = t; joined = refl; first = (refl, refl); second = o.1 }, ap (λ w. to_be_bytes w32 n ++ w) o.2)

  still_signed : (ns : List ℤ) → Still (fields.signed_fours ns) (signed_bytes ns)
  still_signed [] t = ([], (refl, refl), refl)
  still_signed (n ∷ ns) t =
      let o = still_signed ns t in
      let f : Field = field (raw_kind 4) (to_be_bytes w32 (cast_unsigned w32 n)) in
      (f ∷ o.0, record { front = f ∷ []; back = o.0; mid = t; joined = refl; first = (refl, refl); second = o.1 }, ap (λ w. to_be_bytes w32 (cast_unsigned w32 n) ++ w) o.2)

  still_eights : (ns : List ℕ) → Still (fields.eights ns) (eight_bytes ns)
  still_eights [] t = ([], (refl, refl), refl)
  still_eights (n ∷ ns) t = let o = still_eights ns t in (field (raw_kind 8) (to_be_bytes w64 n) ∷ o.0, record { front = field (raw_kind 8) (to_be_bytes w64 n) ∷ []; back = o.0; mid = t; joined = refl; first = (refl, refl); second = o.1 }, ap (λ w. to_be_bytes w64 n ++ w) o.2)

  -- kind by kind
  from_body : (a : Head) (w : List (List ℕ × Value)) (vs : List Value) → FromSegments (fields.segments_of a w vs) (body a w vs)
  from_body (date p) w vs = from_raw (fields.eight p ∷ []) (to_be_bytes w64 p) (still_eight p)
  from_body array w vs = from_pairs w (fields.values_then vs []) (values_then vs []) (from_values vs [] [] from_end)
  from_body (object c) w vs = from_values vs (cond c.dynamic (fields.pairs_then w []) []) (cond c.dynamic (pairs_then w []) []) (from_members c.dynamic w)
  from_body (wrapper c) w vs = from_values vs [] [] from_end
  from_body (bytes x) w vs = from_raw (fields.raw x ∷ []) x (still_bytes x)
  from_body (xml_document x) w vs = from_raw (fields.chars x ∷ []) x (still_chars x)
  from_body (xml x) w vs = from_raw (fields.chars x ∷ []) x (still_chars x)
  from_body (ints f x) w vs = from_flags f (fields.signed_fours x) (step (raw (signed_bytes x)) ∷ []) (from_raw (fields.signed_fours x) (signed_bytes x) (still_signed x))
  from_body (uints f x) w vs = from_flags f (fields.fours x) (step (raw (four_bytes x)) ∷ []) (from_raw (fields.fours x) (four_bytes x) (still_fours x))
  from_body (doubles f x) w vs = from_flags f (fields.eights x) (step (raw (eight_bytes x)) ∷ []) (from_raw (fields.eights x) (eight_bytes x) (still_eights x))
  from_body (values f c) w vs = from_flags f (fields.word c ∷ fields.values_then vs []) (step (word c) ∷ values_then vs []) (from_word c (fields.values_then vs []) (values_then vs []) (from_values vs [] [] from_end))
  from_body (dictionary f) w vs = from_flags f (fields.values_then vs []) (values_then vs []) (from_values vs [] [] from_end)

-- a header's step: its number, its bytes and the fields behind them
record HeaderOf (s : Style) (a : Head) (vs : List Value) (w : Words) (b : List ℕ) (w' : Words) : Type 0 where
  number : ℕ
  header : List ℕ
  spelled : IsU29 s number header
  rest : List Field
  behind : HeaderBy s a vs number w rest w'
  joined : b ≡ header ++ flat rest

of_traits : (s : Style) (e : Entry) (w : Words) (b : List ℕ) (w' : Words) → TraitsOf s e w b w' → (n : ℕ) × (header : List ℕ) × IsU29 s n header × (rest : List Field) × TraitsBy s e n w rest w' × (b ≡ header ++ flat rest)
of_traits s e w b w' (given o n header rest u i h x j a) = let f = from_entry s e w rest u x in (n, header, h, f.0, given_traits o i u f.1 a, j ∙ ap (λ z. header ++ z) f.2)
of_traits s e w b w' (indexed k i o h a) = (4 * k + 1, b, h, [], named_traits k i o refl refl a, sym (append-nil b))

from_header : (s : Style) (a : Head) (vs : List Value) (w : Words) (b : List ℕ) (w' : Words) → ((f : Bool) → a ≡ dictionary f → (n : ℕ) × (length vs ≡ 2 * n)) → StepOf s (header_step a vs) w b w' → HeaderOf s a vs w b w'
from_header s (date p) vs w b w' d z = record { number = 2 * z.0.0 + 1; header = b; spelled = z.0.1; rest = []; behind = (z.0.0, z.0.2, (refl, (refl, z.1))); joined = sym (append-nil b) }
from_header s array vs w b w' d z = record { number = 2 * length vs + 1; header = b; spelled = z.0; rest = []; behind = (refl, (refl, z.1)); joined = sym (append-nil b) }
from_header s (object c) vs w b w' d z = let o = of_traits s (plain c) w b w' z in record { number = o.0; header = o.1; spelled = o.2; rest = o.3; behind = o.4; joined = o.5 }
from_header s (wrapper c) vs w b w' d z = let o = of_traits s (external c) w b w' z in record { number = o.0; header = o.1; spelled = o.2; rest = o.3; behind = o.4; joined = o.5 }
from_header s (bytes x) vs w b w' d z = record { number = 2 * length x + 1; header = b; spelled = z.0; rest = []; behind = (refl, (refl, z.1)); joined = sym (append-nil b) }
from_header s (xml_document x) vs w b w' d z = record { number = 2 * length x + 1; header = b; spelled = z.0; rest = []; behind = (refl, (refl, z.1)); joined = sym (append-nil b) }
from_header s (xml x) vs w b w' d z = record { number = 2 * length x + 1; header = b; spelled = z.0; rest = []; behind = (refl, (refl, z.1)); joined = sym (append-nil b) }
from_header s (ints f x) vs w b w' d z = record { number = 2 * length x + 1; header = b; spelled = z.0; rest = []; behind = (refl, (refl, z.1)); joined = sym (append-nil b) }
from_header s (uints f x) vs w b w' d z = record { number = 2 * length x + 1; header = b; spelled = z.0; rest = []; behind = (refl, (refl, z.1)); joined = sym (append-nil b) }
from_header s (doubles f x) vs w b w' d z = record { number = 2 * length x + 1; header = b; spelled = z.0; rest = []; behind = (refl, (refl, z.1)); joined = sym (append-nil b) }
from_header s (values f c) vs w b w' d z = record { number = 2 * length vs + 1; header = b; spelled = z.0; rest = []; behind = (refl, (refl, z.1)); joined = sym (append-nil b) }
from_header s (dictionary f) vs w b w' d z =
    let o = d f refl in
    record { number = length vs + 1; header = b; spelled = z.0; rest = []; behind = (o.0, o.1, (omega (arith, o.1), (refl, z.1))); joined = sym (append-nil b) }

even_segments : (a : Head) (w : List (List ℕ × Value)) (vs : List Value) → Fits a w vs → (f : Bool) → a ≡ dictionary f → (n : ℕ) × (length vs ≡ 2 * n)
even_segments a w vs h f e = let k : Fits (dictionary f) w vs = subst (λ z. Fits z w vs) e h in (k.1, k.2)

of_placed : (s : Style) (g : Graph) (i : ℕ) (t : Tables) (c : List ℕ) (t' : Tables) → Placed s i t c t' → Of (nodes.Placed s g i) t (marker (node_at g i).head ∷ c) t'
of_placed s g i t c t' p = (
  marker_field (marker (node_at g i).head) ∷ header_field g t (marker (node_at g i).head) c ∷ [],
  record { place = p.place; header = c; there = p.here; spelled = p.spelled; fields = refl; same = p.same },
  ap (λ w. marker (node_at g i).head ∷ w) (sym (append-nil c)),
)

of_begun : (s : Style) (R : Value → Fields Tables) (R' : Value → Spelling Tables) → ((v : Value) → From (R v) (R' v)) → (g : Graph) (i : ℕ) (t : Tables) (c : List ℕ) (t' : Tables) → Begun R' s g i t c t' → Of (nodes.Begun R s g i) t (marker (node_at g i).head ∷ c) t'
of_begun s R R' r g i t c t' p =
    let a = node_at g i in
    let m = marker (node_at g i).head in
    let h = from_header s a.head a.values t.words p.body.front p.body.first.0 (even_segments a.head p.wire a.values p.fits) p.body.first.1 in
    let o = from_body s R R' r a.head p.wire a.values p.body.mid p.body.back t' p.body.second in
    let rest : List Field = h.rest ++ o.0 in (
      marker_field m ∷ header_field g t m h.header ∷ rest,
      record {
        there = p.exists;
        new = p.new;
        fits = fits_too a.head p.wire a.names a.values a.values (sym (by_name_length p.wire) ∙ ap length p.sorted ∙ by_name_length a.names) refl p.fits;
        pairs = p.wire;
        same_names = p.sorted;
        in_order = p.in_order;
        named = p.named;
        number = h.number;
        header = h.header;
        spelled = h.spelled;
        rest = rest;
        fields = refl;
        behind = record { front = h.rest; back = o.0; mid = p.body.mid; joined = refl; first = (p.body.first.0, h.behind, p.body.first.2); second = o.1 };
      },
      ap (λ w. m ∷ w) (p.body.joined ∙ ap (λ w. w ++ p.body.back) h.joined ∙ ap (λ w. (h.header ++ flat h.rest) ++ w) o.2 ∙ append_assoc h.header (flat h.rest) (flat o.0) ∙ ap (λ w. h.header ++ w) (sym (flat_append h.rest o.0))),
    )

from_leaf_rest : (s : Style) (x : Leaf) → From (fields.Lifted (LeafBy s x)) (Segments (λ v t b t'. ⊥) s (leaf_segments x))
from_leaf_rest s undefined t b t' z = ([], (t.words, (refl, refl), z.1), z.0)
from_leaf_rest s null t b t' z = ([], (t.words, (refl, refl), z.1), z.0)
from_leaf_rest s (boolean x) t b t' z = ([], (t.words, (refl, refl), z.1), z.0)
from_leaf_rest s (integer n) t b t' z = (
  field (u29_kind no_refusal) z.front ∷ [],
  (z.first.0, (z.front, z.first.1.0, refl, z.first.1.1), z.second.1 ∙ z.first.2),
  z.joined ∙ ap (λ w. z.front ++ w) z.second.0,
)
from_leaf_rest s (double p) t b t' z = (
  field (raw_kind 8) (to_be_bytes w64 p) ∷ [],
  (z.first.0, (refl, z.first.1.1), z.second.1 ∙ z.first.2),
  z.joined ∙ ap (λ w. z.front ++ w) z.second.0 ∙ ap (λ w. w ++ []) z.first.1.0,
)
from_leaf_rest s (text x) t b t' z =
    let o = from_text s x t.words z.front z.first.0 z.first.1 in
    (o.0, (z.first.0, o.1, z.second.1 ∙ z.first.2), z.joined ∙ ap (λ w. z.front ++ w) z.second.0 ∙ append-nil z.front ∙ o.2)

from_leaf : (s : Style) (x : Leaf) → From (FieldThen (Marked (leaf_marker x)) (fields.Lifted (LeafBy s x))) (Segments (λ v t b t'. ⊥) s (step (byte (leaf_marker x)) ∷ leaf_segments x))
from_leaf s x t b t' z =
    of_then (Marked (leaf_marker x)) (fields.Lifted (LeafBy s x)) t z.mid t' b z.front z.back z.joined
    (marker_field (leaf_marker x) ∷ [], (refl, z.first.2 ∙ ap (λ w. with_words t w) z.first.1.1), z.first.1.0)
    (from_leaf_rest s x z.mid z.back t' z.second)

from_value_by : (s : Style) (g : Graph) (I : ℕ → Fields Tables) (N : ℕ → Spelling Tables) → ((i : ℕ) (t : Tables) (c : List ℕ) (t' : Tables) → N i t c t' → Of (spells.ValueBy I s g (node i)) t (marker (node_at g i).head ∷ c) t') → (v : Value) → From (spells.ValueBy I s g v) (ValueBy N s g v)
from_value_by s g I N f (leaf x) t b t' z = let o = from_leaf s x t b t' z.1 in (o.0, (z.0, o.1), o.2)
from_value_by s g I N f (node i) t b t' z = let o = f i t z.0 t' z.2 in (o.0, o.1, z.1 ∙ o.2)

from_node : (d : ℕ) (s : Style) (g : Graph) (i : ℕ) (t : Tables) (c : List ℕ) (t' : Tables) → NodeIn d s g i t c t' → Of (spells.SpellsIn d s g (node i)) t (marker (node_at g i).head ∷ c) t'
from_node zero s g i t c t' p = let o = of_placed s g i t c t' p in (o.0, inl o.1, o.2)
from_node (suc d) s g i t c t' (inl p) = let o = of_placed s g i t c t' p in (o.0, inl o.1, o.2)
from_node (suc d) s g i t c t' (inr p) =
    let o = of_begun s (spells.SpellsIn d s g) (Spells d s g) (from_value_by s g (InlineIn d s g) (NodeIn d s g) (from_node d s g)) g i t c t' p in
    (o.0, inr o.1, o.2)

pub from_spells : (d : ℕ) (s : Style) (g : Graph) (v : Value) → From (spells.SpellsIn d s g v) (Spells d s g v)
from_spells d s g v = from_value_by s g (InlineIn d s g) (NodeIn d s g) (from_node d s g) v

pub from_spelled : (s : Style) (g : Graph) (b : List ℕ) → Spelled s g b → Spelled3 s g b
from_spelled s g b (d, t, z) = let o = from_spells d s g g.root no_tables b t z in (o.0, (t, (d, o.1)), o.2)
