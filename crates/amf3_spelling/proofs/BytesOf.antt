-- The bytes of the fields of a spelling spell the same, and bytes that spell have such fields.
use Rattle.std.proofs.Common.{◌≡◌, ℕ, zero, suc, ◌+◌, ◌*◌, Bool, true, false, cond, List, [], ◌∷◌, ◌++◌, length, ℤ, sym, refl, ap, ◌∙◌, subst, inl, inr, arith, append_assoc, append-nil}
use Rattle.std.specs.Int.{to_be_bytes, w32, w64, cast_unsigned}
use Rattle.std.proofs.lemmas.List.{nil_from_length}
use Rattle.amf_io.specs.Field.{Kind, Field, field, flat, contents, text_kind, raw_kind, u29_kind, no_refusal}
use Rattle.amf_wire.specs.Style.{Style}
use Rattle.amf_wire.specs.U29.{IsU29}
use Rattle.amf_wire.specs.Integer.{integer_bits}
use Rattle.amf_graph.specs.Graph.{Leaf, undefined, null, boolean, integer, double, text, Value, leaf, node, Head, date, array, object, wrapper, bytes, xml_document, xml, ints, uints, doubles, values, dictionary, Graph, node_at, class_name, Fits, AreMembers}
use Rattle.amf_graph.proofs.NameOrder.{by_name_length}
use Rattle.amf3_spelling.specs.Tables.{Entry, plain, external, Words, Tables, no_tables, with_words, add_node}
use Rattle.amf3_spelling.specs.Refusals3.{marker, leaf_marker, text_header_kind, class_header_kind, class_kind}
use Rattle.amf3_spelling.specs.Then.{Spelling as Fields, Then as FieldThen}
use Rattle.amf3_spelling.specs.Words3.{TextBy, empty as empty_text, whole as whole_text, placed as placed_text, Text as FieldText, Texts as FieldTexts, EntryTexts, TraitsBy, given as given_traits, placed as named_traits}
use Rattle.amf3_spelling.specs.Segments3 as fields
use Rattle.amf3_spelling.specs.Headers3.{Counted, HeaderBy}
use Rattle.amf3_spelling.specs.Nodes3 as nodes
use Rattle.amf3_spelling.specs.Spells3.{LeafBy, Marked, InlineIn, Spelled3}
use Rattle.amf3_spelling.specs.Spells3 as spells
use Rattle.amf3_spelling.proofs.ByteSpelling.{Spelling, Then, Text, empty, whole, placed, Texts, entry_texts, TraitsOf, given, indexed, Step, byte, number, flag, raw, word, StepOf, Segment, step, value, values_then, pairs_then, four_bytes, signed_bytes, eight_bytes, header_step, body, segments_of, leaf_segments, Lifted, Segments, Placed, Begun, ValueBy, NodeIn, Spells, Spelled}

pub flat_append : (fs gs : List Field) → flat (fs ++ gs) ≡ flat fs ++ flat gs
flat_append [] gs = refl
flat_append (f ∷ fs) gs = ap (λ b. f.bytes ++ b) (flat_append fs gs) ∙ sym (append_assoc f.bytes (flat fs) (flat gs))

pub flat_contents : (kind : ℕ → Kind) (x : List ℕ) → flat (contents kind x) ≡ x
flat_contents kind [] = refl
flat_contents kind (b ∷ x) = append-nil (b ∷ x)

one_field : (fs : List Field) (k : Kind) (h : List ℕ) → fs ≡ field k h ∷ [] → flat fs ≡ h
one_field fs k h e = ap flat e ∙ append-nil h

two_fields : (fs : List Field) (k l : Kind) (h x : List ℕ) → fs ≡ field k h ∷ field l x ∷ [] → flat fs ≡ h ++ x
two_fields fs k l h x e = ap flat e ∙ ap (λ b. h ++ b) (append-nil x)

-- the number of names does not count for what fits but where there are none
none_too : {X : Type 0} (xs ys : List X) → length xs ≡ length ys → xs ≡ [] → ys ≡ []
none_too xs ys l e = nil_from_length ys (sym l ∙ ap length e)

members_too : (f : Bool) (v w : List (List ℕ × Value)) → length v ≡ length w → AreMembers f v → AreMembers f w
members_too true v w l e = tt
members_too false v w l e = none_too v w l e

pub fits_too : (a : Head) (v w : List (List ℕ × Value)) (vs ws : List Value) → length v ≡ length w → length vs ≡ length ws → Fits a v vs → Fits a w ws
fits_too (date p) v w vs ws l m f = (f.0, none_too v w l f.1, none_too vs ws m f.2)
fits_too array v w vs ws l m f = tt
fits_too (object t) v w vs ws l m f = (sym m ∙ f.0, members_too t.dynamic v w l f.1)
fits_too (wrapper c) v w vs ws l m f = (none_too v w l f.0, sym m ∙ f.1)
fits_too (bytes x) v w vs ws l m f = (f.0, none_too v w l f.1, none_too vs ws m f.2)
fits_too (xml_document x) v w vs ws l m f = (f.0, none_too v w l f.1, none_too vs ws m f.2)
fits_too (xml x) v w vs ws l m f = (f.0, none_too v w l f.1, none_too vs ws m f.2)
fits_too (ints i x) v w vs ws l m f = (f.0, none_too v w l f.1, none_too vs ws m f.2)
fits_too (uints i x) v w vs ws l m f = (f.0, none_too v w l f.1, none_too vs ws m f.2)
fits_too (doubles i x) v w vs ws l m f = (f.0, none_too v w l f.1, none_too vs ws m f.2)
fits_too (values i c) v w vs ws l m f = none_too v w l f
fits_too (dictionary i) v w vs ws l m f = (none_too v w l f.0, f.1, sym m ∙ f.2)

-- from fields to their bytes

abbrev pub To : {S : Type 0} → (S → List Field → S → Type 0) → (S → List ℕ → S → Type 0) → Type 0
To {S} A B = (t : S) (fs : List Field) (t' : S) → A t fs t' → B t (flat fs) t'

to_then : {S : Type 0} (A A' : S → List Field → S → Type 0) (B B' : S → List ℕ → S → Type 0) → To A B → To A' B' → To (FieldThen A A') (Then B B')
to_then A A' B B' f g t fs t' z = record { front = flat z.front; back = flat z.back; mid = z.mid; joined = ap flat z.joined ∙ flat_append z.front z.back; first = f t z.front z.mid z.first; second = g z.mid z.back t' z.second }

to_text_by : (s : Style) (header : Kind) (contents : ℕ → Kind) (x : List ℕ) → To (TextBy s header contents x) (Text s x)
to_text_by s header contents x t fs t' (empty_text e h u f a) = empty e (subst (λ b. IsU29 s 1 b) (sym (one_field fs header h f)) u) a
to_text_by s header contents x t fs t' (whole_text e i o h u f a) = whole e i o h u (two_fields fs header (contents (length x)) h x f) a
to_text_by s header contents x t fs t' (placed_text e k i o h u f a) = placed e k i o (subst (λ b. IsU29 s (2 * k) b) (sym (one_field fs header h f)) u) a

to_text : (s : Style) (x : List ℕ) → To (FieldText s x) (Text s x)
to_text s x t fs t' z = to_text_by s (text_header_kind (length t.texts)) text_kind x t fs t' z

to_texts : (s : Style) (xs : List (List ℕ)) → To (FieldTexts s xs) (Texts s xs)
to_texts s [] t fs t' z = (ap flat z.0, z.1)
to_texts s (x ∷ xs) t fs t' z = to_then (FieldText s x) (FieldTexts s xs) (Text s x) (Texts s xs) (to_text s x) (to_texts s xs) t fs t' z

to_entry : (s : Style) (e : Entry) → To (EntryTexts s e) (Texts s (entry_texts e))
to_entry s (plain c) t fs t' z = to_texts s (c.class ∷ c.sealed) t fs t' z
to_entry s (external c) t fs t' z = record { front = flat fs; back = []; mid = t'; joined = sym (append-nil (flat fs)); first = to_text_by s (class_header_kind t.texts) class_kind (class_name c) t fs t' z; second = (refl, refl) }

to_traits : (s : Style) (e : Entry) (n : ℕ) (header : List ℕ) → IsU29 s n header → (t : Words) (fs : List Field) (t' : Words) → TraitsBy s e n t fs t' → TraitsOf s e t (header ++ flat fs) t'
to_traits s e n header h t fs t' (given_traits o i u texts a) = given o n header (flat fs) u i h (to_entry s e t fs u texts) refl a
to_traits s e n header h t fs t' (named_traits k i o m f a) = indexed k i o (subst (λ b. IsU29 s (4 * k + 1) b) (sym (ap (λ z. header ++ flat z) f ∙ append-nil header)) (subst (λ w. IsU29 s w header) m h)) a

to_lifted : (A : Fields Words) (B : Spelling Words) → To A B → To (fields.Lifted A) (Lifted B)
to_lifted A B f t fs t' (w, z, e) = (w, f t.words fs w z, e)

-- a step for each segment that names no value
to_flag : (s : Style) (f : Bool) (fs : List Field) → fields.Fixed s (fields.flag f) fs → (m : ℕ) × (flat fs ≡ m ∷ []) × fields.IsFlag s f m
to_flag s f fs z = (z.0, ap flat z.2, z.1)

module _ (s : Style) (R : Value → Fields Tables) (R' : Value → Spelling Tables) (r : (v : Value) → To (R v) (R' v)) where
  abbrev ToSegments : List fields.Segment → List Segment → Type 0
  ToSegments ps qs = To (fields.Segments R s ps) (Segments R' s qs)

  to_end : ToSegments [] []
  to_end t fs t' z = (ap flat z.0, z.1)

  to_value : (v : Value) (ps : List fields.Segment) (qs : List Segment) → ToSegments ps qs → ToSegments (fields.value v ∷ ps) (value v ∷ qs)
  to_value v ps qs k t fs t' z = to_then (R v) (fields.Segments R s ps) (R' v) (Segments R' s qs) (r v) k t fs t' z

  to_word : (x : List ℕ) (ps : List fields.Segment) (qs : List Segment) → ToSegments ps qs → ToSegments (fields.word x ∷ ps) (step (word x) ∷ qs)
  to_word x ps qs k t fs t' z = to_then (fields.Lifted (FieldText s x)) (fields.Segments R s ps) (Lifted (Text s x)) (Segments R' s qs) (to_lifted (FieldText s x) (Text s x) (to_text s x)) k t fs t' z

  to_flags : (f : Bool) (ps : List fields.Segment) (qs : List Segment) → ToSegments ps qs → ToSegments (fields.flag f ∷ ps) (step (flag f) ∷ qs)
  to_flags f ps qs k t fs t' z = record {
    front = flat z.front;
    back = flat z.back;
    mid = z.mid;
    joined = ap flat z.joined ∙ flat_append z.front z.back;
    first = (t.words, (to_flag s f z.front z.first.0, refl), z.first.1);
    second = k z.mid z.back t' z.second;
  }

  to_values : (vs : List Value) (ps : List fields.Segment) (qs : List Segment) → ToSegments ps qs → ToSegments (fields.values_then vs ps) (values_then vs qs)
  to_values [] ps qs k = k
  to_values (v ∷ vs) ps qs k = to_value v (fields.values_then vs ps) (values_then vs qs) (to_values vs ps qs k)

  to_pairs : (w : List (List ℕ × Value)) (ps : List fields.Segment) (qs : List Segment) → ToSegments ps qs → ToSegments (fields.pairs_then w ps) (pairs_then w qs)
  to_pairs [] ps qs k = to_word [] ps qs k
  to_pairs (p ∷ w) ps qs k = to_word p.0 (fields.value p.1 ∷ fields.pairs_then w ps) (value p.1 ∷ pairs_then w qs) (to_value p.1 (fields.pairs_then w ps) (pairs_then w qs) (to_pairs w ps qs k))

  to_members : (f : Bool) (w : List (List ℕ × Value)) → ToSegments (cond f (fields.pairs_then w []) []) (cond f (pairs_then w []) [])
  to_members true w = to_pairs w [] [] to_end
  to_members false w = to_end

  -- the bytes of segments that change nothing
  abbrev Still : List fields.Segment → List ℕ → Type 0
  Still ps x = (t : Tables) (fs : List Field) (t' : Tables) → fields.Segments R s ps t fs t' → (flat fs ≡ x) × (t' ≡ t)

  to_raw : (ps : List fields.Segment) (x : List ℕ) → Still ps x → ToSegments ps (step (raw x) ∷ [])
  to_raw ps x k t fs t' z = let o = k t fs t' z in record { front = flat fs; back = []; mid = t; joined = sym (append-nil (flat fs)); first = (t.words, (o.0, refl), refl); second = (refl, o.1) }

  still_more : (x y : List ℕ) (fs : List Field) (front back : List Field) → fs ≡ front ++ back → flat front ≡ x → flat back ≡ y → flat fs ≡ x ++ y
  still_more x y fs front back e a b = ap flat e ∙ flat_append front back ∙ ap (λ w. w ++ flat back) a ∙ ap (λ w. x ++ w) b

  still_chars : (x : List ℕ) → Still (fields.chars x ∷ []) x
  still_chars x t fs t' z = (still_more x [] fs z.front z.back z.joined (ap flat z.first.0 ∙ flat_contents text_kind x) (ap flat z.second.0) ∙ append-nil x, z.second.1 ∙ z.first.1)

  still_bytes : (x : List ℕ) → Still (fields.raw x ∷ []) x
  still_bytes x t fs t' z = (still_more x [] fs z.front z.back z.joined (ap flat z.first.0 ∙ flat_contents raw_kind x) (ap flat z.second.0) ∙ append-nil x, z.second.1 ∙ z.first.1)

  still_eight : (p : ℕ) → Still (fields.eight p ∷ []) (to_be_bytes w64 p)
  still_eight p t fs t' z = (still_more (to_be_bytes w64 p) [] fs z.front z.back z.joined (one_field z.front (raw_kind 8) (to_be_bytes w64 p) z.first.0) (ap flat z.second.0) ∙ append-nil (to_be_bytes w64 p), z.second.1 ∙ z.first.1)

  still_fours : (ns : List ℕ) → Still (fields.fours ns) (four_bytes ns)
  still_fours [] t fs t' z = (ap flat z.0, z.1)
  still_fours (n ∷ ns) t fs t' z = let o = still_fours ns z.mid z.back t' z.second in (still_more (to_be_bytes w32 n) (four_bytes ns) fs z.front z.back z.joined (one_field z.front (raw_kind 4) (to_be_bytes w32 n) z.first.0) o.0, o.1 ∙ z.first.1)

  still_signed : (ns : List ℤ) → Still (fields.signed_fours ns) (signed_bytes ns)
  still_signed [] t fs t' z = (ap flat z.0, z.1)
  still_signed (n ∷ ns) t fs t' z = let o = still_signed ns z.mid z.back t' z.second in (still_more (to_be_bytes w32 (cast_unsigned w32 n)) (signed_bytes ns) fs z.front z.back z.joined (one_field z.front (raw_kind 4) (to_be_bytes w32 (cast_unsigned w32 n)) z.first.0) o.0, o.1 ∙ z.first.1)

  still_eights : (ns : List ℕ) → Still (fields.eights ns) (eight_bytes ns)
  still_eights [] t fs t' z = (ap flat z.0, z.1)
  still_eights (n ∷ ns) t fs t' z = let o = still_eights ns z.mid z.back t' z.second in (still_more (to_be_bytes w64 n) (eight_bytes ns) fs z.front z.back z.joined (one_field z.front (raw_kind 8) (to_be_bytes w64 n) z.first.0) o.0, o.1 ∙ z.first.1)

  -- kind by kind
  to_body : (a : Head) (w : List (List ℕ × Value)) (vs : List Value) → ToSegments (fields.segments_of a w vs) (body a w vs)
  to_body (date p) w vs = to_raw (fields.eight p ∷ []) (to_be_bytes w64 p) (still_eight p)
  to_body array w vs = to_pairs w (fields.values_then vs []) (values_then vs []) (to_values vs [] [] to_end)
  to_body (object c) w vs = to_values vs (cond c.dynamic (fields.pairs_then w []) []) (cond c.dynamic (pairs_then w []) []) (to_members c.dynamic w)
  to_body (wrapper c) w vs = to_values vs [] [] to_end
  to_body (bytes x) w vs = to_raw (fields.raw x ∷ []) x (still_bytes x)
  to_body (xml_document x) w vs = to_raw (fields.chars x ∷ []) x (still_chars x)
  to_body (xml x) w vs = to_raw (fields.chars x ∷ []) x (still_chars x)
  to_body (ints f x) w vs = to_flags f (fields.signed_fours x) (step (raw (signed_bytes x)) ∷ []) (to_raw (fields.signed_fours x) (signed_bytes x) (still_signed x))
  to_body (uints f x) w vs = to_flags f (fields.fours x) (step (raw (four_bytes x)) ∷ []) (to_raw (fields.fours x) (four_bytes x) (still_fours x))
  to_body (doubles f x) w vs = to_flags f (fields.eights x) (step (raw (eight_bytes x)) ∷ []) (to_raw (fields.eights x) (eight_bytes x) (still_eights x))
  to_body (values f c) w vs = to_flags f (fields.word c ∷ fields.values_then vs []) (step (word c) ∷ values_then vs []) (to_word c (fields.values_then vs []) (values_then vs []) (to_values vs [] [] to_end))
  to_body (dictionary f) w vs = to_flags f (fields.values_then vs []) (values_then vs []) (to_values vs [] [] to_end)

-- a header with what stands behind it
abbrev ToHeader : Style → Head → List Value → ℕ → Type 0
ToHeader s a vs n = (header : List ℕ) → IsU29 s n header → (w : Words) (fs : List Field) (w' : Words) → HeaderBy s a vs n w fs w' → StepOf s (header_step a vs) w (header ++ flat fs) w'

to_counted : (s : Style) (count n : ℕ) (header : List ℕ) → IsU29 s n header → (w : Words) (fs : List Field) (w' : Words) → Counted count n w fs w' → IsU29 s (2 * count + 1) (header ++ flat fs) × (w' ≡ w)
to_counted s count n header h w fs w' z = (subst (λ b. IsU29 s (2 * count + 1) b) (sym (ap (λ y. header ++ flat y) z.1.0 ∙ append-nil header)) (subst (λ y. IsU29 s y header) z.0 h), z.1.1)

to_header : (s : Style) (a : Head) (vs : List Value) (n : ℕ) → ToHeader s a vs n
to_header s (date p) vs n header h w fs w' z = let o = to_counted s z.0 n header h w fs w' z.2 in ((z.0, o.0, z.1), o.1)
to_header s array vs n header h w fs w' z = to_counted s (length vs) n header h w fs w' z
to_header s (object c) vs n header h w fs w' z = to_traits s (plain c) n header h w fs w' z
to_header s (wrapper c) vs n header h w fs w' z = to_traits s (external c) n header h w fs w' z
to_header s (bytes x) vs n header h w fs w' z = to_counted s (length x) n header h w fs w' z
to_header s (xml_document x) vs n header h w fs w' z = to_counted s (length x) n header h w fs w' z
to_header s (xml x) vs n header h w fs w' z = to_counted s (length x) n header h w fs w' z
to_header s (ints f x) vs n header h w fs w' z = to_counted s (length x) n header h w fs w' z
to_header s (uints f x) vs n header h w fs w' z = to_counted s (length x) n header h w fs w' z
to_header s (doubles f x) vs n header h w fs w' z = to_counted s (length x) n header h w fs w' z
to_header s (values f c) vs n header h w fs w' z = to_counted s (length vs) n header h w fs w' z
to_header s (dictionary f) vs n header h w fs w' z = let o = to_counted s z.0 n header h w fs w' z.2 in let e : 2 * z.0 + 1 ≡ length vs + 1 = omega (arith, z.1) in (subst (λ m. IsU29 s m (header ++ flat fs)) e o.0, o.1)

to_segments : (s : Style) (R : Value → Fields Tables) (R' : Value → Spelling Tables) → ((v : Value) → To (R v) (R' v)) → (a : Head) (w : List (List ℕ × Value)) (vs : List Value) (n : ℕ) (header : List ℕ) → IsU29 s n header → (t : Tables) (fs : List Field) (t' : Tables)
    → FieldThen (fields.Lifted (HeaderBy s a vs n)) (fields.Segments R s (fields.segments_of a w vs)) t fs t' → Segments R' s (segments_of a w vs) t (header ++ flat fs) t'
to_segments s R R' r a w vs n header h t fs t' z = record {
  front = header ++ flat z.front;
  back = flat z.back;
  mid = z.mid;
  joined = ap (λ b. header ++ b) (ap flat z.joined ∙ flat_append z.front z.back) ∙ sym (append_assoc header (flat z.front) (flat z.back));
  first = (z.first.0, to_header s a vs n header h t.words z.front z.first.0 z.first.1, z.first.2);
  second = to_body s R R' r a w vs z.mid z.back t' z.second;
}

to_named : (s : Style) (g : Graph) (i : ℕ) (t : Tables) (fs : List Field) (t' : Tables) → nodes.Placed s g i t fs t' → (c : List ℕ) × (flat fs ≡ marker (node_at g i).head ∷ c) × Placed s i t c t'
to_named s g i t fs t' z = (z.header, ap flat z.fields ∙ ap (λ b. marker (node_at g i).head ∷ b) (append-nil z.header), record { place = z.place; here = z.there; spelled = z.spelled; same = z.same })

pub to_begun : (s : Style) (R : Value → Fields Tables) (R' : Value → Spelling Tables) → ((v : Value) → To (R v) (R' v)) → (g : Graph) (i : ℕ) (t : Tables) (fs : List Field) (t' : Tables) → nodes.Begun R s g i t fs t' → (c : List ℕ) × (flat fs ≡ marker (node_at g i).head ∷ c) × Begun R' s g i t c t'
to_begun s R R' r g i t fs t' z = (
  z.header ++ flat z.rest,
  ap flat z.fields,
  record {
    exists = z.there;
    new = z.new;
    wire = z.pairs;
    sorted = z.same_names;
    in_order = z.in_order;
    named = z.named;
    fits = fits_too (node_at g i).head (node_at g i).names z.pairs (node_at g i).values (node_at g i).values (sym (by_name_length (node_at g i).names) ∙ ap length (sym z.same_names) ∙ by_name_length z.pairs) refl z.fits;
    body = to_segments s R R' r (node_at g i).head z.pairs (node_at g i).values z.number z.header z.spelled (add_node t i) z.rest t' z.behind;
  },
)

-- one step of words alone
one_step : (s : Style) (R : Value → Spelling Tables) (x : Step) (t : Tables) (b : List ℕ) (t' : Tables) → Lifted (StepOf s x) t b t' → Segments R s (step x ∷ []) t b t'
one_step s R x t b t' z = record { front = b; back = []; mid = t'; joined = sym (append-nil b); first = z; second = (refl, refl) }

to_leaf_rest : (s : Style) (x : Leaf) (t : Tables) (fs : List Field) (t' : Tables) → fields.Lifted (LeafBy s x) t fs t' → Segments (λ v t b t'. ⊥) s (leaf_segments x) t (flat fs) t'
to_leaf_rest s undefined t fs t' z = (ap flat z.1.0, z.2 ∙ ap (λ w. with_words t w) z.1.1)
to_leaf_rest s null t fs t' z = (ap flat z.1.0, z.2 ∙ ap (λ w. with_words t w) z.1.1)
to_leaf_rest s (boolean b) t fs t' z = (ap flat z.1.0, z.2 ∙ ap (λ w. with_words t w) z.1.1)
to_leaf_rest s (integer n) t fs t' z = one_step s (λ v t b t'. ⊥) (number (integer_bits n)) t (flat fs) t' (z.0, (subst (λ b. IsU29 s (integer_bits n) b) (sym (one_field fs (u29_kind no_refusal) z.1.0 z.1.2)) z.1.1, z.1.3), z.2)
to_leaf_rest s (double p) t fs t' z = one_step s (λ v t b t'. ⊥) (raw (to_be_bytes w64 p)) t (flat fs) t' (z.0, (one_field fs (raw_kind 8) (to_be_bytes w64 p) z.1.0, z.1.1), z.2)
to_leaf_rest s (text x) t fs t' z = one_step s (λ v t b t'. ⊥) (word x) t (flat fs) t' (z.0, to_text s x t.words fs z.0 z.1, z.2)

to_leaf : (s : Style) (x : Leaf) → To (FieldThen (Marked (leaf_marker x)) (fields.Lifted (LeafBy s x))) (Segments (λ v t b t'. ⊥) s (step (byte (leaf_marker x)) ∷ leaf_segments x))
to_leaf s x t fs t' z = record {
  front = flat z.front;
  back = flat z.back;
  mid = z.mid;
  joined = ap flat z.joined ∙ flat_append z.front z.back;
  first = (t.words, (ap flat z.first.0, refl), z.first.1);
  second = to_leaf_rest s x z.mid z.back t' z.second;
}

pub to_value_by : (s : Style) (g : Graph) (I : ℕ → Fields Tables) (N : ℕ → Spelling Tables) → ((i : ℕ) (t : Tables) (b : List ℕ) (t' : Tables) → Placed s i t b t' → N i t b t') → ((i : ℕ) (t : Tables) (fs : List Field) (t' : Tables) → I i t fs t' → (c : List ℕ) × (flat fs ≡ marker (node_at g i).head ∷ c) × N i t c t') → (v : Value) → To (spells.ValueBy I s g v) (ValueBy N s g v)
to_value_by s g I N p f (leaf x) t fs t' z = (z.0, to_leaf s x t fs t' z.1)
to_value_by s g I N p f (node i) t fs t' (inl z) = let o = to_named s g i t fs t' z in (o.0, o.1, p i t o.0 t' o.2)
to_value_by s g I N p f (node i) t fs t' (inr z) = f i t fs t' z

placed_in : (s : Style) (d : ℕ) (g : Graph) (i : ℕ) (t : Tables) (b : List ℕ) (t' : Tables) → Placed s i t b t' → NodeIn d s g i t b t'
placed_in s zero g i t b t' p = p
placed_in s (suc d) g i t b t' p = inl p

to_inline : (d : ℕ) (s : Style) (g : Graph) (i : ℕ) (t : Tables) (fs : List Field) (t' : Tables) → InlineIn d s g i t fs t' → (c : List ℕ) × (flat fs ≡ marker (node_at g i).head ∷ c) × NodeIn d s g i t c t'
to_inline zero s g i t fs t' z = absurd z
to_inline (suc d) s g i t fs t' z =
    let o = to_begun s (spells.SpellsIn d s g) (Spells d s g) (to_value_by s g (InlineIn d s g) (NodeIn d s g) (placed_in s d g) (to_inline d s g)) g i t fs t' z in
    (o.0, o.1, inr o.2)

pub to_spells : (d : ℕ) (s : Style) (g : Graph) (v : Value) → To (spells.SpellsIn d s g v) (Spells d s g v)
to_spells d s g v = to_value_by s g (InlineIn d s g) (NodeIn d s g) (placed_in s d g) (to_inline d s g) v

pub to_spelled : (s : Style) (g : Graph) (b : List ℕ) → Spelled3 s g b → Spelled s g b
to_spelled s g b (fs, (t, (d, z)), e) = (d, t, subst (λ c. Spells d s g g.root no_tables c t) (sym e) (to_spells d s g g.root no_tables fs t z))
