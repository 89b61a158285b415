-- No field of a spelling is refused, and each is whole: the rows of refusals agree with the spellings.
use Rattle.std.proofs.Common.{◌≡◌, ◌≢◌, ℕ, zero, suc, ◌+◌, ◌*◌, ◌/◌, ◌%◌, ◌<◌, Bool, true, false, ◌&&◌, cond, ℤ, List, [], ◌∷◌, ◌++◌, length, slice_get, Option, Some, None, refl, ap, sym, ◌∙◌, subst, arith, inl, inr, nat_le, ◌==◌, if◌then◌else◌}
use Rattle.std.specs.List.{AllByRecursion}
use Rattle.std.specs.Int.{to_be_bytes, w32, w64}
use Rattle.amf_io.specs.declared.reason.Reason.{Reason}
use Rattle.amf_io.specs.declared.reason.Reason.TheVariants.{BadTraits, BadTextIndex, BadText, WrongKind, UnknownExternal}
use Rattle.amf_io.specs.Field.{Kind, Field, IsClean, field, fixed, contents, raw_kind, text_kind, u29_kind, no_refusal}
use Rattle.amf_wire.specs.Style.{Style}
use Rattle.amf_wire.specs.U29.{IsU29}
use Rattle.amf_wire.specs.Text.{IsText}
use Rattle.amf_wire.proofs.TextTest.{is_text-is}
use Rattle.amf_wire.proofs.U29Fields.{IsOneField, one_field}
use Rattle.amf_graph.specs.declared.wrapped.Wrapped.{Wrapped}
use Rattle.amf_graph.specs.declared.wrapped.Wrapped.TheVariants.{ArrayCollection, ArrayList, ObjectProxy}
use Rattle.amf_graph.specs.Graph.{Leaf, undefined, null, boolean, integer, double, text, Value, leaf, node, Head, xml_document, date, array, object, wrapper, xml, bytes, ints, uints, doubles, values, dictionary, Fits, Graph, node_at, class_name}
use Rattle.amf3_spelling.specs.Tables.{Entry, plain, external, Words, Tables, add_node}
use Rattle.amf3_spelling.specs.Then.{Spelling, Then, Plain}
use Rattle.amf3_spelling.specs.Refusals3.{leaf_marker, marker, markers, marker_refusal, kind_refusal, header_refusal, text_header_refusal, class_header_refusal, class_refusal, indexed_class_refusal, is_served_length, class_header_kind, class_kind}
use Rattle.amf3_spelling.specs.Words3.{TextBy, empty, placed, Text, Texts, EntryTexts, EntryNumber, TraitsBy, given}
use Rattle.amf3_spelling.specs.Words3 as words
use Rattle.amf3_spelling.specs.Segments3.{Segment, flag, four, eight, raw, chars, word, value, Fixed, Lifted, Segments, segments_of, values_then, pairs_then, fours, signed_fours, eights}
use Rattle.amf3_spelling.specs.Headers3.{HeaderBy, marker_field}
use Rattle.amf3_spelling.specs.Nodes3.{Begun}
use Rattle.amf3_spelling.specs.Spells3.{LeafBy, ValueBy, InlineIn, SpellsIn, Spells3}
use Rattle.amf3_spelling.proofs.OddHeaders.{header_odd}

abbrev pub AllClean : List Field → Type 0
AllClean = AllByRecursion IsClean

-- whatever A relates has clean fields
abbrev pub Cleans : {S : Type 0} → (S → List Field → S → Type 0) → Type 0
Cleans {S} A = (t : S) (fs : List Field) (t' : S) → A t fs t' → AllClean fs

pub clean_append : (fs gs : List Field) → AllClean fs → AllClean gs → AllClean (fs ++ gs)
clean_append [] gs a b = b
clean_append (f ∷ fs) gs (h, a) b = (h, clean_append fs gs a b)

pub clean_as : (fs gs : List Field) → gs ≡ fs → AllClean fs → AllClean gs
clean_as fs gs e a = subst AllClean (sym e) a

pub clean_then : {S : Type 0} (A B : S → List Field → S → Type 0) → Cleans A → Cleans B → Cleans (Then A B)
clean_then A B f g t fs t' z = clean_as (z.front ++ z.back) fs z.joined (clean_append z.front z.back (f t z.front z.mid z.first) (g z.mid z.back t' z.second))

clean_lifted : (A : Spelling Words) → Cleans A → Cleans (Lifted A)
clean_lifted A f t fs t' (w, z, e) = f t.words fs w z

-- a field of a number
number_field : (s : Style) (n : ℕ) (b : List ℕ) (refusal : ℕ → Option Reason) → IsU29 s n b → refusal n ≡ None → IsClean (field (u29_kind refusal) b)
number_field s n b refusal u e = let h : IsOneField n b = one_field u.spelled in record { is_whole = h.is_whole; clean = ap refusal h.value ∙ e }

le_self : (n : ℕ) → nat_le n n ≡ true
le_self n = grind arith

judged_field : (x : List ℕ) (refusal : List ℕ → Option Reason) → x ≢ [] → refusal x ≡ None → IsClean (field (record { size = fixed (length x); refusal = refusal }) x)
judged_field [] refusal h e = absurd (h refl)
judged_field (b ∷ x) refusal h e = record { is_whole = ap (λ c. if c then Some (suc (length x)) else None) (le_self (suc (length x))); clean = e }

pub raw_field : (x : List ℕ) → x ≢ [] → IsClean (field (raw_kind (length x)) x)
raw_field x h = judged_field x (λ found. None) h refl

text_clean : (x : List ℕ) → IsText x → (text_kind (length x)).refusal x ≡ None
text_clean x t = ap (λ b. if b then None else Some BadText) ((is_text-is x).1 t)

pub text_field : (x : List ℕ) → IsText x → x ≢ [] → IsClean (field (text_kind (length x)) x)
text_field x t h = judged_field x (text_kind (length x)).refusal h (text_clean x t)

pub contents_clean : (kind : ℕ → Kind) (x : List ℕ) → (x ≢ [] → IsClean (field (kind (length x)) x)) → AllClean (contents kind x)
contents_clean kind [] h = tt
contents_clean kind (b ∷ x) h = (h (λ e. cc), tt)

-- an index that is there is below the length
pub below_length : {X : Type 0} (xs : List X) (k : ℕ) (x : X) → slice_get xs k ≡ Some x → k < length xs
below_length [] k x e = let h : None ≡ Some x = e in absurd cc
below_length (y ∷ xs) zero x e = omega arith
below_length (y ∷ xs) (suc k) x e = let h : k < length xs = below_length xs k x e in omega (arith, h)

even_is : (k : ℕ) → ((2 * k) % 2 == 0) ≡ true
even_is k = grind arith

odd_is : (k : ℕ) → ((2 * k + 1) % 2 == 0) ≡ false
odd_is k = grind arith

half_is : (k : ℕ) → 2 * k / 2 ≡ k
half_is k = omega arith

odd_half_is : (k : ℕ) → (2 * k + 1) / 2 ≡ k
odd_half_is k = omega arith

odd_header : (texts k : ℕ) → text_header_refusal texts (2 * k + 1) ≡ None
odd_header texts k = ap (λ b. if b && nat_le texts ((2 * k + 1) / 2) then Some BadTextIndex else None) (odd_is k)

even_header : (texts k : ℕ) → k < texts → text_header_refusal texts (2 * k) ≡ None
even_header texts k h = ap (λ b. if b then Some BadTextIndex else None) (both_false ((2 * k) % 2 == 0) (nat_le texts (2 * k / 2)) (ap (nat_le texts) (half_is k) ∙ not_below texts k h))
  where
    both_false : (a b : Bool) → b ≡ false → (a && b) ≡ false
    both_false true b e = e
    both_false false b e = refl

    not_below : (texts k : ℕ) → k < texts → nat_le texts k ≡ false
    not_below texts k h = grind arith

clean_text : (s : Style) (x : List ℕ) → Cleans (Text s x)
clean_text s x t fs t' (empty e h u f a) = clean_as _ fs f (number_field s 1 h (text_header_refusal (length t.texts)) u (odd_header (length t.texts) 0), tt)
clean_text s x t fs t' (words.whole e i o h u f a) = clean_as _ fs f (number_field s (2 * length x + 1) h (text_header_refusal (length t.texts)) u (odd_header (length t.texts) (length x)), (text_field x i e, tt))
clean_text s x t fs t' (placed e k i o h u f a) = clean_as _ fs f (number_field s (2 * k) h (text_header_refusal (length t.texts)) u (even_header (length t.texts) k (below_length t.texts k x i)), tt)

clean_texts : (s : Style) (xs : List (List ℕ)) → Cleans (Texts s xs)
clean_texts s [] t fs t' z = clean_as [] fs z.0 tt
clean_texts s (x ∷ xs) t fs t' z = clean_then (Text s x) (Texts s xs) (clean_text s x) (clean_texts s xs) t fs t' z

served_class : (c : Wrapped) → class_refusal (class_name c) ≡ None
served_class ArrayCollection = refl
served_class ArrayList = refl
served_class ObjectProxy = refl

served_length : (c : Wrapped) → is_served_length (length (class_name c)) ≡ true
served_length ArrayCollection = refl
served_length ArrayList = refl
served_length ObjectProxy = refl

has_name : (c : Wrapped) → class_name c ≢ []
has_name ArrayCollection e = cc
has_name ArrayList e = cc
has_name ObjectProxy e = cc

class_inline : (texts : List (List ℕ)) (n : ℕ) → is_served_length n ≡ true → class_header_refusal texts (2 * n + 1) ≡ None
class_inline texts n e =
    ap (λ b. if b then indexed_class_refusal (slice_get texts ((2 * n + 1) / 2)) else (if is_served_length ((2 * n + 1) / 2) then None else Some UnknownExternal)) (odd_is n)
    ∙ ap (λ b. if b then None else Some UnknownExternal) (ap is_served_length (odd_half_is n) ∙ e)

class_indexed : (texts : List (List ℕ)) (k : ℕ) (c : Wrapped) → slice_get texts k ≡ Some (class_name c) → class_header_refusal texts (2 * k) ≡ None
class_indexed texts k c e =
    ap (λ b. if b then indexed_class_refusal (slice_get texts (2 * k / 2)) else (if is_served_length (2 * k / 2) then None else Some UnknownExternal)) (even_is k)
    ∙ ap (λ j. indexed_class_refusal (slice_get texts j)) (half_is k)
    ∙ ap indexed_class_refusal e ∙ served_class c

clean_class : (s : Style) (c : Wrapped) (w : Words) (fs : List Field) (w' : Words) → TextBy s (class_header_kind w.texts) class_kind (class_name c) w fs w' → AllClean fs
clean_class s c w fs w' (empty e h u f a) = absurd (has_name c e)
clean_class s c w fs w' (words.whole e i o h u f a) = clean_as _ fs f (number_field s (2 * length (class_name c) + 1) h (class_header_refusal w.texts) u (class_inline w.texts (length (class_name c)) (served_length c)), (judged_field (class_name c) class_refusal e (served_class c), tt))
clean_class s c w fs w' (placed e k i o h u f a) = clean_as _ fs f (number_field s (2 * k) h (class_header_refusal w.texts) u (class_indexed w.texts k c i), tt)

clean_entry : (s : Style) (e : Entry) → Cleans (EntryTexts s e)
clean_entry s (plain c) t fs t' z = clean_texts s (c.class ∷ c.sealed) t fs t' z
clean_entry s (external c) t fs t' z = clean_class s c t fs t' z

clean_traits : (s : Style) (e : Entry) (n : ℕ) → Cleans (TraitsBy s e n)
clean_traits s e n t fs t' (given o number u texts a) = clean_entry s e t fs u texts
clean_traits s e n t fs t' (words.placed k i o number f a) = clean_as [] fs f tt

clean_counted : (fs : List Field) → fs ≡ [] → AllClean fs
clean_counted fs e = clean_as [] fs e tt

clean_header : (s : Style) (h : Head) (vs : List Value) (n : ℕ) → Cleans (HeaderBy s h vs n)
clean_header s (xml_document x) vs n t fs t' z = clean_counted fs z.1.0
clean_header s (date p) vs n t fs t' (unused, o, z) = clean_counted fs z.1.0
clean_header s array vs n t fs t' z = clean_counted fs z.1.0
clean_header s (object c) vs n t fs t' z = clean_traits s (plain c) n t fs t' z
clean_header s (wrapper c) vs n t fs t' z = clean_traits s (external c) n t fs t' z
clean_header s (xml x) vs n t fs t' z = clean_counted fs z.1.0
clean_header s (bytes x) vs n t fs t' z = clean_counted fs z.1.0
clean_header s (ints f ns) vs n t fs t' z = clean_counted fs z.1.0
clean_header s (uints f ns) vs n t fs t' z = clean_counted fs z.1.0
clean_header s (doubles f ns) vs n t fs t' z = clean_counted fs z.1.0
clean_header s (values f x) vs n t fs t' z = clean_counted fs z.1.0
clean_header s (dictionary f) vs n t fs t' (entries, e, z) = clean_counted fs z.1.0

clean_leaf : (s : Style) (x : Leaf) → Cleans (LeafBy s x)
clean_leaf s undefined t fs t' z = clean_counted fs z.0
clean_leaf s null t fs t' z = clean_counted fs z.0
clean_leaf s (boolean b) t fs t' z = clean_counted fs z.0
clean_leaf s (integer n) t fs t' (digits, u, e, a) = clean_as _ fs e (number_field s _ digits no_refusal u refl, tt)
clean_leaf s (double p) t fs t' z = clean_as _ fs z.0 (raw_field (to_be_bytes w64 p) (λ e. cc), tt)
clean_leaf s (text x) t fs t' z = clean_text s x t fs t' z

-- markers

leaf_allowed : (x : Leaf) → marker_refusal (leaf_marker x) ≡ None
leaf_allowed undefined = refl
leaf_allowed null = refl
leaf_allowed (boolean false) = refl
leaf_allowed (boolean true) = refl
leaf_allowed (integer n) = refl
leaf_allowed (double p) = refl
leaf_allowed (text x) = refl

node_allowed : (h : Head) → marker_refusal (marker h) ≡ None
node_allowed (xml_document x) = refl
node_allowed (date p) = refl
node_allowed array = refl
node_allowed (object t) = refl
node_allowed (wrapper c) = refl
node_allowed (xml x) = refl
node_allowed (bytes x) = refl
node_allowed (ints f ns) = refl
node_allowed (uints f ns) = refl
node_allowed (doubles f ns) = refl
node_allowed (values f x) = refl
node_allowed (dictionary f) = refl

pub and_false : (a : Bool) → (a && false) ≡ false
and_false true = refl
and_false false = refl

equal_self : (n : ℕ) → (n == n) ≡ true
equal_self n = grind arith

marker_there : (g : Graph) (nodes : List ℕ) (k i : ℕ) → slice_get nodes k ≡ Some i → slice_get (markers g nodes) k ≡ Some (marker (node_at g i).head)
marker_there g [] k i e = let h : None ≡ Some i = e in absurd cc
marker_there g (j ∷ nodes) zero i e = let h : j ≡ i = cc in ap (λ n. Some (marker (node_at g n).head)) h
marker_there g (j ∷ nodes) (suc k) i e = marker_there g nodes k i e

named_header : (g : Graph) (nodes : List ℕ) (traits k i : ℕ) → slice_get nodes k ≡ Some i → header_refusal (markers g nodes) traits (marker (node_at g i).head) (2 * k) ≡ None
named_header g nodes traits k i e =
    let m : ℕ = marker (node_at g i).head in
    let table : List ℕ = markers g nodes in
    ap (λ b. if b then kind_refusal m (slice_get table (2 * k / 2)) else (if ((m == 0x0A) && ((2 * k) % 4 == 1)) && nat_le traits (2 * k / 4) then Some BadTraits else None)) (even_is k)
    ∙ ap (λ j. kind_refusal m (slice_get table j)) (half_is k)
    ∙ ap (kind_refusal m) (marker_there g nodes k i e)
    ∙ ap (λ b. if b then None else Some WrongKind) (equal_self m)

-- an index of traits is there
entry_inline : (s : Style) (e : Entry) (n traits : ℕ) → EntryNumber s e n → ((n % 4 == 1) && nat_le traits (n / 4)) ≡ false
entry_inline s (plain c) n traits e = let h : (n % 4 == 1) ≡ false = subst (λ k. (k % 4 == 1) ≡ false) (sym e) (remainder (length c.sealed) (cond c.dynamic 1 0)) in ap (λ b. b && nat_le traits (n / 4)) h
  where
    remainder : (a b : ℕ) → ((16 * a + (8 * b + 3)) % 4 == 1) ≡ false
    remainder a b = grind arith
entry_inline s (external c) n traits (unused, e, o) = let h : (n % 4 == 1) ≡ false = subst (λ k. (k % 4 == 1) ≡ false) (sym e) (remainder unused) in ap (λ b. b && nat_le traits (n / 4)) h
  where
    remainder : (a : ℕ) → ((8 * a + 7) % 4 == 1) ≡ false
    remainder a = grind arith

traits_inline : (s : Style) (e : Entry) (n : ℕ) (w : Words) (fs : List Field) (w' : Words) → TraitsBy s e n w fs w' → ((n % 4 == 1) && nat_le (length w.traits) (n / 4)) ≡ false
traits_inline s e n w fs w' (given o number u texts a) = entry_inline s e n (length w.traits) number
traits_inline s e n w fs w' (words.placed k i o number f a) =
    ap (λ b. (n % 4 == 1) && b) (ap (nat_le (length w.traits)) (ap (λ j. j / 4) number ∙ quarter k) ∙ not_below (length w.traits) k (below_length w.traits k e i)) ∙ and_false (n % 4 == 1)
  where
    quarter : (k : ℕ) → (4 * k + 1) / 4 ≡ k
    quarter k = omega arith

    not_below : (m k : ℕ) → k < m → nat_le m k ≡ false
    not_below m k h = grind arith

regroup : (a b c : Bool) → a ≡ true → ((a && b) && c) ≡ (b && c)
regroup true b c e = refl
regroup false b c e = cc

no_bad_traits : (s : Style) (h : Head) (vs : List Value) (n : ℕ) (w : Words) (fs : List Field) (w' : Words) → HeaderBy s h vs n w fs w' → (((marker h == 0x0A) && (n % 4 == 1)) && nat_le (length w.traits) (n / 4)) ≡ false
no_bad_traits s (object c) vs n w fs w' z = traits_inline s (plain c) n w fs w' z
no_bad_traits s (wrapper c) vs n w fs w' z = traits_inline s (external c) n w fs w' z
no_bad_traits s (xml_document x) vs n w fs w' z = refl
no_bad_traits s (date p) vs n w fs w' z = refl
no_bad_traits s array vs n w fs w' z = refl
no_bad_traits s (xml x) vs n w fs w' z = refl
no_bad_traits s (bytes x) vs n w fs w' z = refl
no_bad_traits s (ints f ns) vs n w fs w' z = refl
no_bad_traits s (uints f ns) vs n w fs w' z = refl
no_bad_traits s (doubles f ns) vs n w fs w' z = refl
no_bad_traits s (values f x) vs n w fs w' z = refl
no_bad_traits s (dictionary f) vs n w fs w' z = refl

inline_header : (s : Style) (table : List ℕ) (h : Head) (vs : List Value) (n : ℕ) (w : Words) (fs : List Field) (w' : Words) → HeaderBy s h vs n w fs w' → header_refusal table (length w.traits) (marker h) n ≡ None
inline_header s table h vs n w fs w' z =
    let o : (k : ℕ) × (n ≡ 2 * k + 1) = header_odd s h vs n w fs w' z in
    ap (λ b. if b then kind_refusal (marker h) (slice_get table (n / 2)) else (if ((marker h == 0x0A) && (n % 4 == 1)) && nat_le (length w.traits) (n / 4) then Some BadTraits else None)) (ap (λ k. k % 2 == 0) o.1 ∙ odd_is o.0)
    ∙ ap (λ b. if b then Some BadTraits else None) (no_bad_traits s h vs n w fs w' z)

marker_clean : (m : ℕ) → marker_refusal m ≡ None → IsClean (marker_field m)
marker_clean m e = record { is_whole = refl; clean = e }

-- segments

-- the characters are a text
abbrev pub IsGood : Segment → Type 0
IsGood (chars x) = IsText x
IsGood _ = Unit {0}

clean_fixed : (s : Style) (p : Segment) → IsGood p → (fs : List Field) → Fixed s p fs → AllClean fs
clean_fixed s (flag f) good fs (m, h, e) = clean_as _ fs e (raw_field (m ∷ []) (λ e. cc), tt)
clean_fixed s (four n) good fs e = clean_as _ fs e (raw_field (to_be_bytes w32 n) (λ e. cc), tt)
clean_fixed s (eight n) good fs e = clean_as _ fs e (raw_field (to_be_bytes w64 n) (λ e. cc), tt)
clean_fixed s (raw x) good fs e = clean_as _ fs e (contents_clean raw_kind x (raw_field x))
clean_fixed s (chars x) good fs e = clean_as _ fs e (contents_clean text_kind x (text_field x good))
clean_fixed s (word x) good fs e = absurd e
clean_fixed s (value v) good fs e = absurd e

clean_plain : (s : Style) (p : Segment) → IsGood p → Cleans {S = Tables} (Plain (Fixed s p))
clean_plain s p good t fs t' z = clean_fixed s p good fs z.0

clean_segments : (R : Value → Spelling Tables) (s : Style) → ((v : Value) → Cleans (R v)) → (ps : List Segment) → AllByRecursion IsGood ps → Cleans (Segments R s ps)
clean_segments R s f [] good t fs t' z = clean_counted fs z.0
clean_segments R s f (word x ∷ ps) (h, good) t fs t' z = clean_then (Lifted (Text s x)) (Segments R s ps) (clean_lifted (Text s x) (clean_text s x)) (clean_segments R s f ps good) t fs t' z
clean_segments R s f (value v ∷ ps) (h, good) t fs t' z = clean_then (R v) (Segments R s ps) (f v) (clean_segments R s f ps good) t fs t' z
clean_segments R s f (flag b ∷ ps) (h, good) t fs t' z = clean_then (Plain (Fixed s (flag b))) (Segments R s ps) (clean_plain s (flag b) h) (clean_segments R s f ps good) t fs t' z
clean_segments R s f (four n ∷ ps) (h, good) t fs t' z = clean_then (Plain (Fixed s (four n))) (Segments R s ps) (clean_plain s (four n) h) (clean_segments R s f ps good) t fs t' z
clean_segments R s f (eight n ∷ ps) (h, good) t fs t' z = clean_then (Plain (Fixed s (eight n))) (Segments R s ps) (clean_plain s (eight n) h) (clean_segments R s f ps good) t fs t' z
clean_segments R s f (raw x ∷ ps) (h, good) t fs t' z = clean_then (Plain (Fixed s (raw x))) (Segments R s ps) (clean_plain s (raw x) h) (clean_segments R s f ps good) t fs t' z
clean_segments R s f (chars x ∷ ps) (h, good) t fs t' z = clean_then (Plain (Fixed s (chars x))) (Segments R s ps) (clean_plain s (chars x) h) (clean_segments R s f ps good) t fs t' z

good_values : (vs : List Value) (ps : List Segment) → AllByRecursion IsGood ps → AllByRecursion IsGood (values_then vs ps)
good_values [] ps good = good
good_values (v ∷ vs) ps good = (tt, good_values vs ps good)

good_pairs : (pairs : List (List ℕ × Value)) (ps : List Segment) → AllByRecursion IsGood ps → AllByRecursion IsGood (pairs_then pairs ps)
good_pairs [] ps good = (tt, good)
good_pairs (p ∷ pairs) ps good = (tt, (tt, good_pairs pairs ps good))

good_fours : (ns : List ℕ) → AllByRecursion IsGood (fours ns)
good_fours [] = tt
good_fours (n ∷ ns) = (tt, good_fours ns)

good_signed : (ns : List ℤ) → AllByRecursion IsGood (signed_fours ns)
good_signed [] = tt
good_signed (n ∷ ns) = (tt, good_signed ns)

good_eights : (ns : List ℕ) → AllByRecursion IsGood (eights ns)
good_eights [] = tt
good_eights (n ∷ ns) = (tt, good_eights ns)

good_members : (dynamic : Bool) (pairs : List (List ℕ × Value)) → AllByRecursion IsGood (cond dynamic (pairs_then pairs []) [])
good_members true pairs = good_pairs pairs [] tt
good_members false pairs = tt

good_segments : (h : Head) (pairs names : List (List ℕ × Value)) (vs : List Value) → Fits h names vs → AllByRecursion IsGood (segments_of h pairs vs)
good_segments (xml_document x) pairs names vs fits = (fits.0, tt)
good_segments (date p) pairs names vs fits = (tt, tt)
good_segments array pairs names vs fits = good_pairs pairs (values_then vs []) (good_values vs [] tt)
good_segments (object c) pairs names vs fits = good_values vs (cond c.dynamic (pairs_then pairs []) []) (good_members c.dynamic pairs)
good_segments (wrapper c) pairs names vs fits = good_values vs [] tt
good_segments (xml x) pairs names vs fits = (fits.0, tt)
good_segments (bytes x) pairs names vs fits = (tt, tt)
good_segments (ints f ns) pairs names vs fits = (tt, good_signed ns)
good_segments (uints f ns) pairs names vs fits = (tt, good_fours ns)
good_segments (doubles f ns) pairs names vs fits = (tt, good_eights ns)
good_segments (values f x) pairs names vs fits = (tt, (tt, good_values vs [] tt))
good_segments (dictionary f) pairs names vs fits = (tt, good_values vs [] tt)

-- values

clean_value : (I : ℕ → Spelling Tables) (s : Style) → ((i : ℕ) → Cleans (I i)) → (g : Graph) (v : Value) → Cleans (ValueBy I s g v)
clean_value I s f g (leaf x) t fs t' (h, z) =
    clean_as (z.front ++ z.back) fs z.joined (clean_append z.front z.back
    (clean_as _ z.front z.first.0 (marker_clean (leaf_marker x) (leaf_allowed x), tt))
    (clean_lifted (LeafBy s x) (clean_leaf s x) z.mid z.back t' z.second))
clean_value I s f g (node i) t fs t' (inl z) =
    clean_as _ fs z.fields (
      marker_clean (marker (node_at g i).head) (node_allowed (node_at g i).head),
      (number_field s (2 * z.place) z.header (header_refusal (markers g t.nodes) (length t.words.traits) (marker (node_at g i).head)) z.spelled (named_header g t.nodes (length t.words.traits) z.place i z.there), tt),
    )
clean_value I s f g (node i) t fs t' (inr z) = f i t fs t' z

clean_begun : (R : Value → Spelling Tables) (s : Style) → ((v : Value) → Cleans (R v)) → (g : Graph) (i : ℕ) → Cleans (Begun R s g i)
clean_begun R s f g i t fs t' z =
    let h : Head = (node_at g i).head in
    let vs : List Value = (node_at g i).values in
    clean_as _ fs z.fields (
      marker_clean (marker h) (node_allowed h),
      (
        number_field s z.number z.header (header_refusal (markers g t.nodes) (length t.words.traits) (marker h)) z.spelled
            (inline_header s (markers g t.nodes) h vs z.number t.words z.behind.front z.behind.first.0 z.behind.first.1),
        clean_then (Lifted (HeaderBy s h vs z.number)) (Segments R s (segments_of h z.pairs vs))
            (clean_lifted (HeaderBy s h vs z.number) (clean_header s h vs z.number))
            (clean_segments R s f (segments_of h z.pairs vs) (good_segments h z.pairs (node_at g i).names vs z.fits)) (add_node t i) z.rest t' z.behind,
      ),
    )

clean_inline : (n : ℕ) (s : Style) (g : Graph) (i : ℕ) → Cleans (InlineIn n s g i)
clean_inline zero s g i t fs t' z = absurd z
clean_inline (suc n) s g i t fs t' z = clean_begun (SpellsIn n s g) s (clean_value (InlineIn n s g) s (clean_inline n s g) g) g i t fs t' z

-- each field of a spelling is whole, and none is refused
pub clean3 : (s : Style) (g : Graph) (v : Value) → Cleans (Spells3 s g v)
clean3 s g v t fs t' (n, z) = clean_value (InlineIn n s g) s (clean_inline n s g) g v t fs t' z
