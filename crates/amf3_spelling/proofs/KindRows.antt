-- The rows of the other kinds.
use Rattle.std.proofs.Common.{◌≡◌, ◌≢◌, ℕ, ◌<◌, Bool, true, false, List, [], ◌∷◌, ◌++◌, refl, arith, pos, negsuc, ap, get_or, FitsSigned}
use Rattle.std.specs.Int.{to_be_bytes, w32, w64, cast_unsigned}
use Rattle.amf_io.specs.Field.{field, contents, raw_kind, text_kind}
use Rattle.amf_wire.specs.Style.{Style, free, canonical, Only}
use Rattle.amf_wire.specs.Text.{IsText}
use Rattle.amf_wire.proofs.TextTest.{is_text-is}
use Rattle.amf_graph.specs.Graph.{integer, text, Value, leaf, node, Head, xml_document, date, array, object, xml, bytes, ints, uints, doubles, values, dictionary, Graph, Fits}
use Rattle.amf_graph.specs.ByName.{by_name}
use Rattle.amf3_spelling.specs.Tables.{plain, Tables, no_tables, with_words, add_node, add_entry}
use Rattle.amf3_spelling.specs.Then.{Spelling, Then, Plain}
use Rattle.amf3_spelling.specs.Words3.{Text, Texts, given, placed}
use Rattle.amf3_spelling.specs.Segments3.{Segment, flag, four, eight, raw, chars, word, value, IsFlag, Fixed, Lifted, Segments, segments_of}
use Rattle.amf3_spelling.specs.Headers3.{HeaderBy}
use Rattle.amf3_spelling.specs.Spells3.{InlineIn, SpellsIn, Spelled3}
use Rattle.amf3_spelling.specs.WorkedKinds3.{single, bare_class, one_sealed, two_objects, sealed_and_open, sealed_and_member, named_and_item}
use Rattle.amf3_spelling.proofs.Build.{Built, both, lifted, an_integer, no_text, new_text, a_text, a_node, no_segments, word_segment, value_segment, absent_nil, absent_cons, unnamed, unnamed_zero}
use Rattle.amf3_spelling.proofs.Amf3Rows.{inner, spelled_by}

abbrev pub flag_segment : (R : Value → Spelling Tables) (s : Style) (f : Bool) (m : ℕ) (ps : List Segment) (t : Tables) → IsFlag s f m → Built (Segments R s ps) t → Built (Segments R s (flag f ∷ ps)) t
flag_segment R s f m ps t h b =
    let x : Built (Plain (Fixed s (flag f))) t = record { fields = field (raw_kind 1) (m ∷ []) ∷ []; after = t; spelled = ((m, h, refl), refl) } in
    let z : Built (Then (Plain (Fixed s (flag f))) (Segments R s ps)) t = both _ _ t x b in record { fields = z.fields; after = z.after; spelled = z.spelled }

abbrev four_segment : (R : Value → Spelling Tables) (s : Style) (n : ℕ) (ps : List Segment) (t : Tables) → Built (Segments R s ps) t → Built (Segments R s (four n ∷ ps)) t
four_segment R s n ps t b =
    let x : Built (Plain (Fixed s (four n))) t = record { fields = field (raw_kind 4) (to_be_bytes w32 n) ∷ []; after = t; spelled = (refl, refl) } in
    let z : Built (Then (Plain (Fixed s (four n))) (Segments R s ps)) t = both _ _ t x b in record { fields = z.fields; after = z.after; spelled = z.spelled }

abbrev eight_segment : (R : Value → Spelling Tables) (s : Style) (n : ℕ) (ps : List Segment) (t : Tables) → Built (Segments R s ps) t → Built (Segments R s (eight n ∷ ps)) t
eight_segment R s n ps t b =
    let x : Built (Plain (Fixed s (eight n))) t = record { fields = field (raw_kind 8) (to_be_bytes w64 n) ∷ []; after = t; spelled = (refl, refl) } in
    let z : Built (Then (Plain (Fixed s (eight n))) (Segments R s ps)) t = both _ _ t x b in record { fields = z.fields; after = z.after; spelled = z.spelled }

abbrev chars_segment : (R : Value → Spelling Tables) (s : Style) (c : List ℕ) (ps : List Segment) (t : Tables) → Built (Segments R s ps) t → Built (Segments R s (chars c ∷ ps)) t
chars_segment R s c ps t b =
    let x : Built (Plain (Fixed s (chars c))) t = record { fields = contents text_kind c; after = t; spelled = (refl, refl) } in
    let z : Built (Then (Plain (Fixed s (chars c))) (Segments R s ps)) t = both _ _ t x b in record { fields = z.fields; after = z.after; spelled = z.spelled }

abbrev raw_segment : (R : Value → Spelling Tables) (s : Style) (c : List ℕ) (ps : List Segment) (t : Tables) → Built (Segments R s ps) t → Built (Segments R s (raw c ∷ ps)) t
raw_segment R s c ps t b =
    let x : Built (Plain (Fixed s (raw c))) t = record { fields = contents raw_kind c; after = t; spelled = (refl, refl) } in
    let z : Built (Then (Plain (Fixed s (raw c))) (Segments R s ps)) t = both _ _ t x b in record { fields = z.fields; after = z.after; spelled = z.spelled }

pub no_pairs : (s : Style) → Only s (◌≡◌ {A = List (List ℕ × Value)} [] (by_name []))
no_pairs free = tt
no_pairs canonical = refl

-- one node alone, by its header's number and its segments
abbrev pub single_node : (s : Style) (h : Head) (vs : List Value) (number : ℕ) → Fits h [] vs → number < 128
    → (x : Built (Lifted (HeaderBy s h vs number)) (add_node no_tables 0)) → Built (Segments (inner 0 s (single h vs)) s (segments_of h [] vs)) x.after
    → Built (SpellsIn 1 s (single h vs) (node 0)) no_tables
single_node s h vs number fits few x y = a_node 0 s (single h vs) 0 no_tables [] number (omega arith) (absent_nil 0) fits refl (no_pairs s) tt few (both _ _ (add_node no_tables 0) x y)

abbrev pub counted : (s : Style) (h : Head) (vs : List Value) (number : ℕ) (t : Tables) → HeaderBy s h vs number t.words [] t.words → Built (Lifted (HeaderBy s h vs number)) t
counted s h vs number t e = lifted (HeaderBy s h vs number) t (record { fields = []; after = t.words; spelled = e })

abbrev pub start : Tables
start = add_node no_tables 0

pub unused_bits : Spelled3 free (single (date 0) []) (0x08 ∷ 0x03 ∷ 0 ∷ 0 ∷ 0 ∷ 0 ∷ 0 ∷ 0 ∷ 0 ∷ 0 ∷ [])
unused_bits = spelled_by 1 free (single (date 0) []) (single_node free (date 0) [] 3 (omega arith, refl, refl) (omega arith) (counted free (date 0) [] 3 start (1, tt, (refl, (refl, refl))))
    (eight_segment (inner 0 free (single (date 0) [])) free 0 [] start (no_segments (inner 0 free (single (date 0) [])) free start)))

pub no_unused_bits : Spelled3 canonical (single (date 0) []) (0x08 ∷ 0x01 ∷ 0 ∷ 0 ∷ 0 ∷ 0 ∷ 0 ∷ 0 ∷ 0 ∷ 0 ∷ [])
no_unused_bits = spelled_by 1 canonical (single (date 0) []) (single_node canonical (date 0) [] 1 (omega arith, refl, refl) (omega arith) (counted canonical (date 0) [] 1 start (0, refl, (refl, (refl, refl))))
    (eight_segment (inner 0 canonical (single (date 0) [])) canonical 0 [] start (no_segments (inner 0 canonical (single (date 0) [])) canonical start)))

pub no_values : Spelled3 canonical (single (values false []) []) (0x10 ∷ 0x01 ∷ 0x00 ∷ 0x01 ∷ [])
no_values =
    let R : Value → Spelling Tables = inner 0 canonical (single (values false []) []) in
    spelled_by 1 canonical (single (values false []) []) (single_node canonical (values false []) [] 1 refl (omega arith) (counted canonical (values false []) [] 1 start (refl, (refl, refl)))
    (flag_segment R canonical false 0 (word [] ∷ []) start (refl, omega arith, omega arith) (word_segment R canonical [] [] start (no_text canonical start.words) (no_segments R canonical start))))

abbrev two_ints : Head
two_ints = ints true (pos 1 ∷ negsuc 0 ∷ [])

ints_fit : Fits two_ints [] []
ints_fit = ((int_fits, (int_fits_too, tt)), refl, refl)
  where
    int_fits : FitsSigned w32 (pos 1)
    int_fits = grind arith

    int_fits_too : FitsSigned w32 (negsuc 0)
    int_fits_too = grind arith

abbrev ints_row : (s : Style) (m : ℕ) → IsFlag s true m → Built (SpellsIn 1 s (single two_ints []) (node 0)) no_tables
ints_row s m h =
    let R : Value → Spelling Tables = inner 0 s (single two_ints []) in
    single_node s two_ints [] 5 ints_fit (omega arith) (counted s two_ints [] 5 start (refl, (refl, refl)))
    (flag_segment R s true m (four (cast_unsigned w32 (pos 1)) ∷ four (cast_unsigned w32 (negsuc 0)) ∷ []) start h
    (four_segment R s (cast_unsigned w32 (pos 1)) (four (cast_unsigned w32 (negsuc 0)) ∷ []) start (four_segment R s (cast_unsigned w32 (negsuc 0)) [] start (no_segments R s start))))

pub two_counts_as_fixed : Spelled3 free (single (ints true (pos 1 ∷ negsuc 0 ∷ [])) []) (0x0D ∷ 0x05 ∷ 0x02 ∷ 0 ∷ 0 ∷ 0 ∷ 1 ∷ 0xFF ∷ 0xFF ∷ 0xFF ∷ 0xFF ∷ [])
two_counts_as_fixed = spelled_by 1 free (single two_ints []) (ints_row free 2 (omega arith, omega arith, tt))

pub no_canonical_flag : IsFlag canonical true 2 → ⊥
no_canonical_flag h = two_is_two h.2
  where
    two_is_two : ◌<◌ 2 2 → ⊥
    two_is_two e = omega arith

pub fixed_ints : Spelled3 canonical (single (ints true (pos 1 ∷ negsuc 0 ∷ [])) []) (0x0D ∷ 0x05 ∷ 0x01 ∷ 0 ∷ 0 ∷ 0 ∷ 1 ∷ 0xFF ∷ 0xFF ∷ 0xFF ∷ 0xFF ∷ [])
fixed_ints = spelled_by 1 canonical (single two_ints []) (ints_row canonical 1 (omega arith, omega arith, omega arith))

abbrev the_a : List ℕ
the_a = 0x61 ∷ []

abbrev pub the_c : List ℕ
the_c = 0x43 ∷ []

pub a_is : the_a ≢ []
a_is e = cc

pub c_is : the_c ≢ []
c_is e = cc

c_is_not_a : the_c ≢ the_a
c_is_not_a e = let h : ◌≡◌ {A = ℕ} 0x43 0x61 = ap (λ xs. get_or xs 0 0) e in absurd (omega arith)

pub a_text_is : IsText the_a
a_text_is = (is_text-is the_a).0 refl

pub c_text_is : IsText the_c
c_text_is = (is_text-is the_c).0 refl

pub one_entry : Spelled3 canonical (single (dictionary false) (leaf (integer (pos 1)) ∷ leaf (text (0x61 ∷ [])) ∷ [])) (0x11 ∷ 0x03 ∷ 0x00 ∷ 0x04 ∷ 0x01 ∷ 0x06 ∷ 0x03 ∷ 0x61 ∷ [])
one_entry =
    let vs : List Value = leaf (integer (pos 1)) ∷ leaf (text (0x61 ∷ [])) ∷ [] in
    let g : Graph = single (dictionary false) (leaf (integer (pos 1)) ∷ leaf (text (0x61 ∷ [])) ∷ []) in
    let R : Value → Spelling Tables = inner 0 canonical g in
    let I : ℕ → Spelling Tables = InlineIn 0 canonical g in
    let k : Built (R (leaf (integer (pos 1)))) start = an_integer I canonical g 1 start (omega arith) in
    let v : Built (R (leaf (text (0x61 ∷ [])))) start = a_text I canonical g (0x61 ∷ []) start a_text_is (new_text canonical (0x61 ∷ []) start.words a_is a_text_is (unnamed _ [] (0x61 ∷ []) (absent_nil (0x61 ∷ []))) (omega arith)) in
    spelled_by 1 canonical g (single_node canonical (dictionary false) (leaf (integer (pos 1)) ∷ leaf (text (0x61 ∷ [])) ∷ []) 3 (refl, 1, refl) (omega arith)
    (counted canonical (dictionary false) (leaf (integer (pos 1)) ∷ leaf (text (0x61 ∷ [])) ∷ []) 3 start (1, refl, (refl, (refl, refl))))
    (flag_segment R canonical false 0 (value (leaf (integer (pos 1))) ∷ value (leaf (text (0x61 ∷ []))) ∷ []) start (refl, omega arith, omega arith)
    (value_segment R canonical (leaf (integer (pos 1))) (value (leaf (text (0x61 ∷ []))) ∷ []) start k
    (value_segment R canonical (leaf (text (0x61 ∷ []))) [] start v (no_segments R canonical v.after)))))

pub class_alone : Spelled3 canonical (single (object bare_class) []) (0x0A ∷ 0x03 ∷ 0x03 ∷ 0x43 ∷ [])
class_alone =
    let R : Value → Spelling Tables = inner 0 canonical (single (object bare_class) []) in
    let x : Built (Text canonical (0x43 ∷ [])) start.words = new_text canonical (0x43 ∷ []) start.words c_is c_text_is (unnamed _ [] (0x43 ∷ []) (absent_nil (0x43 ∷ []))) (omega arith) in
    let h : Built (Lifted (HeaderBy canonical (object bare_class) [] 3)) start = lifted (HeaderBy canonical (object bare_class) [] 3) start (record {
      fields = x.fields;
      after = add_entry x.after (plain bare_class);
      spelled = given (unnamed _ [] (plain bare_class) (absent_nil (plain bare_class))) refl x.after (record { front = x.fields; back = []; mid = x.after; joined = refl; first = x.spelled; second = (refl, refl) }) refl;
    }) in
    spelled_by 1 canonical (single (object bare_class) []) (single_node canonical (object bare_class) [] 3 (refl, refl) (omega arith) h (no_segments R canonical h.after))

pub traits_by_place : Spelled3 canonical two_objects (0x09 ∷ 0x05 ∷ 0x01 ∷ 0x0A ∷ 0x13 ∷ 0x03 ∷ 0x43 ∷ 0x03 ∷ 0x61 ∷ 0x04 ∷ 0x01 ∷ 0x0A ∷ 0x01 ∷ 0x04 ∷ 0x02 ∷ [])
traits_by_place =
    let one : Value = leaf (integer (pos 1)) in
    let two : Value = leaf (integer (pos 2)) in
    let R : Value → Spelling Tables = inner 1 canonical two_objects in
    let Q : Value → Spelling Tables = inner 0 canonical two_objects in
    let I : ℕ → Spelling Tables = InlineIn 0 canonical two_objects in
    let t : Tables = add_node start 1 in
    let c : Built (Text canonical (0x43 ∷ [])) t.words = new_text canonical (0x43 ∷ []) t.words c_is c_text_is (unnamed _ [] (0x43 ∷ []) (absent_nil (0x43 ∷ []))) (omega arith) in
    let a : Built (Text canonical (0x61 ∷ [])) c.after = new_text canonical (0x61 ∷ []) c.after a_is a_text_is (unnamed _ ((0x43 ∷ []) ∷ []) (0x61 ∷ []) (absent_cons (0x43 ∷ []) [] (0x61 ∷ []) c_is_not_a (absent_nil (0x61 ∷ [])))) (omega arith) in
    let names : Built (Texts canonical ((0x61 ∷ []) ∷ [])) c.after = record { fields = a.fields ++ []; after = a.after; spelled = record { front = a.fields; back = []; mid = a.after; joined = refl; first = a.spelled; second = (refl, refl) } } in
    let h : Built (Lifted (HeaderBy canonical (object one_sealed) (leaf (integer (pos 1)) ∷ []) 19)) t = lifted (HeaderBy canonical (object one_sealed) (leaf (integer (pos 1)) ∷ []) 19) t (record {
      fields = c.fields ++ names.fields;
      after = add_entry names.after (plain one_sealed);
      spelled = given (unnamed _ [] (plain one_sealed) (absent_nil (plain one_sealed))) refl names.after (record { front = c.fields; back = names.fields; mid = c.after; joined = refl; first = c.spelled; second = names.spelled }) refl;
    }) in
    let v : Built (Q one) h.after = an_integer I canonical two_objects 1 h.after (omega arith) in
    let x : Built (R (node 1)) start = a_node 0 canonical two_objects 1 start [] 19 (omega arith) (absent_cons 0 [] 1 (λ e. omega arith) (absent_nil 1)) (refl, refl) refl refl tt (omega arith)
    (both _ _ t h (value_segment Q canonical one [] h.after v (no_segments Q canonical v.after))) in
    let u : Tables = add_node x.after 2 in
    let k : Built (Lifted (HeaderBy canonical (object one_sealed) (leaf (integer (pos 2)) ∷ []) 1)) u = lifted (HeaderBy canonical (object one_sealed) (leaf (integer (pos 2)) ∷ []) 1) u (record {
      fields = [];
      after = u.words;
      spelled = placed 0 refl (unnamed_zero u.words.traits (plain one_sealed)) refl refl refl;
    }) in
    let w : Built (Q two) k.after = an_integer I canonical two_objects 2 k.after (omega arith) in
    let y : Built (R (node 2)) x.after = a_node 0 canonical two_objects 2 x.after [] 1 (omega arith) (absent_cons 0 (1 ∷ []) 2 (λ e. omega arith) (absent_cons 1 [] 2 (λ e. omega arith) (absent_nil 2))) (refl, refl) refl refl tt (omega arith)
    (both _ _ u k (value_segment Q canonical two [] k.after w (no_segments Q canonical w.after))) in
    spelled_by 2 canonical two_objects (a_node 1 canonical two_objects 0 no_tables [] 5 (omega arith) (absent_nil 0) tt refl refl tt (omega arith)
    (both _ _ start (counted canonical array (node 1 ∷ node 2 ∷ []) 5 start (refl, (refl, refl)))
    (word_segment R canonical [] (value (node 1) ∷ value (node 2) ∷ []) start (no_text canonical start.words)
    (value_segment R canonical (node 1) (value (node 2) ∷ []) start x
    (value_segment R canonical (node 2) [] x.after y (no_segments R canonical y.after))))))

-- contents

no_text_is : IsText []
no_text_is = (is_text-is []).0 refl

pub no_document : Spelled3 canonical (single (xml_document []) []) (0x07 ∷ 0x01 ∷ [])
no_document =
    let R : Value → Spelling Tables = inner 0 canonical (single (xml_document []) []) in
    spelled_by 1 canonical (single (xml_document []) []) (single_node canonical (xml_document []) [] 1 (no_text_is, refl, refl) (omega arith)
    (counted canonical (xml_document []) [] 1 start (refl, (refl, refl))) (chars_segment R canonical [] [] start (no_segments R canonical start)))

pub an_xml : Spelled3 canonical (single (xml (0x61 ∷ [])) []) (0x0B ∷ 0x03 ∷ 0x61 ∷ [])
an_xml =
    let R : Value → Spelling Tables = inner 0 canonical (single (xml (0x61 ∷ [])) []) in
    spelled_by 1 canonical (single (xml (0x61 ∷ [])) []) (single_node canonical (xml (0x61 ∷ [])) [] 3 (a_text_is, refl, refl) (omega arith)
    (counted canonical (xml (0x61 ∷ [])) [] 3 start (refl, (refl, refl))) (chars_segment R canonical (0x61 ∷ []) [] start (no_segments R canonical start)))

pub two_bytes : Spelled3 canonical (single (bytes (0x00 ∷ 0xFF ∷ [])) []) (0x0C ∷ 0x05 ∷ 0x00 ∷ 0xFF ∷ [])
two_bytes =
    let R : Value → Spelling Tables = inner 0 canonical (single (bytes (0x00 ∷ 0xFF ∷ [])) []) in
    spelled_by 1 canonical (single (bytes (0x00 ∷ 0xFF ∷ [])) []) (single_node canonical (bytes (0x00 ∷ 0xFF ∷ [])) [] 5 ((omega arith, (omega arith, tt)), refl, refl) (omega arith)
    (counted canonical (bytes (0x00 ∷ 0xFF ∷ [])) [] 5 start (refl, (refl, refl))) (raw_segment R canonical (0x00 ∷ 0xFF ∷ []) [] start (no_segments R canonical start)))

pub greatest_uint : Spelled3 canonical (single (uints false (4294967295 ∷ [])) []) (0x0E ∷ 0x03 ∷ 0x00 ∷ 0xFF ∷ 0xFF ∷ 0xFF ∷ 0xFF ∷ [])
greatest_uint =
    let R : Value → Spelling Tables = inner 0 canonical (single (uints false (4294967295 ∷ [])) []) in
    spelled_by 1 canonical (single (uints false (4294967295 ∷ [])) []) (single_node canonical (uints false (4294967295 ∷ [])) [] 3 ((omega arith, tt), refl, refl) (omega arith)
    (counted canonical (uints false (4294967295 ∷ [])) [] 3 start (refl, (refl, refl)))
    (flag_segment R canonical false 0 (four 4294967295 ∷ []) start (refl, omega arith, omega arith) (four_segment R canonical 4294967295 [] start (no_segments R canonical start))))

pub five_as_double : Spelled3 canonical (single (doubles true (0x4014000000000000 ∷ [])) []) (0x0F ∷ 0x03 ∷ 0x01 ∷ 0x40 ∷ 0x14 ∷ 0 ∷ 0 ∷ 0 ∷ 0 ∷ 0 ∷ 0 ∷ [])
five_as_double =
    let R : Value → Spelling Tables = inner 0 canonical (single (doubles true (0x4014000000000000 ∷ [])) []) in
    spelled_by 1 canonical (single (doubles true (0x4014000000000000 ∷ [])) []) (single_node canonical (doubles true (0x4014000000000000 ∷ [])) [] 3 ((omega arith, tt), refl, refl) (omega arith)
    (counted canonical (doubles true (0x4014000000000000 ∷ [])) [] 3 start (refl, (refl, refl)))
    (flag_segment R canonical true 1 (eight 0x4014000000000000 ∷ []) start (omega arith, omega arith, omega arith) (eight_segment R canonical 0x4014000000000000 [] start (no_segments R canonical start))))

-- sealed values and members

abbrev the_b : List ℕ
the_b = 0x62 ∷ []

b_is : the_b ≢ []
b_is e = cc

b_text_is : IsText the_b
b_text_is = (is_text-is the_b).0 refl

c_is_not_b : the_c ≢ the_b
c_is_not_b e = let h : ◌≡◌ {A = ℕ} 0x43 0x62 = ap (λ xs. get_or xs 0 0) e in absurd (omega arith)

a_is_not_b : the_a ≢ the_b
a_is_not_b e = let h : ◌≡◌ {A = ℕ} 0x61 0x62 = ap (λ xs. get_or xs 0 0) e in absurd (omega arith)

pub sealed_before_member : Spelled3 canonical sealed_and_member (0x0A ∷ 0x1B ∷ 0x03 ∷ 0x43 ∷ 0x03 ∷ 0x61 ∷ 0x04 ∷ 0x01 ∷ 0x03 ∷ 0x62 ∷ 0x04 ∷ 0x02 ∷ 0x01 ∷ [])
sealed_before_member =
    let g : Graph = sealed_and_member in
    let one : Value = leaf (integer (pos 1)) in
    let two : Value = leaf (integer (pos 2)) in
    let R : Value → Spelling Tables = inner 0 canonical sealed_and_member in
    let I : ℕ → Spelling Tables = InlineIn 0 canonical sealed_and_member in
    let c : Built (Text canonical (0x43 ∷ [])) start.words = new_text canonical (0x43 ∷ []) start.words c_is c_text_is (unnamed _ [] (0x43 ∷ []) (absent_nil (0x43 ∷ []))) (omega arith) in
    let a : Built (Text canonical (0x61 ∷ [])) c.after = new_text canonical (0x61 ∷ []) c.after a_is a_text_is (unnamed _ ((0x43 ∷ []) ∷ []) (0x61 ∷ []) (absent_cons (0x43 ∷ []) [] (0x61 ∷ []) c_is_not_a (absent_nil (0x61 ∷ [])))) (omega arith) in
    let names : Built (Texts canonical ((0x61 ∷ []) ∷ [])) c.after = record { fields = a.fields ++ []; after = a.after; spelled = record { front = a.fields; back = []; mid = a.after; joined = refl; first = a.spelled; second = (refl, refl) } } in
    let h : Built (Lifted (HeaderBy canonical (object sealed_and_open) (leaf (integer (pos 1)) ∷ []) 27)) start = lifted (HeaderBy canonical (object sealed_and_open) (leaf (integer (pos 1)) ∷ []) 27) start (record {
      fields = c.fields ++ names.fields;
      after = add_entry names.after (plain sealed_and_open);
      spelled = given (unnamed _ [] (plain sealed_and_open) (absent_nil (plain sealed_and_open))) refl names.after (record { front = c.fields; back = names.fields; mid = c.after; joined = refl; first = c.spelled; second = names.spelled }) refl;
    }) in
    let b : Built (Text canonical (0x62 ∷ [])) h.after.words = new_text canonical (0x62 ∷ []) h.after.words b_is b_text_is
    (unnamed _ ((0x43 ∷ []) ∷ (0x61 ∷ []) ∷ []) (0x62 ∷ []) (absent_cons (0x43 ∷ []) ((0x61 ∷ []) ∷ []) (0x62 ∷ []) c_is_not_b (absent_cons (0x61 ∷ []) [] (0x62 ∷ []) a_is_not_b (absent_nil (0x62 ∷ []))))) (omega arith) in
    let w : Tables = with_words h.after b.after in
    spelled_by 1 canonical sealed_and_member (a_node 0 canonical sealed_and_member 0 no_tables ((0x62 ∷ [], leaf (integer (pos 2))) ∷ []) 27 (omega arith) (absent_nil 0) (refl, tt) refl refl (b_is, tt) (omega arith)
    (both _ _ start h
    (value_segment R canonical one (word (0x62 ∷ []) ∷ value two ∷ word [] ∷ []) h.after (an_integer I canonical sealed_and_member 1 h.after (omega arith))
    (word_segment R canonical (0x62 ∷ []) (value two ∷ word [] ∷ []) h.after b
    (value_segment R canonical two (word [] ∷ []) w (an_integer I canonical sealed_and_member 2 w (omega arith))
    (word_segment R canonical [] [] w (no_text canonical w.words) (no_segments R canonical w)))))))

pub name_before_item : Spelled3 canonical named_and_item (0x09 ∷ 0x03 ∷ 0x03 ∷ 0x61 ∷ 0x04 ∷ 0x02 ∷ 0x01 ∷ 0x04 ∷ 0x01 ∷ [])
name_before_item =
    let one : Value = leaf (integer (pos 1)) in
    let two : Value = leaf (integer (pos 2)) in
    let R : Value → Spelling Tables = inner 0 canonical named_and_item in
    let I : ℕ → Spelling Tables = InlineIn 0 canonical named_and_item in
    let a : Built (Text canonical (0x61 ∷ [])) start.words = new_text canonical (0x61 ∷ []) start.words a_is a_text_is (unnamed _ [] (0x61 ∷ []) (absent_nil (0x61 ∷ []))) (omega arith) in
    let w : Tables = with_words start a.after in
    spelled_by 1 canonical named_and_item (a_node 0 canonical named_and_item 0 no_tables ((0x61 ∷ [], leaf (integer (pos 2))) ∷ []) 3 (omega arith) (absent_nil 0) tt refl refl (a_is, tt) (omega arith)
    (both _ _ start (counted canonical array (leaf (integer (pos 1)) ∷ []) 3 start (refl, (refl, refl)))
    (word_segment R canonical (0x61 ∷ []) (value two ∷ word [] ∷ value one ∷ []) start a
    (value_segment R canonical two (word [] ∷ value one ∷ []) w (an_integer I canonical named_and_item 2 w (omega arith))
    (word_segment R canonical [] (value one ∷ []) w (no_text canonical w.words)
    (value_segment R canonical one [] w (an_integer I canonical named_and_item 1 w (omega arith)) (no_segments R canonical w)))))))
