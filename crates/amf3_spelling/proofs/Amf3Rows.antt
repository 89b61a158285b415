-- The rows of AMF 3.
use Rattle.std.proofs.Common.{◌≡◌, ◌≢◌, ℕ, suc, ◌+◌, ◌*◌, ◌<◌, List, [], ◌∷◌, ◌++◌, length, refl, arith, pos, subst, ap, sym, inr, get_or}
use Rattle.amf_io.specs.Field.{field, flat, u29_kind, no_refusal}
use Rattle.amf_wire.specs.Style.{Style, free, canonical, Only}
use Rattle.amf_wire.specs.Text.{IsText}
use Rattle.amf_wire.proofs.TextTest.{is_text-is}
use Rattle.amf_wire.proofs.Worked.{five_longer}
use Rattle.amf_wire.proofs.Shortest.{small}
use Rattle.amf_wire.specs.U29.{IsU29}
use Rattle.amf_graph.specs.declared.wrapped.Wrapped.TheVariants.{ArrayCollection}
use Rattle.amf_graph.specs.Graph.{integer, text, Value, leaf, node, array, object, wrapper, Fits, class_name, Graph, node_at}
use Rattle.amf_graph.specs.ByName.{by_name}
use Rattle.amf_graph.specs.Order.{Absent}
use Rattle.amf3_spelling.specs.Tables.{plain, external, Tables, no_words, no_tables, with_words, add_node, add_text, add_entry}
use Rattle.amf3_spelling.specs.Refusals3.{marker, text_header_kind, class_header_kind, class_kind}
use Rattle.amf3_spelling.specs.Words3.{Text, TextBy, empty, whole, NoPlaceBelow, given}
use Rattle.amf3_spelling.specs.Then.{Spelling, Then}
use Rattle.amf3_spelling.specs.Segments3.{value, word, Lifted, Segments, segments_of}
use Rattle.amf3_spelling.specs.Headers3.{marker_field, header_field, HeaderBy}
use Rattle.amf3_spelling.specs.Spells3.{InlineIn, SpellsIn, Spelled3}
use Rattle.amf3_spelling.specs.WorkedRows3.{items, five, two_texts, ring, foo, open_traits, members, shared, collection}
use Rattle.amf3_spelling.proofs.Build.{Built, both, lifted, a_leaf, an_integer, no_text, new_text, old_text, a_text, a_reference, a_node, no_segments, word_segment, value_segment, absent_nil, absent_cons, unnamed, unnamed_zero}

-- what was built spells the graph
abbrev pub spelled_by : (n : ℕ) (s : Style) (g : Graph) (x : Built (SpellsIn n s g g.root) no_tables) → Spelled3 s g (flat x.fields)
spelled_by n s g x = (x.fields, (x.after, (n, x.spelled)), refl)

pub shortest_integer : Spelled3 canonical five (0x04 ∷ 0x05 ∷ [])
shortest_integer = spelled_by 0 canonical five (an_integer (InlineIn 0 canonical five) canonical five 5 no_tables (omega arith))

pub longer_integer : Spelled3 free five (0x04 ∷ 0x80 ∷ 0x05 ∷ [])
longer_integer = spelled_by 0 free five (a_leaf (InlineIn 0 free five) free five (integer (pos 5)) no_tables (omega arith)
    (record { fields = field (u29_kind no_refusal) (0x80 ∷ 5 ∷ []) ∷ []; after = no_words; spelled = (0x80 ∷ 5 ∷ [], five_longer, refl, refl) }))

foo_is : foo ≢ []
foo_is e = cc

foo_text : IsText foo
foo_text = (is_text-is foo).0 refl

-- a header that counts
abbrev counted : (s : Style) (g : Graph) (i n : ℕ) (t : Tables) → HeaderBy s (node_at g i).head (node_at g i).values n t.words [] t.words → Built (Lifted (HeaderBy s (node_at g i).head (node_at g i).values n)) t
counted s g i n t h = lifted (HeaderBy s (node_at g i).head (node_at g i).values n) t (record { fields = []; after = t.words; spelled = h })

-- the relation for a node's values
abbrev pub inner : (n : ℕ) (s : Style) (g : Graph) → Value → Spelling Tables
inner n s g = SpellsIn n s g

pub cycle : Spelled3 canonical ring (0x09 ∷ 0x03 ∷ 0x01 ∷ 0x09 ∷ 0x00 ∷ [])
cycle =
    let t : Tables = add_node no_tables 0 in
    let R : Value → Spelling Tables = inner 0 canonical ring in
    spelled_by 1 canonical ring (a_node 0 canonical ring 0 no_tables [] 3 (omega arith) (absent_nil 0) tt refl refl tt (omega arith)
    (both _ _ t (counted canonical ring 0 3 t (refl, (refl, refl)))
    (word_segment R canonical [] (value (node 0) ∷ []) t (no_text canonical t.words)
    (value_segment R canonical (node 0) [] t (a_reference (InlineIn 0 canonical ring) canonical ring 0 0 t refl (omega arith)) (no_segments R canonical t)))))

pub text_twice : Spelled3 free two_texts (0x09 ∷ 0x05 ∷ 0x01 ∷ 0x06 ∷ 0x07 ∷ foo ++ 0x06 ∷ 0x07 ∷ foo)
text_twice =
    let t : Tables = add_node no_tables 0 in
    let R : Value → Spelling Tables = inner 0 free two_texts in
    let I : ℕ → Spelling Tables = InlineIn 0 free two_texts in
    let first : Built (R (leaf (text foo))) t = a_text I free two_texts foo t foo_text (new_text free foo t.words foo_is foo_text tt (omega arith)) in
    let second : Built (R (leaf (text foo))) first.after = a_text I free two_texts foo first.after foo_text (new_text free foo first.after.words foo_is foo_text tt (omega arith)) in
    spelled_by 1 free two_texts (a_node 0 free two_texts 0 no_tables [] 5 (omega arith) (absent_nil 0) tt refl tt tt (omega arith)
    (both _ _ t (counted free two_texts 0 5 t (refl, (refl, refl)))
    (word_segment R free [] (value (leaf (text foo)) ∷ value (leaf (text foo)) ∷ []) t (no_text free t.words)
    (value_segment R free (leaf (text foo)) (value (leaf (text foo)) ∷ []) t first
    (value_segment R free (leaf (text foo)) [] first.after second (no_segments R free second.after))))))

pub text_by_place : Spelled3 canonical two_texts (0x09 ∷ 0x05 ∷ 0x01 ∷ 0x06 ∷ 0x07 ∷ foo ++ 0x06 ∷ 0x00 ∷ [])
text_by_place =
    let t : Tables = add_node no_tables 0 in
    let R : Value → Spelling Tables = inner 0 canonical two_texts in
    let I : ℕ → Spelling Tables = InlineIn 0 canonical two_texts in
    let first : Built (R (leaf (text foo))) t = a_text I canonical two_texts foo t foo_text (new_text canonical foo t.words foo_is foo_text (unnamed _ [] foo (absent_nil foo)) (omega arith)) in
    let second : Built (R (leaf (text foo))) first.after = a_text I canonical two_texts foo first.after foo_text (old_text canonical foo first.after.words 0 foo_is refl (unnamed_zero first.after.words.texts foo) (omega arith)) in
    spelled_by 1 canonical two_texts (a_node 0 canonical two_texts 0 no_tables [] 5 (omega arith) (absent_nil 0) tt refl refl tt (omega arith)
    (both _ _ t (counted canonical two_texts 0 5 t (refl, (refl, refl)))
    (word_segment R canonical [] (value (leaf (text foo)) ∷ value (leaf (text foo)) ∷ []) t (no_text canonical t.words)
    (value_segment R canonical (leaf (text foo)) (value (leaf (text foo)) ∷ []) t first
    (value_segment R canonical (leaf (text foo)) [] first.after second (no_segments R canonical second.after))))))

-- an empty array
abbrev pub an_empty_array : (n : ℕ) (s : Style) (g : Graph) (i : ℕ) (t : Tables) → i < length g.nodes → Absent t.done i → node_at g i ≡ items [] → Built (inner (suc n) s g (node i)) t
an_empty_array n s g i t there new e = record {
  fields = marker_field (marker (node_at g i).head) ∷ header_field g t (marker (node_at g i).head) (1 ∷ []) ∷ field (text_header_kind (length t.words.texts)) (1 ∷ []) ∷ [];
  after = add_node t i;
  spelled = inr (record {
    there = there;
    new = new;
    fits = subst (λ a. Fits a.head a.names a.values) (sym e) tt;
    pairs = [];
    same_names = ap (λ a. by_name a.names) (sym e);
    in_order = in_order_of s (ap (λ a. by_name a.names) (sym e));
    named = tt;
    number = 1;
    header = 1 ∷ [];
    spelled = small s 1 (omega arith);
    rest = field (text_header_kind (length t.words.texts)) (1 ∷ []) ∷ [];
    fields = refl;
    behind = subst (λ a. Then (Lifted (HeaderBy s a.head a.values 1)) (Segments (inner n s g) s (segments_of a.head [] a.values)) (add_node t i) (field (text_header_kind (length t.words.texts)) (1 ∷ []) ∷ []) (add_node t i)) (sym e) body;
  });
}
  where
    in_order_of : (s : Style) → [] ≡ by_name (node_at g i).names → Only s ([] ≡ by_name (node_at g i).names)
    in_order_of free h = tt
    in_order_of canonical h = h

    body : Then (Lifted (HeaderBy s array [] 1)) (Segments (inner n s g) s (segments_of array [] [])) (add_node t i) (field (text_header_kind (length t.words.texts)) (1 ∷ []) ∷ []) (add_node t i)
    body = record {
      front = [];
      back = field (text_header_kind (length t.words.texts)) (1 ∷ []) ∷ [];
      mid = add_node t i;
      joined = refl;
      first = (t.words, (refl, (refl, refl)), refl);
      second = record {
        front = field (text_header_kind (length t.words.texts)) (1 ∷ []) ∷ [];
        back = [];
        mid = add_node t i;
        joined = refl;
        first = (t.words, empty refl (1 ∷ []) (small s 1 (omega arith)) refl refl, refl);
        second = (refl, refl);
      };
    }

-- the header of a dynamic object without class and sealed names, whose traits are new
abbrev new_traits : (s : Style) (t : Tables) → Only s (NoPlaceBelow 134217728 t.words.traits (plain open_traits)) → Built (Lifted (HeaderBy s (object open_traits) [] 11)) t
new_traits s t unnamed =
    let x : Built (Text s []) t.words = no_text s t.words in
    lifted (HeaderBy s (object open_traits) [] 11) t (record {
      fields = x.fields;
      after = add_entry t.words (plain open_traits);
      spelled = given unnamed refl t.words (record { front = x.fields; back = []; mid = t.words; joined = refl; first = x.spelled; second = (refl, refl) }) refl;
    })

abbrev the_a : List ℕ
the_a = 0x61 ∷ []

abbrev the_b : List ℕ
the_b = 0x62 ∷ []

a_is : the_a ≢ []
a_is e = cc

b_is : the_b ≢ []
b_is e = cc

a_text_is : IsText (0x61 ∷ [])
a_text_is = (is_text-is (0x61 ∷ [])).0 refl

b_text_is : IsText (0x62 ∷ [])
b_text_is = (is_text-is (0x62 ∷ [])).0 refl

a_is_not_b : the_a ≢ the_b
a_is_not_b e = let h : ◌≡◌ {A = ℕ} 0x61 0x62 = ap (λ xs. get_or xs 0 0) e in absurd (omega arith)

pub members_on_the_wire : Spelled3 free members (0x0A ∷ 0x0B ∷ 0x01 ∷ 0x03 ∷ 0x62 ∷ 0x04 ∷ 0x01 ∷ 0x03 ∷ 0x61 ∷ 0x04 ∷ 0x02 ∷ 0x01 ∷ [])
members_on_the_wire =
    let t : Tables = add_node no_tables 0 in
    let R : Value → Spelling Tables = inner 0 free members in
    let I : ℕ → Spelling Tables = InlineIn 0 free members in
    let h : Built (Lifted (HeaderBy free (object open_traits) [] 11)) t = new_traits free t tt in
    let b : Built (Text free (0x62 ∷ [])) h.after.words = new_text free (0x62 ∷ []) h.after.words b_is b_text_is tt (omega arith) in
    let u : Tables = with_words h.after b.after in
    let a : Built (Text free (0x61 ∷ [])) u.words = new_text free (0x61 ∷ []) u.words a_is a_text_is tt (omega arith) in
    let w : Tables = with_words u a.after in
    let one : Value = leaf (integer (pos 1)) in
    let two : Value = leaf (integer (pos 2)) in
    spelled_by 1 free members (a_node 0 free members 0 no_tables ((0x62 ∷ [], one) ∷ (0x61 ∷ [], two) ∷ []) 11 (omega arith) (absent_nil 0) (refl, tt) refl tt (b_is, (a_is, tt)) (omega arith)
    (both _ _ t h
    (word_segment R free (0x62 ∷ []) (value one ∷ word (0x61 ∷ []) ∷ value two ∷ word [] ∷ []) h.after b
    (value_segment R free one (word (0x61 ∷ []) ∷ value two ∷ word [] ∷ []) u (an_integer I free members 1 u (omega arith))
    (word_segment R free (0x61 ∷ []) (value two ∷ word [] ∷ []) u a
    (value_segment R free two (word [] ∷ []) w (an_integer I free members 2 w (omega arith))
    (word_segment R free [] [] w (no_text free w.words) (no_segments R free w))))))))

pub members_by_name : Spelled3 canonical members (0x0A ∷ 0x0B ∷ 0x01 ∷ 0x03 ∷ 0x61 ∷ 0x04 ∷ 0x02 ∷ 0x03 ∷ 0x62 ∷ 0x04 ∷ 0x01 ∷ 0x01 ∷ [])
members_by_name =
    let t : Tables = add_node no_tables 0 in
    let R : Value → Spelling Tables = inner 0 canonical members in
    let I : ℕ → Spelling Tables = InlineIn 0 canonical members in
    let h : Built (Lifted (HeaderBy canonical (object open_traits) [] 11)) t = new_traits canonical t (unnamed _ [] (plain open_traits) (absent_nil (plain open_traits))) in
    let a : Built (Text canonical (0x61 ∷ [])) h.after.words = new_text canonical (0x61 ∷ []) h.after.words a_is a_text_is (unnamed _ [] (0x61 ∷ []) (absent_nil (0x61 ∷ []))) (omega arith) in
    let u : Tables = with_words h.after a.after in
    let b : Built (Text canonical (0x62 ∷ [])) u.words = new_text canonical (0x62 ∷ []) u.words b_is b_text_is (unnamed _ ((0x61 ∷ []) ∷ []) (0x62 ∷ []) (absent_cons (0x61 ∷ []) [] (0x62 ∷ []) a_is_not_b (absent_nil (0x62 ∷ [])))) (omega arith) in
    let w : Tables = with_words u b.after in
    let one : Value = leaf (integer (pos 1)) in
    let two : Value = leaf (integer (pos 2)) in
    spelled_by 1 canonical members (a_node 0 canonical members 0 no_tables ((0x61 ∷ [], two) ∷ (0x62 ∷ [], one) ∷ []) 11 (omega arith) (absent_nil 0) (refl, tt) refl refl (a_is, (b_is, tt)) (omega arith)
    (both _ _ t h
    (word_segment R canonical (0x61 ∷ []) (value two ∷ word (0x62 ∷ []) ∷ value one ∷ word [] ∷ []) h.after a
    (value_segment R canonical two (word (0x62 ∷ []) ∷ value one ∷ word [] ∷ []) u (an_integer I canonical members 2 u (omega arith))
    (word_segment R canonical (0x62 ∷ []) (value one ∷ word [] ∷ []) u b
    (value_segment R canonical one (word [] ∷ []) w (an_integer I canonical members 1 w (omega arith))
    (word_segment R canonical [] [] w (no_text canonical w.words) (no_segments R canonical w))))))))

pub shared_on_the_wire : Spelled3 free shared (0x0A ∷ 0x0B ∷ 0x01 ∷ 0x03 ∷ 0x62 ∷ 0x09 ∷ 0x01 ∷ 0x01 ∷ 0x03 ∷ 0x61 ∷ 0x09 ∷ 0x02 ∷ 0x01 ∷ [])
shared_on_the_wire =
    let t : Tables = add_node no_tables 0 in
    let R : Value → Spelling Tables = inner 1 free shared in
    let h : Built (Lifted (HeaderBy free (object open_traits) [] 11)) t = new_traits free t tt in
    let b : Built (Text free (0x62 ∷ [])) h.after.words = new_text free (0x62 ∷ []) h.after.words b_is b_text_is tt (omega arith) in
    let u : Tables = with_words h.after b.after in
    let x : Built (R (node 1)) u = an_empty_array 0 free shared 1 u (omega arith) (absent_cons 0 [] 1 (λ e. omega arith) (absent_nil 1)) refl in
    let a : Built (Text free (0x61 ∷ [])) x.after.words = new_text free (0x61 ∷ []) x.after.words a_is a_text_is tt (omega arith) in
    let w : Tables = with_words x.after a.after in
    spelled_by 2 free shared (a_node 1 free shared 0 no_tables ((0x62 ∷ [], node 1) ∷ (0x61 ∷ [], node 1) ∷ []) 11 (omega arith) (absent_nil 0) (refl, tt) refl tt (b_is, (a_is, tt)) (omega arith)
    (both _ _ t h
    (word_segment R free (0x62 ∷ []) (value (node 1) ∷ word (0x61 ∷ []) ∷ value (node 1) ∷ word [] ∷ []) h.after b
    (value_segment R free (node 1) (word (0x61 ∷ []) ∷ value (node 1) ∷ word [] ∷ []) u x
    (word_segment R free (0x61 ∷ []) (value (node 1) ∷ word [] ∷ []) x.after a
    (value_segment R free (node 1) (word [] ∷ []) w (a_reference (InlineIn 1 free shared) free shared 1 1 w refl (omega arith))
    (word_segment R free [] [] w (no_text free w.words) (no_segments R free w))))))))

pub shared_by_name : Spelled3 canonical shared (0x0A ∷ 0x0B ∷ 0x01 ∷ 0x03 ∷ 0x61 ∷ 0x09 ∷ 0x01 ∷ 0x01 ∷ 0x03 ∷ 0x62 ∷ 0x09 ∷ 0x02 ∷ 0x01 ∷ [])
shared_by_name =
    let t : Tables = add_node no_tables 0 in
    let R : Value → Spelling Tables = inner 1 canonical shared in
    let h : Built (Lifted (HeaderBy canonical (object open_traits) [] 11)) t = new_traits canonical t (unnamed _ [] (plain open_traits) (absent_nil (plain open_traits))) in
    let a : Built (Text canonical (0x61 ∷ [])) h.after.words = new_text canonical (0x61 ∷ []) h.after.words a_is a_text_is (unnamed _ [] (0x61 ∷ []) (absent_nil (0x61 ∷ []))) (omega arith) in
    let u : Tables = with_words h.after a.after in
    let x : Built (R (node 1)) u = an_empty_array 0 canonical shared 1 u (omega arith) (absent_cons 0 [] 1 (λ e. omega arith) (absent_nil 1)) refl in
    let b : Built (Text canonical (0x62 ∷ [])) x.after.words = new_text canonical (0x62 ∷ []) x.after.words b_is b_text_is (unnamed _ ((0x61 ∷ []) ∷ []) (0x62 ∷ []) (absent_cons (0x61 ∷ []) [] (0x62 ∷ []) a_is_not_b (absent_nil (0x62 ∷ [])))) (omega arith) in
    let w : Tables = with_words x.after b.after in
    spelled_by 2 canonical shared (a_node 1 canonical shared 0 no_tables ((0x61 ∷ [], node 1) ∷ (0x62 ∷ [], node 1) ∷ []) 11 (omega arith) (absent_nil 0) (refl, tt) refl refl (a_is, (b_is, tt)) (omega arith)
    (both _ _ t h
    (word_segment R canonical (0x61 ∷ []) (value (node 1) ∷ word (0x62 ∷ []) ∷ value (node 1) ∷ word [] ∷ []) h.after a
    (value_segment R canonical (node 1) (word (0x62 ∷ []) ∷ value (node 1) ∷ word [] ∷ []) u x
    (word_segment R canonical (0x62 ∷ []) (value (node 1) ∷ word [] ∷ []) x.after b
    (value_segment R canonical (node 1) (word [] ∷ []) w (a_reference (InlineIn 1 canonical shared) canonical shared 1 1 w refl (omega arith))
    (word_segment R canonical [] [] w (no_text canonical w.words) (no_segments R canonical w))))))))

class_is : class_name ArrayCollection ≢ []
class_is e = cc

-- a collection whose header has this number, which has low bits 111
abbrev collected : (s : Style) (number unused : ℕ) → number ≡ 8 * unused + 7 → Only s (unused ≡ 0) → number < 128 → (u : IsU29 s 67 (0x43 ∷ [])) → Spelled3 s collection (0x0A ∷ number ∷ 0x43 ∷ class_name ArrayCollection ++ 0x09 ∷ 0x01 ∷ 0x01 ∷ [])
collected s number unused e o few u =
    let t : Tables = add_node no_tables 0 in
    let R : Value → Spelling Tables = inner 1 s collection in
    let name : Built (λ w. TextBy s (class_header_kind w.texts) class_kind (class_name ArrayCollection) w) t.words = record {
      fields = field (class_header_kind []) (0x43 ∷ []) ∷ field (class_kind 33) (class_name ArrayCollection) ∷ [];
      after = add_text t.words (class_name ArrayCollection);
      spelled = whole class_is class_text (only_of s) (0x43 ∷ []) u refl refl;
    } in
    let h : Built (Lifted (HeaderBy s (wrapper ArrayCollection) (node 1 ∷ []) number)) t = lifted (HeaderBy s (wrapper ArrayCollection) (node 1 ∷ []) number) t (record {
      fields = name.fields;
      after = add_entry name.after (external ArrayCollection);
      spelled = given (only_traits s) (unused, e, o) name.after name.spelled refl;
    }) in
    let x : Built (R (node 1)) h.after = an_empty_array 0 s collection 1 h.after (omega arith) (absent_cons 0 [] 1 (λ e. omega arith) (absent_nil 1)) refl in
    let whole_row : Built (SpellsIn 2 s collection (node 0)) no_tables = a_node 1 s collection 0 no_tables [] number (omega arith) (absent_nil 0) (refl, refl) refl (no_pairs s) tt few
    (both _ _ t h (value_segment R s (node 1) [] h.after x (no_segments R s x.after))) in
    spelled_by 2 s collection whole_row
  where
    class_text : IsText (class_name ArrayCollection)
    class_text = (is_text-is (class_name ArrayCollection)).0 refl

    only_of : (s : Style) → Only s (NoPlaceBelow 268435456 [] (class_name ArrayCollection))
    only_of free = tt
    only_of canonical = unnamed _ [] (class_name ArrayCollection) (absent_nil (class_name ArrayCollection))

    only_traits : (s : Style) → Only s (NoPlaceBelow 134217728 [] (external ArrayCollection))
    only_traits free = tt
    only_traits canonical = unnamed _ [] (external ArrayCollection) (absent_nil (external ArrayCollection))

    no_pairs : (s : Style) → Only s (◌≡◌ {A = List (List ℕ × Value)} [] (by_name []))
    no_pairs free = tt
    no_pairs canonical = refl

pub collection_canonical : Spelled3 canonical collection (0x0A ∷ 0x07 ∷ 0x43 ∷ class_name ArrayCollection ++ 0x09 ∷ 0x01 ∷ 0x01 ∷ [])
collection_canonical = collected canonical 7 0 refl refl (omega arith) (small canonical 67 (omega arith))

pub collection_free : Spelled3 free collection (0x0A ∷ 0x0F ∷ 0x43 ∷ class_name ArrayCollection ++ 0x09 ∷ 0x01 ∷ 0x01 ∷ [])
collection_free = collected free 15 1 refl tt (omega arith) (small free 67 (omega arith))
