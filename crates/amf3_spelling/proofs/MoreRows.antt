-- More rows of AMF 3: names that stand twice, an open node, wrappers and their class names by place, a vector with a type name.
use Rattle.std.proofs.Common.{◌≡◌, ◌≢◌, ℕ, false, [], ◌∷◌, ◌++◌, refl, arith, inl}
use Rattle.amf_io.specs.Field.{field}
use Rattle.amf_wire.specs.Style.{free, canonical}
use Rattle.amf_wire.specs.Text.{IsText}
use Rattle.amf_wire.proofs.Shortest.{small}
use Rattle.amf_wire.proofs.TextTest.{is_text-is}
use Rattle.amf_graph.specs.declared.wrapped.Wrapped.TheVariants.{ArrayCollection}
use Rattle.amf_graph.specs.Graph.{null, boolean, text, Value, leaf, node, array, wrapper, values, Graph, class_name}
use Rattle.amf_graph.specs.declared.value.Value.TheVariants.{Node as NodeRef}
use Rattle.amf_graph.specs.Arena as arena
use Rattle.amf_graph.specs.ByName.{by_name}
use Rattle.amf3_spelling.specs.Tables.{external, Words, Tables, no_tables, with_words, add_node, add_text, add_entry}
use Rattle.amf3_spelling.specs.KeptTables.{tables_of}
use Rattle.amf3_spelling.specs.Then.{Spelling}
use Rattle.amf3_spelling.specs.Refusals3.{class_header_kind, class_kind}
use Rattle.amf3_spelling.specs.Words3.{Text, TextBy, whole, placed, given, NoPlaceBelow}
use Rattle.amf3_spelling.specs.Segments3.{word, value, Lifted}
use Rattle.amf3_spelling.specs.Headers3.{HeaderBy}
use Rattle.amf3_spelling.specs.Reads3.{IsReading3}
use Rattle.amf3_spelling.specs.Spells3.{InlineIn, Spelled3}
use Rattle.amf3_spelling.specs.WorkedKinds3.{single}
use Rattle.amf3_spelling.specs.WorkedMoreRows3.{one_name, named_twice, open_array, open_tables, reference_fields, two_collections, name_and_collection}
use Rattle.amf3_spelling.proofs.Build.{Built, both, lifted, a_leaf, a_null, no_text, new_text, old_text, a_text, a_reference, a_node, no_segments, word_segment, value_segment, absent_nil, absent_cons, unnamed, unnamed_zero}
use Rattle.amf3_spelling.proofs.Amf3Rows.{inner, spelled_by, an_empty_array}
use Rattle.amf3_spelling.proofs.KindRows.{flag_segment, single_node, counted, start, a_is, c_is, a_text_is, c_text_is}

pub order_stays : by_name one_name ≡ one_name
order_stays = refl

pub name_twice : Spelled3 free named_twice (0x09 ∷ 0x01 ∷ 0x03 ∷ 0x61 ∷ 0x01 ∷ 0x03 ∷ 0x61 ∷ 0x02 ∷ 0x01 ∷ [])
name_twice =
    let R : Value → Spelling Tables = inner 0 free named_twice in
    let I : ℕ → Spelling Tables = InlineIn 0 free named_twice in
    let no : Value = leaf (boolean false) in
    let a : Built (Text free (0x61 ∷ [])) start.words = new_text free (0x61 ∷ []) start.words a_is a_text_is tt (omega arith) in
    let u : Tables = with_words start a.after in
    let b : Built (Text free (0x61 ∷ [])) u.words = new_text free (0x61 ∷ []) u.words a_is a_text_is tt (omega arith) in
    let w : Tables = with_words u b.after in
    let x : Built (R no) w = a_leaf I free named_twice (boolean false) w tt (record { fields = []; after = w.words; spelled = (refl, refl) }) in
    spelled_by 1 free named_twice (a_node 0 free named_twice 0 no_tables ((0x61 ∷ [], leaf null) ∷ (0x61 ∷ [], leaf (boolean false)) ∷ []) 1 (omega arith) (absent_nil 0) tt refl tt (a_is, (a_is, tt)) (omega arith)
    (both _ _ start (counted free array [] 1 start (refl, (refl, refl)))
    (word_segment R free (0x61 ∷ []) (value (leaf null) ∷ word (0x61 ∷ []) ∷ value no ∷ word [] ∷ []) start a
    (value_segment R free (leaf null) (word (0x61 ∷ []) ∷ value no ∷ word [] ∷ []) u (a_null I free named_twice u)
    (word_segment R free (0x61 ∷ []) (value no ∷ word [] ∷ []) u b
    (value_segment R free no (word [] ∷ []) w x
    (word_segment R free [] [] w (no_text free w.words) (no_segments R free w))))))))

pub name_by_place : Spelled3 canonical named_twice (0x09 ∷ 0x01 ∷ 0x03 ∷ 0x61 ∷ 0x01 ∷ 0x00 ∷ 0x02 ∷ 0x01 ∷ [])
name_by_place =
    let R : Value → Spelling Tables = inner 0 canonical named_twice in
    let I : ℕ → Spelling Tables = InlineIn 0 canonical named_twice in
    let no : Value = leaf (boolean false) in
    let a : Built (Text canonical (0x61 ∷ [])) start.words = new_text canonical (0x61 ∷ []) start.words a_is a_text_is (unnamed _ [] (0x61 ∷ []) (absent_nil (0x61 ∷ []))) (omega arith) in
    let u : Tables = with_words start a.after in
    let b : Built (Text canonical (0x61 ∷ [])) u.words = old_text canonical (0x61 ∷ []) u.words 0 a_is refl (unnamed_zero u.words.texts (0x61 ∷ [])) (omega arith) in
    let w : Tables = with_words u b.after in
    let x : Built (R no) w = a_leaf I canonical named_twice (boolean false) w tt (record { fields = []; after = w.words; spelled = (refl, refl) }) in
    spelled_by 1 canonical named_twice (a_node 0 canonical named_twice 0 no_tables ((0x61 ∷ [], leaf null) ∷ (0x61 ∷ [], leaf (boolean false)) ∷ []) 1 (omega arith) (absent_nil 0) tt refl refl (a_is, (a_is, tt)) (omega arith)
    (both _ _ start (counted canonical array [] 1 start (refl, (refl, refl)))
    (word_segment R canonical (0x61 ∷ []) (value (leaf null) ∷ word (0x61 ∷ []) ∷ value no ∷ word [] ∷ []) start a
    (value_segment R canonical (leaf null) (word (0x61 ∷ []) ∷ value no ∷ word [] ∷ []) u (a_null I canonical named_twice u)
    (word_segment R canonical (0x61 ∷ []) (value no ∷ word [] ∷ []) u b
    (value_segment R canonical no (word [] ∷ []) w x
    (word_segment R canonical [] [] w (no_text canonical w.words) (no_segments R canonical w))))))))

-- the array closed as it is
abbrev closed_array : arena.Arena
closed_array = record { texts = []; traits = []; nodes = record { is_open = false; head = arena.array; names = []; values = [] } ∷ [] }

closed_completes : arena.Completes open_array closed_array
closed_completes = record {
  finished = record {
    built = record { texts = tt; traits = tt; nodes = (record { head = tt; names = tt; values = tt; room = λ e. tt; fits = λ e. tt }, tt) };
    closed = (refl, tt);
  };
  more_texts = [];
  texts = refl;
  more_traits = [];
  traits = refl;
  nodes = ((refl, ([], refl), ([], refl)), tt);
}

pub open_node : IsReading3 open_array open_tables reference_fields
open_node = record {
  graph = closed_array;
  completes = closed_completes;
  value = NodeRef (record { 0 = 0 });
  names = omega arith;
  after = tables_of open_array open_tables;
  spelled = (0, inl (record { place = 0; header = 0x00 ∷ []; there = refl; spelled = small free 0 (omega arith); fields = refl; same = refl }));
}

pub typed_values : Spelled3 canonical (single (values false (0x43 ∷ [])) (leaf null ∷ [])) (0x10 ∷ 0x03 ∷ 0x00 ∷ 0x03 ∷ 0x43 ∷ 0x01 ∷ [])
typed_values =
    let g : Graph = single (values false (0x43 ∷ [])) (leaf null ∷ []) in
    let R : Value → Spelling Tables = inner 0 canonical (single (values false (0x43 ∷ [])) (leaf null ∷ [])) in
    let I : ℕ → Spelling Tables = InlineIn 0 canonical (single (values false (0x43 ∷ [])) (leaf null ∷ [])) in
    let c : Built (Text canonical (0x43 ∷ [])) start.words = new_text canonical (0x43 ∷ []) start.words c_is c_text_is (unnamed _ [] (0x43 ∷ []) (absent_nil (0x43 ∷ []))) (omega arith) in
    let u : Tables = with_words start c.after in
    spelled_by 1 canonical g (single_node canonical (values false (0x43 ∷ [])) (leaf null ∷ []) 3 refl (omega arith)
    (counted canonical (values false (0x43 ∷ [])) (leaf null ∷ []) 3 start (refl, (refl, refl)))
    (flag_segment R canonical false 0 (word (0x43 ∷ []) ∷ value (leaf null) ∷ []) start (refl, omega arith, omega arith)
    (word_segment R canonical (0x43 ∷ []) (value (leaf null) ∷ []) start c
    (value_segment R canonical (leaf null) [] u (a_null I canonical g u) (no_segments R canonical u)))))

-- collections

class_is : class_name ArrayCollection ≢ []
class_is e = cc

class_text : IsText (class_name ArrayCollection)
class_text = (is_text-is (class_name ArrayCollection)).0 refl

abbrev Class : Spelling Words
Class w = TextBy canonical (class_header_kind w.texts) class_kind (class_name ArrayCollection) w

-- the header of the first collection, behind a class name
abbrev first_collection : (i : ℕ) (t : Tables) (name : Built Class t.words) → NoPlaceBelow 134217728 t.words.traits (external ArrayCollection) → Built (Lifted (HeaderBy canonical (wrapper ArrayCollection) (node i ∷ []) 7)) t
first_collection i t name new = lifted (HeaderBy canonical (wrapper ArrayCollection) (node i ∷ []) 7) t (record {
  fields = name.fields;
  after = add_entry name.after (external ArrayCollection);
  spelled = given new (0, refl, refl) name.after name.spelled refl;
})

pub wrapper_traits_by_place : Spelled3 canonical two_collections (0x09 ∷ 0x05 ∷ 0x01 ∷ 0x0A ∷ 0x07 ∷ 0x43 ∷ class_name ArrayCollection ++ 0x09 ∷ 0x01 ∷ 0x01 ∷ 0x0A ∷ 0x01 ∷ 0x09 ∷ 0x04 ∷ [])
wrapper_traits_by_place =
    let R : Value → Spelling Tables = inner 2 canonical two_collections in
    let Q : Value → Spelling Tables = inner 1 canonical two_collections in
    let t : Tables = add_node start 1 in
    let name : Built Class t.words = record {
      fields = field (class_header_kind []) (0x43 ∷ []) ∷ field (class_kind 33) (class_name ArrayCollection) ∷ [];
      after = add_text t.words (class_name ArrayCollection);
      spelled = whole class_is class_text (unnamed _ [] (class_name ArrayCollection) (absent_nil (class_name ArrayCollection))) (0x43 ∷ []) (small canonical 67 (omega arith)) refl refl;
    } in
    let h : Built (Lifted (HeaderBy canonical (wrapper ArrayCollection) (node 2 ∷ []) 7)) t = first_collection 2 t name (unnamed _ [] (external ArrayCollection) (absent_nil (external ArrayCollection))) in
    let e : Built (Q (node 2)) h.after = an_empty_array 0 canonical two_collections 2 h.after (omega arith) (absent_cons 0 (1 ∷ []) 2 (λ e. omega arith) (absent_cons 1 [] 2 (λ e. omega arith) (absent_nil 2))) refl in
    let x : Built (R (node 1)) start = a_node 1 canonical two_collections 1 start [] 7 (omega arith) (absent_cons 0 [] 1 (λ e. omega arith) (absent_nil 1)) (refl, refl) refl refl tt (omega arith)
    (both _ _ t h (value_segment Q canonical (node 2) [] h.after e (no_segments Q canonical e.after))) in
    let u : Tables = add_node x.after 3 in
    let k : Built (Lifted (HeaderBy canonical (wrapper ArrayCollection) (node 2 ∷ []) 1)) u = lifted (HeaderBy canonical (wrapper ArrayCollection) (node 2 ∷ []) 1) u (record {
      fields = [];
      after = u.words;
      spelled = placed 0 refl (unnamed_zero u.words.traits (external ArrayCollection)) refl refl refl;
    }) in
    let r : Built (Q (node 2)) k.after = a_reference (InlineIn 1 canonical two_collections) canonical two_collections 2 2 k.after refl (omega arith) in
    let y : Built (R (node 3)) x.after = a_node 1 canonical two_collections 3 x.after [] 1 (omega arith) (absent_cons 0 (1 ∷ 2 ∷ []) 3 (λ e. omega arith) (absent_cons 1 (2 ∷ []) 3 (λ e. omega arith) (absent_cons 2 [] 3 (λ e. omega arith) (absent_nil 3)))) (refl, refl) refl refl tt (omega arith)
    (both _ _ u k (value_segment Q canonical (node 2) [] k.after r (no_segments Q canonical r.after))) in
    spelled_by 3 canonical two_collections (a_node 2 canonical two_collections 0 no_tables [] 5 (omega arith) (absent_nil 0) tt refl refl tt (omega arith)
    (both _ _ start (counted canonical array (node 1 ∷ node 3 ∷ []) 5 start (refl, (refl, refl)))
    (word_segment R canonical [] (value (node 1) ∷ value (node 3) ∷ []) start (no_text canonical start.words)
    (value_segment R canonical (node 1) (value (node 3) ∷ []) start x
    (value_segment R canonical (node 3) [] x.after y (no_segments R canonical y.after))))))

pub class_by_place : Spelled3 canonical name_and_collection (0x09 ∷ 0x05 ∷ 0x01 ∷ 0x06 ∷ 0x43 ∷ class_name ArrayCollection ++ 0x0A ∷ 0x07 ∷ 0x00 ∷ 0x09 ∷ 0x01 ∷ 0x01 ∷ [])
class_by_place =
    let R : Value → Spelling Tables = inner 2 canonical name_and_collection in
    let Q : Value → Spelling Tables = inner 1 canonical name_and_collection in
    let v : Value = leaf (text (class_name ArrayCollection)) in
    let n : Built (R v) start = a_text (InlineIn 2 canonical name_and_collection) canonical name_and_collection (class_name ArrayCollection) start class_text (new_text canonical (class_name ArrayCollection) start.words class_is class_text (unnamed _ [] (class_name ArrayCollection) (absent_nil (class_name ArrayCollection))) (omega arith)) in
    let t : Tables = add_node n.after 1 in
    let name : Built Class t.words = record {
      fields = field (class_header_kind t.words.texts) (0x00 ∷ []) ∷ [];
      after = t.words;
      spelled = placed class_is 0 refl (unnamed_zero t.words.texts (class_name ArrayCollection)) (0x00 ∷ []) (small canonical 0 (omega arith)) refl refl;
    } in
    let h : Built (Lifted (HeaderBy canonical (wrapper ArrayCollection) (node 2 ∷ []) 7)) t = first_collection 2 t name (unnamed _ [] (external ArrayCollection) (absent_nil (external ArrayCollection))) in
    let e : Built (Q (node 2)) h.after = an_empty_array 0 canonical name_and_collection 2 h.after (omega arith) (absent_cons 0 (1 ∷ []) 2 (λ e. omega arith) (absent_cons 1 [] 2 (λ e. omega arith) (absent_nil 2))) refl in
    let x : Built (R (node 1)) n.after = a_node 1 canonical name_and_collection 1 n.after [] 7 (omega arith) (absent_cons 0 [] 1 (λ e. omega arith) (absent_nil 1)) (refl, refl) refl refl tt (omega arith)
    (both _ _ t h (value_segment Q canonical (node 2) [] h.after e (no_segments Q canonical e.after))) in
    spelled_by 3 canonical name_and_collection (a_node 2 canonical name_and_collection 0 no_tables [] 5 (omega arith) (absent_nil 0) tt refl refl tt (omega arith)
    (both _ _ start (counted canonical array (leaf (text (class_name ArrayCollection)) ∷ node 1 ∷ []) 5 start (refl, (refl, refl)))
    (word_segment R canonical [] (value v ∷ value (node 1) ∷ []) start (no_text canonical start.words)
    (value_segment R canonical v (value (node 1) ∷ []) start n
    (value_segment R canonical (node 1) [] n.after x (no_segments R canonical x.after))))))
