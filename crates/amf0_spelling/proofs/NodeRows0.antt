-- The rows of nodes.
use Rattle.std.proofs.Common.{◌≡◌, ◌≢◌, ℕ, suc, ◌<◌, ◌^◌, Bool, false, true, List, [], ◌∷◌, ◌++◌, length, refl, sym, subst, arith, inl, inr}
use Rattle.std.specs.Int.{to_be_bytes, w16, w32, w64}
use Rattle.amf_io.specs.Field.{Field, field, contents, raw_kind, text_kind, u32_kind, no_refusal}
use Rattle.amf_wire.specs.Style.{Style, free, canonical, Only}
use Rattle.amf_wire.specs.Text.{IsText}
use Rattle.amf_wire.proofs.TextTest.{is_text-is}
use Rattle.amf_graph.specs.Graph.{null, Value, leaf, node, date, xml_document, object, Fits, Node, Graph, node_at}
use Rattle.amf_graph.specs.Order.{Absent}
use Rattle.amf_graph.proofs.Lists.{cons_same}
use Rattle.amf3_spelling.specs.Headers3.{HeaderBy}
use Rattle.amf3_spelling.specs.Segments3.{Lifted, word, value}
use Rattle.amf3_spelling.specs.Spells3.{InlineIn, SpellsIn, Spelled3}
use Rattle.amf3_spelling.specs.Tables.{plain, Words, no_words, add_entry, Tables, no_tables, with_words, add_node}
use Rattle.amf3_spelling.specs.Then.{Spelling, Then, Plain}
use Rattle.amf3_spelling.specs.Words3.{Text, given}
use Rattle.amf3_spelling.specs.WorkedRows3.{items}
use Rattle.amf3_spelling.proofs.Amf3Rows.{spelled_by, an_empty_array}
use Rattle.amf3_spelling.proofs.Build.{Built, both, lifted, no_text, new_text, a_null, a_reference, a_node, no_segments, word_segment, value_segment, absent_nil, absent_cons, unnamed}
use Rattle.amf0_spelling.specs.Tables0.{Tables0, no_tables0, add_node0, add_done0, switched_to}
use Rattle.amf0_spelling.specs.Segments0.{marker0_field, Short, Values0, Pairs0, Count0, PairsBy0, is_empty}
use Rattle.amf0_spelling.specs.Spells0.{NodeBy0, Switched, SpellsIn0, Spelled0}
use Rattle.amf0_spelling.specs.WorkedRows0.{the_a, the_c, open_traits, member, array_of, named_array, twice, only, five, Nodes0}
use Rattle.amf0_spelling.proofs.Build0.{spelled0_by, plainly, short, no_name, a_null0, a_reference0, a_node0, no_values, value_then, no_pairs, pair_then, a_switch}
use Rattle.amf0_spelling.proofs.LeafRows0.{a_text_is}

c_text_is : IsText the_c
c_text_is = (is_text-is the_c).0 refl

-- AMF 0

-- an object of empty class with one member
abbrev pub object0 : (n : ℕ) (x : List ℕ) (v : Value) → IsText x → length x < 2 ^ 16 → Built (SpellsIn0 n canonical (member [] x v) (is_empty x) v) (add_node0 no_tables0 0) → Built (SpellsIn0 (suc n) canonical (member [] x v) false (node 0)) no_tables0
object0 n x v h l b =
    let R : Bool → Value → Spelling Tables0 = SpellsIn0 n canonical (member [] x v) in
    let ps : Built (Pairs0 R ((x, v) ∷ [])) (add_node0 no_tables0 0) = pair_then R x v [] (add_node0 no_tables0 0) h l b (no_pairs R b.after) in
    a_node0 n canonical (member [] x v) false 0 no_tables0 0x03 (omega arith) (absent_nil 0) (refl, tt)
    (record { fields = ps.fields; after = ps.after; spelled = (record { dynamic = refl; unsealed = refl }, inl (refl, refl, record { pairs = (x, v) ∷ []; same_names = refl; in_order = refl; spelled = ps.spelled })) })

abbrev a_pair : List (List ℕ × Value)
a_pair = (the_a, leaf null) ∷ []

-- one with a class, {a: null}
abbrev typed0 : (s : Style) (c : List ℕ) → IsText c → length c < 2 ^ 16 → Only s (c ≢ []) → Only s (a_pair ≡ a_pair) → Built (SpellsIn0 1 s (member c the_a (leaf null)) false (node 0)) no_tables0
typed0 s c h l o p =
    let g : Graph = member c the_a (leaf null) in
    let R : Bool → Value → Spelling Tables0 = SpellsIn0 0 s g in
    let t : Tables0 = add_node0 no_tables0 0 in
    let ps : Built (Pairs0 R ((the_a, leaf null) ∷ [])) t = pair_then R the_a (leaf null) [] t a_text_is (omega arith) (a_null0 0 s g false t) (no_pairs R t) in
    let named : Built (PairsBy0 R s ((the_a, leaf null) ∷ [])) t = record { fields = ps.fields; after = ps.after; spelled = record { pairs = (the_a, leaf null) ∷ []; same_names = refl; in_order = p; spelled = ps.spelled } } in
    let z : Built (Then (Plain (Short c)) (PairsBy0 R s ((the_a, leaf null) ∷ []))) t = both _ _ t (short c h l t) named in
    a_node0 0 s g false 0 no_tables0 0x10 (omega arith) (absent_nil 0) (refl, tt)
    (record { fields = z.fields; after = z.after; spelled = (record { dynamic = refl; unsealed = refl }, inr (refl, o, z.spelled)) })

-- an array of names behind a count
abbrev named0 : (s : Style) (g : Graph) (ps : List (List ℕ × Value)) (t : Tables0) (n : ℕ) → n < 2 ^ 32 → Only s (n ≡ length ps) → Built (PairsBy0 (SpellsIn0 0 s g) s ps) t → Built (Then (Plain (Count0 s (length ps))) (PairsBy0 (SpellsIn0 0 s g) s ps)) t
named0 s g ps t n l o b = both _ _ t (plainly (Count0 s (length ps)) (field (u32_kind no_refusal) (to_be_bytes w32 n) ∷ []) (n, l, o, refl) t) b

unchecked_count : Spelled0 free (array_of []) (0x08 ∷ 0x00 ∷ 0x00 ∷ 0x00 ∷ 0x05 ∷ 0x00 ∷ 0x00 ∷ 0x09 ∷ [])
unchecked_count =
    let g : Graph = array_of [] in
    let t : Tables0 = add_node0 no_tables0 0 in
    let ps : Built (Pairs0 (SpellsIn0 0 free g) []) t = no_pairs (SpellsIn0 0 free g) t in
    let z : Built (Then (Plain (Count0 free 0)) (PairsBy0 (SpellsIn0 0 free g) free [])) t = named0 free g [] t 5 (omega arith) tt (record { fields = ps.fields; after = ps.after; spelled = record { pairs = []; same_names = refl; in_order = tt; spelled = ps.spelled } }) in
    spelled0_by 1 free g (a_node0 0 free g false 0 no_tables0 0x08 (omega arith) (absent_nil 0) tt (record { fields = z.fields; after = z.after; spelled = inl (refl, refl, tt, z.spelled) }))

with_names : Spelled0 canonical named_array (0x08 ∷ 0x00 ∷ 0x00 ∷ 0x00 ∷ 0x01 ∷ 0x00 ∷ 0x01 ∷ 0x61 ∷ 0x05 ∷ 0x00 ∷ 0x00 ∷ 0x09 ∷ [])
with_names =
    let t : Tables0 = add_node0 no_tables0 0 in
    let R : Bool → Value → Spelling Tables0 = SpellsIn0 0 canonical named_array in
    let ps : Built (Pairs0 R ((the_a, leaf null) ∷ [])) t = pair_then R the_a (leaf null) [] t a_text_is (omega arith) (a_null0 0 canonical named_array false t) (no_pairs R t) in
    let z : Built (Then (Plain (Count0 canonical 1)) (PairsBy0 R canonical ((the_a, leaf null) ∷ []))) t =
    named0 canonical named_array ((the_a, leaf null) ∷ []) t 1 (omega arith) refl (record { fields = ps.fields; after = ps.after; spelled = record { pairs = (the_a, leaf null) ∷ []; same_names = refl; in_order = refl; spelled = ps.spelled } }) in
    spelled0_by 1 canonical named_array (a_node0 0 canonical named_array false 0 no_tables0 0x08 (omega arith) (absent_nil 0) tt (record { fields = z.fields; after = z.after; spelled = inl (refl, refl, (λ e. cc), z.spelled) }))

-- an array of values behind their count
abbrev pub array0 : (n : ℕ) (s : Style) (g : Graph) (may_end : Bool) (i : ℕ) (vs : List Value) (t : Tables0) → i < length g.nodes → Absent t.amf3.done i → node_at g i ≡ items vs → length vs < 2 ^ 32 → Built (Values0 (SpellsIn0 n s g) vs) (add_node0 t i) → Built (SpellsIn0 (suc n) s g may_end (node i)) t
array0 n s g may_end i vs t there new is l b =
    let count : List Field = field (u32_kind no_refusal) (to_be_bytes w32 (length vs)) ∷ [] in
    record {
      fields = marker0_field may_end t 0x0A ∷ count ++ b.fields;
      after = b.after;
      spelled = inl (inr (record {
        there = there;
        new = new;
        fits = subst (λ (a : Node). Fits a.head a.names a.values) (sym is) tt;
        marker = 0x0A;
        rest = count ++ b.fields;
        fields = refl;
        behind = subst (λ (a : Node). NodeBy0 (SpellsIn0 n s g) s i a.head a.names a.values 0x0A t (count ++ b.fields) b.after) (sym is)
            (inr (refl, refl, l, record { front = count; back = b.fields; mid = add_node0 t i; joined = refl; first = (refl, refl); second = b.spelled }));
      }));
    }

empty_array : Spelled0 canonical (array_of []) (0x0A ∷ 0x00 ∷ 0x00 ∷ 0x00 ∷ 0x00 ∷ [])
empty_array = let g : Graph = array_of [] in spelled0_by 1 canonical g (array0 0 canonical g false 0 [] no_tables0 (omega arith) (absent_nil 0) refl (omega arith) (no_values (SpellsIn0 0 canonical g) (add_node0 no_tables0 0)))

second : Absent {X = ℕ} (0 ∷ []) 1
second = absent_cons 0 [] 1 (λ e. omega arith) (absent_nil 1)

abbrev both_items : (s : Style) (x : Built (SpellsIn0 1 s twice false (node 1)) (add_node0 no_tables0 0)) (y : Built (SpellsIn0 1 s twice false (node 1)) x.after) → Built (SpellsIn0 2 s twice false (node 0)) no_tables0
both_items s x y = array0 1 s twice false 0 (node 1 ∷ node 1 ∷ []) no_tables0 (omega arith) (absent_nil 0) refl (omega arith)
    (value_then (SpellsIn0 1 s twice) (node 1) (node 1 ∷ []) (add_node0 no_tables0 0) x (value_then (SpellsIn0 1 s twice) (node 1) [] x.after y (no_values (SpellsIn0 1 s twice) y.after)))

switched_twice : Spelled0 free twice (0x0A ∷ 0x00 ∷ 0x00 ∷ 0x00 ∷ 0x02 ∷ 0x11 ∷ 0x09 ∷ 0x01 ∷ 0x01 ∷ 0x11 ∷ 0x09 ∷ 0x00 ∷ [])
switched_twice =
    let t : Tables0 = add_node0 no_tables0 0 in
    let x : Built (SpellsIn 1 free twice (node 1)) t.amf3 = an_empty_array 0 free twice 1 t.amf3 (omega arith) second refl in
    let u : Tables0 = switched_to t x.after in
    let y : Built (SpellsIn 1 free twice (node 1)) u.amf3 = a_reference (InlineIn 1 free twice) free twice 1 0 u.amf3 refl (omega arith) in
    let one : Built (Switched false twice (node 1)) t = a_switch twice false (node 1) t (record { fields = x.fields; after = x.after; spelled = (1, x.spelled) }) in
    let two : Built (Switched false twice (node 1)) u = a_switch twice false (node 1) u (record { fields = y.fields; after = y.after; spelled = (1, y.spelled) }) in
    spelled0_by 2 free twice (both_items free (record { fields = one.fields; after = one.after; spelled = inr (tt, one.spelled) }) (record { fields = two.fields; after = two.after; spelled = inr (tt, two.spelled) }))

named_twice : Spelled0 canonical twice (0x0A ∷ 0x00 ∷ 0x00 ∷ 0x00 ∷ 0x02 ∷ 0x0A ∷ 0x00 ∷ 0x00 ∷ 0x00 ∷ 0x00 ∷ 0x07 ∷ 0x00 ∷ 0x01 ∷ [])
named_twice =
    let t : Tables0 = add_node0 no_tables0 0 in
    let one : Built (SpellsIn0 1 canonical twice false (node 1)) t = array0 0 canonical twice false 1 [] t (omega arith) second refl (omega arith) (no_values (SpellsIn0 0 canonical twice) (add_node0 t 1)) in
    spelled0_by 2 canonical twice (both_items canonical one (a_reference0 1 canonical twice false 1 1 (add_node0 t 1) refl (omega arith)))

-- a date in a zone
abbrev date0 : (s : Style) (zone : ℕ) → zone < 2 ^ 16 → Only s (zone ≡ 0) → Built (SpellsIn0 1 s (only (date five)) false (node 0)) no_tables0
date0 s zone l o =
    a_node0 0 s (only (date five)) false 0 no_tables0 0x0B (omega arith) (absent_nil 0) (omega arith, refl, refl)
    (record { fields = field (raw_kind 8) (to_be_bytes w64 five) ∷ field (raw_kind 2) (to_be_bytes w16 zone) ∷ []; after = add_done0 no_tables0 0; spelled = (refl, zone, l, o, refl, refl) })

document : Spelled0 canonical (only (xml_document the_a)) (0x0F ∷ 0x00 ∷ 0x00 ∷ 0x00 ∷ 0x01 ∷ 0x61 ∷ [])
document =
    let g : Graph = only (xml_document the_a) in
    let f : List Field = field (u32_kind no_refusal) (to_be_bytes w32 1) ∷ contents text_kind the_a in
    spelled0_by 1 canonical g (a_node0 0 canonical g false 0 no_tables0 0x0F (omega arith) (absent_nil 0) (a_text_is, refl, refl) (record { fields = f; after = add_done0 no_tables0 0; spelled = (refl, (a_text_is, omega arith, refl), refl) }))

-- AMF 3

pub a_is : the_a ≢ []
a_is e = cc

-- the traits of a class, given inline
abbrev traits3 : (c : List ℕ) (b : Built (Text canonical c) no_words) → Built (Lifted (HeaderBy canonical (object (open_traits c)) [] 11)) (add_node no_tables 0)
traits3 c b =
    lifted (HeaderBy canonical (object (open_traits c)) [] 11) (add_node no_tables 0) (record {
      fields = b.fields ++ [];
      after = add_entry b.after (plain (open_traits c));
      spelled = given (unnamed _ [] (plain (open_traits c)) (absent_nil (plain (open_traits c)))) refl b.after (record { front = b.fields; back = []; mid = b.after; joined = refl; first = b.spelled; second = (refl, refl) }) refl;
    })

-- an object with the member a
abbrev pub object3 : (n : ℕ) (c : List ℕ) (v : Value) (b : Built (Text canonical c) no_words) (x : Built (Text canonical the_a) (add_entry b.after (plain (open_traits c)))) (w : Built (SpellsIn n canonical (member c the_a v) v) (with_words (add_node no_tables 0) x.after)) → Built (Text canonical []) w.after.words → Built (SpellsIn (suc n) canonical (member c the_a v) (node 0)) no_tables
object3 n c v b x w last =
    let g : Graph = member c the_a v in
    let R : Value → Spelling Tables = SpellsIn n canonical g in
    let t : Tables = add_node no_tables 0 in
    let h : Built (Lifted (HeaderBy canonical (object (open_traits c)) [] 11)) t = traits3 c b in
    a_node n canonical g 0 no_tables ((the_a, v) ∷ []) 11 (omega arith) (absent_nil 0) (refl, tt) refl refl (a_is, tt) (omega arith)
    (both _ _ t h
    (word_segment R canonical the_a (value v ∷ word [] ∷ []) h.after x
    (value_segment R canonical v (word [] ∷ []) (with_words h.after x.after) w
    (word_segment R canonical [] [] w.after last (no_segments R canonical (with_words w.after last.after))))))

abbrev pub new_a : (w : Words) → Absent w.texts the_a → Built (Text canonical the_a) w
new_a w h = new_text canonical the_a w a_is a_text_is (unnamed _ w.texts the_a h) (omega arith)

holds_itself3 : Spelled3 canonical (member [] the_a (node 0)) (0x0A ∷ 0x0B ∷ 0x01 ∷ 0x03 ∷ 0x61 ∷ 0x0A ∷ 0x00 ∷ 0x01 ∷ [])
holds_itself3 =
    let g : Graph = member [] the_a (node 0) in
    let x : Built (Text canonical the_a) (add_entry no_words (plain (open_traits []))) = new_a (add_entry no_words (plain (open_traits []))) (absent_nil the_a) in
    let t : Tables = with_words (add_node no_tables 0) x.after in
    spelled_by 1 canonical g (object3 0 [] (node 0) (no_text canonical no_words) x (a_reference (InlineIn 0 canonical g) canonical g 0 0 t refl (omega arith)) (no_text canonical t.words))

typed3 : Spelled3 canonical (member the_c the_a (leaf null)) (0x0A ∷ 0x0B ∷ 0x03 ∷ 0x43 ∷ 0x03 ∷ 0x61 ∷ 0x01 ∷ 0x01 ∷ [])
typed3 =
    let g : Graph = member the_c the_a (leaf null) in
    let b : Built (Text canonical the_c) no_words = new_text canonical the_c no_words (λ e. cc) c_text_is (unnamed _ [] the_c (absent_nil the_c)) (omega arith) in
    let w : Words = add_entry b.after (plain (open_traits the_c)) in
    let x : Built (Text canonical the_a) w = new_a w (absent_cons the_c [] the_a (λ e. c_is_not_a e) (absent_nil the_a)) in
    let t : Tables = with_words (add_node no_tables 0) x.after in
    spelled_by 1 canonical g (object3 0 the_c (leaf null) b x (a_null (InlineIn 0 canonical g) canonical g t) (no_text canonical t.words))
  where
    c_is_not_a : the_c ≡ the_a → ⊥
    c_is_not_a e = let h = (cons_same e).0 in omega (arith, h)

pub nodes0 : Nodes0
nodes0 = record {
  a_date = spelled0_by 1 canonical (only (date five)) (date0 canonical 0 (omega arith) refl);
  a_zone = spelled0_by 1 free (only (date five)) (date0 free 480 (omega arith) tt);
  a_document = document;
  holds_itself = spelled0_by 1 canonical (member [] the_a (node 0)) (object0 0 the_a (node 0) a_text_is (omega arith) (a_reference0 0 canonical (member [] the_a (node 0)) false 0 0 (add_node0 no_tables0 0) refl (omega arith)));
  holds_itself3 = holds_itself3;
  empty_name = spelled0_by 1 canonical (member [] [] (leaf null)) (object0 0 [] (leaf null) no_name (omega arith) (a_null0 0 canonical (member [] [] (leaf null)) true (add_node0 no_tables0 0)));
  typed = spelled0_by 1 canonical (member the_c the_a (leaf null)) (typed0 canonical the_c c_text_is (omega arith) (λ e. cc) refl);
  typed3 = typed3;
  typed_empty = spelled0_by 1 free (member [] the_a (leaf null)) (typed0 free [] no_name (omega arith) tt tt);
  unchecked_count = unchecked_count;
  empty_array = empty_array;
  empty_array3 = spelled_by 1 canonical (array_of []) (an_empty_array 0 canonical (array_of []) 0 no_tables (omega arith) (absent_nil 0) refl);
  with_names = with_names;
  switched_twice = switched_twice;
  named_twice = named_twice;
}
