-- A value of AMF 3 that is read is spelled so in each finished graph that completes what is there afterwards.
use Rattle.std.proofs.Common.{◌≡◌, ℕ, zero, suc, ◌*◌, ◌/◌, ◌%◌, ◌<◌, Bool, true, false, cond, eqb, leb, ◌&&◌, List, [], ◌∷◌, ◌++◌, length, map, get_or, slice_get, slice_index, Option, Some, None, refl, sym, ap, ◌∙◌, arith, subst, inl, inr}
use Rattle.std.proofs.lemmas.Bool.{eqb-true}
use Rattle.std.proofs.lemmas.List.{append-nil}
use Rattle.std.specs.Int.{from_be_bytes, w64}
use Rattle.amf_wire.specs.Style.{free}
use Rattle.amf_wire.specs.U29.{u29_value}
use Rattle.amf_wire.specs.Integer.{integer_of, integer_bits}
use Rattle.amf_wire.proofs.U29Fields.{spelled_below}
use Rattle.amf_wire.proofs.Integers.{integer_of-in_range, integer_bits-integer_of}
use Rattle.amf_io.specs.declared.reason.Reason.TheVariants.{BadTraits, WrongKind}
use Rattle.amf_io.specs.Field.{Field, field, fixed, whole, AreBytes, u29_kind, no_refusal, flat, text_kind}
use Rattle.amf_io.specs.Layout.{give, Takes, Path, Runs}
use Rattle.amf_io.proofs.Whole.{whole_fixed}
use Rattle.amf_io.proofs.Bytes.{bytes_front, bytes_back}
use Rattle.amf_io.proofs.Paths.{bind_runs}
use Rattle.amf_io.proofs.Ables.{bytes_parts}
use Rattle.amf_graph.specs.Graph.{Leaf, leaf, IsLeaf, node_at}
use Rattle.amf_graph.specs.Graph as graph
use Rattle.amf_graph.specs.declared.value.Value.{Value as Stored}
use Rattle.amf_graph.specs.declared.value.Value.TheVariants.{Undefined, Null, Bool as Flag, Integer, Double, Text as TextRef}
use Rattle.amf_graph.specs.Arena.{Arena, value_content, graph_of, Names, NodesComplete, Completes}
use Rattle.amf_graph.specs.Building.{stored_at}
use Rattle.amf3_spelling.specs.Refusals3.{leaf_marker, marker, markers, marker_kind, header_kind, header_refusal, kind_refusal, text_header_refusal}
use Rattle.amf3_spelling.specs.Headers3.{marker_field, header_field}
use Rattle.amf3_spelling.specs.Nodes3.{Begun}
use Rattle.amf3_spelling.specs.Spells3.{LeafBy}
use Rattle.amf_graph.specs.declared.kind.NodeKind.{NodeKind}
use Rattle.amf3_spelling.specs.declared.marker.Marker.{Marker}
use Rattle.amf3_spelling.specs.declared.marker.Marker.TheVariants as marker
use Rattle.amf3_spelling.specs.Markers3.{node_marker, marker_byte, marker_at}
use Rattle.amf3_layout_laws.specs.Layout3State.{State3, stored_marker}
use Rattle.amf3_layout_laws.specs.Layout3Words.{TextRead, text_layout}
use Rattle.amf3_layout_laws.specs.Layout3.{ValueRead, read, inline_node, known_node, node_layout, behind_marker, value_layout}
use Rattle.amf3_layout_laws.proofs.Layout3Able.{byte_at, marker_below}
use Rattle.amf3_layout_laws.proofs.Layout3Marks.{marks_stay}
use Rattle.amf3_layout_laws.proofs.Layout3Contents.{Larger, larger_itself, all_place, Good}
use Rattle.amf3_layout_laws.proofs.Layout3SoundTexts.{taken, give_is, even_is, odd_is, is_number, spelled_number, TextSound, text_sound}
use Rattle.amf3_layout_laws.proofs.Layout3SoundOpenings.{eight_is}
use Rattle.amf3_layout_laws.proofs.Layout3SoundParts.{table, Sounds, ValueSound, nodes_append, completes_before, table_text, text_content}
use Rattle.amf3_layout_laws.proofs.Layout3SoundInline.{spell3, inline_sound}

pub one_byte : (y : List ℕ) → whole (fixed 1) y ≡ Some (length y) → y ≡ slice_index y 0 ∷ []
one_byte y w = by y (sym (whole_fixed 1 y (length y) w))
  where
    by : (y : List ℕ) → length y ≡ 1 → y ≡ slice_index y 0 ∷ []
    by [] e = absurd (omega arith)
    by (m ∷ []) e = refl
    by (m ∷ k ∷ y) e = absurd (omega arith)

-- the markers of the table, in each graph that completes
graph_marks : (s : State3) (g : Arena) (r : Stored) → Good s → Completes s.arena g → markers (graph_of g r) s.tables.nodes ≡ s.marks
graph_marks s g r good c = marks_stay s.arena g r s.tables.nodes c.nodes good.tables.nodes ∙ sym good.marks

module _ (d m : ℕ) (s : State3) (g : Good s) (f : Field) (is : f ≡ marker_field m) where
  -- a value that is no node
  leaf_value : (x : ValueRead) (rest : List Field) → Good x.state → Larger s.arena x.state.arena → x.state.arena.nodes ≡ s.arena.nodes → x.state.tables.nodes ≡ s.tables.nodes → Names x.state.arena x.value
      → ((a : Arena) → Completes x.state.arena a → (l : Leaf) × (value_content a x.value ≡ leaf l) × (leaf_marker l ≡ m) × IsLeaf l × LeafBy free l s.words rest x.state.words) → ValueSound (spell3 d) s (f ∷ rest) x
  leaf_value x rest good larger nodes same named by = record {
    good = good;
    larger = larger;
    more = [];
    nodes = nodes ∙ sym (append-nil s.arena.nodes);
    closed = tt;
    named = named;
    spelled = λ a r c.
        let k = by a c in
        subst (λ v. spell3 d a r v (table s) (f ∷ rest) (table x.state)) (sym k.1)
        (k.3, record { front = f ∷ []; back = rest; mid = table s; joined = refl; first = (ap (λ h. h ∷ []) (is ∙ ap marker_field (sym k.2)), refl); second = (x.state.words, k.4, table_text s x.state nodes same) });
  }

  plain_value : (v : Stored) (l : Leaf) (rest : List Field) (x : ValueRead) → Names s.arena v → ((a : Arena) → value_content a v ≡ leaf l) → leaf_marker l ≡ m → IsLeaf l → LeafBy free l s.words rest s.words → read v s ≡ x → ValueSound (spell3 d) s (f ∷ rest) x
  plain_value v l rest x named content mark is_leaf by e =
      subst (λ y. ValueSound (spell3 d) s (f ∷ rest) y) e (leaf_value (read v s) rest g (larger_itself s.arena s.arena refl refl (omega arith)) refl refl named (λ a c. (l, content a, mark, is_leaf, by)))

-- a node of the table
place_of : (h : ℕ → ℕ) (xs : List ℕ) (k m : ℕ) → slice_get (map h xs) k ≡ Some m → (slice_get xs k ≡ Some (get_or xs k 0)) × (h (get_or xs k 0) ≡ m)
place_of h [] k m e = absurd cc
place_of h (x ∷ xs) zero m e = (refl, cc)
place_of h (x ∷ xs) (suc k) m e = place_of h xs k m e

kind_is : (m : ℕ) (o : Option ℕ) → kind_refusal m o ≡ None → o ≡ Some m
kind_is m None e = absurd cc
kind_is m (Some k) e = by (eqb k m) refl e
  where
    by : (b : Bool) → eqb k m ≡ b → cond b None (Some WrongKind) ≡ None → Some k ≡ Some m
    by true h e = ap Some (eqb-true k m h)
    by false h e = absurd cc

even_row : (marks : List ℕ) (traits m n : ℕ) → eqb (n % 2) 0 ≡ true → header_refusal marks traits m n ≡ None → slice_get marks (n / 2) ≡ Some m
even_row marks traits m n e ok = kind_is m (slice_get marks (n / 2)) (ap (λ t. cond t (kind_refusal m (slice_get marks (n / 2))) (cond ((eqb m 10 && eqb (n % 4) 1) && leb traits (n / 4)) (Some BadTraits) None)) (sym e) ∙ ok)

odd_row : (marks : List ℕ) (traits m n : ℕ) → eqb (n % 2) 0 ≡ false → header_refusal marks traits m n ≡ None → cond ((eqb m 10 && eqb (n % 4) 1) && leb traits (n / 4)) (Some BadTraits) None ≡ None
odd_row marks traits m n e ok = ap (λ t. cond t (kind_refusal m (slice_get marks (n / 2))) (cond ((eqb m 10 && eqb (n % 4) 1) && leb traits (n / 4)) (Some BadTraits) None)) (sym e) ∙ ok

traits_row : (traits n : ℕ) → cond ((true && eqb (n % 4) 1) && leb traits (n / 4)) (Some BadTraits) None ≡ None → eqb (n % 4) 1 ≡ true → n / 4 < traits
traits_row traits n ok e = go (leb traits (n / 4)) refl (ap (λ t. cond ((true && t) && leb traits (n / 4)) (Some BadTraits) None) (sym e) ∙ ok)
  where
    below : (a b : ℕ) → leb a b ≡ false → b < a
    below a b e = grind arith

    go : (b : Bool) → leb traits (n / 4) ≡ b → cond b (Some BadTraits) None ≡ None → n / 4 < traits
    go true e f = absurd cc
    go false e f = below traits (n / 4) e

two_fields : (f a h b : Field) (rest : List Field) → f ≡ a → h ≡ b → (f ∷ h ∷ rest) ≡ (a ∷ b ∷ rest)
two_fields f a h b rest p q = ap (λ x. x ∷ h ∷ rest) p ∙ ap (λ x. a ∷ x ∷ rest) q

header_is : (k : NodeKind) (s : State3) (g : Good s) (h : Field) → Takes (header_kind s.marks (length s.words.traits) (node_marker k)) h → (a : Arena) (r : Stored) → Completes s.arena a → h ≡ header_field (graph_of a r) (table s) (node_marker k) h.bytes
header_is k s g h t a r c = taken (header_kind s.marks (length s.words.traits) (node_marker k)) h t ∙ ap (λ l. field (header_kind l (length s.words.traits) (node_marker k)) h.bytes) (sym (graph_marks s a r g c))

known_sound : (d : ℕ) (k : NodeKind) (s : State3) → Good s → (f : Field) → f ≡ marker_field (node_marker k) → (h : Field) → Takes (header_kind s.marks (length s.words.traits) (node_marker k)) h → AreBytes h.bytes → eqb (u29_value h.bytes % 2) 0 ≡ true → ValueSound (spell3 d) s (f ∷ h ∷ []) (known_node s (u29_value h.bytes / 2))
known_sound d k s g f is h t b e =
    let m = node_marker k in
    let n = u29_value h.bytes in
    let row = even_row s.marks (length s.words.traits) m n e t.clean in
    let pl = place_of (λ i. stored_marker (stored_at s.arena i).head) s.tables.nodes (n / 2) m (ap (λ l. slice_get l (n / 2)) (sym g.marks) ∙ row) in
    let i = get_or s.tables.nodes (n / 2) 0 in
    record {
      good = g;
      larger = larger_itself s.arena s.arena refl refl (omega arith);
      more = [];
      nodes = sym (append-nil s.arena.nodes);
      closed = tt;
      named = all_place (λ j. j < length s.arena.nodes) s.tables.nodes (n / 2) i g.tables.nodes pl.0;
      spelled = λ a r c.
          let mk : marker (node_at (graph_of a r) i).head ≡ m = (place_of (λ j. marker (node_at (graph_of a r) j).head) s.tables.nodes (n / 2) m (ap (λ l. slice_get l (n / 2)) (graph_marks s a r g c) ∙ row)).1 in
          inl (record {
            place = n / 2;
            header = h.bytes;
            there = pl.0;
            spelled = is_number (2 * (n / 2)) h.bytes b t.is_whole (even_is n e);
            same = refl;
            fields = two_fields f (marker_field m) h (header_field (graph_of a r) (table s) m h.bytes) [] is (header_is k s g h t a r c) ∙ ap (λ j. marker_field j ∷ header_field (graph_of a r) (table s) j h.bytes ∷ []) (sym mk);
          });
    }

new_sound : (N : ℕ) (k : NodeKind) (s : State3) → Sounds (spell3 N) (value_layout N) → Good s → (f : Field) → f ≡ marker_field (node_marker k) → (h : Field) → Takes (header_kind s.marks (length s.words.traits) (node_marker k)) h → AreBytes h.bytes → eqb (u29_value h.bytes % 2) 0 ≡ false
    → (rest : List Field) (x : ValueRead) → AreBytes (flat rest) → Runs (inline_node (value_layout N) N k (u29_value h.bytes) s) rest x → ValueSound (spell3 (suc N)) s (f ∷ h ∷ rest) x
new_sound N k s ih g f is h t b odd rest x br r =
    let m = node_marker k in
    let n = u29_value h.bytes in
    let row = odd_row s.marks (length s.words.traits) m n odd t.clean in
    let z = inline_sound N (value_layout N) N ih k n h.bytes s g (spelled_number h.bytes b t.is_whole) (odd_is n odd) odd
    (λ i. traits_row (length s.words.traits) n (subst (λ j. cond ((eqb j 10 && eqb (n % 4) 1) && leb (length s.words.traits) (n / 4)) (Some BadTraits) None ≡ None) i row)) rest x br r in
    record {
      good = z.good;
      larger = z.larger;
      more = z.more;
      nodes = z.nodes;
      closed = z.closed;
      named = subst (Names x.state.arena) (sym z.is) z.named;
      spelled = λ a q c.
          let cs = completes_before s.arena x.state.arena a z.larger (subst (λ l. NodesComplete s.arena.nodes l) (sym z.nodes) (nodes_append s.arena.nodes z.more)) c in
          subst (λ v. spell3 (suc N) a q v (table s) (f ∷ h ∷ rest) (table x.state)) (sym (ap (value_content a) z.is))
          (inr (subst (λ l. Begun (spell3 N a q) free (graph_of a q) z.place (table s) l (table x.state)) (sym (two_fields f (marker_field m) h (header_field (graph_of a q) (table s) m h.bytes) rest is (header_is k s g h t a q cs))) (z.spelled a q c)));
    }

node_sound : (N : ℕ) (k : NodeKind) (s : State3) → Sounds (spell3 N) (value_layout N) → Good s → (f : Field) → f ≡ marker_field (node_marker k) → (rest : List Field) (x : ValueRead) → AreBytes (flat rest) → Runs (node_layout (value_layout N) N k s) rest x → ValueSound (spell3 (suc N)) s (f ∷ rest) x
node_sound N k s ih g f is [] x b r = absurd cc
node_sound N k s ih g f is (h ∷ rest) x b r = by (eqb (u29_value h.bytes % 2) 0) refl rest x (bytes_back h.bytes (flat rest) b) r.1
  where
    by : (t : Bool) → eqb (u29_value h.bytes % 2) 0 ≡ t → (rest : List Field) (x : ValueRead) → AreBytes (flat rest) → Runs (cond t (give (known_node s (u29_value h.bytes / 2))) (inline_node (value_layout N) N k (u29_value h.bytes) s)) rest x → ValueSound (spell3 (suc N)) s (f ∷ h ∷ rest) x
    by true e [] y b2 r2 = subst (λ w. ValueSound (spell3 (suc N)) s (f ∷ h ∷ []) w) (give_is (known_node s (u29_value h.bytes / 2)) y r2) (known_sound (suc N) k s g f is h r.0 (bytes_front h.bytes (flat rest) b) e)
    by true e (i ∷ rest) y b2 r2 = absurd r2
    by false e rest2 y b2 r2 = new_sound N k s ih g f is h r.0 (bytes_front h.bytes (flat rest) b) e rest2 y b2 r2

form_sound : (N : ℕ) (y : Marker) (s : State3) → Sounds (spell3 N) (value_layout N) → Good s → (f : Field) → f ≡ marker_field (marker_byte y) → (rest : List Field) (x : ValueRead) → AreBytes (flat rest) → Runs (behind_marker (value_layout N) N s y) rest x → ValueSound (spell3 (suc N)) s (f ∷ rest) x
form_sound N marker.Undefined s ih g f is [] x b r = plain_value (suc N) 0 s g f is Undefined graph.undefined [] x tt (λ a. refl) refl tt (refl, refl) (give_is (read Undefined s) x r)
form_sound N marker.Undefined s ih g f is (h ∷ rest) x b r = absurd r
form_sound N marker.Null s ih g f is [] x b r = plain_value (suc N) 1 s g f is Null graph.null [] x tt (λ a. refl) refl tt (refl, refl) (give_is (read Null s) x r)
form_sound N marker.Null s ih g f is (h ∷ rest) x b r = absurd r
form_sound N marker.False s ih g f is [] x b r = plain_value (suc N) 2 s g f is (Flag false) (graph.boolean false) [] x tt (λ a. refl) refl tt (refl, refl) (give_is (read (Flag false) s) x r)
form_sound N marker.False s ih g f is (h ∷ rest) x b r = absurd r
form_sound N marker.True s ih g f is [] x b r = plain_value (suc N) 3 s g f is (Flag true) (graph.boolean true) [] x tt (λ a. refl) refl tt (refl, refl) (give_is (read (Flag true) s) x r)
form_sound N marker.True s ih g f is (h ∷ rest) x b r = absurd r
form_sound N marker.Integer s ih g f is [] x b r = absurd cc
form_sound N marker.Integer s ih g f is (h ∷ []) x b r =
    let n = u29_value h.bytes in
    let bytes = bytes_front h.bytes [] b in
    let low = spelled_below (spelled_number h.bytes bytes r.0.is_whole) in
    let ok = integer_of-in_range n low in
    plain_value (suc N) 4 s g f is (Integer (integer_of n)) (graph.integer (integer_of n)) (h ∷ []) x ok (λ a. refl) refl ok
    (h.bytes, is_number (integer_bits (integer_of n)) h.bytes bytes r.0.is_whole (sym (integer_bits-integer_of n low)), ap (λ z. z ∷ []) (taken (u29_kind no_refusal) h r.0), refl) (give_is (read (Integer (integer_of n)) s) x r.1)
form_sound N marker.Integer s ih g f is (h ∷ i ∷ rest) x b r = absurd r.1
form_sound N marker.Double s ih g f is [] x b r = absurd cc
form_sound N marker.Double s ih g f is (h ∷ []) x b r =
    let p = from_be_bytes w64 h.bytes in
    let i = eight_is h r.0 (bytes_front h.bytes [] b) in
    plain_value (suc N) 5 s g f is (Double (record { 0 = p })) (graph.double p) (h ∷ []) x i.1 (λ a. refl) refl i.1 (ap (λ z. z ∷ []) i.0, refl) (give_is (read (Double (record { 0 = p })) s) x r.1)
form_sound N marker.Double s ih g f is (h ∷ i ∷ rest) x b r = absurd r.1
form_sound N marker.Text s ih g f is rest x b r =
    let a = bind_runs (text_layout s) (λ y. give (read (TextRef (record { 0 = y.id })) y.state)) rest x r in
    let ab = bytes_parts rest a.front a.back a.parts b in
    last a.value a.front a.back a.parts (text_sound s g a.front a.value ab.0 a.first) a.second
  where
    last : (y : TextRead) (front back : List Field) → rest ≡ front ++ back → TextSound (text_header_refusal (length s.words.texts)) text_kind s front y → Path (give (read (TextRef (record { 0 = y.id })) y.state)) back (give x) → ValueSound (spell3 (suc N)) s (f ∷ rest) x
    last y front [] e one p =
        subst (λ w. ValueSound (spell3 (suc N)) s (f ∷ rest) w) (give_is (read (TextRef (record { 0 = y.id })) y.state) x p) (subst (λ l. ValueSound (spell3 (suc N)) s (f ∷ l) (read (TextRef (record { 0 = y.id })) y.state)) (sym (e ∙ append-nil front))
        (leaf_value (suc N) 6 s g f is (read (TextRef (record { 0 = y.id })) y.state) front one.good one.larger one.nodes one.node_table one.id
        (λ a c. (graph.text y.bytes, ap (λ z. leaf (graph.text z)) (text_content s front y a one c), refl, one.is_text, one.spelled))))
    last y front (h ∷ back) e one p = absurd p
form_sound N (marker.Node k) s ih g f is rest x b r = node_sound N k s ih g f is rest x b r

pub value_sound : (n : ℕ) → Sounds (spell3 n) (value_layout n)
value_sound zero s [] x g b r = absurd cc
value_sound zero s (f ∷ fs) x g b r = absurd r
value_sound (suc N) s [] x g b r = absurd cc
value_sound (suc N) s (f ∷ rest) x g b r =
    let m = slice_index f.bytes 0 in
    let is : f ≡ marker_field m = taken marker_kind f r.0 ∙ ap (field marker_kind) (one_byte f.bytes r.0.is_whole) in
    form_sound N (marker_at m) s (value_sound N) g f (is ∙ ap marker_field (sym (byte_at m (marker_below m r.0.clean)))) rest x (bytes_back f.bytes (flat rest) b) r.1
