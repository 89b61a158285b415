-- A value all of whose bytes were ahead was read by its layout.
use Rattle.std.proofs.Common.{◌≡◌, ℕ, ◌-◌, ◌/◌, ◌≤◌, List, [], ◌∷◌, length, take, drop, Some, None, refl, sym, ap, ◌∙◌, subst, arith, length-drop, Ok}
use Rattle.std.proofs.lemmas.List.{take_all}
use Rattle.std.specs.Prelude.{slice_index, false, true, Option, IfSome}
use Rattle.std.specs.Int.{from_be_bytes, w64}
use Rattle.amf_wire.specs.Integer.{integer_of}
use Rattle.amf_wire.specs.U29.{u29_value}
use Rattle.amf_wire.specs.declared.pattern.Pattern.{Pattern}
use Rattle.amf_io.specs.declared.window.Window.{Window}
use Rattle.amf_io.specs.declared.cursor.Cursor.{Cursor}
use Rattle.amf_io.specs.Cursor.{source_of, place, bound, unread}
use Rattle.amf_io.specs.Field.{AreBytes, fixed, u29, u29_kind, raw_kind, text_kind, no_refusal}
use Rattle.amf_io.specs.Layout.{give}
use Rattle.amf_io.specs.ReadEnds.{IsPlaced, GoesBy}
use Rattle.amf_io.specs.LayoutAnswer.{AnswersBy}
use Rattle.amf_io.specs.CursorReads.{Answers}
use Rattle.amf_io.proofs.Bytes.{bytes_take}
use Rattle.amf_io.proofs.CursorReads.{gives, field_reads, goes_then}
use Rattle.amf_graph.specs.declared.value.TextId.{TextId}
use Rattle.amf_graph.specs.declared.value.Value.{Value as Stored}
use Rattle.amf_graph.specs.declared.value.Value.TheVariants as value
use Rattle.amf_graph.specs.Arena.{Arena, Names}
use Rattle.amf3_spelling.specs.KeptTables.{KeptTables, AreTablesIn}
use Rattle.amf3_spelling.specs.Markers3.{marker_at}
use Rattle.amf3_spelling.specs.Refusals3.{marker_kind, text_header_refusal}
use Rattle.amf3_spelling.specs.declared.marker.Marker.{Marker}
use Rattle.amf3_spelling.specs.declared.marker.Marker.TheVariants as marker
use Rattle.amf3_layout_laws.specs.Layout3State.{State3, state_of}
use Rattle.amf3_layout_laws.specs.Layout3Words.{TextRead, text_layout}
use Rattle.amf3_layout_laws.specs.Layout3.{read, eight_layout, behind_marker, value_layout}
use Rattle.amf_wire_fields.proofs.Ahead.{Passed, passed_goes, passed_placed, passed_field, fixed_there, number_bytes}
use Rattle.amf3_read.specs.declared.node.Start.TheVariants as start
use Rattle.amf3_read.specs.Ready.{text_read}
use Rattle.amf3_read.specs.Steps.{marker_layout}
use Rattle.amf3_read.specs.Plain.{IsIntegerAt, IsDoubleAt, IsTextAt, IsBehind, IsPlainAt, IsPlain}
use Rattle.amf3_read.proofs.MarkerRules.{known_clean}
use Rattle.amf3_read.proofs.NodeStarts.{value_starts, made}
use Rattle.amf3_read.proofs.TextReads.{known_header, known_text_is, known_text_reads, known_there}

pub if_some : {X : Type 0} {P Q : X → Type 0} (r : Option X) → ((x : X) → P x → Q x) → IfSome r P → IfSome r Q
if_some (Some x) f h = f x h
if_some None f h = tt

pub all_behind : (bytes : List ℕ) → 1 ≤ length bytes → take (length bytes - 1) (drop 1 bytes) ≡ drop 1 bytes
all_behind bytes le = take_all (length bytes - 1) (drop 1 bytes) (omega (arith, length-drop 1 bytes))

-- what is ahead behind the first byte
rest_front : (bytes all : List ℕ) → bytes ≡ take (length bytes) all → drop 1 bytes ≡ take (length (drop 1 bytes)) (drop 1 all)
rest_front [] all e = refl
rest_front (b ∷ bytes) [] e = absurd cc
rest_front (b ∷ bytes) (x ∷ all) e = cc

first_of : (bytes : List ℕ) → 1 ≤ length bytes → slice_index bytes 0 ≡ slice_index (take 1 bytes) 0
first_of [] le = absurd (omega arith)
first_of (b ∷ bytes) le = refl

bytes_rest : (bytes : List ℕ) → AreBytes bytes → AreBytes (drop 1 bytes)
bytes_rest [] h = tt
bytes_rest (b ∷ bytes) h = h.1

pub rest_ahead : {S : Type 0} (left : S → List ℕ) (c d : Cursor S Window) (bytes : List ℕ) → bytes ≡ take (length bytes) (unread left c) → unread left d ≡ drop 1 (unread left c) → drop 1 bytes ≡ take (length (drop 1 bytes)) (unread left d)
rest_ahead left c d bytes e g = rest_front bytes (unread left c) e ∙ ap (take (length (drop 1 bytes))) (sym g)

module _ {S : Type 0} (tells : S → Type 0) (left : S → List ℕ) (faults : S → ℕ) where
  -- nothing was passed over
  gives_passed : {X Y : Type 0} (view : X → Y) (d e : Cursor S Window) (rest : List ℕ) (x : X) (y : Y) → Passed left d e rest 0 → IsPlaced d → view x ≡ y → Answers tells left view (give y) d e (Ok x)
  gives_passed view d e rest x y p placed is =
      let same : place e ≡ place d = omega (arith, p.taken) in
      subst (λ u. AnswersBy (tells (source_of d).now) view (give y) (unread left d) u (place d) (place e) (bound d) (Ok x)) (sym p.gone)
      (subst (λ k. AnswersBy (tells (source_of d).now) view (give y) (unread left d) (unread left d) (place d) k (bound d) (Ok x)) (sym same) (gives tells left faults view d x y placed is))

  module _ (a : Arena) (t : KeptTables) (d e : Cursor S Window) (rest : List ℕ) (h : AreBytes rest) (v : Stored) (n : ℕ) (q : Passed left d e rest n) where
    at_once : n ≡ 0 → IsPlaced d → (x : Stored) → v ≡ x → Answers tells left (λ (y : Stored). read y (state_of a t)) (give (read x (state_of a t))) d e (Ok v)
    at_once none placed x is = gives_passed (λ (y : Stored). read y (state_of a t)) d e rest v (read x (state_of a t)) (subst (λ k. Passed left d e rest k) none q) placed (ap (λ y. read y (state_of a t)) is)

    integer_reads : (k : ℕ) → IsIntegerAt rest v n → Answers tells left (λ (y : Stored). read y (state_of a t)) (behind_marker (value_layout k) k (state_of a t) marker.Integer) d e (Ok v)
    integer_reads k i =
        let s : State3 = state_of a t in
        field_reads tells left faults (λ (b : List ℕ). b) (λ (y : Stored). read y s) (u29_kind no_refusal) (λ b. give (read (value.Integer (integer_of (u29_value b))) s)) d e e (take n rest) (Ok v)
        (passed_goes tells left faults d e rest n q (take n rest)) (passed_field tells left faults d e rest n q u29 i.whole.ends (number_bytes i.number (take n rest) i.whole.spelled)) refl
        (gives tells left faults (λ (y : Stored). read y s) e v (read (value.Integer (integer_of (u29_value (take n rest)))) s) (passed_placed tells left faults d e rest n q)
        (ap (λ y. read y s) (i.is ∙ ap (λ m. value.Integer (integer_of m)) (sym i.whole.is_value))))

    double_reads : (k : ℕ) → IsDoubleAt rest v n → 8 ≤ length rest → Answers tells left (λ (y : Stored). read y (state_of a t)) (behind_marker (value_layout k) k (state_of a t) marker.Double) d e (Ok v)
    double_reads k i many =
        let s : State3 = state_of a t in
        let p : Pattern = record { 0 = i.bits } in
        let q8 : Passed left d e rest 8 = subst (λ m. Passed left d e rest m) i.eight q in
        made tells left faults (λ (p : Pattern). p.0) eight_layout (λ m. read (value.Double (record { 0 = m })) s) s v d e p (passed_goes tells left faults d e rest 8 q8 p)
        (field_reads tells left faults (λ (b : List ℕ). b) (λ (p : Pattern). p.0) (raw_kind 8) (λ b. give (from_be_bytes w64 b)) d e e (take 8 rest) (Ok p)
        (passed_goes tells left faults d e rest 8 q8 (take 8 rest)) (passed_field tells left faults d e rest 8 q8 (fixed 8) (fixed_there 8 rest (omega arith) many) (bytes_take 8 rest h)) refl
        (gives tells left faults (λ (p : Pattern). p.0) e p (from_be_bytes w64 (take 8 rest)) (passed_placed tells left faults d e rest 8 q8) i.of_bytes))
        (passed_placed tells left faults d e rest 8 q8) (ap (λ y. read y s) i.is)

    text_reads : (k : ℕ) → IsTextAt t rest v n → Answers tells left (λ (y : Stored). read y (state_of a t)) (behind_marker (value_layout k) k (state_of a t) marker.Text) d e (Ok v)
    text_reads k i =
        let s : State3 = state_of a t in
        made tells left faults (λ (x : TextId). text_read a t x) (text_layout s) (λ (x : TextRead). read (value.Text (record { 0 = x.id })) x.state) s v d e i.text (passed_goes tells left faults d e rest n q i.text)
        (known_text_reads tells left faults (text_read a t) (text_header_refusal (length s.words.texts)) text_kind s d e (take n rest) i.header i.text
        (passed_goes tells left faults d e rest n q (take n rest)) (passed_field tells left faults d e rest n q u29 i.whole.ends (number_bytes i.header (take n rest) i.whole.spelled)) (passed_placed tells left faults d e rest n q)
        (sym i.whole.is_value) (known_header a t i.header i.text.0 i.named) i.even (known_text_is a t i.text (i.header / 2) i.named))
        (passed_placed tells left faults d e rest n q) (ap (λ y. read y s) i.is)

    reads_behind : (m : Marker) → IsBehind t m rest v n → IsPlaced d → 8 ≤ length rest → (k : ℕ) → Answers tells left (λ (y : Stored). read y (state_of a t)) (behind_marker (value_layout k) k (state_of a t) m) d e (Ok v)
    reads_behind marker.Undefined i placed many k = at_once i.0 placed value.Undefined i.1
    reads_behind marker.Null i placed many k = at_once i.0 placed value.Null i.1
    reads_behind marker.False i placed many k = at_once i.0 placed (value.Bool false) i.1
    reads_behind marker.True i placed many k = at_once i.0 placed (value.Bool true) i.1
    reads_behind marker.Integer i placed many k = integer_reads k i
    reads_behind marker.Double i placed many k = double_reads k i many
    reads_behind marker.Text i placed many k = text_reads k i
    reads_behind (marker.Node f) i placed many k = absurd i

  names_behind : (a : Arena) (t : KeptTables) (rest : List ℕ) (v : Stored) (n : ℕ) (m : Marker) → AreTablesIn a t → IsBehind t m rest v n → Names a v
  names_behind a t rest v n marker.Undefined z i = subst (Names a) (sym i.1) tt
  names_behind a t rest v n marker.Null z i = subst (Names a) (sym i.1) tt
  names_behind a t rest v n marker.False z i = subst (Names a) (sym i.1) tt
  names_behind a t rest v n marker.True z i = subst (Names a) (sym i.1) tt
  names_behind a t rest v n marker.Integer z i = subst (Names a) (sym i.is) i.fits
  names_behind a t rest v n marker.Double z i = subst (Names a) (sym i.is) i.fits
  names_behind a t rest v n marker.Text z i = subst (Names a) (sym i.is) (known_there a t (i.header / 2) i.text.0 z i.named)
  names_behind a t rest v n (marker.Node f) z i = absurd i

  module _ (t : KeptTables) (c d e : Cursor S Window) (bytes : List ℕ) (h : AreBytes bytes) (many : 9 ≤ length bytes) (v : Stored) (n : ℕ) (at : IsPlainAt t bytes v n) (p : Passed left c d bytes 1) (q : Passed left d e (drop 1 bytes) n) where
    marker_reads : Answers tells left (λ (m : Marker). m) marker_layout c d (Ok at.marker)
    marker_reads =
        let first = first_of bytes (omega arith) in
        field_reads tells left faults (λ (b : List ℕ). b) (λ (m : Marker). m) marker_kind (λ b. give (marker_at (slice_index b 0))) c d d (take 1 bytes) (Ok at.marker)
        (passed_goes tells left faults c d bytes 1 p (take 1 bytes)) (passed_field tells left faults c d bytes 1 p (fixed 1) (fixed_there 1 bytes (omega arith) (omega arith)) (bytes_take 1 bytes h))
        (known_clean (slice_index (take 1 bytes) 0) (subst (λ b. b ≤ 17) first at.known))
        (gives tells left faults (λ (m : Marker). m) d at.marker (marker_at (slice_index (take 1 bytes) 0)) (passed_placed tells left faults c d bytes 1 p) (at.marks ∙ ap marker_at first))

    pub plain_reads : IsPlain tells left faults t c e v
    plain_reads =
        let placed = passed_placed tells left faults c d bytes 1 p in
        let last = passed_placed tells left faults d e (drop 1 bytes) n q in
        let rest : 8 ≤ length (drop 1 bytes) = omega (arith, length-drop 1 bytes) in
        let first : GoesBy {X = Unit {0}} tells left faults c d (Ok tt) = passed_goes tells left faults c d bytes 1 p tt in
        let next : GoesBy {X = Unit {0}} tells left faults d e (Ok tt) = passed_goes tells left faults d e (drop 1 bytes) n q tt in
        record {
          goes = goes_then tells left faults c d e tt (Ok tt) first next;
          placed = last;
          moves = omega (arith, p.taken, q.taken);
          starts = λ a z. value_starts tells left faults (state_of a t) c d at.marker at.marker refl (passed_goes tells left faults c d bytes 1 p at.marker) marker_reads (omega (arith, p.taken)) (state_of a t) e (Ok (start.Value v))
              (omega (arith, q.taken)) last.within q.same_bound (reads_behind a t d e (drop 1 bytes) (bytes_rest bytes h) v n q at.marker at.behind placed rest);
          names = λ a z. names_behind a t (drop 1 bytes) v n at.marker z at.behind;
        }
