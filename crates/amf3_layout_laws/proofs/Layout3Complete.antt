-- A value of AMF 3 that is spelled is read.
use Rattle.std.proofs.Common.{◌≡◌, ℕ, zero, suc, ◌+◌, ◌*◌, ◌/◌, ◌%◌, ◌<◌, Bool, true, false, cond, eqb, not, List, [], ◌∷◌, ◌++◌, length, map, Option, refl, sym, ap, ◌∙◌, arith, subst, inl, inr, length-append, slice_index, ℤ}
use Rattle.std.proofs.lemmas.List.{append-nil, map-append, length-map}
use Rattle.std.specs.Int.{from_be_bytes, to_be_bytes, w32, w64, cast_signed, cast_unsigned}
use Rattle.amf_wire.specs.Style.{free}
use Rattle.amf_wire.specs.U29.{SpellsU29, u29_value}
use Rattle.amf_wire.specs.Integer.{integer_of}
use Rattle.amf_io.specs.declared.reason.Reason.{Reason}
use Rattle.amf_io.specs.Field.{Kind, Field, IsClean, field, raw_kind, text_kind, u29_kind, no_refusal, contents, flat}
use Rattle.amf_io.specs.Layout.{Layout, give, want, bind, Path, Runs}
use Rattle.amf_io.proofs.Paths.{runs_bind}
use Rattle.amf_graph.specs.Graph.{Leaf, Value, leaf, node as node_value, Head, Fits, Graph, node_at, AllNamed}
use Rattle.amf_graph.specs.Graph as graph
use Rattle.amf_graph.specs.Arena as arena
use Rattle.amf_graph.specs.declared.value.Value.TheVariants.{Undefined, Null, Bool as Flag, Integer, Double, Text as TextRef}
use Rattle.amf3_spelling.specs.Tables.{Entry, plain, external, Words, Tables, with_words, add_node}
use Rattle.amf3_spelling.specs.Then.{Spelling, Then}
use Rattle.amf3_spelling.specs.Refusals3.{marker, markers, marker_kind, header_refusal, text_header_refusal}
use Rattle.amf3_spelling.specs.Words3.{Text, TraitsBy, given, placed}
use Rattle.amf3_spelling.specs.Segments3.{Segment, flag, four, word, Segments, Lifted, segments_of, values_then, fours, signed_fours, eights}
use Rattle.amf3_spelling.specs.Headers3.{HeaderBy, marker_field, header_field}
use Rattle.amf3_spelling.specs.Nodes3.{Placed, Begun}
use Rattle.amf3_spelling.specs.Spells3.{ValueBy, InlineIn, SpellsIn, Spells3}
use Rattle.amf_graph.specs.declared.kind.NodeKind.{NodeKind}
use Rattle.amf_graph.specs.declared.kind.NodeKind.TheVariants as kind
use Rattle.amf3_spelling.specs.declared.marker.Marker.{Marker}
use Rattle.amf3_spelling.specs.declared.marker.Marker.TheVariants as marker
use Rattle.amf3_spelling.specs.Markers3.{marker_at, kind_of}
use Rattle.amf3_layout_laws.specs.Layout3State.{State3, stored_marker, with_contents, with_node}
use Rattle.amf3_layout_laws.specs.Layout3Words.{chunk, text_layout, Outline}
use Rattle.amf3_layout_laws.specs.Layout3.{flag_layout, four_layout, eight_layout, many, whole_node, opening, ValueRead, read, parts, inline_node, known_node, node_layout, behind_marker, value_layout}
use Rattle.amf3_spelling.proofs.Clean.{AllClean, clean3}
use Rattle.amf3_layout_laws.proofs.Layout3Texts.{clean_parts, takes, u29_step, path_if, even_test, odd_test, text_complete, traits_complete}
use Rattle.amf3_layout_laws.proofs.Layout3Parts.{Reader, Like, Found, Finds, parts_length, behind, parts_complete, chunk_runs, flag_half, FoundMany, fours_complete, eights_complete}

-- what is read behind the marker of a node; behind that of a wrapper as behind that of an object
behind_node : (v : Reader) (N : ℕ) (s : State3) (h : Head) → behind_marker v N s (marker_at (marker h)) ≡ node_layout v N (kind_of h) s
behind_node v N s (graph.xml_document x) = refl
behind_node v N s (graph.date p) = refl
behind_node v N s graph.array = refl
behind_node v N s (graph.object t) = refl
behind_node v N s (graph.wrapper c) = refl
behind_node v N s (graph.xml x) = refl
behind_node v N s (graph.bytes x) = refl
behind_node v N s (graph.ints f ns) = refl
behind_node v N s (graph.uints f ns) = refl
behind_node v N s (graph.doubles f ns) = refl
behind_node v N s (graph.values f x) = refl
behind_node v N s (graph.dictionary f) = refl

-- the header and what belongs to it were read, and the pairs and values are left
pub record Opened (R : Value → Spelling Tables) (h : Head) (n : ℕ) (s : State3) (qs : List (List ℕ × Value)) (vs : List Value) (t : Tables) (fs : List Field) (u : Tables) : Type 0 where
  pub front : List Field
  pub back : List Field
  pub joined : fs ≡ front ++ back
  pub mid : Tables
  pub begun : Outline
  pub runs : Runs (opening (kind_of h) n s) front begun
  pub mark : stored_marker begun.head ≡ marker h
  pub count : length vs ≡ cond begun.twins (2 * begun.count) begun.count
  pub words : mid.words ≡ begun.state.words
  pub nodes : mid.nodes ≡ t.nodes
  pub marks : begun.state.marks ≡ s.marks
  pub rest : Segments R free (behind begun.first begun.last qs vs) mid back u

module _ (R : Value → Spelling Tables) (n : ℕ) (s : State3) (qs : List (List ℕ × Value)) (vs : List Value) (t u : Tables) where
  -- a node without pairs and values
  whole_opened : (h : Head) (fs front : List Field) (mid : Tables) (z : State3) (head : arena.StoredHead) → vs ≡ [] → stored_marker head ≡ marker h → Runs (opening (kind_of h) n s) front (whole_node z head) → mid.words ≡ z.words → mid.nodes ≡ t.nodes → z.marks ≡ s.marks
      → (back : List Field) → fs ≡ front ++ back → (back ≡ []) × (u ≡ mid) → Opened R h n s qs vs t fs u
  whole_opened h fs front mid z head none mark runs words nodes marks back joined p =
      record {
        front = front;
        back = back;
        joined = joined;
        mid = mid;
        begun = whole_node z head;
        runs = runs;
        mark = mark;
        count = ap length none;
        words = words;
        nodes = nodes;
        marks = marks;
        rest = subst (λ l. Segments R free (values_then l []) mid back u) (sym none) p;
      }

  -- a chunk of bytes
  chunk_opened : (h : Head) (kind : ℕ → Kind) (x : List ℕ) (z : List ℕ → State3) (head : List ℕ → arena.StoredHead) → vs ≡ [] → ((y : List ℕ) → stored_marker (head y) ≡ marker h) → ((k : ℕ) → opening (kind_of h) k s ≡ chunk kind (k / 2) (λ y. give (whole_node (z y) (head y))))
      → ((y : List ℕ) → (z y).words ≡ s.words) → ((y : List ℕ) → (z y).marks ≡ s.marks) → (fs : List Field) (mid : Tables) → n ≡ 2 * length x + 1 → mid.words ≡ s.words → mid.nodes ≡ t.nodes → AllClean fs
      → (front back : List Field) (m : Tables) → fs ≡ front ++ back → (front ≡ contents kind x) × (m ≡ mid) → (back ≡ []) × (u ≡ m) → Opened R h n s qs vs t fs u
  chunk_opened h kind x z head none mark is words marks fs mid number same nodes c front back m joined first second =
      let half : n / 2 ≡ length x = omega arith in
      let d = clean_parts fs front back joined c in
      let runs : Runs (opening (kind_of h) n s) front (whole_node (z x) (head x)) =
      subst (λ l. Runs l front (whole_node (z x) (head x))) (sym (is n)) (subst (λ k. Runs (chunk kind k (λ y. give (whole_node (z y) (head y)))) front (whole_node (z x) (head x))) (sym half)
      (subst (λ l. Runs (chunk kind (length x) (λ y. give (whole_node (z y) (head y)))) l (whole_node (z x) (head x))) (sym first.0) (chunk_runs kind x (λ y. whole_node (z y) (head y)) (subst AllClean first.0 d.0)))) in
      whole_opened h fs front m (z x) (head x) none (mark x) runs (ap (λ w. w.words) first.1 ∙ same ∙ sym (words x)) (ap (λ w. w.nodes) first.1 ∙ nodes) (marks x) back joined second

  -- a flag and numbers
  numbers_opened : (h : Head) (l : Layout ℕ) (ps : List Segment) (k : ℕ) (f : Bool) (head : Bool → List ℕ → arena.StoredHead) → vs ≡ [] → ((f : Bool) (y : List ℕ) → stored_marker (head f y) ≡ marker h)
      → ((j : ℕ) → opening (kind_of h) j s ≡ bind flag_layout (λ f. bind (many (j / 2) l) (λ ns. give (whole_node s (head f ns))))) → ((w : Tables) (fs : List Field) (v : Tables) → AllClean fs → Segments R free ps w fs v → FoundMany l k w fs v)
      → (fs : List Field) (mid : Tables) → n ≡ 2 * k + 1 → mid.words ≡ s.words → mid.nodes ≡ t.nodes → AllClean fs → Segments R free (flag f ∷ ps) mid fs u → Opened R h n s qs vs t fs u
  numbers_opened h l ps k f head none mark is found fs mid number same nodes c p =
      let half : n / 2 ≡ k = omega arith in
      let a = flag_half R f ps mid fs u c p in
      let b = found mid a.back u a.clean_back a.rest in
      let g = not (eqb a.byte 0) in
      let x = whole_node s (head g b.numbers) in
      let inside : Runs (bind flag_layout (λ f. bind (many k l) (λ ns. give (whole_node s (head f ns))))) (field (raw_kind 1) (a.byte ∷ []) ∷ a.back) x =
      (takes (raw_kind 1) (a.byte ∷ []) a.is_clean, subst (λ q. Runs (bind (many k l) (λ ns. give (whole_node s (head g ns)))) q x) (append-nil a.back) (runs_bind (many k l) (λ ns. give (whole_node s (head g ns))) a.back [] b.numbers (give x) b.runs refl)) in
      whole_opened h fs fs mid s (head g b.numbers) none (mark g b.numbers)
      (subst (λ q. Runs (opening (kind_of h) n s) q x) (sym a.joined) (subst (λ q. Runs q (field (raw_kind 1) (a.byte ∷ []) ∷ a.back) x) (sym (is n)) (subst (λ j. Runs (bind flag_layout (λ f. bind (many j l) (λ ns. give (whole_node s (head f ns))))) (field (raw_kind 1) (a.byte ∷ []) ∷ a.back) x) (sym half) inside)))
      same nodes refl [] (sym (append-nil fs)) (refl, b.same)

-- four bytes of a signed number are four bytes
signed_are : (R : Value → Spelling Tables) (ns : List ℤ) (t : Tables) (fs : List Field) (u : Tables) → Segments R free (signed_fours ns) t fs u → Segments R free (fours (map (cast_unsigned w32) ns)) t fs u
signed_are R ns t fs u p = subst (λ l. Segments R free l t fs u) (same ns) p
  where
    same : (ns : List ℤ) → signed_fours ns ≡ fours (map (cast_unsigned w32) ns)
    same [] = refl
    same (n ∷ ns) = ap (λ l. four (cast_unsigned w32 n) ∷ l) (same ns)

signed_complete : (R : Value → Spelling Tables) (ns : List ℤ) (t : Tables) (fs : List Field) (u : Tables) → AllClean fs → Segments R free (signed_fours ns) t fs u → FoundMany four_layout (length ns) t fs u
signed_complete R ns t fs u c p = subst (λ k. FoundMany four_layout k t fs u) (length-map ns (cast_unsigned w32)) (fours_complete R (map (cast_unsigned w32) ns) t fs u c (signed_are R ns t fs u p))

abbrev Behind : (Value → Spelling Tables) → Head → List (List ℕ × Value) → List Value → ℕ → Spelling Tables
Behind R h qs vs n = Then (Lifted (HeaderBy free h vs n)) (Segments R free (segments_of h qs vs))

-- a header that has no fields of its own
abbrev counted_words : (t mid : Tables) (w : Words) (s : State3) → t.words ≡ s.words → w ≡ t.words → mid ≡ with_words t w → mid.words ≡ s.words
counted_words t mid w s same e f = ap (λ m. m.words) f ∙ e ∙ same

no_front : (fs front back : List Field) → fs ≡ front ++ back → front ≡ [] → fs ≡ back
no_front fs front back e h = e ∙ ap (λ l. l ++ back) h

plain_count : (b : Bool) (n m : ℕ) → b ≡ false → n ≡ m → cond b (2 * n) n ≡ m
plain_count b n m e h = ap (λ t. cond t (2 * n) n) e ∙ h

open_complete : (R : Value → Spelling Tables) (h : Head) (names : List (List ℕ × Value)) (n : ℕ) (s : State3) (qs : List (List ℕ × Value)) (vs : List Value) (t : Tables) (fs : List Field) (u : Tables) → Fits h names vs → t.words ≡ s.words → AllClean fs → Behind R h qs vs n t fs u → Opened R h n s qs vs t fs u
open_complete R (graph.xml_document x) names n s qs vs t fs u fit same c p =
    let f = p.first in
    let e = no_front fs p.front p.back p.joined f.1.1.0 in
    chunk_opened R n s qs vs t u (graph.xml_document x) text_kind x (λ y. with_contents s y) (λ y. arena.xml_document (length s.arena.texts)) fit.2 (λ y. refl) (λ k. refl) (λ y. refl) (λ y. refl) fs p.mid f.1.0
    (counted_words t p.mid f.0 s same f.1.1.1 f.2) (ap (λ m. m.nodes) f.2) c p.second.front p.second.back p.second.mid (e ∙ p.second.joined) p.second.first p.second.second
open_complete R (graph.date d) names n s qs vs t fs u fit same c p =
    let f = p.first in
    let e : fs ≡ field (raw_kind 8) (to_be_bytes w64 d) ∷ p.second.back = no_front fs p.front p.back p.joined f.1.2.1.0 ∙ p.second.joined ∙ ap (λ l. l ++ p.second.back) p.second.first.0 in
    whole_opened R n s qs vs t u (graph.date d) fs (field (raw_kind 8) (to_be_bytes w64 d) ∷ []) p.second.mid s (arena.date (from_be_bytes w64 (to_be_bytes w64 d))) fit.2 refl (takes (raw_kind 8) (to_be_bytes w64 d) (subst AllClean e c).0, refl)
    (ap (λ m. m.words) p.second.first.1 ∙ counted_words t p.mid f.0 s same f.1.2.1.1 f.2) (ap (λ m. m.nodes) p.second.first.1 ∙ ap (λ m. m.nodes) f.2) refl p.second.back e p.second.second
open_complete R graph.array names n s qs vs t fs u fit same c p =
    let f = p.first in
    let number = f.1.0 in
    record {
      front = p.front;
      back = p.back;
      joined = p.joined;
      mid = p.mid;
      begun = record { head = arena.array; count = n / 2; twins = false; first = true; last = false; state = s };
      mark = refl;
      count = omega arith;
      marks = refl;
      rest = p.second;
      runs = subst (λ l. Runs (opening kind.Array n s) l (record { head = arena.array; count = n / 2; twins = false; first = true; last = false; state = s })) (sym f.1.1.0) refl;
      words = counted_words t p.mid f.0 s same f.1.1.1 f.2;
      nodes = ap (λ m. m.nodes) f.2;
    }
open_complete R (graph.object k) names n s qs vs t fs u fit same c p =
    let f = p.first in
    let d = clean_parts fs p.front p.back p.joined c in
    let a = traits_complete (plain k) n s p.front t.words f.0 same d.0 f.1 in
    record {
      front = p.front;
      back = p.back;
      joined = p.joined;
      mid = p.mid;
      begun = a.read;
      runs = a.runs;
      mark = a.mark;
      count = fit.0 ∙ sym (plain_count a.read.twins a.read.count _ a.twins a.count);
      marks = a.marks;
      words = ap (λ m. m.words) f.2 ∙ a.after;
      nodes = ap (λ m. m.nodes) f.2;
      rest = subst (λ b. Segments R free (behind b a.read.last qs vs) p.mid p.back u) (sym a.first) (subst (λ b. Segments R free (behind false b qs vs) p.mid p.back u) (sym a.last) p.second);
    }
open_complete R (graph.wrapper k) names n s qs vs t fs u fit same c p =
    let f = p.first in
    let d = clean_parts fs p.front p.back p.joined c in
    let a = traits_complete (external k) n s p.front t.words f.0 same d.0 f.1 in
    record {
      front = p.front;
      back = p.back;
      joined = p.joined;
      mid = p.mid;
      begun = a.read;
      runs = a.runs;
      mark = a.mark;
      count = fit.1 ∙ sym (plain_count a.read.twins a.read.count _ a.twins a.count);
      marks = a.marks;
      words = ap (λ m. m.words) f.2 ∙ a.after;
      nodes = ap (λ m. m.nodes) f.2;
      rest = subst (λ b. Segments R free (behind b a.read.last qs vs) p.mid p.back u) (sym a.first) (subst (λ b. Segments R free (behind false b qs vs) p.mid p.back u) (sym a.last) p.second);
    }
open_complete R (graph.xml x) names n s qs vs t fs u fit same c p =
    let f = p.first in
    let e = no_front fs p.front p.back p.joined f.1.1.0 in
    chunk_opened R n s qs vs t u (graph.xml x) text_kind x (λ y. with_contents s y) (λ y. arena.xml (length s.arena.texts)) fit.2 (λ y. refl) (λ k. refl) (λ y. refl) (λ y. refl) fs p.mid f.1.0
    (counted_words t p.mid f.0 s same f.1.1.1 f.2) (ap (λ m. m.nodes) f.2) c p.second.front p.second.back p.second.mid (e ∙ p.second.joined) p.second.first p.second.second
open_complete R (graph.bytes x) names n s qs vs t fs u fit same c p =
    let f = p.first in
    let e = no_front fs p.front p.back p.joined f.1.1.0 in
    chunk_opened R n s qs vs t u (graph.bytes x) raw_kind x (λ y. s) arena.bytes fit.2 (λ y. refl) (λ k. refl) (λ y. refl) (λ y. refl) fs p.mid f.1.0
    (counted_words t p.mid f.0 s same f.1.1.1 f.2) (ap (λ m. m.nodes) f.2) c p.second.front p.second.back p.second.mid (e ∙ p.second.joined) p.second.first p.second.second
open_complete R (graph.ints b ns) names n s qs vs t fs u fit same c p =
    let f = p.first in
    let e = no_front fs p.front p.back p.joined f.1.1.0 in
    numbers_opened R n s qs vs t u (graph.ints b ns) four_layout (signed_fours ns) (length ns) b (λ f ms. arena.ints f (map (cast_signed w32) ms)) fit.2 (λ f y. refl) (λ j. refl) (signed_complete R ns) fs p.mid f.1.0
    (counted_words t p.mid f.0 s same f.1.1.1 f.2) (ap (λ m. m.nodes) f.2) c (subst (λ l. Segments R free (flag b ∷ signed_fours ns) p.mid l u) (sym e) p.second)
open_complete R (graph.uints b ns) names n s qs vs t fs u fit same c p =
    let f = p.first in
    let e = no_front fs p.front p.back p.joined f.1.1.0 in
    numbers_opened R n s qs vs t u (graph.uints b ns) four_layout (fours ns) (length ns) b arena.uints fit.2 (λ f y. refl) (λ j. refl) (fours_complete R ns) fs p.mid f.1.0
    (counted_words t p.mid f.0 s same f.1.1.1 f.2) (ap (λ m. m.nodes) f.2) c (subst (λ l. Segments R free (flag b ∷ fours ns) p.mid l u) (sym e) p.second)
open_complete R (graph.doubles b ns) names n s qs vs t fs u fit same c p =
    let f = p.first in
    let e = no_front fs p.front p.back p.joined f.1.1.0 in
    numbers_opened R n s qs vs t u (graph.doubles b ns) eight_layout (eights ns) (length ns) b arena.doubles fit.2 (λ f y. refl) (λ j. refl) (eights_complete R ns) fs p.mid f.1.0
    (counted_words t p.mid f.0 s same f.1.1.1 f.2) (ap (λ m. m.nodes) f.2) c (subst (λ l. Segments R free (flag b ∷ eights ns) p.mid l u) (sym e) p.second)
open_complete R (graph.values b x) names n s qs vs t fs u fit same c p =
    let f = p.first in
    let number = f.1.0 in
    let e = no_front fs p.front p.back p.joined f.1.1.0 in
    let a = flag_half R b (word x ∷ values_then vs []) p.mid p.back u (subst AllClean e c) p.second in
    let q = a.rest in
    let d = clean_parts a.back q.front q.back q.joined a.clean_back in
    let words = counted_words t p.mid f.0 s same f.1.1.1 f.2 in
    let one = text_complete (text_header_refusal (length s.words.texts)) text_kind s x q.front q.first.0 d.0 (subst (λ w. Text free x w q.front q.first.0) words q.first.1) in
    let g = not (eqb a.byte 0) in
    let r : Outline = record { head = arena.values g one.read.id; count = n / 2; twins = false; first = false; last = false; state = one.read.state } in
    record {
      front = field (raw_kind 1) (a.byte ∷ []) ∷ q.front;
      back = q.back;
      joined = e ∙ a.joined ∙ ap (λ l. field (raw_kind 1) (a.byte ∷ []) ∷ l) q.joined;
      mid = q.mid;
      begun = r;
      mark = refl;
      count = omega arith;
      marks = one.marks;
      words = ap (λ m. m.words) q.first.2 ∙ one.after;
      nodes = ap (λ m. m.nodes) q.first.2 ∙ ap (λ m. m.nodes) f.2;
      rest = q.second;
      runs = (
        takes (raw_kind 1) (a.byte ∷ []) a.is_clean,
        subst (λ l. Runs (bind (text_layout s) (λ y. give (let o : Outline = record { head = arena.values g y.id; count = n / 2; twins = false; first = false; last = false; state = y.state } in o))) l r) (append-nil q.front)
            (runs_bind (text_layout s) (λ y. give (let o : Outline = record { head = arena.values g y.id; count = n / 2; twins = false; first = false; last = false; state = y.state } in o)) q.front [] one.read (give r) one.runs refl),
      );
    }
open_complete R (graph.dictionary b) names n s qs vs t fs u fit same c p =
    let f = p.first in
    let entries = f.1.0 in
    let number = f.1.2.0 in
    let twice = f.1.1 in
    let e = no_front fs p.front p.back p.joined f.1.2.1.0 in
    let a = flag_half R b (values_then vs []) p.mid p.back u (subst AllClean e c) p.second in
    let g = not (eqb a.byte 0) in
    record {
      front = field (raw_kind 1) (a.byte ∷ []) ∷ [];
      back = a.back;
      joined = e ∙ a.joined;
      mid = p.mid;
      begun = record { head = arena.dictionary g; count = n / 2; twins = true; first = false; last = false; state = s };
      mark = refl;
      count = omega arith;
      marks = refl;
      words = counted_words t p.mid f.0 s same f.1.2.1.1 f.2;
      nodes = ap (λ m. m.nodes) f.2;
      rest = a.rest;
      runs = (takes (raw_kind 1) (a.byte ∷ []) a.is_clean, refl);
    }

-- A marker and a header, at tables that are like the state.

marker_step : {X : Type 0} (m : ℕ) (next : ℕ → Layout X) (rest : List Field) (u : Layout X) → IsClean (marker_field m) → Path (next m) rest u → Path (want marker_kind (λ b. next (slice_index b 0))) (marker_field m ∷ rest) u
marker_step m next rest u c p = (takes marker_kind (m ∷ []) c, p)

header_step : {X : Type 0} (refusal other : ℕ → Option Reason) (next : ℕ → Layout X) (n : ℕ) (h : List ℕ) (rest : List Field) (u : Layout X) → refusal ≡ other → IsClean (field (u29_kind refusal) h) → SpellsU29 n h → Path (next n) rest u
    → Path (want (u29_kind other) (λ b. next (u29_value b))) (field (u29_kind refusal) h ∷ rest) u
header_step refusal other next n h rest u e c s p = subst (λ r. Path (want (u29_kind r) (λ b. next (u29_value b))) (field (u29_kind refusal) h ∷ rest) u) e (u29_step refusal next n h rest u c s p)

same_refusal : (g : Graph) (t : Tables) (s : State3) (h : Head) → Like g t s → header_refusal (markers g t.nodes) (length t.words.traits) (marker h) ≡ header_refusal s.marks (length s.words.traits) (marker h)
same_refusal g t s h like =
    ap (λ l. header_refusal l (length t.words.traits) (marker h)) like.marks
    ∙ ap (λ w. header_refusal s.marks (length w.traits) (marker h)) like.words

-- what is read behind a marker
pub record FoundBehind (g : Graph) (l : Layout ValueRead) (fs : List Field) (u : Tables) : Type 0 where
  pub result : ValueRead
  pub runs : Runs l fs result
  pub like : Like g u result.state

abbrev behind_header : Reader → ℕ → NodeKind → State3 → ℕ → Layout ValueRead
behind_header v N f s h = cond (eqb (h % 2) 0) (give (known_node s (h / 2))) (inline_node v N f h s)

abbrev Marked : Reader → ℕ → State3 → Layout ValueRead
Marked v N s = want marker_kind (λ b. behind_marker v N s (marker_at (slice_index b 0)))

-- a marker and a header of a node, and what stands behind them
node_step : (g : Graph) (v : Reader) (N i n : ℕ) (t : Tables) (s : State3) (header : List ℕ) (rest fs : List Field) (x : ValueRead) → Like g t s → SpellsU29 n header → AllClean fs → fs ≡ marker_field (marker (node_at g i).head) ∷ header_field g t (marker (node_at g i).head) header ∷ rest
    → Runs (behind_header v N (kind_of (node_at g i).head) s n) rest x → Runs (Marked v N s) fs x
node_step g v N i n t s header rest fs x like spelled c e p =
    let h = (node_at g i).head in
    let d = subst AllClean e c in
    let back : Path (node_layout v N (kind_of h) s) (header_field g t (marker h) header ∷ rest) (give x) =
    header_step (header_refusal (markers g t.nodes) (length t.words.traits) (marker h)) (header_refusal s.marks (length s.words.traits) (marker h)) (behind_header v N (kind_of h) s) n header rest (give x) (same_refusal g t s h like) d.1.0 spelled p in
    subst (λ l. Runs (Marked v N s) l x) (sym e)
    (marker_step (marker h) (λ m. behind_marker v N s (marker_at m)) (header_field g t (marker h) header ∷ rest) (give x) d.0
    (subst (λ l. Path l (header_field g t (marker h) header ∷ rest) (give x)) (sym (behind_node v N s h)) back))

traits_odd : (e : Entry) (n : ℕ) (w : Words) (fs : List Field) (w' : Words) → TraitsBy free e n w fs w' → (j : ℕ) × (n ≡ 2 * j + 1)
traits_odd (plain t) n w fs w' (given o number u texts a) = by_flag t.dynamic (length t.sealed) number
  where
    by_flag : (d : Bool) (k : ℕ) → n ≡ 16 * k + (8 * cond d 1 0 + 3) → (j : ℕ) × (n ≡ 2 * j + 1)
    by_flag true k e = (8 * k + 5, omega arith)
    by_flag false k e = (8 * k + 1, omega arith)
traits_odd (external c) n w fs w' (given o number u texts a) = let k = number.0 in let e = number.1 in (4 * k + 3, omega arith)
traits_odd e n w fs w' (placed k there o number none a) = (2 * k, omega arith)

header_odd : (h : Head) (vs : List Value) (n : ℕ) (w : Words) (fs : List Field) (w' : Words) → HeaderBy free h vs n w fs w' → (j : ℕ) × (n ≡ 2 * j + 1)
header_odd (graph.xml_document x) vs n w fs w' p = (length x, p.0)
header_odd (graph.date d) vs n w fs w' p = (p.0, p.2.0)
header_odd graph.array vs n w fs w' p = (length vs, p.0)
header_odd (graph.object t) vs n w fs w' p = traits_odd (plain t) n w fs w' p
header_odd (graph.wrapper c) vs n w fs w' p = traits_odd (external c) n w fs w' p
header_odd (graph.xml x) vs n w fs w' p = (length x, p.0)
header_odd (graph.bytes x) vs n w fs w' p = (length x, p.0)
header_odd (graph.ints b ns) vs n w fs w' p = (length ns, p.0)
header_odd (graph.uints b ns) vs n w fs w' p = (length ns, p.0)
header_odd (graph.doubles b ns) vs n w fs w' p = (length ns, p.0)
header_odd (graph.values b x) vs n w fs w' p = (length vs, p.0)
header_odd (graph.dictionary b) vs n w fs w' p = (p.0, p.2.0)

begun_complete : (g : Graph) (R : Value → Spelling Tables) (v : Reader) (N i : ℕ) → Finds g R v N → (t : Tables) (fs : List Field) (u : Tables) (s : State3) → AllClean fs → Like g t s → length (flat fs) < suc N → Begun R free g i t fs u
    → FoundBehind g (Marked v N s) fs u
begun_complete g R v N i h t fs u s c like lt p =
    let a = node_at g i in
    let d = subst AllClean p.fields c in
    let e = header_odd a.head a.values p.number t.words p.behind.front p.behind.first.0 p.behind.first.1 in
    let o = open_complete R a.head a.names p.number s p.pairs a.values (add_node t i) p.rest u p.fits like.words d.1.1 p.behind in
    let z = with_node o.begun.state o.begun.head in
    let marks : markers g o.mid.nodes ≡ z.marks =
    ap (markers g) o.nodes ∙ map-append (λ j. marker (node_at g j).head) t.nodes (i ∷ []) ∙ ap (λ l. l ++ marker a.head ∷ []) (like.marks ∙ sym o.marks) ∙ ap (λ m. o.begun.state.marks ++ m ∷ []) (sym o.mark) in
    let cb = clean_parts p.rest o.front o.back o.joined d.1.1 in
    let total = parts_length p.rest o.front o.back o.joined in
    let head = marker_field (marker a.head) in
    let bytes : length (flat fs) ≡ 1 + (length p.header + length (flat p.rest)) = ap (λ l. length (flat l)) p.fields ∙ ap suc (length-append p.header (flat p.rest)) ∙ omega arith in
    let x = parts_complete g R v N h o.begun p.pairs a.values o.mid u o.back p.named cb.1 (record { words = o.words; marks = marks }) (omega arith) o.count o.rest in
    let f = kind_of a.head in
    let inside : Runs (inline_node v N f p.number s) p.rest x.result = subst (λ l. Runs (inline_node v N f p.number s) l x.result) (sym o.joined) (runs_bind (opening f p.number s) (parts v N) o.front o.back o.begun (give x.result) o.runs x.runs) in
    let odd : eqb (p.number % 2) 0 ≡ false = subst (λ k. eqb (k % 2) 0 ≡ false) (sym e.1) (odd_test e.0) in
    record {
      result = x.result;
      like = x.like;
      runs = node_step g v N i p.number t s p.header p.rest fs x.result like p.spelled.spelled c p.fields
          (path_if {X = ValueRead} (eqb (p.number % 2) 0) false (give (known_node s (p.number / 2))) (inline_node v N f p.number s) p.rest (give x.result) odd inside);
    }

named_complete : (g : Graph) (v : Reader) (N i : ℕ) (t : Tables) (fs : List Field) (u : Tables) (s : State3) → AllClean fs → Like g t s → Placed free g i t fs u → FoundBehind g (Marked v N s) fs u
named_complete g v N i t fs u s c like p =
    let n = 2 * p.place in
    let x = known_node s (n / 2) in
    let f = kind_of (node_at g i).head in
    record {
      result = x;
      like = subst (λ w. Like g w s) (sym p.same) like;
      runs = node_step g v N i n t s p.header [] fs x like p.spelled.spelled c p.fields (path_if {X = ValueRead} (eqb (n % 2) 0) true (give x) (inline_node v N f n s) [] (give x) (even_test p.place) refl);
    }

-- Values that are no node.

leaf_step : (g : Graph) (v : Reader) (N m : ℕ) (f : Marker) (x : ValueRead) (t mid u : Tables) (w : Words) (s : State3) (fs front back : List Field) → marker_at m ≡ f → Like g t s → AllClean fs → fs ≡ front ++ back → front ≡ marker_field m ∷ [] → mid ≡ t → u ≡ with_words mid w
    → Runs (behind_marker v N s f) back x → w ≡ x.state.words → x.state.marks ≡ s.marks → FoundBehind g (Marked v N s) fs u
leaf_step g v N m f x t mid u w s fs front back is like c joined e same after runs words marks =
    let all : fs ≡ marker_field m ∷ back = joined ∙ ap (λ l. l ++ back) e in
    let d = subst AllClean all c in
    record {
      result = x;
      like = record { words = ap (λ k. k.words) after ∙ words; marks = ap (λ k. markers g k.nodes) after ∙ ap (λ k. markers g k.nodes) same ∙ like.marks ∙ sym marks };
      runs = subst (λ l. Runs (Marked v N s) l x) (sym all)
          (marker_step m (λ k. behind_marker v N s (marker_at k)) back (give x) d.0 (subst (λ k. Path (behind_marker v N s k) back (give x)) (sym is) runs));
    }

leaf_complete : (g : Graph) (I : ℕ → Spelling Tables) (v : Reader) (N : ℕ) (x : Leaf) (t : Tables) (fs : List Field) (u : Tables) (s : State3) → AllClean fs → Like g t s → ValueBy I free g (leaf x) t fs u → FoundBehind g (Marked v N s) fs u
leaf_complete g I v N graph.undefined t fs u s c like p =
    let q = p.1 in
    leaf_step g v N 0 marker.Undefined (read Undefined s) t q.mid u q.second.0 s fs q.front q.back refl like c q.joined q.first.0 q.first.1 q.second.2 (subst (λ l. Runs (give (read Undefined s)) l (read Undefined s)) (sym q.second.1.0) refl) (q.second.1.1 ∙ ap (λ k. k.words) q.first.1 ∙ like.words) refl
leaf_complete g I v N graph.null t fs u s c like p =
    let q = p.1 in
    leaf_step g v N 1 marker.Null (read Null s) t q.mid u q.second.0 s fs q.front q.back refl like c q.joined q.first.0 q.first.1 q.second.2 (subst (λ l. Runs (give (read Null s)) l (read Null s)) (sym q.second.1.0) refl) (q.second.1.1 ∙ ap (λ k. k.words) q.first.1 ∙ like.words) refl
leaf_complete g I v N (graph.boolean false) t fs u s c like p =
    let q = p.1 in
    leaf_step g v N 2 marker.False (read (Flag false) s) t q.mid u q.second.0 s fs q.front q.back refl like c q.joined q.first.0 q.first.1 q.second.2 (subst (λ l. Runs (give (read (Flag false) s)) l (read (Flag false) s)) (sym q.second.1.0) refl) (q.second.1.1 ∙ ap (λ k. k.words) q.first.1 ∙ like.words) refl
leaf_complete g I v N (graph.boolean true) t fs u s c like p =
    let q = p.1 in
    leaf_step g v N 3 marker.True (read (Flag true) s) t q.mid u q.second.0 s fs q.front q.back refl like c q.joined q.first.0 q.first.1 q.second.2 (subst (λ l. Runs (give (read (Flag true) s)) l (read (Flag true) s)) (sym q.second.1.0) refl) (q.second.1.1 ∙ ap (λ k. k.words) q.first.1 ∙ like.words) refl
leaf_complete g I v N (graph.integer k) t fs u s c like p =
    let q = p.1 in
    let d = clean_parts fs q.front q.back q.joined c in
    let digits = q.second.1.0 in
    let r = read (Integer (integer_of (u29_value digits))) s in
    leaf_step g v N 4 marker.Integer r t q.mid u q.second.0 s fs q.front q.back refl like c q.joined q.first.0 q.first.1 q.second.2
    (subst (λ l. Runs (behind_marker v N s marker.Integer) l r) (sym q.second.1.2) (takes (u29_kind no_refusal) digits (subst AllClean q.second.1.2 d.1).0, refl)) (q.second.1.3 ∙ ap (λ k. k.words) q.first.1 ∙ like.words) refl
leaf_complete g I v N (graph.double k) t fs u s c like p =
    let q = p.1 in
    let d = clean_parts fs q.front q.back q.joined c in
    let r = read (Double (record { 0 = from_be_bytes w64 (to_be_bytes w64 k) })) s in
    leaf_step g v N 5 marker.Double r t q.mid u q.second.0 s fs q.front q.back refl like c q.joined q.first.0 q.first.1 q.second.2
    (subst (λ l. Runs (behind_marker v N s marker.Double) l r) (sym q.second.1.0) (takes (raw_kind 8) (to_be_bytes w64 k) (subst AllClean q.second.1.0 d.1).0, refl)) (q.second.1.1 ∙ ap (λ k. k.words) q.first.1 ∙ like.words) refl
leaf_complete g I v N (graph.text x) t fs u s c like p =
    let q = p.1 in
    let d = clean_parts fs q.front q.back q.joined c in
    let one = text_complete (text_header_refusal (length s.words.texts)) text_kind s x q.back q.second.0 d.1 (subst (λ w. Text free x w q.back q.second.0) (ap (λ k. k.words) q.first.1 ∙ like.words) q.second.1) in
    let r = read (TextRef (record { 0 = one.read.id })) one.read.state in
    leaf_step g v N 6 marker.Text r t q.mid u q.second.0 s fs q.front q.back refl like c q.joined q.first.0 q.first.1 q.second.2
    (subst (λ l. Runs (behind_marker v N s marker.Text) l r) (append-nil q.back) (runs_bind (text_layout s) (λ y. give (read (TextRef (record { 0 = y.id })) y.state)) q.back [] one.read (give r) one.runs refl)) one.after one.marks

value_by : (g : Graph) (N height : ℕ) → ((k : ℕ) → Finds g (SpellsIn k free g) (value_layout N) N) → (x : Value) (t : Tables) (fs : List Field) (u : Tables) (s : State3) → AllClean fs → Like g t s → length (flat fs) < suc N → SpellsIn height free g x t fs u
    → FoundBehind g (Marked (value_layout N) N s) fs u
value_by g N height h (leaf x) t fs u s c like lt p = leaf_complete g (InlineIn height free g) (value_layout N) N x t fs u s c like p
value_by g N height h (node_value i) t fs u s c like lt (inl p) = named_complete g (value_layout N) N i t fs u s c like p
value_by g N zero h (node_value i) t fs u s c like lt (inr p) = absurd p
value_by g N (suc k) h (node_value i) t fs u s c like lt (inr p) = begun_complete g (SpellsIn k free g) (value_layout N) N i (h k) t fs u s c like lt p

found : (g : Graph) (N : ℕ) (s : State3) (fs : List Field) (u : Tables) → FoundBehind g (Marked (value_layout N) N s) fs u → Found g (value_layout (suc N)) s fs u
found g N s fs u p = record { result = p.result; runs = p.runs; like = p.like }

-- in a spelling of any height, with more fuel than bytes
pub value_complete : (g : Graph) (n height : ℕ) → Finds g (SpellsIn height free g) (value_layout n) n
value_complete g zero height x t fs u s c like lt p = absurd (omega arith)
value_complete g (suc N) height x t fs u s c like lt p = found g N s fs u (value_by g N height (λ k. value_complete g N k) x t fs u s c like lt p)

-- with clean fields, as all fields of spellings are
pub spelled_read : (g : Graph) (n : ℕ) (x : Value) (t : Tables) (fs : List Field) (u : Tables) (s : State3) → Like g t s → length (flat fs) < n → Spells3 free g x t fs u → Found g (value_layout n) s fs u
spelled_read g n x t fs u s like lt p = value_complete g n p.0 x t fs u s (clean3 free g x t fs u p) like lt p.1
