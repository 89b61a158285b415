-- The parts of a node that are spelled are read.
use Rattle.std.proofs.Common.{◌≡◌, ◌≢◌, ℕ, zero, suc, ◌+◌, ◌*◌, ◌<◌, Bool, true, false, cond, List, [], ◌∷◌, ◌++◌, length, refl, sym, ap, ◌∙◌, arith, subst, append_assoc, length-append}
use Rattle.std.proofs.lemmas.List.{append-nil}
use Rattle.std.specs.Int.{from_be_bytes, to_be_bytes, w32, w64}
use Rattle.amf_wire.specs.Style.{free}
use Rattle.amf_io.specs.Field.{Kind, Field, IsClean, field, raw_kind, text_kind, contents, flat}
use Rattle.amf_io.specs.Layout.{Layout, give, bind, Runs}
use Rattle.amf_io.proofs.Paths.{runs_bind, flat-append}
use Rattle.amf_graph.specs.Graph.{Value, Graph, AllNamed}
use Rattle.amf_graph.specs.declared.value.Value.TheVariants.{Node}
use Rattle.amf_graph.specs.Building.{more_value, more_name, shut, more_entry}
use Rattle.amf3_spelling.specs.Tables.{Words, Tables, with_words}
use Rattle.amf3_spelling.specs.Then.{Spelling}
use Rattle.amf3_spelling.specs.Refusals3.{markers, text_header_refusal, text_header_kind}
use Rattle.amf3_spelling.specs.Words3.{Text}
use Rattle.amf3_spelling.specs.Segments3.{Segment, flag, Segments, values_then, pairs_then, fours, eights}
use Rattle.amf3_layout_laws.specs.Layout3State.{State3, with_node, changed}
use Rattle.amf3_layout_laws.specs.Layout3Words.{chunk, TextRead, text_layout, Outline}
use Rattle.amf3_layout_laws.specs.Layout3.{four_layout, eight_layout, many, ValueRead, read, items, entries, items_of, is_empty, pairs, pairs_if, parts}
use Rattle.amf3_spelling.proofs.Clean.{AllClean}
use Rattle.amf3_layout_laws.proofs.Layout3Texts.{clean_parts, takes, path_if, text_complete, text_some, none_entered}

abbrev pub Reader : Type 0
Reader = State3 → Layout ValueRead

-- the same words, and nodes of the same markers
pub record Like (g : Graph) (t : Tables) (s : State3) : Type 0 where
  pub words : t.words ≡ s.words
  pub marks : markers g t.nodes ≡ s.marks

pub record Found (g : Graph) (v : Reader) (s : State3) (fs : List Field) (u : Tables) : Type 0 where
  pub result : ValueRead
  pub runs : Runs (v s) fs result
  pub like : Like g u result.state

-- a value that is found in fewer bytes than these
abbrev pub Finds : Graph → (Value → Spelling Tables) → Reader → ℕ → Type 0
Finds g R v n = (x : Value) (t : Tables) (fs : List Field) (u : Tables) (s : State3) → AllClean fs → Like g t s → length (flat fs) < n → R x t fs u → Found g v s fs u

-- some parts were read, and these are left
pub record Half (g : Graph) (R : Value → Spelling Tables) (l : Layout State3) (ps : List Segment) (fs : List Field) (u : Tables) : Type 0 where
  pub front : List Field
  pub back : List Field
  pub joined : fs ≡ front ++ back
  pub mid : Tables
  pub state : State3
  pub runs : Runs l front state
  pub like : Like g mid state
  pub rest : Segments R free ps mid back u

pub parts_length : (fs front back : List Field) → fs ≡ front ++ back → length (flat fs) ≡ length (flat front) + length (flat back)
parts_length fs front back e = ap (λ l. length (flat l)) e ∙ ap length (flat-append front back) ∙ length-append (flat front) (flat back)

joined_more : (fs a b front back : List Field) → fs ≡ a ++ b → b ≡ front ++ back → fs ≡ (a ++ front) ++ back
joined_more fs a b front back e h = e ∙ ap (λ l. a ++ l) h ∙ sym (append_assoc a front back)

none_read : (g : Graph) (R : Value → Spelling Tables) (ps : List Segment) (t u : Tables) (fs : List Field) (s : State3) → Like g t s → Segments R free ps t fs u → Half g R (give s) ps fs u
none_read g R ps t u fs s like p = record { front = []; back = fs; joined = refl; mid = t; state = s; runs = refl; like = like; rest = p }

pub items_half : (g : Graph) (R : Value → Spelling Tables) (v : Reader) (N id : ℕ) → Finds g R v N → (vs : List Value) (ps : List Segment) (t u : Tables) (fs : List Field) (s : State3) → AllClean fs → Like g t s → length (flat fs) < N
    → Segments R free (values_then vs ps) t fs u → Half g R (items v id (length vs) s) ps fs u
items_half g R v N id h [] ps t u fs s c like lt p = none_read g R ps t u fs s like p
items_half g R v N id h (x ∷ vs) ps t u fs s c like lt p =
    let d = clean_parts fs p.front p.back p.joined c in
    let total = parts_length fs p.front p.back p.joined in
    let one = h x t p.front p.mid s d.0 like (omega arith) p.first in
    let next = changed (more_value one.result.value) id one.result.state in
    let more = items_half g R v N id h vs ps p.mid u p.back next d.1 (record { words = one.like.words; marks = one.like.marks }) (omega arith) p.second in
    record {
      front = p.front ++ more.front;
      back = more.back;
      joined = joined_more fs p.front p.back more.front more.back p.joined more.joined;
      mid = more.mid;
      state = more.state;
      like = more.like;
      rest = more.rest;
      runs = runs_bind (v s) (λ y. items v id (length vs) (changed (more_value y.value) id y.state)) p.front more.front one.result (give more.state) one.runs more.runs;
    }

abbrev valued : Reader → ℕ → ℕ → ValueRead → ValueRead → Layout State3
valued v id n k x = entries v id n (changed (more_entry k.value x.value) id x.state)

pub entries_half : (g : Graph) (R : Value → Spelling Tables) (v : Reader) (N id : ℕ) → Finds g R v N → (n : ℕ) (vs : List Value) (ps : List Segment) (t u : Tables) (fs : List Field) (s : State3) → length vs ≡ 2 * n → AllClean fs → Like g t s → length (flat fs) < N
    → Segments R free (values_then vs ps) t fs u → Half g R (entries v id n s) ps fs u
entries_half g R v N id h zero [] ps t u fs s twice c like lt p = none_read g R ps t u fs s like p
entries_half g R v N id h zero (x ∷ vs) ps t u fs s twice c like lt p = absurd (omega arith)
entries_half g R v N id h (suc n) [] ps t u fs s twice c like lt p = absurd (omega arith)
entries_half g R v N id h (suc n) (x ∷ []) ps t u fs s twice c like lt p = absurd (omega arith)
entries_half g R v N id h (suc n) (x ∷ y ∷ vs) ps t u fs s twice c like lt p =
    let d = clean_parts fs p.front p.back p.joined c in
    let total = parts_length fs p.front p.back p.joined in
    let one = h x t p.front p.mid s d.0 like (omega arith) p.first in
    let q = p.second in
    let e = clean_parts p.back q.front q.back q.joined d.1 in
    let total2 = parts_length p.back q.front q.back q.joined in
    let two = h y p.mid q.front q.mid one.result.state e.0 one.like (omega arith) q.first in
    let next = changed (more_entry one.result.value two.result.value) id two.result.state in
    let more = entries_half g R v N id h n vs ps q.mid u q.back next (omega arith) e.1 (record { words = two.like.words; marks = two.like.marks }) (omega arith) q.second in
    record {
      front = p.front ++ (q.front ++ more.front);
      back = more.back;
      mid = more.mid;
      state = more.state;
      like = more.like;
      rest = more.rest;
      joined = joined_more fs p.front p.back (q.front ++ more.front) more.back p.joined (joined_more p.back q.front q.back more.front more.back q.joined more.joined);
      runs = runs_bind (v s) (λ k. bind (v k.state) (valued v id n k)) p.front (q.front ++ more.front) one.result (give more.state) one.runs
          (runs_bind (v one.result.state) (valued v id n one.result) q.front more.front two.result (give more.state) two.runs more.runs);
    }

pub items_of_half : (g : Graph) (R : Value → Spelling Tables) (v : Reader) (N id : ℕ) → Finds g R v N → (b : Bool) (n : ℕ) (vs : List Value) (ps : List Segment) (t u : Tables) (fs : List Field) (s : State3) → length vs ≡ cond b (2 * n) n → AllClean fs → Like g t s → length (flat fs) < N
    → Segments R free (values_then vs ps) t fs u → Half g R (items_of b v id n s) ps fs u
items_of_half g R v N id h true n vs ps t u fs s count c like lt p = entries_half g R v N id h n vs ps t u fs s count c like lt p
items_of_half g R v N id h false n vs ps t u fs s count c like lt p = subst (λ k. Half g R (items v id k s) ps fs u) count (items_half g R v N id h vs ps t u fs s c like lt p)

-- behind a text the tables are like the state behind it
pub like_text : (g : Graph) (t mid : Tables) (w : Words) (s z : State3) → Like g t s → mid ≡ with_words t w → w ≡ z.words → z.marks ≡ s.marks → Like g mid z
like_text g t mid w s z like e f h = record { words = ap (λ m. m.words) e ∙ f; marks = ap (λ m. markers g m.nodes) e ∙ like.marks ∙ sym h }

abbrev on : Reader → ℕ → ℕ → TextRead → ValueRead → Layout State3
on v f id x y = pairs v f id (changed (more_name x.id y.value) id y.state)

abbrev behind_name : Reader → ℕ → ℕ → State3 → TextRead → Layout State3
behind_name v f id s x = cond (is_empty x.bytes) (give s) (bind (v x.state) (on v f id x))

not_empty : (x y : List ℕ) → x ≡ y → y ≢ [] → is_empty x ≡ false
not_empty [] y e h = absurd (h (sym e))
not_empty (b ∷ x) y e h = refl

pub pairs_half : (g : Graph) (R : Value → Spelling Tables) (v : Reader) (N f id : ℕ) → Finds g R v N → (qs : List (List ℕ × Value)) (ps : List Segment) (t u : Tables) (fs : List Field) (s : State3) → AllNamed qs → AllClean fs → Like g t s → length (flat fs) < N → length (flat fs) < f
    → Segments R free (pairs_then qs ps) t fs u → Half g R (pairs v f id s) ps fs u
pairs_half g R v N zero id h qs ps t u fs s named c like lt few p = absurd (omega arith)
pairs_half g R v N (suc f) id h [] ps t u fs s named c like lt few p =
    let d = clean_parts fs p.front p.back p.joined c in
    let text : Text free [] s.words p.front p.first.0 = subst (λ w. Text free [] w p.front p.first.0) like.words p.first.1 in
    let one = text_complete (text_header_refusal (length s.words.texts)) text_kind s [] p.front p.first.0 d.0 text in
    let r = one.read in
    record {
      front = p.front;
      back = p.back;
      joined = p.joined;
      mid = p.mid;
      state = s;
      like = like_text g t p.mid p.first.0 s s like p.first.2 (none_entered (text_header_kind (length s.words.texts)) text_kind [] s.words p.front p.first.0 refl text) refl;
      rest = p.second;
      runs = subst (λ l. Runs (pairs v (suc f) id s) l s) (append-nil p.front) (runs_bind (text_layout s) (behind_name v f id s) p.front [] r (give s) one.runs
          (path_if {X = State3} (is_empty r.bytes) true (give s) (bind (v r.state) (on v f id r)) [] (give s) (ap is_empty one.bytes) refl));
    }
pairs_half g R v N (suc f) id h (q ∷ qs) ps t u fs s named c like lt few p =
    let d = clean_parts fs p.front p.back p.joined c in
    let total = parts_length fs p.front p.back p.joined in
    let refusal = text_header_refusal (length s.words.texts) in
    let one = text_complete refusal text_kind s q.0 p.front p.first.0 d.0 (subst (λ w. Text free q.0 w p.front p.first.0) like.words p.first.1) in
    let some = text_some refusal text_kind s p.front one.read one.runs in
    let z = one.read.state in
    let p2 = p.second in
    let e = clean_parts p.back p2.front p2.back p2.joined d.1 in
    let total2 = parts_length p.back p2.front p2.back p2.joined in
    let two = h q.1 p.mid p2.front p2.mid z e.0 (like_text g t p.mid p.first.0 s z like p.first.2 one.after one.marks) (omega arith) p2.first in
    let next = changed (more_name one.read.id two.result.value) id two.result.state in
    let more = pairs_half g R v N f id h qs ps p2.mid u p2.back next named.1 e.1 (record { words = two.like.words; marks = two.like.marks }) (omega arith) (omega arith) p2.second in
    record {
      front = p.front ++ (p2.front ++ more.front);
      back = more.back;
      mid = more.mid;
      state = more.state;
      like = more.like;
      rest = more.rest;
      joined = joined_more fs p.front p.back (p2.front ++ more.front) more.back p.joined (joined_more p.back p2.front p2.back more.front more.back p2.joined more.joined);
      runs = runs_bind (text_layout s) (behind_name v f id s) p.front (p2.front ++ more.front) one.read (give more.state) one.runs
          (path_if {X = State3} (is_empty one.read.bytes) false (give s) (bind (v z) (on v f id one.read)) (p2.front ++ more.front) (give more.state) (not_empty one.read.bytes q.0 one.bytes named.0)
          (runs_bind (v z) (on v f id one.read) p2.front more.front two.result (give more.state) two.runs more.runs));
    }

pub pairs_if_half : (g : Graph) (R : Value → Spelling Tables) (v : Reader) (N id : ℕ) → Finds g R v N → (b : Bool) (qs : List (List ℕ × Value)) (ps : List Segment) (t u : Tables) (fs : List Field) (s : State3) → AllNamed qs → AllClean fs → Like g t s → length (flat fs) < N
    → Segments R free (cond b (pairs_then qs ps) ps) t fs u → Half g R (pairs_if b v N id s) ps fs u
pairs_if_half g R v N id h true qs ps t u fs s named c like lt p = pairs_half g R v N N id h qs ps t u fs s named c like lt lt p
pairs_if_half g R v N id h false qs ps t u fs s named c like lt p = none_read g R ps t u fs s like p

-- the parts behind the header of a node
abbrev pub behind : Bool → Bool → List (List ℕ × Value) → List Value → List Segment
behind first last qs vs = cond first (pairs_then qs (values_then vs (cond last (pairs_then qs []) []))) (values_then vs (cond last (pairs_then qs []) []))

pub record FoundNode (g : Graph) (v : Reader) (N : ℕ) (o : Outline) (fs : List Field) (u : Tables) : Type 0 where
  pub result : ValueRead
  pub runs : Runs (parts v N o) fs result
  pub like : Like g u result.state

abbrev ending : ℕ → State3 → Layout ValueRead
ending id u = give (read (Node (record { 0 = id })) (changed shut id u))

abbrev behind_items : Reader → ℕ → ℕ → Bool → State3 → Layout ValueRead
behind_items v f id last t = bind (pairs_if last v f id t) (ending id)

abbrev behind_pairs : Reader → ℕ → ℕ → Outline → State3 → Layout ValueRead
behind_pairs v f id o s = bind (items_of o.twins v id o.count s) (behind_items v f id o.last)

pub parts_complete : (g : Graph) (R : Value → Spelling Tables) (v : Reader) (N : ℕ) → Finds g R v N → (o : Outline) (qs : List (List ℕ × Value)) (vs : List Value) (t u : Tables) (fs : List Field) → AllNamed qs → AllClean fs → Like g t (with_node o.state o.head) → length (flat fs) < N
    → length vs ≡ cond o.twins (2 * o.count) o.count → Segments R free (behind o.first o.last qs vs) t fs u → FoundNode g v N o fs u
parts_complete g R v N h o qs vs t u fs named c like lt count p =
    let id = length o.state.arena.nodes in
    let z = with_node o.state o.head in
    let a = pairs_if_half g R v N id h o.first qs (values_then vs (cond o.last (pairs_then qs []) [])) t u fs z named c like lt p in
    let ca = clean_parts fs a.front a.back a.joined c in
    let la = parts_length fs a.front a.back a.joined in
    let b = items_of_half g R v N id h o.twins o.count vs (cond o.last (pairs_then qs []) []) a.mid u a.back a.state count ca.1 a.like (omega arith) a.rest in
    let cb = clean_parts a.back b.front b.back b.joined ca.1 in
    let lb = parts_length a.back b.front b.back b.joined in
    let d = pairs_if_half g R v N id h o.last qs [] b.mid u b.back b.state named cb.1 b.like (omega arith) b.rest in
    let x = read (Node (record { 0 = id })) (changed shut id d.state) in
    let all : fs ≡ a.front ++ (b.front ++ (d.front ++ [])) = a.joined ∙ ap (λ l. a.front ++ l) (b.joined ∙ ap (λ l. b.front ++ l) (d.joined ∙ ap (λ l. d.front ++ l) d.rest.0)) in
    record {
      result = x;
      like = subst (λ w. Like g w x.state) (sym d.rest.1) (record { words = d.like.words; marks = d.like.marks });
      runs = subst (λ l. Runs (parts v N o) l x) (sym all)
          (runs_bind (pairs_if o.first v N id z) (behind_pairs v N id o) a.front (b.front ++ (d.front ++ [])) a.state (give x) a.runs
          (runs_bind (items_of o.twins v id o.count a.state) (behind_items v N id o.last) b.front (d.front ++ []) b.state (give x) b.runs
          (runs_bind (pairs_if o.last v N id b.state) (ending id) d.front [] d.state (give x) d.runs refl)));
    }

-- Parts without text and nodes.

pub chunk_runs : {X : Type 0} (kind : ℕ → Kind) (x : List ℕ) (f : List ℕ → X) → AllClean (contents kind x) → Runs (chunk kind (length x) (λ y. give (f y))) (contents kind x) (f x)
chunk_runs kind [] f c = refl
chunk_runs kind (b ∷ x) f c = (takes (kind (suc (length x))) (b ∷ x) c.0, refl)

-- a flag was read, and these parts are left
pub record FlagHalf (R : Value → Spelling Tables) (ps : List Segment) (t : Tables) (fs : List Field) (u : Tables) : Type 0 where
  pub byte : ℕ
  pub back : List Field
  pub joined : fs ≡ field (raw_kind 1) (byte ∷ []) ∷ back
  pub is_clean : IsClean (field (raw_kind 1) (byte ∷ []))
  pub clean_back : AllClean back
  pub rest : Segments R free ps t back u

pub flag_half : (R : Value → Spelling Tables) (f : Bool) (ps : List Segment) (t : Tables) (fs : List Field) (u : Tables) → AllClean fs → Segments R free (flag f ∷ ps) t fs u → FlagHalf R ps t fs u
flag_half R f ps t fs u c p =
    let m = p.first.0.0 in
    let e : fs ≡ field (raw_kind 1) (m ∷ []) ∷ p.back = p.joined ∙ ap (λ l. l ++ p.back) p.first.0.2 in
    let d = subst AllClean e c in
    record { byte = m; back = p.back; joined = e; is_clean = d.0; clean_back = d.1; rest = subst (λ w. Segments R free ps w p.back u) p.first.1 p.second }

pub record FoundMany (l : Layout ℕ) (n : ℕ) (t : Tables) (fs : List Field) (u : Tables) : Type 0 where
  pub numbers : List ℕ
  pub runs : Runs (many n l) fs numbers
  pub same : u ≡ t

pub fours_complete : (R : Value → Spelling Tables) (ns : List ℕ) (t : Tables) (fs : List Field) (u : Tables) → AllClean fs → Segments R free (fours ns) t fs u → FoundMany four_layout (length ns) t fs u
fours_complete R [] t fs u c p = record { numbers = []; runs = subst (λ l. Runs (many 0 four_layout) l []) (sym p.0) refl; same = p.1 }
fours_complete R (n ∷ ns) t fs u c p =
    let e : fs ≡ field (raw_kind 4) (to_be_bytes w32 n) ∷ p.back = p.joined ∙ ap (λ l. l ++ p.back) p.first.0 in
    let d = subst AllClean e c in
    let more = fours_complete R ns p.mid p.back u d.1 p.second in
    let k = from_be_bytes w32 (to_be_bytes w32 n) in
    record {
      numbers = k ∷ more.numbers;
      same = more.same ∙ p.first.1;
      runs = subst (λ l. Runs (many (suc (length ns)) four_layout) l (k ∷ more.numbers)) (sym e)
          (takes (raw_kind 4) (to_be_bytes w32 n) d.0, subst (λ l. Runs (bind (many (length ns) four_layout) (λ xs. give (k ∷ xs))) l (k ∷ more.numbers)) (append-nil p.back) (runs_bind (many (length ns) four_layout) (λ xs. give (k ∷ xs)) p.back [] more.numbers (give (k ∷ more.numbers)) more.runs refl));
    }

pub eights_complete : (R : Value → Spelling Tables) (ns : List ℕ) (t : Tables) (fs : List Field) (u : Tables) → AllClean fs → Segments R free (eights ns) t fs u → FoundMany eight_layout (length ns) t fs u
eights_complete R [] t fs u c p = record { numbers = []; runs = subst (λ l. Runs (many 0 eight_layout) l []) (sym p.0) refl; same = p.1 }
eights_complete R (n ∷ ns) t fs u c p =
    let e : fs ≡ field (raw_kind 8) (to_be_bytes w64 n) ∷ p.back = p.joined ∙ ap (λ l. l ++ p.back) p.first.0 in
    let d = subst AllClean e c in
    let more = eights_complete R ns p.mid p.back u d.1 p.second in
    let k = from_be_bytes w64 (to_be_bytes w64 n) in
    record {
      numbers = k ∷ more.numbers;
      same = more.same ∙ p.first.1;
      runs = subst (λ l. Runs (many (suc (length ns)) eight_layout) l (k ∷ more.numbers)) (sym e)
          (takes (raw_kind 8) (to_be_bytes w64 n) d.0, subst (λ l. Runs (bind (many (length ns) eight_layout) (λ xs. give (k ∷ xs))) l (k ∷ more.numbers)) (append-nil p.back) (runs_bind (many (length ns) eight_layout) (λ xs. give (k ∷ xs)) p.back [] more.numbers (give (k ∷ more.numbers)) more.runs refl));
    }
