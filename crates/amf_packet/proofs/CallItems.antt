-- A value of AMF 0 whose bytes begin as a call does is an array of one item, which is spelled in AMF 3 behind them; and what spells an item is read so.
use Rattle.std.proofs.Common.{◌≡◌, ℕ, zero, suc, ◌<◌, false, List, [], ◌∷◌, ◌++◌, length, take, refl, sym, ap, ◌∙◌, subst, arith, inl, inr, append-nil, length-append}
use Rattle.std.proofs.lemmas.Nat.{from_be_bytes-to_be_bytes_4}
use Rattle.std.specs.Int.{from_be_bytes, to_be_bytes, w32}
use Rattle.amf_io.specs.Field.{Field, field, flat, u32_kind, no_refusal}
use Rattle.amf_io.specs.Layout.{Layout, give, bind, Runs}
use Rattle.amf_io.proofs.Paths.{path_bind, flat-append}
use Rattle.amf_wire.specs.Style.{free}
use Rattle.amf_graph.specs.Graph.{Value, leaf, node, Head, xml_document, date, array, object, wrapper, xml, bytes, ints, uints, doubles, values, dictionary, Node, Graph, node_at}
use Rattle.amf_graph.proofs.Lists.{cons_same, split_same}
use Rattle.amf3_spelling.specs.Tables.{Tables, no_tables, add_done}
use Rattle.amf3_spelling.specs.Spells3.{Spells3, IsSpelling3}
use Rattle.amf3_layout_laws.specs.Layout3.{ValueRead, value_layout}
use Rattle.amf3_spelling.proofs.Build.{absent_nil}
use Rattle.amf3_layout_laws.proofs.Layout3Parts.{Found}
use Rattle.amf3_layout_laws.proofs.Layout3Complete.{spelled_read}
use Rattle.amf0_spelling.specs.Form.{call_front}
use Rattle.amf0_spelling.specs.Segments0.{marker0_field, Values0}
use Rattle.amf0_spelling.specs.Spells0.{NodeBy0, Switched, SpellsIn0, Spells0}
use Rattle.amf0_spelling.specs.Tables0.{Tables0, no_tables0, add_node0}
use Rattle.amf0_layout_laws.specs.Layout0State.{State0, with_node0, switched, changed0}
use Rattle.amf0_layout_laws.specs.Layout0.{ValueRead0, read0, shut0, value0_layout}
use Rattle.amf0_spelling.proofs.Alike0.{first_kind, Start, start_leaf, start_named, start_inline}
use Rattle.amf_graph.specs.Building.{more_value}
use Rattle.amf_graph.specs.Arena as arena
use Rattle.amf_packet.specs.Packet.{call_fields}
use Rattle.amf_packet.specs.LayoutPacket.{no_state0}
use Rattle.amf3_spelling.proofs.Lighter3.{rooted, lighter3}

-- The item of a call.

begins : (fs : List Field) (k m : ℕ) (more : List ℕ) → Start fs k → flat fs ≡ m ∷ more → first_kind m ≡ k
begins fs k m more s e = let o = cons_same (sym s.starts.1 ∙ e) in ap first_kind (sym o.0) ∙ s.is_kind

-- what begins with the switch is spelled in AMF 3
switched_is : (n : ℕ) (g : Graph) (v : Value) (t : Tables0) (fs : List Field) (t' : Tables0) (more : List ℕ) → SpellsIn0 n free g false v t fs t' → flat fs ≡ 0x11 ∷ more → Switched false g v t fs t'
switched_is n g (leaf x) t fs t' more (inl p) e = absurd (let k = begins fs 0 0x11 more (start_leaf free false x t fs t' p) e in omega (arith, k))
switched_is n g (leaf x) t fs t' more (inr p) e = p.1
switched_is n g (node i) t fs t' more (inl (inl p)) e = absurd (let k = begins fs 1 0x11 more (start_named false i t fs t' p) e in omega (arith, k))
switched_is n g (node i) t fs t' more (inl (inr p)) e = absurd (let k = begins fs 2 0x11 more (start_inline n free g false i t fs t' p) e in omega (arith, k))
switched_is n g (node i) t fs t' more (inr p) e = p.1

front_is : (x : List ℕ) → take 6 x ≡ call_front → (more : List ℕ) × (x ≡ call_front ++ more)
front_is [] e = absurd cc
front_is (a ∷ []) e = absurd cc
front_is (a ∷ b ∷ []) e = absurd cc
front_is (a ∷ b ∷ c ∷ []) e = absurd cc
front_is (a ∷ b ∷ c ∷ d ∷ []) e = absurd cc
front_is (a ∷ b ∷ c ∷ d ∷ f ∷ []) e = absurd cc
front_is (a ∷ b ∷ c ∷ d ∷ f ∷ h ∷ x) e = (x, ap (λ w. w ++ x) e)

-- the item's fields, behind the count
record OneItem (g : Graph) (vs : List Value) (t : Tables0) (fs : List Field) : Type 0 where
  item : Value
  only : vs ≡ item ∷ []
  rest : List Field
  after : Tables
  fields : fs ≡ marker0_field false t 0x11 ∷ rest
  spelled : Spells3 free g item t.amf3 rest after

one_item : (n : ℕ) (g : Graph) (vs : List Value) (t : Tables0) (fs : List Field) (t' : Tables0) (more : List ℕ) → length vs ≡ 1 → Values0 (SpellsIn0 n free g) vs t fs t' → flat fs ≡ 0x11 ∷ more → OneItem g vs t fs
one_item n g [] t fs t' more l p e = absurd (omega (arith, l))
one_item n g (v ∷ w ∷ vs) t fs t' more l p e = absurd (omega (arith, l))
one_item n g (v ∷ []) t fs t' more l p e =
    let all : fs ≡ p.front = p.joined ∙ ap (λ l. p.front ++ l) p.second.0 ∙ append-nil p.front in
    let s : Switched false g v t p.front p.mid = switched_is n g v t p.front p.mid more p.first (sym (ap flat all) ∙ e) in
    record { item = v; only = refl; rest = s.rest; after = s.after; fields = all ∙ s.fields; spelled = s.spelled }

-- an array of one item, behind its marker
record CallArray (g : Graph) (i : ℕ) (a : Head) (vs : List Value) (fs : List Field) : Type 0 where
  head : a ≡ array
  item : Value
  only : vs ≡ item ∷ []
  rest : List Field
  after : Tables
  fields : fs ≡ field (u32_kind no_refusal) (to_be_bytes w32 1) ∷ marker0_field false (add_node0 no_tables0 i) 0x11 ∷ rest
  spelled : Spells3 free g item (add_done no_tables i) rest after

call_array : (n : ℕ) (g : Graph) (i : ℕ) (a : Head) (names : List (List ℕ × Value)) (vs : List Value) (m : ℕ) (fs : List Field) (t' : Tables0) (more : List ℕ) → NodeBy0 (SpellsIn0 n free g) free i a names vs m no_tables0 fs t' → m ≡ 0x0A → flat fs ≡ 0x00 ∷ 0x00 ∷ 0x00 ∷ 0x01 ∷ 0x11 ∷ more → CallArray g i a vs fs
call_array n g i array names vs m fs t' more (inl z) k e = absurd (let d = z.0 in omega (arith, d, k))
call_array n g i array names vs m fs t' more (inr z) k e =
    let q = z.3 in
    let size = to_be_bytes w32 (length vs) in
    let all : size ++ flat q.back ≡ (0x00 ∷ 0x00 ∷ 0x00 ∷ 0x01 ∷ []) ++ (0x11 ∷ more) = sym (ap flat (q.joined ∙ ap (λ l. l ++ q.back) q.first.0)) ∙ e in
    let s = split_same size (0x00 ∷ 0x00 ∷ 0x00 ∷ 0x01 ∷ []) (flat q.back) (0x11 ∷ more) refl all in
    let one : length vs ≡ 1 = sym (from_be_bytes-to_be_bytes_4 (length vs) z.2) ∙ ap (from_be_bytes w32) s.0 in
    let mid : q.mid ≡ add_node0 no_tables0 i = q.first.1 in
    let o : OneItem g vs (add_node0 no_tables0 i) q.back = one_item n g vs (add_node0 no_tables0 i) q.back t' more one (subst (λ (t : Tables0). Values0 (SpellsIn0 n free g) vs t q.back t') mid q.second) s.1 in
    record {
      head = refl;
      item = o.item;
      only = o.only;
      rest = o.rest;
      after = o.after;
      fields = q.joined ∙ ap (λ l. l ++ q.back) (q.first.0 ∙ ap (λ c. field (u32_kind no_refusal) (to_be_bytes w32 c) ∷ []) one) ∙ ap (λ l. field (u32_kind no_refusal) (to_be_bytes w32 1) ∷ l) o.fields;
      spelled = o.spelled;
    }
call_array n g i (object c) names vs m fs t' more (o, inl z) k e = absurd (let d = z.0 in omega (arith, d, k))
call_array n g i (object c) names vs m fs t' more (o, inr z) k e = absurd (let d = z.0 in omega (arith, d, k))
call_array n g i (date p) names vs m fs t' more z k e = absurd (let d = z.0 in omega (arith, d, k))
call_array n g i (xml_document x) names vs m fs t' more z k e = absurd (let d = z.0 in omega (arith, d, k))
call_array n g i (wrapper c) names vs m fs t' more z k e = absurd z
call_array n g i (xml x) names vs m fs t' more z k e = absurd z
call_array n g i (bytes x) names vs m fs t' more z k e = absurd z
call_array n g i (ints f x) names vs m fs t' more z k e = absurd z
call_array n g i (uints f x) names vs m fs t' more z k e = absurd z
call_array n g i (doubles f x) names vs m fs t' more z k e = absurd z
call_array n g i (values f x) names vs m fs t' more z k e = absurd z
call_array n g i (dictionary f) names vs m fs t' more z k e = absurd z

-- a value whose bytes begin as a call does: the array, and its item behind those bytes from fresh tables, whatever the root is
pub record CallItem (ns : List Node) (q v : Value) (fs : List Field) : Type 0 where
  pub place : ℕ
  pub is_node : v ≡ node place
  pub there : place < length ns
  pub head : (node_at (rooted ns q) place).head ≡ array
  pub item : Value
  pub only : (node_at (rooted ns q) place).values ≡ item ∷ []
  pub rest : List Field
  pub fields : fs ≡ call_fields ++ rest
  pub after : Tables
  pub spelled : (r : Value) → (u : Tables) × Spells3 free (rooted ns r) item no_tables rest u

call_in : (n : ℕ) (ns : List Node) (q v : Value) (fs : List Field) (t' : Tables0) (more : List ℕ) → SpellsIn0 n free (rooted ns q) false v no_tables0 fs t' → flat fs ≡ call_front ++ more → CallItem ns q v fs
call_in n ns q (leaf x) fs t' more (inl p) e = absurd (let k = begins fs 0 0x0A _ (start_leaf free false x no_tables0 fs t' p) e in omega (arith, k))
call_in n ns q (leaf x) fs t' more (inr p) e = absurd (let k = (cons_same (sym (ap flat p.1.fields) ∙ e)).0 in omega (arith, k))
call_in n ns q (node i) fs t' more (inl (inl p)) e = absurd (let k = begins fs 1 0x0A _ (start_named false i no_tables0 fs t' p) e in omega (arith, k))
call_in zero ns q (node i) fs t' more (inl (inr p)) e = absurd p
call_in (suc n) ns q (node i) fs t' more (inl (inr p)) e =
    let a = node_at (rooted ns q) i in
    let o = cons_same (sym (ap flat p.fields) ∙ e) in
    let c : CallArray (rooted ns q) i a.head a.values p.rest = call_array n (rooted ns q) i a.head a.names a.values p.marker p.rest t' more p.behind o.0 o.1 in
    record {
      place = i;
      is_node = refl;
      there = p.there;
      head = c.head;
      item = c.item;
      only = c.only;
      rest = c.rest;
      fields = p.fields ∙ ap (λ m. marker0_field false no_tables0 m ∷ p.rest) o.0 ∙ ap (λ l. marker0_field false no_tables0 0x0A ∷ l) c.fields;
      after = c.after;
      spelled = λ r.
          let y = lighter3 free ns q r c.item (add_done no_tables i) c.rest c.after c.spelled [] (λ j none. absent_nil j) in
          (_, y.spelled);
    }
call_in n ns q (node i) fs t' more (inr p) e = absurd (let k = (cons_same (sym (ap flat p.1.fields) ∙ e)).0 in omega (arith, k))

pub call_item : (ns : List Node) (q v : Value) (fs : List Field) (t' : Tables0) → Spells0 free (rooted ns q) v no_tables0 fs t' → take 6 (flat fs) ≡ call_front → CallItem ns q v fs
call_item ns q v fs t' p e = let o = front_is (flat fs) e in call_in p.0 ns q v fs t' o.0 p.1 o.1

-- What spells an item is read behind the bytes of a call.

abbrev in_array : State0
in_array = with_node0 no_state0 arena.array

pub call_runs : (n : ℕ) (g : Graph) (rest : List Field) → IsSpelling3 free g rest → length (flat (call_fields ++ rest)) < n → (y : ValueRead0) × Runs (value0_layout n false no_state0) (call_fields ++ rest) y
call_runs zero g rest s lt = absurd (omega (arith, lt))
call_runs (suc zero) g rest s lt = absurd (let e = flat-append call_fields rest in omega (arith, lt, ap length e, length-append (flat call_fields) (flat rest)))
call_runs (suc (suc k)) g rest (t, s) lt =
    let f : Found g (value_layout k) in_array.amf3 rest t = spelled_read g k g.root no_tables rest t in_array.amf3 (record { words = refl; marks = refl }) (omega (arith, lt, ap length (flat-append call_fields rest), length-append (flat call_fields) (flat rest))) s in
    let a : ValueRead0 = read0 f.result.value (switched in_array f.result.state) in
    let b : State0 = changed0 (more_value a.value) 0 a.state in
    let read : ValueRead → Layout ValueRead0 = λ x. give (read0 x.value (switched in_array x.state)) in
    let kept : ValueRead0 → Layout State0 = λ x. give (changed0 (more_value x.value) 0 x.state) in
    let shut : State0 → Layout ValueRead0 = λ u. give (shut0 0 u) in (
      shut0 0 b,
      (
        record { is_kind = refl; is_whole = refl; clean = refl },
        (
          record { is_kind = refl; is_whole = refl; clean = refl },
          (
            record { is_kind = refl; is_whole = refl; clean = refl },
            path_bind (bind (bind (value_layout k in_array.amf3) read) kept) (give b) shut rest
                (path_bind (bind (value_layout k in_array.amf3) read) (give a) kept rest
                (path_bind (value_layout k in_array.amf3) (give f.result) read rest f.runs)),
          ),
        ),
      ),
    )
