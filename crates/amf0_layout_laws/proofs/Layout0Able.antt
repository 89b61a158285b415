-- What has been read of a value of AMF 0 can be completed.
use Rattle.std.proofs.Common.{◌≡◌, ℕ, zero, suc, ◌≤◌, ◌<◌, Bool, true, false, cond, eqb, leb, not, [], ◌∷◌, length, slice_index, get_or, Some, None, refl, sym, ap, ◌∙◌, subst, arith, Option}
use Rattle.std.specs.Int.{from_be_bytes, w16, w32, w64}
use Rattle.amf_io.specs.declared.reason.Reason.TheVariants.{BadReference}
use Rattle.amf_io.specs.Field.{Field, field, fixed, raw_kind, text_kind, u16_kind, u32_kind, no_refusal}
use Rattle.amf_io.specs.Layout.{Layout, give, want, Runs, Able}
use Rattle.amf_io.proofs.Paths.{runs_bind}
use Rattle.amf_io.proofs.Whole.{whole_some}
use Rattle.amf_io.proofs.Ables.{AbleWithin, able_none, able_less, able_give, able_bind, able_bind_less, able_cond, able_want}
use Rattle.amf_graph.specs.declared.value.Value.TheVariants.{Undefined, Null, Bool as Flag, Double, Text, Node}
use Rattle.amf_graph.specs.Arena.{StoredHead}
use Rattle.amf_graph.specs.Arena as arena
use Rattle.amf_graph.specs.Building.{more_value, more_name}
use Rattle.amf3_layout_laws.specs.Layout3Words.{chunk}
use Rattle.amf3_layout_laws.specs.Layout3.{ValueRead, value_layout}
use Rattle.amf3_layout_laws.proofs.Layout3Able.{value_able}
use Rattle.amf3_layout_laws.proofs.Layout3Fills.{Filled, text_filled, raw_filled, able_field, able_chunk}
use Rattle.amf0_spelling.specs.Segments0.{is_empty}
use Rattle.amf0_spelling.specs.Refusals0.{marker0_kind, marker0_refusal, index0_kind}
use Rattle.amf0_layout_laws.specs.Layout0State.{State0, switched, with_text0, with_class, class_head, with_node0, changed0}
use Rattle.amf0_layout_laws.specs.Layout0.{new_text0, short_layout, long_layout, ValueRead0, read0, end0, Reader0, items0, pairs0, shut0, with_pairs, with_items, whole0, with_members, behind0, value0_layout}
use Rattle.amf0_layout_laws.proofs.Layout0Forms.{code0, code0_at, some_place}
use Rattle.amf0_layout_laws.proofs.Layout0Grows.{next_pair, named_value}
use Rattle.amf0_spelling.specs.declared.marker.Marker0.{Marker0}
use Rattle.amf0_spelling.specs.declared.marker.Marker0.TheVariants as marker
use Rattle.amf0_spelling.specs.Markers0.{marker0_at}

u16_filled : Filled (u16_kind no_refusal)
u16_filled = record { bytes = 0 ∷ 0 ∷ []; is_whole = refl; clean = refl; are_bytes = (omega arith, (omega arith, tt)) }

u32_filled : Filled (u32_kind no_refusal)
u32_filled = record { bytes = 0 ∷ 0 ∷ 0 ∷ 0 ∷ []; is_whole = refl; clean = refl; are_bytes = (omega arith, (omega arith, (omega arith, (omega arith, tt)))) }

not_zero : (n : ℕ) → leb (suc n) 0 ≡ false
not_zero n = grind arith

index_filled : (nodes : ℕ) → 0 < nodes → Filled (index0_kind nodes)
index_filled zero h = absurd (omega arith)
index_filled (suc n) h = record { bytes = 0 ∷ 0 ∷ []; is_whole = refl; clean = ap (λ b. cond b (Some BadReference) None) (not_zero n); are_bytes = (omega arith, (omega arith, tt)) }

able_short : (N : ℕ) (s : State0) → AbleWithin N (short_layout s)
able_short N s = able_field N (u16_kind no_refusal) (λ b. chunk text_kind (from_be_bytes w16 b) (λ x. give (new_text0 s x))) u16_filled (λ b w ok. able_chunk N text_kind (from_be_bytes w16 b) (new_text0 s) (λ j e. text_filled j))

able_long : (N : ℕ) (s : State0) → AbleWithin N (long_layout s)
able_long N s = able_field N (u32_kind no_refusal) (λ b. chunk text_kind (from_be_bytes w32 b) (λ x. give (new_text0 s x))) u32_filled (λ b w ok. able_chunk N text_kind (from_be_bytes w32 b) (new_text0 s) (λ j e. text_filled j))

abbrev Inner : Reader0 → ℕ → Type 0
Inner v N = (b : Bool) (s : State0) → AbleWithin N (v b s)

-- behind an empty name the end is read, where there is fuel
abbrev end_field : State0 → Field
end_field s = field (marker0_kind true (length s.nodes)) (0x09 ∷ [])

abbrev Ends : Reader0 → ℕ → Type 0
Ends v N = 0 < N → (s : State0) → Runs (v true s) (end_field s ∷ []) (end0 s)

able_items : (v : Reader0) (N : ℕ) → Inner v N → (i k : ℕ) (s : State0) → AbleWithin N (items0 v i k s)
able_items v N h i zero s = able_give N s
able_items v N h i (suc k) s = able_bind N (v false s) (λ x. items0 v i k (changed0 (more_value x.value) i x.state)) (h false s) (λ x. able_items v N h i k (changed0 (more_value x.value) i x.state))

-- an empty name, and the end
start_pairs : (v : Reader0) (N : ℕ) → Ends v N → (f i : ℕ) (s : State0) → suc f ≤ N → Able (pairs0 v (suc f) i s)
start_pairs v N e f i s few =
    let z = with_text0 s [] in
    let r : Runs (v true z) (end_field z ∷ []) (end0 z) = e (omega arith) z in
    record {
      more = field (u16_kind no_refusal) (0 ∷ 0 ∷ []) ∷ end_field z ∷ [];
      bytes = (omega arith, (omega arith, (omega arith, tt)));
      value = z;
      runs = (record { is_kind = refl; is_whole = refl; clean = refl }, runs_bind (v true z) (next_pair v f i (new_text0 s [])) (end_field z ∷ []) [] (end0 z) (give z) r refl);
    }

able_pairs : (v : Reader0) (N : ℕ) → Inner v N → Ends v N → (f i : ℕ) (s : State0) → f ≤ N → AbleWithin f (pairs0 v f i s)
able_pairs v N h e zero i s few = able_none (pairs0 v 0 i s)
able_pairs v N h e (suc f) i s few =
    able_bind_less f (short_layout s) (named_value v f i) (able_short (suc f) s) (λ x z. cc)
    (λ x. able_bind f (v (is_empty x.bytes) x.state) (next_pair v f i x) (able_less N f (v (is_empty x.bytes) x.state) (omega arith) (h (is_empty x.bytes) x.state))
    (λ y. able_cond f y.ended (give y.state) (pairs0 v f i (changed0 (more_name x.id y.value) i y.state)) (λ _. able_give f y.state) (λ _. able_pairs v N h e f i (changed0 (more_name x.id y.value) i y.state) (omega arith))))
    (start_pairs v N e f i s few)

module _ (v : Reader0) (N : ℕ) (h : Inner v N) (e : Ends v N) where
  able_with_pairs : (s : State0) (head : StoredHead) → AbleWithin N (with_pairs v N s head)
  able_with_pairs s head =
      let i = length s.amf3.arena.nodes in
      able_bind N (pairs0 v N i (with_node0 s head)) (λ u. give (shut0 i u)) (able_pairs v N h e N i (with_node0 s head) (omega arith)) (λ u. able_give N (shut0 i u))

  able_with_items : (n : ℕ) (s : State0) (head : StoredHead) → AbleWithin N (with_items v n s head)
  able_with_items n s head =
      let i = length s.amf3.arena.nodes in
      able_bind N (items0 v i n (with_node0 s head)) (λ u. give (shut0 i u)) (able_items v N h i n (with_node0 s head)) (λ u. able_give N (shut0 i u))

  able_behind : (s : State0) (y : Option Marker0) → (y ≡ Some marker.Reference → 0 < length s.nodes) → AbleWithin N (behind0 v N s y)
  able_behind s (Some marker.Double) p = able_field N (raw_kind 8) (λ b. give (read0 (Double (record { 0 = from_be_bytes w64 b })) s)) (raw_filled 7) (λ b w c. able_give N (read0 (Double (record { 0 = from_be_bytes w64 b })) s))
  able_behind s (Some marker.Boolean) p = able_field N (raw_kind 1) (λ b. give (read0 (Flag (not (eqb (slice_index b 0) 0))) s)) (raw_filled 0) (λ b w c. able_give N (read0 (Flag (not (eqb (slice_index b 0) 0))) s))
  able_behind s (Some marker.Text) p = able_bind N (short_layout s) (λ x. give (read0 (Text (record { 0 = x.id })) x.state)) (able_short N s) (λ x. able_give N (read0 (Text (record { 0 = x.id })) x.state))
  able_behind s (Some marker.Object) p = let x = new_text0 s [] in able_with_pairs (with_class x.state x.id) (class_head x.state)
  able_behind s (Some marker.Null) p = able_give N (read0 Null s)
  able_behind s (Some marker.Undefined) p = able_give N (read0 Undefined s)
  able_behind s (Some marker.Reference) p =
      able_field N (index0_kind (length s.nodes)) (λ b. give (read0 (Node (record { 0 = get_or s.nodes (from_be_bytes w16 b) 0 })) s)) (index_filled (length s.nodes) (p refl)) (λ b w c. able_give N (read0 (Node (record { 0 = get_or s.nodes (from_be_bytes w16 b) 0 })) s))
  able_behind s (Some marker.Names) p = able_field N (u32_kind no_refusal) (λ b. with_pairs v N s arena.array) u32_filled (λ b w c. able_with_pairs s arena.array)
  able_behind s None p = able_give N (end0 s)
  able_behind s (Some marker.Strict) p = able_field N (u32_kind no_refusal) (λ b. with_items v (from_be_bytes w32 b) s arena.array) u32_filled (λ b w c. able_with_items (from_be_bytes w32 b) s arena.array)
  able_behind s (Some marker.Date) p =
      able_field N (raw_kind 8) (λ b. want (raw_kind 2) (λ zone. give (whole0 s (arena.date (from_be_bytes w64 b))))) (raw_filled 7)
      (λ b w c. able_field N (raw_kind 2) (λ zone. give (whole0 s (arena.date (from_be_bytes w64 b)))) (raw_filled 1) (λ zone w c. able_give N (whole0 s (arena.date (from_be_bytes w64 b)))))
  able_behind s (Some marker.LongText) p = able_bind N (long_layout s) (λ x. give (read0 (Text (record { 0 = x.id })) x.state)) (able_long N s) (λ x. able_give N (read0 (Text (record { 0 = x.id })) x.state))
  able_behind s (Some marker.Unsupported) p = able_give N (read0 Undefined s)
  able_behind s (Some marker.Document) p = able_bind N (long_layout s) (λ x. give (whole0 x.state (arena.xml_document x.id))) (able_long N s) (λ x. able_give N (whole0 x.state (arena.xml_document x.id)))
  able_behind s (Some marker.Typed) p = able_bind N (short_layout s) (with_members v N) (able_short N s) (λ x. able_with_pairs (with_class x.state x.id) (class_head x.state))
  able_behind s (Some marker.Switch) p =
      let after : ValueRead → Layout ValueRead0 = λ x. give (read0 x.value (switched s x.state)) in
      able_bind N (value_layout N s.amf3) after (value_able N s.amf3) (λ x. able_give N (read0 x.value (switched s x.state)))

place_is : (may_end : Bool) (nodes m : ℕ) → marker0_refusal may_end nodes m ≡ None → marker0_at m ≡ Some marker.Reference → 7 ≡ m
place_is may_end nodes m ok e = sym (ap code0 e) ∙ code0_at may_end nodes m ok

null_clean : (may_end : Bool) (nodes : ℕ) → marker0_refusal may_end nodes 0x05 ≡ None
null_clean may_end nodes = refl

-- what has been read in fewer bytes than the fuel can be completed, since the byte of a null is a value
pub value0_able : (n : ℕ) (may_end : Bool) (s : State0) → AbleWithin n (value0_layout n may_end s)
value0_able zero may_end s = able_none (value0_layout 0 may_end s)
value0_able (suc N) may_end s =
    let k = marker0_kind may_end (length s.nodes) in
    able_want (suc N) N k (λ b. behind0 (value0_layout N) N s (marker0_at (slice_index b 0))) (field k (0x05 ∷ [])) (record { is_kind = refl; is_whole = refl; clean = null_clean may_end (length s.nodes) }) (omega arith, tt)
    (record { more = []; bytes = tt; value = read0 Null s; runs = refl })
    (λ b w ok.
    let m = slice_index b 0 in
    able_behind (value0_layout N) N (value0_able N) (ends N) s (marker0_at m) (λ e. some_place may_end (length s.nodes) (subst (λ x. marker0_refusal may_end (length s.nodes) x ≡ None) (sym (place_is may_end (length s.nodes) m ok e)) ok)))
    (λ b i w lt. let some = whole_some (fixed 1) b (length b) w in omega arith)
  where
    ends : (N : ℕ) → Ends (value0_layout N) N
    ends zero l s = absurd (omega arith)
    ends (suc N) l s = (record { is_kind = refl; is_whole = refl; clean = refl }, refl)
