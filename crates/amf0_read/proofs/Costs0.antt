-- What is read weighs less than its bytes: each value of AMF 0 takes more bytes than it adds to the weight of the arena.
use Rattle.std.proofs.Common.{◌≡◌, ℕ, zero, suc, ◌+◌, ◌≤◌, ◌<◌, Bool, true, false, not, List, [], length, get_or, set, refl, ap, arith, inl, inr, ◌⊎◌, Option, Some, None}
use Rattle.std.specs.Prelude.{if◌then◌else◌, slice_index, ◌==◌}
use Rattle.std.specs.Int.{from_be_bytes, w16, w32, w64}
use Rattle.std.proofs.lemmas.Bool.{cases_lt}
use Rattle.std.proofs.lemmas.List.{set_past}
use Rattle.amf_io.specs.Field.{Field, raw_kind, text_kind, u16_kind, u32_kind, no_refusal, flat}
use Rattle.amf_io.specs.Layout.{Layout, give, want, bind, Runs}
use Rattle.amf_graph.specs.declared.value.Value.{Value as Stored}
use Rattle.amf_graph.specs.declared.value.Value.TheVariants.{Undefined, Null, Bool as Flag, Double, Text, Node}
use Rattle.amf_graph.specs.Arena.{Arena, StoredHead, StoredNode}
use Rattle.amf_graph.specs.Arena as arena
use Rattle.amf_graph.specs.Bounds.{bytes_of, weight}
use Rattle.amf_graph.specs.Building.{stored_at, more_value, more_name, shut}
use Rattle.amf3_layout_laws.specs.Layout3Words.{chunk}
use Rattle.amf3_layout_laws.specs.Layout3.{ValueRead, value_layout}
use Rattle.amf3_layout_laws.proofs.Reader3Weight.{weight_text, weight_traits, weight_begun, weight_more_value, weight_more_name, weight_shut}
use Rattle.amf3_layout_laws.proofs.Reader3OpeningCosts.{Costs, costs_give, costs_stuck, costs_want, costs_bind, costs_more, costs_within}
use Rattle.amf3_layout_laws.proofs.Reader3Costs.{value_costs}
use Rattle.amf0_spelling.specs.Segments0.{is_empty}
use Rattle.amf0_spelling.specs.Refusals0.{marker0_kind, index0_kind}
use Rattle.amf0_layout_laws.specs.Layout0State.{State0, with_class, class_head, with_node0, changed0, switched}
use Rattle.amf0_layout_laws.specs.Layout0.{TextRead0, new_text0, short_layout, long_layout, ValueRead0, read0, end0, Reader0, items0, pairs0, shut0, with_pairs, with_items, whole0, with_members, behind0, value0_layout}
use Rattle.amf0_spelling.specs.declared.marker.Marker0.{Marker0}
use Rattle.amf0_spelling.specs.declared.marker.Marker0.TheVariants as marker
use Rattle.amf0_spelling.specs.Markers0.{marker0_at}

abbrev state_size : State0 → ℕ
state_size s = weight s.amf3.arena

abbrev text_size : TextRead0 → ℕ
text_size x = weight x.state.amf3.arena + 1

abbrev value_size : ValueRead0 → ℕ
value_size x = weight x.state.amf3.arena + 1

-- A node changes in its place.

past_the_end : (a : Arena) (i : ℕ) (n : StoredNode) → length a.nodes ≤ i → weight (record { texts = a.texts; traits = a.traits; nodes = set a.nodes i n }) ≡ weight a
past_the_end a i n h = ap (λ ns. weight (record { texts = a.texts; traits = a.traits; nodes = ns })) (set_past a.nodes i n h)

value_added : (v : Stored) (i : ℕ) (s : State0) → state_size (changed0 (more_value v) i s) ≤ state_size s + 1
value_added v i s = by (cases_lt i (length s.amf3.arena.nodes))
  where
    by : (i < length s.amf3.arena.nodes) ⊎ (length s.amf3.arena.nodes ≤ i) → state_size (changed0 (more_value v) i s) ≤ state_size s + 1
    by (inl h) = omega (arith, weight_more_value v i s.amf3.arena h)
    by (inr h) = omega (arith, past_the_end s.amf3.arena i (more_value v (stored_at s.amf3.arena i)) h)

name_added : (x : ℕ) (v : Stored) (i : ℕ) (s : State0) → state_size (changed0 (more_name x v) i s) ≤ state_size s + 1
name_added x v i s = by (cases_lt i (length s.amf3.arena.nodes))
  where
    by : (i < length s.amf3.arena.nodes) ⊎ (length s.amf3.arena.nodes ≤ i) → state_size (changed0 (more_name x v) i s) ≤ state_size s + 1
    by (inl h) = omega (arith, weight_more_name x v i s.amf3.arena h)
    by (inr h) = omega (arith, past_the_end s.amf3.arena i (more_name x v (stored_at s.amf3.arena i)) h)

node_shut : (i : ℕ) (s : State0) → state_size (changed0 shut i s) ≤ state_size s
node_shut i s = by (cases_lt i (length s.amf3.arena.nodes))
  where
    by : (i < length s.amf3.arena.nodes) ⊎ (length s.amf3.arena.nodes ≤ i) → state_size (changed0 shut i s) ≤ state_size s
    by (inl h) = omega (arith, weight_shut i s.amf3.arena h)
    by (inr h) = omega (arith, past_the_end s.amf3.arena i (shut (stored_at s.amf3.arena i)) h)

-- Texts: each takes a byte more than it has.

costs_new : (s : State0) (c n : ℕ) → state_size s + 1 ≤ c → Costs text_size c (chunk text_kind n (λ x. give (new_text0 s x)))
costs_new s c zero le = costs_give text_size c (new_text0 s []) (omega (arith, weight_text s.amf3.arena []))
costs_new s c (suc n) le = costs_want text_size c (text_kind (suc n)) (λ x. give (new_text0 s x)) (λ b some. costs_give text_size (c + length b) (new_text0 s b) (omega (arith, weight_text s.amf3.arena b)))

costs_short : (s : State0) → Costs text_size (state_size s) (short_layout s)
costs_short s = costs_want text_size (state_size s) (u16_kind no_refusal) (λ b. chunk text_kind (from_be_bytes w16 b) (λ x. give (new_text0 s x))) (λ b some. costs_new s (state_size s + length b) (from_be_bytes w16 b) (omega arith))

costs_long : (s : State0) → Costs text_size (state_size s) (long_layout s)
costs_long s = costs_want text_size (state_size s) (u32_kind no_refusal) (λ b. chunk text_kind (from_be_bytes w32 b) (λ x. give (new_text0 s x))) (λ b some. costs_new s (state_size s + length b) (from_be_bytes w32 b) (omega arith))

costs_if : {X : Type 0} (size : X → ℕ) (c : ℕ) (b : Bool) (t u : Layout X) → Costs size c t → Costs size c u → Costs size c (if b then t else u)
costs_if size c true t u h k = h
costs_if size c false t u h k = k

costs_date : (s : State0) → Costs value_size (state_size s + 1) (want (raw_kind 8) (λ b. want (raw_kind 2) (λ zone. give (whole0 s (arena.date (from_be_bytes w64 b))))))
costs_date s =
    costs_want value_size (state_size s + 1) (raw_kind 8) (λ b. want (raw_kind 2) (λ zone. give (whole0 s (arena.date (from_be_bytes w64 b)))))
    (λ b some. let h = arena.date (from_be_bytes w64 b) in costs_want value_size (state_size s + 1 + length b) (raw_kind 2) (λ zone. give (whole0 s h))
    (λ z more. costs_give value_size (state_size s + 1 + length b + length z) (whole0 s h) (omega (arith, weight_begun s.amf3.arena h))))

module _ (v : Reader0) (h : (e : Bool) (s : State0) → Costs value_size (state_size s) (v e s)) where
  costs_items : (id n : ℕ) (s : State0) → Costs state_size (state_size s) (items0 v id n s)
  costs_items id zero s = costs_give state_size (state_size s) s (omega arith)
  costs_items id (suc n) s =
      costs_bind value_size state_size (state_size s) (v false s) (λ x. items0 v id n (changed0 (more_value x.value) id x.state)) (h false s)
      (λ x. let t = changed0 (more_value x.value) id x.state in costs_within state_size (state_size t) (value_size x) (items0 v id n t) (value_added x.value id x.state) (costs_items id n t))

  abbrev two_more : State0 → ℕ
  two_more s = state_size s + 2

  abbrev one_more : ValueRead0 → ℕ
  one_more x = value_size x + 1

  -- the end of pairs takes bytes too
  costs_pairs : (fuel id : ℕ) (s : State0) → Costs two_more (state_size s) (pairs0 v fuel id s)
  costs_pairs zero id s = costs_stuck two_more (state_size s)
  costs_pairs (suc n) id s =
      costs_bind text_size two_more (state_size s) (short_layout s) (λ x. bind (v (is_empty x.bytes) x.state) (λ w. if w.ended then give w.state else pairs0 v n id (changed0 (more_name x.id w.value) id w.state))) (costs_short s)
      (λ x. costs_bind one_more two_more (text_size x) (v (is_empty x.bytes) x.state) (λ w. if w.ended then give w.state else pairs0 v n id (changed0 (more_name x.id w.value) id w.state)) (costs_more value_size (state_size x.state) 1 (v (is_empty x.bytes) x.state) (h (is_empty x.bytes) x.state))
      (λ w. let t = changed0 (more_name x.id w.value) id w.state in costs_if two_more (one_more w) w.ended (give w.state) (pairs0 v n id t)
      (costs_give two_more (one_more w) w.state (omega arith))
      (costs_within two_more (state_size t) (one_more w) (pairs0 v n id t) (let e = name_added x.id w.value id w.state in omega arith) (costs_pairs n id t))))

  abbrev ending : ℕ → State0 → Layout ValueRead0
  ending id u = give (shut0 id u)

  costs_with_pairs : (fuel : ℕ) (s : State0) (head : StoredHead) → bytes_of head ≡ 0 → Costs value_size (state_size s) (with_pairs v fuel s head)
  costs_with_pairs fuel s head none =
      let id = length s.amf3.arena.nodes in
      let t = with_node0 s head in
      λ fs x r. let k = costs_bind two_more (λ (x : ValueRead0). value_size x + 1) (state_size t) (pairs0 v fuel id t) (ending id) (costs_pairs fuel id t) (λ u. costs_give (λ (x : ValueRead0). value_size x + 1) (two_more u) (shut0 id u) (let e = node_shut id u in omega arith)) fs x r in
      omega (arith, weight_begun s.amf3.arena head)

  costs_with_items : (n : ℕ) (s : State0) → Costs value_size (state_size s + 2) (with_items v n s arena.array)
  costs_with_items n s =
      let id = length s.amf3.arena.nodes in
      let t = with_node0 s arena.array in
      costs_within value_size (state_size t + 1) (state_size s + 2) (with_items v n s arena.array) (omega (arith, weight_begun s.amf3.arena arena.array))
      (costs_bind (λ (u : State0). state_size u + 1) value_size (state_size t + 1) (items0 v id n t) (ending id) (costs_more state_size (state_size t) 1 (items0 v id n t) (costs_items id n t))
      (λ u. costs_give value_size (state_size u + 1) (shut0 id u) (let e = node_shut id u in omega arith)))

  costs_members : (fuel : ℕ) (x : TextRead0) → Costs value_size (text_size x) (with_members v fuel x)
  costs_members fuel x =
      costs_within value_size (state_size (with_class x.state x.id)) (text_size x) (with_members v fuel x) (omega (arith, weight_traits x.state.amf3.arena (record { class = x.id; dynamic = true; sealed = [] })))
      (costs_with_pairs fuel (with_class x.state x.id) (class_head x.state) refl)

  costs_behind : (fuel : ℕ) (s : State0) (f : Option Marker0) → Costs value_size (state_size s + 1) (behind0 v fuel s f)
  costs_behind fuel s (Some marker.Double) = costs_want value_size (state_size s + 1) (raw_kind 8) (λ b. give (read0 (Double (record { 0 = from_be_bytes w64 b })) s)) (λ b some. costs_give value_size (state_size s + 1 + length b) (read0 (Double (record { 0 = from_be_bytes w64 b })) s) (omega arith))
  costs_behind fuel s (Some marker.Boolean) = costs_want value_size (state_size s + 1) (raw_kind 1) (λ b. give (read0 (Flag (not (slice_index b 0 == 0))) s)) (λ b some. costs_give value_size (state_size s + 1 + length b) (read0 (Flag (not (slice_index b 0 == 0))) s) (omega arith))
  costs_behind fuel s (Some marker.Text) =
      costs_bind text_size value_size (state_size s + 1) (short_layout s) (λ x. give (read0 (Text (record { 0 = x.id })) x.state)) (costs_within text_size (state_size s) (state_size s + 1) (short_layout s) (omega arith) (costs_short s))
      (λ x. costs_give value_size (text_size x) (read0 (Text (record { 0 = x.id })) x.state) (omega arith))
  costs_behind fuel s (Some marker.Object) = costs_within value_size (text_size (new_text0 s [])) (state_size s + 1) (with_members v fuel (new_text0 s [])) (omega (arith, weight_text s.amf3.arena [])) (costs_members fuel (new_text0 s []))
  costs_behind fuel s (Some marker.Null) = costs_give value_size (state_size s + 1) (read0 Null s) (omega arith)
  costs_behind fuel s (Some marker.Undefined) = costs_give value_size (state_size s + 1) (read0 Undefined s) (omega arith)
  costs_behind fuel s (Some marker.Reference) =
      costs_want value_size (state_size s + 1) (index0_kind (length s.nodes)) (λ b. give (read0 (Node (record { 0 = get_or s.nodes (from_be_bytes w16 b) 0 })) s))
      (λ b some. costs_give value_size (state_size s + 1 + length b) (read0 (Node (record { 0 = get_or s.nodes (from_be_bytes w16 b) 0 })) s) (omega arith))
  costs_behind fuel s (Some marker.Names) =
      costs_want value_size (state_size s + 1) (u32_kind no_refusal) (λ b. with_pairs v fuel s arena.array)
      (λ b some. costs_within value_size (state_size s) (state_size s + 1 + length b) (with_pairs v fuel s arena.array) (omega arith) (costs_with_pairs fuel s arena.array refl))
  costs_behind fuel s None = costs_give value_size (state_size s + 1) (end0 s) (omega arith)
  costs_behind fuel s (Some marker.Strict) =
      costs_want value_size (state_size s + 1) (u32_kind no_refusal) (λ b. with_items v (from_be_bytes w32 b) s arena.array)
      (λ b some. costs_within value_size (state_size s + 2) (state_size s + 1 + length b) (with_items v (from_be_bytes w32 b) s arena.array) (omega arith) (costs_with_items (from_be_bytes w32 b) s))
  costs_behind fuel s (Some marker.Date) = costs_date s
  costs_behind fuel s (Some marker.LongText) =
      costs_bind text_size value_size (state_size s + 1) (long_layout s) (λ x. give (read0 (Text (record { 0 = x.id })) x.state)) (costs_within text_size (state_size s) (state_size s + 1) (long_layout s) (omega arith) (costs_long s))
      (λ x. costs_give value_size (text_size x) (read0 (Text (record { 0 = x.id })) x.state) (omega arith))
  costs_behind fuel s (Some marker.Unsupported) = costs_give value_size (state_size s + 1) (read0 Undefined s) (omega arith)
  costs_behind fuel s (Some marker.Document) =
      costs_bind (λ (x : TextRead0). text_size x + 1) value_size (state_size s + 1) (long_layout s) (λ x. give (whole0 x.state (arena.xml_document x.id))) (costs_more text_size (state_size s) 1 (long_layout s) (costs_long s))
      (λ x. costs_give value_size (text_size x + 1) (whole0 x.state (arena.xml_document x.id)) (omega (arith, weight_begun x.state.amf3.arena (arena.xml_document x.id))))
  costs_behind fuel s (Some marker.Typed) =
      costs_bind text_size value_size (state_size s + 1) (short_layout s) (with_members v fuel) (costs_within text_size (state_size s) (state_size s + 1) (short_layout s) (omega arith) (costs_short s)) (costs_members fuel)
  costs_behind fuel s (Some marker.Switch) =
      costs_bind (λ (x : ValueRead). weight x.state.arena + 1) value_size (state_size s + 1) (value_layout fuel s.amf3) (λ x. give (read0 x.value (switched s x.state))) (λ fs x r. omega (arith, value_costs fuel s.amf3 fs x r))
      (λ x. costs_give value_size (weight x.state.arena + 1) (read0 x.value (switched s x.state)) (omega arith))

costs_value : (n : ℕ) (e : Bool) (s : State0) → Costs value_size (state_size s) (value0_layout n e s)
costs_value zero e s = costs_stuck value_size (state_size s)
costs_value (suc n) e s =
    costs_want value_size (state_size s) (marker0_kind e (length s.nodes)) (λ b. behind0 (value0_layout n) n s (marker0_at (slice_index b 0)))
    (λ b some. costs_within value_size (state_size s + 1) (state_size s + length b) (behind0 (value0_layout n) n s (marker0_at (slice_index b 0))) (omega arith) (costs_behind (value0_layout n) (costs_value n) n s (marker0_at (slice_index b 0))))

pub value0_costs : (n : ℕ) (e : Bool) (s : State0) (fs : List Field) (x : ValueRead0) → Runs (value0_layout n e s) fs x → weight x.state.amf3.arena < weight s.amf3.arena + length (flat fs)
value0_costs n e s fs x r = let c = costs_value n e s fs x r in omega arith
