-- What is read weighs less than its bytes: each value of AMF 3 takes more bytes than it adds to the weight of the arena.
use Rattle.std.proofs.Common.{◌≡◌, ℕ, zero, suc, ◌+◌, ◌/◌, ◌%◌, ◌≤◌, ◌<◌, Bool, true, false, cond, eqb, List, length, set, slice_index, ap, arith, inl, inr, ◌⊎◌}
use Rattle.std.proofs.lemmas.Bool.{cases_lt}
use Rattle.std.proofs.lemmas.List.{set_past}
use Rattle.amf_wire.specs.U29.{u29_value}
use Rattle.amf_wire.specs.Integer.{integer_of}
use Rattle.amf_io.specs.Field.{Field, u29_kind, no_refusal, flat}
use Rattle.amf_io.specs.Layout.{Layout, give, bind, Runs}
use Rattle.amf_graph.specs.declared.value.Value.{Value as Stored}
use Rattle.amf_graph.specs.declared.value.Value.TheVariants.{Undefined, Null, Bool as Flag, Integer, Double, Text, Node}
use Rattle.amf_graph.specs.Arena.{Arena, StoredNode}
use Rattle.amf_graph.specs.Bounds.{weight}
use Rattle.amf_graph.specs.Building.{stored_at, more_value, more_name, shut, more_entry}
use Rattle.amf3_spelling.specs.Refusals3.{marker_kind, header_kind}
use Rattle.amf_graph.specs.declared.kind.NodeKind.{NodeKind}
use Rattle.amf3_spelling.specs.declared.marker.Marker.{Marker}
use Rattle.amf3_spelling.specs.declared.marker.Marker.TheVariants as marker
use Rattle.amf3_spelling.specs.Markers3.{node_marker, marker_at}
use Rattle.amf3_layout_laws.specs.Layout3State.{State3, with_node, changed}
use Rattle.amf3_layout_laws.specs.Layout3Words.{text_layout, Outline}
use Rattle.amf3_layout_laws.specs.Layout3.{eight_layout, opening, ValueRead, read, items, entries, items_of, is_empty, pairs, pairs_if, parts, inline_node, known_node, node_layout, behind_marker, value_layout}
use Rattle.amf3_layout_laws.proofs.Reader3Weight.{weight_begun, weight_more_value, weight_more_name, weight_more_entry, weight_shut}
use Rattle.amf3_layout_laws.proofs.Reader3OpeningCosts.{Costs, costs_give, costs_stuck, costs_want, costs_bind, costs_bind_back, costs_cond, costs_more, costs_within, costs_nothing, state_size, text_size, opening_size, value_size, costs_text, costs_opening}

-- The parts of a node, wherever it stands.

past_the_end : (a : Arena) (i : ℕ) (n : StoredNode) → length a.nodes ≤ i → weight (record { texts = a.texts; traits = a.traits; nodes = set a.nodes i n }) ≡ weight a
past_the_end a i n h = ap (λ ns. weight (record { texts = a.texts; traits = a.traits; nodes = ns })) (set_past a.nodes i n h)

value_added : (v : Stored) (i : ℕ) (s : State3) → state_size (changed (more_value v) i s) ≤ state_size s + 1
value_added v i s = by (cases_lt i (length s.arena.nodes))
  where
    by : (i < length s.arena.nodes) ⊎ (length s.arena.nodes ≤ i) → state_size (changed (more_value v) i s) ≤ state_size s + 1
    by (inl h) = omega (arith, weight_more_value v i s.arena h)
    by (inr h) = omega (arith, past_the_end s.arena i (more_value v (stored_at s.arena i)) h)

name_added : (x : ℕ) (v : Stored) (i : ℕ) (s : State3) → state_size (changed (more_name x v) i s) ≤ state_size s + 1
name_added x v i s = by (cases_lt i (length s.arena.nodes))
  where
    by : (i < length s.arena.nodes) ⊎ (length s.arena.nodes ≤ i) → state_size (changed (more_name x v) i s) ≤ state_size s + 1
    by (inl h) = omega (arith, weight_more_name x v i s.arena h)
    by (inr h) = omega (arith, past_the_end s.arena i (more_name x v (stored_at s.arena i)) h)

entry_added : (k v : Stored) (i : ℕ) (s : State3) → state_size (changed (more_entry k v) i s) ≤ state_size s + 2
entry_added k v i s = by (cases_lt i (length s.arena.nodes))
  where
    by : (i < length s.arena.nodes) ⊎ (length s.arena.nodes ≤ i) → state_size (changed (more_entry k v) i s) ≤ state_size s + 2
    by (inl h) = omega (arith, weight_more_entry k v i s.arena h)
    by (inr h) = omega (arith, past_the_end s.arena i (more_entry k v (stored_at s.arena i)) h)

node_shut : (i : ℕ) (s : State3) → state_size (changed shut i s) ≤ state_size s
node_shut i s = by (cases_lt i (length s.arena.nodes))
  where
    by : (i < length s.arena.nodes) ⊎ (length s.arena.nodes ≤ i) → state_size (changed shut i s) ≤ state_size s
    by (inl h) = omega (arith, weight_shut i s.arena h)
    by (inr h) = omega (arith, past_the_end s.arena i (shut (stored_at s.arena i)) h)

module _ (v : State3 → Layout ValueRead) (h : (s : State3) → Costs value_size (state_size s) (v s)) where
  costs_items : (id n : ℕ) (s : State3) → Costs state_size (state_size s) (items v id n s)
  costs_items id zero s = costs_give state_size (state_size s) s (omega arith)
  costs_items id (suc n) s =
      costs_bind value_size state_size (state_size s) (v s) (λ x. items v id n (changed (more_value x.value) id x.state)) (h s)
      (λ x. let t = changed (more_value x.value) id x.state in costs_within state_size (state_size t) (value_size x) (items v id n t) (value_added x.value id x.state) (costs_items id n t))

  costs_entries : (id n : ℕ) (s : State3) → Costs state_size (state_size s) (entries v id n s)
  costs_entries id zero s = costs_give state_size (state_size s) s (omega arith)
  costs_entries id (suc n) s =
      costs_bind value_size state_size (state_size s) (v s) (λ k. bind (v k.state) (λ x. entries v id n (changed (more_entry k.value x.value) id x.state))) (h s)
      (λ k. costs_bind (λ (x : ValueRead). value_size x + 1) state_size (value_size k) (v k.state) (λ x. entries v id n (changed (more_entry k.value x.value) id x.state)) (costs_more value_size (state_size k.state) 1 (v k.state) (h k.state))
      (λ x. let t = changed (more_entry k.value x.value) id x.state in costs_within state_size (state_size t) (value_size x + 1) (entries v id n t) (let e = entry_added k.value x.value id x.state in omega arith) (costs_entries id n t)))

  costs_items_of : (twins : Bool) (id n : ℕ) (s : State3) → Costs state_size (state_size s) (items_of twins v id n s)
  costs_items_of twins id n s = costs_cond state_size (state_size s) twins (entries v id n s) (items v id n s) (costs_entries id n s) (costs_items id n s)

  costs_pairs : (fuel id : ℕ) (s : State3) → Costs state_size (state_size s) (pairs v fuel id s)
  costs_pairs zero id s = costs_stuck state_size (state_size s)
  costs_pairs (suc n) id s =
      costs_bind_back text_size state_size (state_size s) (text_layout s) (λ x. cond (is_empty x.bytes) (give s) (bind (v x.state) (λ y. pairs v n id (changed (more_name x.id y.value) id y.state)))) (costs_text s)
      (λ x m old new. costs_cond state_size m (is_empty x.bytes) (give s) (bind (v x.state) (λ y. pairs v n id (changed (more_name x.id y.value) id y.state)))
      (costs_give state_size m s old)
      (costs_bind value_size state_size m (v x.state) (λ y. pairs v n id (changed (more_name x.id y.value) id y.state)) (costs_within value_size (state_size x.state) m (v x.state) (omega arith) (h x.state))
      (λ y. let t = changed (more_name x.id y.value) id y.state in costs_within state_size (state_size t) (value_size y) (pairs v n id t) (name_added x.id y.value id y.state) (costs_pairs n id t))))

  costs_pairs_if : (there : Bool) (fuel id : ℕ) (s : State3) → Costs state_size (state_size s) (pairs_if there v fuel id s)
  costs_pairs_if there fuel id s = costs_cond state_size (state_size s) there (pairs v fuel id s) (give s) (costs_pairs fuel id s) (costs_give state_size (state_size s) s (omega arith))

  abbrev ending : ℕ → State3 → Layout ValueRead
  ending id u = give (read (Node (record { 0 = id })) (changed shut id u))

  abbrev behind_items : ℕ → ℕ → Bool → State3 → Layout ValueRead
  behind_items fuel id last t = bind (pairs_if last v fuel id t) (ending id)

  abbrev behind_pairs : ℕ → ℕ → Outline → State3 → Layout ValueRead
  behind_pairs fuel id o s = bind (items_of o.twins v id o.count s) (behind_items fuel id o.last)

  -- with the node itself, and one more
  costs_parts : (fuel : ℕ) (o : Outline) → Costs value_size (opening_size o + 2) (parts v fuel o)
  costs_parts fuel o =
      let id = length o.state.arena.nodes in
      let s = with_node o.state o.head in
      let one = λ (z : State3). state_size z + 1 in
      costs_within value_size (one s) (opening_size o + 2) (parts v fuel o) (omega (arith, weight_begun o.state.arena o.head))
      (costs_bind one value_size (one s) (pairs_if o.first v fuel id s) (behind_pairs fuel id o) (costs_more state_size (state_size s) 1 (pairs_if o.first v fuel id s) (costs_pairs_if o.first fuel id s))
      (λ t. costs_bind one value_size (one t) (items_of o.twins v id o.count t) (behind_items fuel id o.last) (costs_more state_size (state_size t) 1 (items_of o.twins v id o.count t) (costs_items_of o.twins id o.count t))
      (λ u. costs_bind one value_size (one u) (pairs_if o.last v fuel id u) (ending id) (costs_more state_size (state_size u) 1 (pairs_if o.last v fuel id u) (costs_pairs_if o.last fuel id u))
      (λ z. costs_give value_size (one z) (read (Node (record { 0 = id })) (changed shut id z)) (let e = node_shut id z in omega arith)))))

  costs_inline_node : (fuel : ℕ) (f : NodeKind) (n : ℕ) (s : State3) → Costs value_size (state_size s + 2) (inline_node v fuel f n s)
  costs_inline_node fuel f n s = costs_bind (λ (o : Outline). opening_size o + 2) value_size (state_size s + 2) (opening f n s) (parts v fuel) (costs_more opening_size (state_size s) 2 (opening f n s) (costs_opening f n s)) (costs_parts fuel)

  -- behind a marker
  costs_node : (fuel : ℕ) (f : NodeKind) (s : State3) → Costs value_size (state_size s + 1) (node_layout v fuel f s)
  costs_node fuel f s =
      costs_want value_size (state_size s + 1) (header_kind s.marks (length s.words.traits) (node_marker f)) (λ b. cond (eqb (u29_value b % 2) 0) (give (known_node s (u29_value b / 2))) (inline_node v fuel f (u29_value b) s))
      (λ b some. costs_cond value_size (state_size s + 1 + length b) (eqb (u29_value b % 2) 0) (give (known_node s (u29_value b / 2))) (inline_node v fuel f (u29_value b) s)
      (costs_give value_size (state_size s + 1 + length b) (known_node s (u29_value b / 2)) (omega arith))
      (costs_within value_size (state_size s + 2) (state_size s + 1 + length b) (inline_node v fuel f (u29_value b) s) (omega arith) (costs_inline_node fuel f (u29_value b) s)))

  costs_behind : (fuel : ℕ) (s : State3) (f : Marker) → Costs value_size (state_size s + 1) (behind_marker v fuel s f)
  costs_behind fuel s marker.Undefined = costs_give value_size (state_size s + 1) (read Undefined s) (omega arith)
  costs_behind fuel s marker.Null = costs_give value_size (state_size s + 1) (read Null s) (omega arith)
  costs_behind fuel s marker.False = costs_give value_size (state_size s + 1) (read (Flag false) s) (omega arith)
  costs_behind fuel s marker.True = costs_give value_size (state_size s + 1) (read (Flag true) s) (omega arith)
  costs_behind fuel s marker.Integer =
      costs_want value_size (state_size s + 1) (u29_kind no_refusal) (λ b. give (read (Integer (integer_of (u29_value b))) s))
      (λ b some. costs_give value_size (state_size s + 1 + length b) (read (Integer (integer_of (u29_value b))) s) (omega arith))
  costs_behind fuel s marker.Double =
      costs_bind (λ (p : ℕ). state_size s + 1) value_size (state_size s + 1) eight_layout (λ p. give (read (Double (record { 0 = p })) s)) (costs_nothing (state_size s + 1) eight_layout)
      (λ p. costs_give value_size (state_size s + 1) (read (Double (record { 0 = p })) s) (omega arith))
  costs_behind fuel s marker.Text =
      costs_bind text_size value_size (state_size s + 1) (text_layout s) (λ x. give (read (Text (record { 0 = x.id })) x.state)) (costs_within text_size (state_size s) (state_size s + 1) (text_layout s) (omega arith) (costs_text s))
      (λ x. costs_give value_size (text_size x) (read (Text (record { 0 = x.id })) x.state) (omega arith))
  costs_behind fuel s (marker.Node f) = costs_node fuel f s

costs_value : (n : ℕ) (s : State3) → Costs value_size (state_size s) (value_layout n s)
costs_value zero s = costs_stuck value_size (state_size s)
costs_value (suc n) s =
    costs_want value_size (state_size s) marker_kind (λ b. behind_marker (value_layout n) n s (marker_at (slice_index b 0)))
    (λ b some. costs_within value_size (state_size s + 1) (state_size s + length b) (behind_marker (value_layout n) n s (marker_at (slice_index b 0))) (omega arith) (costs_behind (value_layout n) (costs_value n) n s (marker_at (slice_index b 0))))

pub value_costs : (n : ℕ) (s : State3) (fs : List Field) (x : ValueRead) → Runs (value_layout n s) fs x → weight x.state.arena < weight s.arena + length (flat fs)
value_costs n s fs x r = let c = costs_value n s fs x r in omega arith
