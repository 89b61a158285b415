-- More fuel reads the same value of AMF 3.
use Rattle.std.proofs.Common.{ℕ, zero, suc, ◌/◌, ◌%◌, ◌≤◌, Bool, cond, eqb, length, slice_index, refl, arith}
use Rattle.amf_wire.specs.U29.{u29_value}
use Rattle.amf_io.specs.Layout.{Layout, give, bind, Extends}
use Rattle.amf_io.proofs.Paths.{extends_bind, extends_same}
use Rattle.amf_io.proofs.Ables.{extends_cond}
use Rattle.amf_graph.specs.declared.value.Value.TheVariants.{Node}
use Rattle.amf_graph.specs.Building.{more_value, more_name, shut, more_entry}
use Rattle.amf_graph.specs.declared.kind.NodeKind.{NodeKind}
use Rattle.amf3_spelling.specs.declared.marker.Marker.{Marker}
use Rattle.amf3_spelling.specs.declared.marker.Marker.TheVariants as marker
use Rattle.amf3_spelling.specs.Markers3.{marker_at}
use Rattle.amf3_layout_laws.specs.Layout3State.{State3, with_node, changed}
use Rattle.amf3_layout_laws.specs.Layout3Words.{TextRead, text_layout, Outline}
use Rattle.amf3_layout_laws.specs.Layout3.{ValueRead, read, items, entries, items_of, is_empty, pairs, pairs_if, parts, opening, inline_node, known_node, node_layout, behind_marker, value_layout}

abbrev Reader : Type 0
Reader = State3 → Layout ValueRead

abbrev Grow : Reader → Reader → Type 0
Grow t u = (s : State3) → Extends (t s) (u s)

items_grow : (t u : Reader) (id n : ℕ) (s : State3) → Grow t u → Extends (items t id n s) (items u id n s)
items_grow t u id zero s h = refl
items_grow t u id (suc n) s h =
    extends_bind (t s) (u s) (λ x. items t id n (changed (more_value x.value) id x.state)) (λ x. items u id n (changed (more_value x.value) id x.state)) (h s) (λ x. items_grow t u id n (changed (more_value x.value) id x.state) h)

abbrev valued : Reader → ℕ → ℕ → ValueRead → ValueRead → Layout State3
valued v id n k x = entries v id n (changed (more_entry k.value x.value) id x.state)

entries_grow : (t u : Reader) (id n : ℕ) (s : State3) → Grow t u → Extends (entries t id n s) (entries u id n s)
entries_grow t u id zero s h = refl
entries_grow t u id (suc n) s h =
    extends_bind (t s) (u s) (λ k. bind (t k.state) (valued t id n k)) (λ k. bind (u k.state) (valued u id n k)) (h s)
    (λ k. extends_bind (t k.state) (u k.state) (valued t id n k) (valued u id n k) (h k.state) (λ x. entries_grow t u id n (changed (more_entry k.value x.value) id x.state) h))

items_of_grow : (b : Bool) (t u : Reader) (id n : ℕ) (s : State3) → Grow t u → Extends (items_of b t id n s) (items_of b u id n s)
items_of_grow b t u id n s h = extends_cond b (entries t id n s) (items t id n s) (entries u id n s) (items u id n s) (entries_grow t u id n s h) (items_grow t u id n s h)

abbrev on : Reader → ℕ → ℕ → TextRead → ValueRead → Layout State3
on v f id x y = pairs v f id (changed (more_name x.id y.value) id y.state)

pairs_grow : (t u : Reader) (f h id : ℕ) (s : State3) → f ≤ h → Grow t u → Extends (pairs t f id s) (pairs u h id s)
pairs_grow t u zero h id s le g = tt
pairs_grow t u (suc f) zero id s le g = absurd (omega arith)
pairs_grow t u (suc f) (suc h) id s le g =
    extends_bind (text_layout s) (text_layout s) (λ x. cond (is_empty x.bytes) (give s) (bind (t x.state) (on t f id x))) (λ x. cond (is_empty x.bytes) (give s) (bind (u x.state) (on u h id x))) (extends_same (text_layout s))
    (λ x. extends_cond (is_empty x.bytes) (give s) (bind (t x.state) (on t f id x)) (give s) (bind (u x.state) (on u h id x)) refl
    (extends_bind (t x.state) (u x.state) (on t f id x) (on u h id x) (g x.state) (λ y. pairs_grow t u f h id (changed (more_name x.id y.value) id y.state) (omega arith) g)))

pairs_if_grow : (b : Bool) (t u : Reader) (f h id : ℕ) (s : State3) → f ≤ h → Grow t u → Extends (pairs_if b t f id s) (pairs_if b u h id s)
pairs_if_grow b t u f h id s le g = extends_cond b (pairs t f id s) (give s) (pairs u h id s) (give s) (pairs_grow t u f h id s le g) refl

abbrev ending : ℕ → State3 → Layout ValueRead
ending id u = give (read (Node (record { 0 = id })) (changed shut id u))

abbrev behind_items : Reader → ℕ → ℕ → Bool → State3 → Layout ValueRead
behind_items v f id last t = bind (pairs_if last v f id t) (ending id)

abbrev behind_pairs : Reader → ℕ → ℕ → Outline → State3 → Layout ValueRead
behind_pairs v f id o s = bind (items_of o.twins v id o.count s) (behind_items v f id o.last)

parts_grow : (t u : Reader) (f h : ℕ) (o : Outline) → f ≤ h → Grow t u → Extends (parts t f o) (parts u h o)
parts_grow t u f h o le g =
    let id = length o.state.arena.nodes in
    extends_bind (pairs_if o.first t f id (with_node o.state o.head)) (pairs_if o.first u h id (with_node o.state o.head)) (behind_pairs t f id o) (behind_pairs u h id o) (pairs_if_grow o.first t u f h id (with_node o.state o.head) le g)
    (λ s. extends_bind (items_of o.twins t id o.count s) (items_of o.twins u id o.count s) (behind_items t f id o.last) (behind_items u h id o.last) (items_of_grow o.twins t u id o.count s g)
    (λ z. extends_bind (pairs_if o.last t f id z) (pairs_if o.last u h id z) (ending id) (ending id) (pairs_if_grow o.last t u f h id z le g) (λ y. refl)))

node_grow : (t u : Reader) (f h : ℕ) (k : NodeKind) (s : State3) → f ≤ h → Grow t u → Extends (node_layout t f k s) (node_layout u h k s)
node_grow t u f h k s le g = (
  refl,
  λ b.
      let m = u29_value b in
      extends_cond (eqb (m % 2) 0) (give (known_node s (m / 2))) (inline_node t f k m s) (give (known_node s (m / 2))) (inline_node u h k m s) refl
      (extends_bind (opening k m s) (opening k m s) (parts t f) (parts u h) (extends_same (opening k m s)) (λ o. parts_grow t u f h o le g)),
)

marker_grow : (t u : Reader) (f h : ℕ) (s : State3) (m : Marker) → f ≤ h → Grow t u → Extends (behind_marker t f s m) (behind_marker u h s m)
marker_grow t u f h s marker.Undefined le g = refl
marker_grow t u f h s marker.Null le g = refl
marker_grow t u f h s marker.False le g = refl
marker_grow t u f h s marker.True le g = refl
marker_grow t u f h s marker.Integer le g = extends_same (behind_marker t f s marker.Integer)
marker_grow t u f h s marker.Double le g = extends_same (behind_marker t f s marker.Double)
marker_grow t u f h s marker.Text le g = extends_same (behind_marker t f s marker.Text)
marker_grow t u f h s (marker.Node k) le g = node_grow t u f h k s le g

pub value_grows : (n m : ℕ) → n ≤ m → Grow (value_layout n) (value_layout m)
value_grows zero m le s = tt
value_grows (suc n) zero le s = absurd (omega arith)
value_grows (suc n) (suc m) le s = (refl, λ b. marker_grow (value_layout n) (value_layout m) n m s (marker_at (slice_index b 0)) (omega arith) (value_grows n m (omega arith)))
