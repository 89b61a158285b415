-- More fuel reads the same value of AMF 0.
use Rattle.std.proofs.Common.{ℕ, zero, suc, ◌≤◌, Bool, false, cond, [], slice_index, refl, arith, length, Option, Some, None}
use Rattle.std.specs.Int.{from_be_bytes, w32}
use Rattle.amf_io.specs.Layout.{Layout, give, bind, Extends}
use Rattle.amf_io.proofs.Paths.{extends_bind, extends_same}
use Rattle.amf_io.proofs.Ables.{extends_cond}
use Rattle.amf_graph.specs.Arena.{StoredHead, array}
use Rattle.amf_graph.specs.Building.{more_value, more_name}
use Rattle.amf3_layout_laws.specs.Layout3.{ValueRead, value_layout}
use Rattle.amf3_layout_laws.proofs.Layout3Grows.{value_grows}
use Rattle.amf0_spelling.specs.Segments0.{is_empty}
use Rattle.amf0_layout_laws.specs.Layout0State.{State0, switched, with_class, class_head, with_node0, changed0}
use Rattle.amf0_layout_laws.specs.Layout0.{TextRead0, new_text0, short_layout, ValueRead0, read0, Reader0, items0, pairs0, shut0, with_pairs, with_items, with_members, behind0, value0_layout}
use Rattle.amf0_spelling.specs.declared.marker.Marker0.{Marker0}
use Rattle.amf0_spelling.specs.declared.marker.Marker0.TheVariants as marker
use Rattle.amf0_spelling.specs.Markers0.{marker0_at}

abbrev Grow : Reader0 → Reader0 → Type 0
Grow t u = (b : Bool) (s : State0) → Extends (t b s) (u b s)

items_grow : (t u : Reader0) (i n : ℕ) (s : State0) → Grow t u → Extends (items0 t i n s) (items0 u i n s)
items_grow t u i zero s h = refl
items_grow t u i (suc n) s h =
    extends_bind (t false s) (u false s) (λ x. items0 t i n (changed0 (more_value x.value) i x.state)) (λ x. items0 u i n (changed0 (more_value x.value) i x.state)) (h false s) (λ x. items_grow t u i n (changed0 (more_value x.value) i x.state) h)

abbrev pub next_pair : Reader0 → ℕ → ℕ → TextRead0 → ValueRead0 → Layout State0
next_pair v f i x y = cond y.ended (give y.state) (pairs0 v f i (changed0 (more_name x.id y.value) i y.state))

abbrev pub named_value : Reader0 → ℕ → ℕ → TextRead0 → Layout State0
named_value v f i x = bind (v (is_empty x.bytes) x.state) (next_pair v f i x)

pairs_grow : (t u : Reader0) (f h i : ℕ) (s : State0) → f ≤ h → Grow t u → Extends (pairs0 t f i s) (pairs0 u h i s)
pairs_grow t u zero h i s le g = tt
pairs_grow t u (suc f) zero i s le g = absurd (omega arith)
pairs_grow t u (suc f) (suc h) i s le g =
    extends_bind (short_layout s) (short_layout s) (named_value t f i) (named_value u h i) (extends_same (short_layout s))
    (λ x. extends_bind (t (is_empty x.bytes) x.state) (u (is_empty x.bytes) x.state) (next_pair t f i x) (next_pair u h i x) (g (is_empty x.bytes) x.state)
    (λ y. extends_cond y.ended (give y.state) (pairs0 t f i (changed0 (more_name x.id y.value) i y.state)) (give y.state) (pairs0 u h i (changed0 (more_name x.id y.value) i y.state)) refl (pairs_grow t u f h i (changed0 (more_name x.id y.value) i y.state) (omega arith) g)))

with_pairs_grow : (t u : Reader0) (f h : ℕ) (s : State0) (head : StoredHead) → f ≤ h → Grow t u → Extends (with_pairs t f s head) (with_pairs u h s head)
with_pairs_grow t u f h s head le g =
    let i = length s.amf3.arena.nodes in
    extends_bind (pairs0 t f i (with_node0 s head)) (pairs0 u h i (with_node0 s head)) (λ z. give (shut0 i z)) (λ z. give (shut0 i z)) (pairs_grow t u f h i (with_node0 s head) le g) (λ z. refl)

with_items_grow : (t u : Reader0) (n : ℕ) (s : State0) (head : StoredHead) → Grow t u → Extends (with_items t n s head) (with_items u n s head)
with_items_grow t u n s head g =
    let i = length s.amf3.arena.nodes in
    extends_bind (items0 t i n (with_node0 s head)) (items0 u i n (with_node0 s head)) (λ z. give (shut0 i z)) (λ z. give (shut0 i z)) (items_grow t u i n (with_node0 s head) g) (λ z. refl)

behind_grow : (t u : Reader0) (f h : ℕ) (s : State0) (y : Option Marker0) → f ≤ h → Grow t u → Extends (behind0 t f s y) (behind0 u h s y)
behind_grow t u f h s (Some marker.Double) le g = extends_same (behind0 t f s (Some marker.Double))
behind_grow t u f h s (Some marker.Boolean) le g = extends_same (behind0 t f s (Some marker.Boolean))
behind_grow t u f h s (Some marker.Text) le g = extends_same (behind0 t f s (Some marker.Text))
behind_grow t u f h s (Some marker.Object) le g = let x = new_text0 s [] in with_pairs_grow t u f h (with_class x.state x.id) (class_head x.state) le g
behind_grow t u f h s (Some marker.Null) le g = refl
behind_grow t u f h s (Some marker.Undefined) le g = refl
behind_grow t u f h s (Some marker.Reference) le g = extends_same (behind0 t f s (Some marker.Reference))
behind_grow t u f h s (Some marker.Names) le g = (refl, λ b. with_pairs_grow t u f h s array le g)
behind_grow t u f h s None le g = refl
behind_grow t u f h s (Some marker.Strict) le g = (refl, λ b. with_items_grow t u (from_be_bytes w32 b) s array g)
behind_grow t u f h s (Some marker.Date) le g = extends_same (behind0 t f s (Some marker.Date))
behind_grow t u f h s (Some marker.LongText) le g = extends_same (behind0 t f s (Some marker.LongText))
behind_grow t u f h s (Some marker.Unsupported) le g = refl
behind_grow t u f h s (Some marker.Document) le g = extends_same (behind0 t f s (Some marker.Document))
behind_grow t u f h s (Some marker.Typed) le g = extends_bind (short_layout s) (short_layout s) (with_members t f) (with_members u h) (extends_same (short_layout s)) (λ x. with_pairs_grow t u f h (with_class x.state x.id) (class_head x.state) le g)
behind_grow t u f h s (Some marker.Switch) le g =
    let after : ValueRead → Layout ValueRead0 = λ x. give (read0 x.value (switched s x.state)) in
    extends_bind (value_layout f s.amf3) (value_layout h s.amf3) after after (value_grows f h le s.amf3) (λ x. refl)

pub value0_grows : (n m : ℕ) → n ≤ m → Grow (value0_layout n) (value0_layout m)
value0_grows zero m le b s = tt
value0_grows (suc n) zero le b s = absurd (omega arith)
value0_grows (suc n) (suc m) le may_end s = (refl, λ b. behind_grow (value0_layout n) (value0_layout m) n m s (marker0_at (slice_index b 0)) (omega arith) (value0_grows n m (omega arith)))
