-- A value of AMF 0 as it is read, field by field (1.3.1, 2.2 to 2.18 and 3.1). A device by which verdicts are proved: no spelling needs it.
use Rattle.std.specs.Prelude.{ℕ, zero, suc, Bool, true, false, not, List, [], length, get_or, ◌==◌, if◌then◌else◌, slice_index, Option, Some, None}
use Rattle.std.specs.Int.{from_be_bytes, w16, w32, w64}
use Rattle.amf_io.specs.Field.{raw_kind, text_kind, u16_kind, u32_kind, no_refusal}
use Rattle.amf_io.specs.Layout.{Layout, give, want, stuck, bind}
use Rattle.amf_graph.specs.declared.value.Value.{Value as Stored}
use Rattle.amf_graph.specs.declared.value.Value.TheVariants.{Undefined, Null, Bool as Flag, Double, Text, Node}
use Rattle.amf_graph.specs.Arena.{StoredHead}
use Rattle.amf_graph.specs.Arena as arena
use Rattle.amf_graph.specs.Building.{more_value, more_name, shut}
use Rattle.amf3_layout_laws.specs.Layout3Words.{chunk}
use Rattle.amf3_layout_laws.specs.Layout3.{value_layout}
use Rattle.amf0_spelling.specs.declared.marker.Marker0.{Marker0}
use Rattle.amf0_spelling.specs.declared.marker.Marker0.TheVariants as marker
use Rattle.amf0_spelling.specs.Markers0.{marker0_at}
use Rattle.amf0_spelling.specs.Segments0.{is_empty}
use Rattle.amf0_spelling.specs.Refusals0.{marker0_kind, index0_kind}
use Rattle.amf0_layout_laws.specs.Layout0State.{State0, switched, with_text0, with_class, class_head, with_done0, with_node0, changed0}

-- Texts.

pub record TextRead0 : Type 0 where
  pub id : ℕ
  pub bytes : List ℕ
  pub state : State0

abbrev pub new_text0 : State0 → List ℕ → TextRead0
new_text0 s x = record { id = length s.amf3.arena.texts; bytes = x; state = with_text0 s x }

abbrev pub short_layout : State0 → Layout TextRead0
short_layout s = want (u16_kind no_refusal) (λ b. chunk text_kind (from_be_bytes w16 b) (λ x. give (new_text0 s x)))

abbrev pub long_layout : State0 → Layout TextRead0
long_layout s = want (u32_kind no_refusal) (λ b. chunk text_kind (from_be_bytes w32 b) (λ x. give (new_text0 s x)))

-- a value that was read, or the end of pairs
pub record ValueRead0 : Type 0 where
  pub ended : Bool
  pub value : Stored
  pub state : State0

abbrev pub read0 : Stored → State0 → ValueRead0
read0 v s = record { ended = false; value = v; state = s }

abbrev pub end0 : State0 → ValueRead0
end0 s = record { ended = true; value = Null; state = s }

abbrev pub Reader0 : Type 0
Reader0 = Bool → State0 → Layout ValueRead0

-- so many values for an open node
abbrev pub items0 : Reader0 → ℕ → ℕ → State0 → Layout State0
items0 value i zero s = give s
items0 value i (suc n) s = bind (value false s) (λ x. items0 value i n (changed0 (more_value x.value) i x.state))

-- names with their values up to an empty name and the end, with fuel
abbrev pub pairs0 : Reader0 → ℕ → ℕ → State0 → Layout State0
pairs0 value zero i s = stuck
pairs0 value (suc n) i s =
    bind (short_layout s) (λ x. bind (value (is_empty x.bytes) x.state) (λ v. if v.ended then give v.state else pairs0 value n i (changed0 (more_name x.id v.value) i v.state)))

-- a node whose parts are there is shut
abbrev pub shut0 : ℕ → State0 → ValueRead0
shut0 i s = read0 (Node (record { 0 = i })) (changed0 shut i s)

-- a node that is open until its pairs, or its items, are there
abbrev pub with_pairs : Reader0 → ℕ → State0 → StoredHead → Layout ValueRead0
with_pairs value fuel s head = bind (pairs0 value fuel (length s.amf3.arena.nodes) (with_node0 s head)) (λ u. give (shut0 (length s.amf3.arena.nodes) u))

abbrev pub with_items : Reader0 → ℕ → State0 → StoredHead → Layout ValueRead0
with_items value count s head = bind (items0 value (length s.amf3.arena.nodes) count (with_node0 s head)) (λ u. give (shut0 (length s.amf3.arena.nodes) u))

-- a node that is whole at once, and that no index names
abbrev pub whole0 : State0 → StoredHead → ValueRead0
whole0 s head = read0 (Node (record { 0 = length s.amf3.arena.nodes })) (with_done0 s head)

-- an object of the class that was read
abbrev pub with_members : Reader0 → ℕ → TextRead0 → Layout ValueRead0
with_members value fuel x = with_pairs value fuel (with_class x.state x.id) (class_head x.state)

-- behind the marker of a value, or the end of pairs
abbrev pub behind0 : Reader0 → ℕ → State0 → Option Marker0 → Layout ValueRead0
behind0 value fuel s (Some marker.Double) = want (raw_kind 8) (λ b. give (read0 (Double (record { 0 = from_be_bytes w64 b })) s))
behind0 value fuel s (Some marker.Boolean) = want (raw_kind 1) (λ b. give (read0 (Flag (not (slice_index b 0 == 0))) s))
behind0 value fuel s (Some marker.Text) = bind (short_layout s) (λ x. give (read0 (Text (record { 0 = x.id })) x.state))
behind0 value fuel s (Some marker.Object) = with_members value fuel (new_text0 s [])
behind0 value fuel s (Some marker.Null) = give (read0 Null s)
behind0 value fuel s (Some marker.Undefined) = give (read0 Undefined s)
behind0 value fuel s (Some marker.Reference) = want (index0_kind (length s.nodes)) (λ b. give (read0 (Node (record { 0 = get_or s.nodes (from_be_bytes w16 b) 0 })) s))
behind0 value fuel s (Some marker.Names) = want (u32_kind no_refusal) (λ b. with_pairs value fuel s arena.array)
behind0 value fuel s None = give (end0 s)
behind0 value fuel s (Some marker.Strict) = want (u32_kind no_refusal) (λ b. with_items value (from_be_bytes w32 b) s arena.array)
behind0 value fuel s (Some marker.Date) = want (raw_kind 8) (λ b. want (raw_kind 2) (λ zone. give (whole0 s (arena.date (from_be_bytes w64 b)))))
behind0 value fuel s (Some marker.LongText) = bind (long_layout s) (λ x. give (read0 (Text (record { 0 = x.id })) x.state))
behind0 value fuel s (Some marker.Unsupported) = give (read0 Undefined s)
behind0 value fuel s (Some marker.Document) = bind (long_layout s) (λ x. give (whole0 x.state (arena.xml_document x.id)))
behind0 value fuel s (Some marker.Typed) = bind (short_layout s) (with_members value fuel)
behind0 value fuel s (Some marker.Switch) = bind (value_layout fuel s.amf3) (λ x. give (read0 x.value (switched s x.state)))

-- one value, or where it may stand the end of pairs, with fuel
abbrev pub value0_layout : ℕ → Bool → State0 → Layout ValueRead0
value0_layout zero may_end s = stuck
value0_layout (suc n) may_end s = want (marker0_kind may_end (length s.nodes)) (λ b. behind0 (value0_layout n) n s (marker0_at (slice_index b 0)))
