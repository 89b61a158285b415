-- A value of AMF 3 as it is read, field by field (3.2 to 3.16). A device by which verdicts are proved: no spelling needs it.
use Rattle.std.specs.Prelude.{ℕ, zero, suc, ◌/◌, ◌%◌, Bool, true, false, not, List, [], ◌∷◌, length, map, get_or, ◌==◌, if◌then◌else◌, slice_index}
use Rattle.std.specs.Int.{from_be_bytes, w32, w64, cast_signed}
use Rattle.amf_wire.specs.U29.{u29_value}
use Rattle.amf_wire.specs.Integer.{integer_of}
use Rattle.amf_io.specs.Field.{raw_kind, text_kind, u29_kind, no_refusal}
use Rattle.amf_io.specs.Layout.{Layout, give, want, stuck, bind}
use Rattle.amf_graph.specs.declared.kind.NodeKind.{NodeKind}
use Rattle.amf_graph.specs.declared.kind.NodeKind.TheVariants as kind
use Rattle.amf_graph.specs.declared.value.Value.{Value as Stored}
use Rattle.amf_graph.specs.declared.value.Value.TheVariants.{Undefined, Null, Bool as Flag, Integer, Double, Text, Node}
use Rattle.amf_graph.specs.Arena.{StoredNode}
use Rattle.amf_graph.specs.Arena as arena
use Rattle.amf_graph.specs.Building.{more_value, more_name, more_entry, shut}
use Rattle.amf3_spelling.specs.declared.marker.Marker.{Marker}
use Rattle.amf3_spelling.specs.declared.marker.Marker.TheVariants as marker
use Rattle.amf3_spelling.specs.Markers3.{node_marker, marker_at}
use Rattle.amf3_spelling.specs.Refusals3.{marker_kind, header_kind}
use Rattle.amf3_layout_laws.specs.Layout3State.{State3, with_contents, with_node, changed}
use Rattle.amf3_layout_laws.specs.Layout3Words.{chunk, text_layout, Outline, traits_layout}

-- Parts without text and nodes.

abbrev pub flag_layout : Layout Bool
flag_layout = want (raw_kind 1) (λ b. give (not (slice_index b 0 == 0)))

abbrev pub four_layout : Layout ℕ
four_layout = want (raw_kind 4) (λ b. give (from_be_bytes w32 b))

abbrev pub eight_layout : Layout ℕ
eight_layout = want (raw_kind 8) (λ b. give (from_be_bytes w64 b))

-- so many, one after the other
abbrev pub many : {X : Type 0} → ℕ → Layout X → Layout (List X)
many zero t = give []
many (suc n) t = bind t (λ x. bind (many n t) (λ xs. give (x ∷ xs)))

-- Nodes: what stands behind a header with low bit 1.

abbrev pub whole_node : State3 → arena.StoredHead → Outline
whole_node s head = record { head = head; count = 0; twins = false; first = false; last = false; state = s }

abbrev pub opening : NodeKind → ℕ → State3 → Layout Outline
opening kind.XmlDocument h s = chunk text_kind (h / 2) (λ x. give (whole_node (with_contents s x) (arena.xml_document (length s.arena.texts))))
opening kind.Date h s = bind eight_layout (λ p. give (whole_node s (arena.date p)))
opening kind.Array h s = give (record { head = arena.array; count = h / 2; twins = false; first = true; last = false; state = s })
opening kind.Object h s = traits_layout h s
opening kind.Wrapper h s = traits_layout h s
opening kind.Xml h s = chunk text_kind (h / 2) (λ x. give (whole_node (with_contents s x) (arena.xml (length s.arena.texts))))
opening kind.Bytes h s = chunk raw_kind (h / 2) (λ x. give (whole_node s (arena.bytes x)))
opening kind.Ints h s = bind flag_layout (λ f. bind (many (h / 2) four_layout) (λ ns. give (whole_node s (arena.ints f (map (cast_signed w32) ns)))))
opening kind.Uints h s = bind flag_layout (λ f. bind (many (h / 2) four_layout) (λ ns. give (whole_node s (arena.uints f ns))))
opening kind.Doubles h s = bind flag_layout (λ f. bind (many (h / 2) eight_layout) (λ ns. give (whole_node s (arena.doubles f ns))))
opening kind.Values h s = bind flag_layout (λ f. bind (text_layout s) (λ x. give (record { head = arena.values f x.id; count = h / 2; twins = false; first = false; last = false; state = x.state })))
opening kind.Dictionary h s = bind flag_layout (λ f. give (record { head = arena.dictionary f; count = h / 2; twins = true; first = false; last = false; state = s }))

-- a value that was read
pub record ValueRead : Type 0 where
  pub value : Stored
  pub state : State3

abbrev pub read : Stored → State3 → ValueRead
read v s = record { value = v; state = s }

-- so many values for an open node
abbrev pub items : (State3 → Layout ValueRead) → ℕ → ℕ → State3 → Layout State3
items value id zero s = give s
items value id (suc n) s = bind (value s) (λ x. items value id n (changed (more_value x.value) id x.state))

-- so many keys, each with its value, for an open node
abbrev pub entries : (State3 → Layout ValueRead) → ℕ → ℕ → State3 → Layout State3
entries value id zero s = give s
entries value id (suc n) s = bind (value s) (λ k. bind (value k.state) (λ v. entries value id n (changed (more_entry k.value v.value) id v.state)))

abbrev pub items_of : Bool → (State3 → Layout ValueRead) → ℕ → ℕ → State3 → Layout State3
items_of twins value id n s = if twins then entries value id n s else items value id n s

abbrev pub is_empty : List ℕ → Bool
is_empty [] = true
is_empty (b ∷ x) = false

-- names with their values up to the empty name, of which nothing is kept, with fuel
abbrev pub pairs : (State3 → Layout ValueRead) → ℕ → ℕ → State3 → Layout State3
pairs value zero id s = stuck
pairs value (suc n) id s =
    bind (text_layout s) (λ x. if is_empty x.bytes then give s else bind (value x.state) (λ v. pairs value n id (changed (more_name x.id v.value) id v.state)))

abbrev pub pairs_if : Bool → (State3 → Layout ValueRead) → ℕ → ℕ → State3 → Layout State3
pairs_if there value fuel id s = if there then pairs value fuel id s else give s

-- the parts of a node, which is open until they are there
abbrev pub parts : (State3 → Layout ValueRead) → ℕ → Outline → Layout ValueRead
parts value fuel o =
    bind (pairs_if o.first value fuel (length o.state.arena.nodes) (with_node o.state o.head)) (λ s.
    bind (items_of o.twins value (length o.state.arena.nodes) o.count s) (λ t.
    bind (pairs_if o.last value fuel (length o.state.arena.nodes) t) (λ u.
    give (read (Node (record { 0 = length o.state.arena.nodes })) (changed shut (length o.state.arena.nodes) u)))))

abbrev pub inline_node : (State3 → Layout ValueRead) → ℕ → NodeKind → ℕ → State3 → Layout ValueRead
inline_node value fuel f h s = bind (opening f h s) (parts value fuel)

abbrev pub known_node : State3 → ℕ → ValueRead
known_node s k = read (Node (record { 0 = get_or s.tables.nodes k 0 })) s

-- a header, and then a node of the table or one inline
abbrev pub node_layout : (State3 → Layout ValueRead) → ℕ → NodeKind → State3 → Layout ValueRead
node_layout value fuel f s =
    want (header_kind s.marks (length s.words.traits) (node_marker f)) (λ b. if u29_value b % 2 == 0 then give (known_node s (u29_value b / 2)) else inline_node value fuel f (u29_value b) s)

abbrev pub behind_marker : (State3 → Layout ValueRead) → ℕ → State3 → Marker → Layout ValueRead
behind_marker value fuel s marker.Undefined = give (read Undefined s)
behind_marker value fuel s marker.Null = give (read Null s)
behind_marker value fuel s marker.False = give (read (Flag false) s)
behind_marker value fuel s marker.True = give (read (Flag true) s)
behind_marker value fuel s marker.Integer = want (u29_kind no_refusal) (λ b. give (read (Integer (integer_of (u29_value b))) s))
behind_marker value fuel s marker.Double = bind eight_layout (λ p. give (read (Double (record { 0 = p })) s))
behind_marker value fuel s marker.Text = bind (text_layout s) (λ x. give (read (Text (record { 0 = x.id })) x.state))
behind_marker value fuel s (marker.Node f) = node_layout value fuel f s

-- one value, with fuel
abbrev pub value_layout : ℕ → State3 → Layout ValueRead
value_layout zero s = stuck
value_layout (suc n) s = want marker_kind (λ b. behind_marker (value_layout n) n s (marker_at (slice_index b 0)))
