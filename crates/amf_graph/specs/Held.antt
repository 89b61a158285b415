-- What a node is and holds, as it is read. A device of proofs.
use Rattle.std.specs.Prelude.{ℕ, Bool, List, []}
use Rattle.amf_graph.specs.declared.value.Value.{Value as Stored}
use Rattle.amf_graph.specs.declared.held.Form.{Form}
use Rattle.amf_graph.specs.declared.held.Form.TheVariants as form
use Rattle.amf_graph.specs.declared.held.Held.{Held}
use Rattle.amf_graph.specs.declared.held.Held.TheVariants as held
use Rattle.amf_graph.specs.Arena.{StoredHead, array, object, wrapper, bytes, values, dictionary, StoredNode}
use Rattle.amf_graph.specs.Building.{leaf_head}
use Rattle.amf_graph.specs.Views.{named, flat}

abbrev pub form_head : Form → StoredHead
form_head form.Array = array
form_head (form.Object t) = object t.0
form_head (form.Wrapper c) = wrapper c
form_head (form.Values f x) = values f x.0

abbrev pub held_head : Held → StoredHead
held_head (held.Leaf l) = leaf_head l.now
held_head (held.Bytes x) = bytes x.now
held_head (held.Parts f vs ps) = form_head f
held_head (held.Dictionary weak es) = dictionary weak

abbrev pub held_names : Held → List (ℕ × Stored)
held_names (held.Leaf l) = []
held_names (held.Bytes x) = []
held_names (held.Parts f vs ps) = named ps.now
held_names (held.Dictionary weak es) = []

abbrev pub held_values : Held → List Stored
held_values (held.Leaf l) = []
held_values (held.Bytes x) = []
held_values (held.Parts f vs ps) = vs.now
held_values (held.Dictionary weak es) = flat es.now

abbrev pub held_node : Bool → Held → StoredNode
held_node is_open h = record { is_open = is_open; head = held_head h; names = held_names h; values = held_values h }
