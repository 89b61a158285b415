-- Nodes that are named before their numbers are known: by labels, which are counted from 2^28 on, where no number is.
use Rattle.std.specs.Prelude.{◌-◌, List, nat_lt, get_or, map, if◌then◌else◌}
use Rattle.amf_graph.specs.declared.value.Value.{Value as Stored}
use Rattle.amf_graph.specs.declared.value.Value.TheVariants.{Undefined, Null, Bool as Flag, Integer, Double, Text, Node as NodeRef}
use Rattle.amf_graph.specs.declared.value.NodeId.{NodeId}
use Rattle.amf_graph.specs.Arena.{Arena, StoredNode}
use Rattle.amf_graph.specs.Bounds.{count_end}

abbrev pub no_number : NodeId
no_number = record { 0 = 0 }

-- the number that a node's number or label stands for, where each label's number is in its place: 0 where it has none
abbrev pub number_for : List NodeId → NodeId → NodeId
number_for labels n = if nat_lt n.0 count_end then n else get_or labels (n.0 - count_end) no_number

abbrev pub linked : List NodeId → Stored → Stored
linked labels Undefined = Undefined
linked labels Null = Null
linked labels (Flag b) = Flag b
linked labels (Integer n) = Integer n
linked labels (Double p) = Double p
linked labels (Text t) = Text t
linked labels (NodeRef n) = NodeRef (number_for labels n)

abbrev pub linked_node : List NodeId → StoredNode → StoredNode
linked_node labels n = record { is_open = n.is_open; head = n.head; names = map (λ p. (p.0, linked labels p.1)) n.names; values = map (linked labels) n.values }

abbrev pub linked_arena : List NodeId → Arena → Arena
linked_arena labels a = record { texts = a.texts; traits = a.traits; nodes = map (linked_node labels) a.nodes }
