-- The graphs that have the kinds of nodes and values of AMF 0 alone (2.2 to 2.18): no integers, no wrappers, no sealed members.
use Rattle.std.specs.Prelude.{Bool, true, false, ◌&&◌, ◌==◌, List, length}
use Rattle.std.specs.List.{list_all}
use Rattle.amf_graph.specs.Graph.{integer, Value, leaf, Traits, Head, xml_document, date, array, object, Node, Graph}

-- the one number is a double
abbrev pub is_value0 : Value → Bool
is_value0 (leaf (integer n)) = false
is_value0 _ = true

-- a class whose members are all dynamic
abbrev pub is_open : Traits → Bool
is_open t = t.dynamic && (length t.sealed == 0)

abbrev pub has_form0 : Head → List Value → Bool
has_form0 (xml_document x) vs = true
has_form0 (date p) vs = true
has_form0 array vs = true
has_form0 (object t) vs = is_open t && (length vs == 0)
has_form0 _ vs = false

abbrev pub is_node0 : Node → Bool
is_node0 a = has_form0 a.head a.values && (list_all is_value0 a.values && list_all (λ p. is_value0 p.1) a.names)

abbrev pub has_only_kinds0 : Graph → Bool
has_only_kinds0 g = is_value0 g.root && list_all is_node0 g.nodes
