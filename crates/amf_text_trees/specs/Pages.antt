-- From a page to a graph: each label is the number of its row's node.
use Rattle.std.specs.Prelude.{ℕ, Bool, true, false, ◌&&◌, ◌||◌, List, [], ◌∷◌, ◌++◌, map, Option, Some, None, option_map, option_and_then, if◌then◌else◌, bytes_eq}
use Rattle.std.specs.List.{flat_map}
use Rattle.amf_graph.specs.Graph.{Value, Node, Graph}
use Rattle.amf_graph.specs.Graph as graph
use Rattle.amf_text.specs.Documents.{Header, Message, Document, value3, value0, file, packet}
use Rattle.amf_text.specs.Linked.{Numbers, number_of}
use Rattle.amf_text.specs.Accepted.{all_linked}
use Rattle.amf_text_trees.specs.Sheets.{Entry, leaf, label, node, Pairs, Kept, Page}

abbrev pub number_at : Entry → ℕ
number_at (node n) = n
number_at _ = 0

abbrev pub labels_of : Pairs → Numbers
labels_of ps = map (λ p. (p.0, number_at p.1)) ps

abbrev pub value_at : Numbers → Entry → Value
value_at labels (leaf x) = graph.leaf x
value_at labels (label x) = graph.node (number_of x labels)
value_at labels (node n) = graph.node n

abbrev pub name_at : Numbers → List ℕ × Entry → List ℕ × Value
name_at labels p = (p.0, value_at labels p.1)

abbrev pub node_of : Numbers → Kept → Node
node_of labels k = record { head = k.head; names = map (name_at labels) k.names; values = map (value_at labels) k.values }

abbrev pub page_graph : Page → Graph
page_graph p = record { nodes = map (node_of (labels_of p.table)) p.sheet.nodes; root = value_at (labels_of p.table) p.root }

-- a row has this label
abbrev pub is_row : Pairs → List ℕ → Bool
is_row [] x = false
is_row (p ∷ ps) x = bytes_eq x p.0 || is_row ps x

-- labels that are called, in the order of the text, each with whether a row has it
abbrev pub page_calls : Page → List Bool
page_calls p = map (is_row p.table) p.sheet.calls

abbrev pub are_true : List Bool → Bool
are_true [] = true
are_true (b ∷ bs) = b && are_true bs

abbrev pub page_linked : Page → Option Graph
page_linked p = if are_true (page_calls p) then Some (page_graph p) else None

abbrev pub header_linked : Header Page → Option (Header Graph)
header_linked h = option_map (λ g. record { name = h.name; must = h.must; form = h.form; graph = g }) (page_linked h.graph)

abbrev pub message_linked : Message Page → Option (Message Graph)
message_linked m = option_map (λ g. record { target = m.target; response = m.response; form = m.form; graph = g }) (page_linked m.graph)

-- each label that is called is one of a row of its page
abbrev pub pages_linked : Document Page → Option (Document Graph)
pages_linked (value3 p) = option_map value3 (page_linked p)
pages_linked (value0 p) = option_map value0 (page_linked p)
pages_linked (file name version p) = option_map (file name version) (page_linked p)
pages_linked (packet version headers messages) =
    option_and_then (λ hs. option_map (packet version hs) (all_linked message_linked messages)) (all_linked header_linked headers)

abbrev pub pages_calls : Document Page → List Bool
pages_calls (value3 p) = page_calls p
pages_calls (value0 p) = page_calls p
pages_calls (file name version p) = page_calls p
pages_calls (packet version headers messages) = flat_map (λ h. page_calls h.graph) headers ++ flat_map (λ m. page_calls m.graph) messages
