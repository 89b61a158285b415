-- A text has more bytes than what it means has parts, and its graphs weigh at most four times its bytes; so a text within the limit
-- means graphs for which there are numbers.
use Rattle.std.specs.Prelude.{ℕ, suc, ◌+◌, ◌*◌, ◌<◌, ◌≤◌, List, [], ◌∷◌, length}
use Rattle.std.specs.List.{AllByRecursion}
use Rattle.json.specs.Token.{Token, key, string, bad}
use Rattle.json.specs.Lex.{tokens}
use Rattle.amf_graph.specs.Arena as stored
use Rattle.amf_graph.specs.Arena.{Arena}
use Rattle.amf_graph.specs.Bounds.{count_end, NodeWithin}
use Rattle.amf_graph.specs.declared.value.Value.{Value as Stored}
use Rattle.amf_graph.specs.Graph as graph
use Rattle.amf_graph.specs.Graph.{Leaf, Value, Head, xml_document, xml, object, bytes, ints, uints, doubles, values, Node, Graph}
use Rattle.amf_text.specs.Scalars.{Reads}
use Rattle.amf_text.specs.Documents.{Document, value3, value0, file, packet}
use Rattle.amf_text.specs.Accepted.{Means}
use Rattle.amf_text.specs.DocumentLaws.{HasFewNodes}
use Rattle.amf_text.specs.Refused.{text_limit}
use Rattle.amf_text.specs.Tellable.{EachGraph}

-- names and their bytes
abbrev pub names_size : List (List ℕ) → ℕ
names_size [] = 0
names_size (x ∷ xs) = suc (length x) + names_size xs

abbrev pub pairs_size : List (List ℕ × Value) → ℕ
pairs_size [] = 0
pairs_size (p ∷ ps) = suc (length p.0) + pairs_size ps

-- the bytes and items that are kept in a node itself, whatever bits an item has
abbrev pub head_size : Head → ℕ
head_size (xml_document x) = length x
head_size (xml x) = length x
head_size (object t) = length t.class + names_size t.sealed
head_size (bytes x) = length x
head_size (ints f ns) = length ns
head_size (uints f ns) = length ns
head_size (doubles f ns) = length ns
head_size (values f x) = length x
head_size _ = 0

abbrev pub node_size : Node → ℕ
node_size a = suc (head_size a.head + (pairs_size a.names + length a.values))

abbrev pub nodes_size : List Node → ℕ
nodes_size [] = 0
nodes_size (a ∷ rest) = node_size a + nodes_size rest

-- What a graph weighs: 1 for each node, each class of an object and each value; the bytes of texts, names and contents, where an int or uint has 4 and
-- a double of a vector 8; and 1 more for each name of a value.

abbrev pub leaf_weight : Leaf → ℕ
leaf_weight (graph.text x) = suc (length x)
leaf_weight _ = 1

abbrev pub value_weight : Value → ℕ
value_weight (graph.leaf x) = leaf_weight x
value_weight _ = 1

abbrev pub values_weight : List Value → ℕ
values_weight [] = 0
values_weight (v ∷ vs) = value_weight v + values_weight vs

abbrev pub pairs_weight : List (List ℕ × Value) → ℕ
pairs_weight [] = 0
pairs_weight (p ∷ ps) = suc (length p.0) + value_weight p.1 + pairs_weight ps

abbrev pub head_weight : Head → ℕ
head_weight (xml_document x) = length x
head_weight (xml x) = length x
head_weight (object t) = suc (length t.class + names_size t.sealed)
head_weight (bytes x) = length x
head_weight (ints f ns) = 4 * length ns
head_weight (uints f ns) = 4 * length ns
head_weight (doubles f ns) = 8 * length ns
head_weight (values f x) = length x
head_weight _ = 0

abbrev pub node_weight : Node → ℕ
node_weight a = suc (head_weight a.head + (pairs_weight a.names + values_weight a.values))

abbrev pub nodes_weight : List Node → ℕ
nodes_weight [] = 0
nodes_weight (a ∷ rest) = node_weight a + nodes_weight rest

abbrev pub graph_weight : Graph → ℕ
graph_weight g = nodes_weight g.nodes + value_weight g.root

abbrev pub total : {X : Type 0} → (X → ℕ) → List X → ℕ
total weight [] = 0
total weight (x ∷ xs) = weight x + total weight xs

-- the graphs of a document together
abbrev pub graphs_weight : Document Graph → ℕ
graphs_weight (value3 g) = graph_weight g
graphs_weight (value0 g) = graph_weight g
graphs_weight (file name version g) = graph_weight g
graphs_weight (packet version headers messages) = total (λ h. graph_weight h.graph) headers + total (λ m. graph_weight m.graph) messages

-- a key is in quotes and has a colon
abbrev pub token_size : Token → ℕ
token_size (key s) = 3 + length s
token_size (string s) = 2 + length s
token_size bad = 0
token_size _ = 1

abbrev pub tokens_size : List Token → ℕ
tokens_size [] = 0
tokens_size (t ∷ ts) = token_size t + tokens_size ts

-- numbers for its nodes, and for the parts and items of each
pub record HasNumbers (g : Graph) : Type 0 where
  pub few_nodes : suc (length g.nodes) < count_end
  pub few_parts : AllByRecursion (λ a. node_size a < count_end) g.nodes

pub record TextBounds : Type 0 where
  -- each token takes its bytes
  pub tokens : (text : List ℕ) → tokens_size (tokens text) ≤ length text
  -- each node, value, name and item takes one at least
  pub parts : (reads : Reads) (text : List ℕ) (d : Document Graph) → Means reads text d → EachGraph (λ g. nodes_size g.nodes + 2 ≤ length text) d
  -- each graph weighs at most four times the bytes: the eight of a double come from a digit, and a comma or bracket
  pub weighs : (reads : Reads) (text : List ℕ) (d : Document Graph) → Means reads text d → EachGraph (λ g. graph_weight g ≤ 4 * length text) d
  -- and so do all graphs of a packet together
  pub together : (reads : Reads) (text : List ℕ) (d : Document Graph) → Means reads text d → graphs_weight d ≤ 4 * length text
  pub within : (reads : Reads) (text : List ℕ) (d : Document Graph) → length text ≤ text_limit → Means reads text d → EachGraph HasNumbers d
  pub few : (reads : Reads) (text : List ℕ) (d : Document Graph) → length text ≤ text_limit → Means reads text d → HasFewNodes d
  -- where such a graph is stored, each node has room
  pub kept : (a : Arena) (root : Stored) → HasNumbers (stored.graph_of a root) → (suc (length a.nodes) < count_end) × AllByRecursion NodeWithin a.nodes
