-- What the headers of AMF 3 have room for (1.3.1, 3.12), of the graph by content: what a builder's bounds give.
use Rattle.std.specs.Prelude.{ℕ, ◌/◌, ◌<◌, List, length}
use Rattle.std.specs.List.{AllByRecursion}
use Rattle.amf_graph.specs.Graph.{text, Value, leaf, Head, xml_document, object, xml, bytes, ints, uints, doubles, values, dictionary, Node, Graph, node_at}
use Rattle.amf_graph.specs.Reached.{Reached, IsReachedValue}
use Rattle.amf_graph.specs.Bounds.{count_end, sealed_end}

-- as few as headers have room for
abbrev pub IsFew : ℕ → Type 0
IsFew n = n < count_end

abbrev pub IsShort : List ℕ → Type 0
IsShort x = IsFew (length x)

abbrev pub IsSmallValue : Value → Type 0
IsSmallValue (leaf (text x)) = IsShort x
IsSmallValue _ = Unit {0}

abbrev pub IsSmallHead : Head → Type 0
IsSmallHead (xml_document x) = IsShort x
IsSmallHead (object t) = IsShort t.class × AllByRecursion IsShort t.sealed × (length t.sealed < sealed_end)
IsSmallHead (xml x) = IsShort x
IsSmallHead (bytes x) = IsShort x
IsSmallHead (ints f ns) = IsFew (length ns)
IsSmallHead (uints f ns) = IsFew (length ns)
IsSmallHead (doubles f ns) = IsFew (length ns)
IsSmallHead (values f x) = IsShort x
IsSmallHead _ = Unit {0}

abbrev pub count_of : Head → ℕ → ℕ
count_of (dictionary f) n = n / 2
count_of _ n = n

pub record IsSmallNode (a : Node) : Type 0 where
  pub head : IsSmallHead a.head
  pub names : AllByRecursion (λ p. IsShort p.0) a.names
  pub few_names : IsFew (length a.names)
  pub count : IsFew (count_of a.head (length a.values))

pub record IsSmall (g : Graph) : Type 0 where
  pub few : IsFew (length g.nodes)
  pub values : (v : Value) → IsReachedValue g v → IsSmallValue v
  pub nodes : (i : ℕ) → Reached g i → IsSmallNode (node_at g i)
