-- How large a graph is, and how large it may be: what the headers of AMF 3 have room for (1.3.1, 3.12).
use Rattle.std.specs.Prelude.{ℕ, ◌+◌, ◌*◌, ◌/◌, ◌^◌, ◌<◌, length, sum_by}
use Rattle.std.specs.List.{AllByRecursion}
use Rattle.amf_graph.specs.Arena.{StoredHead, bytes, ints, uints, doubles, dictionary, StoredNode, Arena}

-- numbers of texts and nodes, of bytes of a text, and of the items, names and parts of a node together are below it
abbrev pub count_end : ℕ
count_end = 2 ^ 28

-- numbers of traits
abbrev pub traits_end : ℕ
traits_end = 2 ^ 27

-- numbers of sealed names of one class
abbrev pub sealed_end : ℕ
sealed_end = 2 ^ 25

-- the bytes and items that are kept in a node itself, as many as they are
abbrev pub items_of : StoredHead → ℕ
items_of (bytes x) = length x
items_of (ints f ns) = length ns
items_of (uints f ns) = length ns
items_of (doubles f ns) = length ns
items_of _ = 0

-- an entry of a dictionary is one part
abbrev pub parts_of : StoredHead → ℕ → ℕ
parts_of (dictionary f) n = n / 2
parts_of _ n = n

pub record NodeWithin (n : StoredNode) : Type 0 where
  pub together : items_of n.head + length n.names + parts_of n.head (length n.values) < count_end

pub record IsWithinBounds (a : Arena) : Type 0 where
  pub few_texts : length a.texts < count_end
  pub few_traits : length a.traits < traits_end
  pub few_nodes : length a.nodes < count_end
  pub texts : AllByRecursion (λ x. length x < count_end) a.texts
  pub traits : AllByRecursion (λ t. length t.sealed < sealed_end) a.traits
  pub nodes : AllByRecursion NodeWithin a.nodes

-- the bytes that are kept in a node itself: one for a byte, four for an int, eight for a Number
abbrev pub bytes_of : StoredHead → ℕ
bytes_of (bytes x) = length x
bytes_of (ints f ns) = 4 * length ns
bytes_of (uints f ns) = 4 * length ns
bytes_of (doubles f ns) = 8 * length ns
bytes_of _ = 0

-- nodes, values with the root, traits with their sealed names, and bytes
abbrev pub weight : Arena → ℕ
weight a = length a.nodes + 1 + sum_by (λ n. length n.names + length n.values + bytes_of n.head) a.nodes + sum_by (λ t. 1 + length t.sealed) a.traits + sum_by length a.texts
