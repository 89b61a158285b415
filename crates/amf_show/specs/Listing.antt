-- The listing of a graph: this project's own form.
use Rattle.std.specs.Prelude.{◌≡◌, ℕ, cond, List, [], ◌∷◌, ◌++◌, map, codes, decimal}
use Rattle.std.specs.Fmt.{signed_decimal}
use Rattle.std.specs.List.{flat_map, zip}
use Rattle.amf_graph.specs.Graph.{Value, leaf, node, Traits, Head, xml_document, date, array, object, wrapper, xml, bytes, ints, uints, doubles, values, dictionary, Node, Graph, node_at, class_name}
use Rattle.amf_graph.specs.ByName.{by_name}
use Rattle.amf_graph.specs.Order.{IsOrder}
use Rattle.amf_graph.specs.Renumbered.{place_of}
use Rattle.amf_show.specs.Shown.{joined, bracketed, braced, line_feed, hex_byte, shown_text, shown_double, shown_leaf, shown_fixed, shown_weak}

-- a node is named by its place in the order
unfoldable pub shown_number : List ℕ → ℕ → List ℕ
shown_number order i = codes "#" ++ decimal (place_of order i)

abbrev pub shown_value : List ℕ → Value → List ℕ
shown_value order (leaf x) = shown_leaf x
shown_value order (node i) = shown_number order i

abbrev pub shown_values : List ℕ → List Value → List ℕ
shown_values order vs = bracketed (joined (map (shown_value order) vs))

-- a name and its value
abbrev pub shown_pair : List ℕ → List ℕ × Value → List ℕ
shown_pair order p = shown_text p.0 ++ codes "=" ++ shown_value order p.1

abbrev pub shown_pairs : List ℕ → List (List ℕ × Value) → List ℕ
shown_pairs order ps = braced (joined (map (shown_pair order) ps))

-- each key with the value behind it
abbrev pub entries_in : List ℕ → List Value → List (List ℕ)
entries_in order [] = []
entries_in order (k ∷ []) = []
entries_in order (k ∷ v ∷ vs) = (shown_value order k ++ codes "=" ++ shown_value order v) ∷ entries_in order vs

abbrev pub shown_entries : List ℕ → List Value → List ℕ
shown_entries order vs = braced (joined (entries_in order vs))

-- the dynamic part of an object stands where its class takes one
abbrev pub shown_object : List ℕ → Traits → List (List ℕ × Value) → List Value → List ℕ
shown_object order t ps vs = codes "object " ++ shown_text t.class ++ codes " sealed " ++ shown_pairs order (zip t.sealed vs) ++ cond t.dynamic (codes " dynamic " ++ shown_pairs order (by_name ps)) []

-- what a node holds, by its kind: array names and dynamic members in by-name order, all else in its own
unfoldable pub shown_contents : List ℕ → Head → List (List ℕ × Value) → List Value → List ℕ
shown_contents order (xml_document x) ps vs = codes "xmldoc " ++ shown_text x
shown_contents order (date p) ps vs = codes "date " ++ shown_double p
shown_contents order array ps vs = codes "array " ++ shown_values order vs ++ codes " " ++ shown_pairs order (by_name ps)
shown_contents order (object t) ps vs = shown_object order t ps vs
shown_contents order (wrapper c) ps vs = codes "wrapper " ++ shown_text (class_name c) ++ codes " " ++ joined (map (shown_value order) vs)
shown_contents order (xml x) ps vs = codes "xml " ++ shown_text x
shown_contents order (bytes x) ps vs = codes "bytes x" ++ flat_map hex_byte x
shown_contents order (ints f ns) ps vs = codes "ints " ++ shown_fixed f ++ codes " " ++ bracketed (joined (map signed_decimal ns))
shown_contents order (uints f ns) ps vs = codes "uints " ++ shown_fixed f ++ codes " " ++ bracketed (joined (map decimal ns))
shown_contents order (doubles f ns) ps vs = codes "doubles " ++ shown_fixed f ++ codes " " ++ bracketed (joined (map shown_double ns))
shown_contents order (values f x) ps vs = codes "values " ++ shown_text x ++ codes " " ++ shown_fixed f ++ codes " " ++ shown_values order vs
shown_contents order (dictionary f) ps vs = codes "dict " ++ shown_weak f ++ codes " " ++ shown_entries order vs

abbrev pub contents_of : List ℕ → Node → List ℕ
contents_of order n = shown_contents order n.head n.names n.values

-- the line of a node
unfoldable pub shown_node : Graph → List ℕ → ℕ → List ℕ
shown_node g order i = shown_number order i ++ codes " " ++ contents_of order (node_at g i) ++ line_feed

-- a line for the root, and then one for each node of the order
abbrev pub shown_graph : Graph → List ℕ → List ℕ
shown_graph g order = codes "root " ++ shown_value order g.root ++ line_feed ++ flat_map (shown_node g order) order

-- the listing of a graph
abbrev pub IsListing : Graph → List ℕ → Type 0
IsListing g b = (order : List ℕ) × IsOrder g order × (b ≡ shown_graph g order)

-- what was there, and then the listing
abbrev pub AppendsListing : Graph → List ℕ → List ℕ → Type 0
AppendsListing g before after = (b : List ℕ) × IsListing g b × (after ≡ before ++ b)
