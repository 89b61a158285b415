-- A graph as JSON: values nest, and a node that stands in the table is named by its label. The keys of each object stand in the order of their bytes.
use Rattle.std.specs.Prelude.{ℕ, zero, suc, ◌-◌, max, Bool, true, false, ◌&&◌, ◌||◌, not, List, [], ◌∷◌, ◌++◌, map, length, replicate, decimal, ◌==◌, if◌then◌else◌, codes, bytes_eq}
use Rattle.std.specs.Fmt.{signed_decimal}
use Rattle.std.specs.List.{zip}
use Rattle.std.specs.Ordering.{is_lt, nat_cmp}
use Rattle.std.specs.Cmp.Lexicographic.{slice_cmp}
use Rattle.json.specs.Json.{Json, no_items, no_members, item, member, Items, Members}
use Rattle.json.specs.Json as json
use Rattle.amf_graph.specs.declared.wrapped.Wrapped.{Wrapped}
use Rattle.amf_graph.specs.declared.wrapped.Wrapped.TheVariants.{ArrayCollection, ArrayList, ObjectProxy}
use Rattle.amf_graph.specs.Graph.{Leaf, undefined, null, boolean, integer, double, text, Value, leaf, node, Traits, Head, xml_document, date, array, object, wrapper, xml, bytes, ints, uints, doubles, values, dictionary, Node, Graph, node_at}
use Rattle.amf_graph.specs.ByName.{stable_sort, by_name}
use Rattle.amf_graph.specs.Renumbered.{place_of}
use Rattle.amf_text.specs.Tags.{begins_tag}
use Rattle.amf_text.specs.Scalars.{word, tagged, alone, hex, is_plain, told_text, Digits, told_pattern, told_double, flag}

-- how a graph is told: its canonical order, the nodes that stand in the table, in that order, the digits, and whether whole doubles stand bare
pub record Way : Type 0 where
  pub order : List ℕ
  pub table : List ℕ
  pub digits : Digits
  pub bare : Bool

abbrev pub told_leaf : Way → Leaf → Json
told_leaf w undefined = alone (codes "$undefined") (json.boolean true)
told_leaf w null = json.null
told_leaf w (boolean b) = json.boolean b
told_leaf w (integer n) = json.number (signed_decimal n)
told_leaf w (double p) = told_double w.digits w.bare p
told_leaf w (text x) = told_text x

-- lists

abbrev pub items_of : List Json → Items
items_of [] = no_items
items_of (j ∷ js) = item j (items_of js)

abbrev pub listed : List Json → Json
listed js = json.array (items_of js)

abbrev pub two : Json → Json → Json
two a b = listed (a ∷ b ∷ [])

abbrev pub some_is : {X : Type 0} → (X → Bool) → List X → Bool
some_is test [] = false
some_is test (x ∷ xs) = test x || some_is test xs

-- names

abbrev pub stands_in : List (List ℕ) → List ℕ → Bool
stands_in names x = some_is (bytes_eq x) names

-- all are UTF-8, and none stands twice
abbrev pub are_keys : List (List ℕ) → Bool
are_keys [] = true
are_keys (x ∷ xs) = is_plain x && (not (stands_in xs x) && are_keys xs)

abbrev pub no_tags : List (List ℕ) → Bool
no_tags [] = true
no_tags (x ∷ xs) = not (begins_tag x) && no_tags xs

abbrev pub firsts : List (List ℕ × Json) → List (List ℕ)
firsts ps = map (λ p. p.0) ps

abbrev pub members_of : List (List ℕ × Json) → Members
members_of [] = no_members
members_of (p ∷ ps) = member p.0 p.1 (members_of ps)

abbrev pub pairs_of : List (List ℕ × Json) → List Json
pairs_of [] = []
pairs_of (p ∷ ps) = two (told_text p.0) p.1 ∷ pairs_of ps

-- named values: an object where its keys tell them, else a list of pairs
abbrev pub told_members : List (List ℕ × Json) → Json
told_members ps = if are_keys (firsts ps) then json.object (members_of ps) else listed (pairs_of ps)

abbrev pub told_names : (Value → Json) → List (List ℕ × Value) → List (List ℕ × Json)
told_names tell ps = map (λ p. (p.0, tell p.1)) ps

abbrev pub entries_of : List Json → List Json
entries_of [] = []
entries_of (k ∷ []) = []
entries_of (k ∷ v ∷ js) = two k v ∷ entries_of js

-- nodes

abbrev pub wrapper_tag : Wrapped → List ℕ
wrapper_tag ArrayCollection = codes "$ArrayCollection"
wrapper_tag ArrayList = codes "$ArrayList"
wrapper_tag ObjectProxy = codes "$ObjectProxy"

abbrev pub is_empty : {X : Type 0} → List X → Bool
is_empty [] = true
is_empty (x ∷ xs) = false

-- an object without a class is an object of JSON, where no name of it begins as a tag does
abbrev pub is_simple : Traits → List (List ℕ × Json) → Bool
is_simple t ps = is_empty t.class && (is_empty t.sealed && (t.dynamic && (are_keys (firsts ps) && no_tags (firsts ps))))

abbrev pub dynamic_part : Bool → List (List ℕ × Json) → Members → Members
dynamic_part false ps ms = ms
dynamic_part true ps ms = member (codes "$dynamic") (told_members ps) ms

abbrev pub comes_before : List ℕ → List ℕ → Bool
comes_before x y = is_lt (slice_cmp nat_cmp x y)

-- each name comes before the next, by their bytes
abbrev pub is_rising : List (List ℕ) → Bool
is_rising [] = true
is_rising (x ∷ []) = true
is_rising (x ∷ y ∷ xs) = comes_before x y && is_rising (y ∷ xs)

-- by the bytes of their names
abbrev pub by_key : List (List ℕ × Json) → List (List ℕ × Json)
by_key = stable_sort (λ p q. comes_before p.0 q.0)

-- names that do not rise are listed in their order, since the members of the object do not keep it
abbrev pub names_part : List (List ℕ) → Members → Members
names_part names ms = if is_rising names then ms else member (codes "$names") (listed (map word names)) ms

-- sealed values: an object where its keys tell the names, else a list of pairs
abbrev pub sealed_values : List (List ℕ × Json) → Members
sealed_values ps = if are_keys (firsts ps)
    then names_part (firsts ps) (member (codes "$sealed") (json.object (members_of (by_key ps))) no_members)
    else member (codes "$sealed") (listed (pairs_of ps)) no_members

abbrev pub sealed_part : List (List ℕ × Json) → Members
sealed_part [] = no_members
sealed_part (p ∷ ps) = sealed_values (p ∷ ps)

abbrev pub told_object : Traits → List (List ℕ × Json) → List Json → Json
told_object t ps vs = if is_simple t ps then json.object (members_of ps) else tagged (codes "$class") (told_text t.class) (dynamic_part t.dynamic ps (sealed_part (zip t.sealed vs)))

abbrev pub told_array : List (List ℕ × Json) → List Json → Json
told_array [] vs = listed vs
told_array (p ∷ ps) vs = tagged (codes "$array") (listed vs) (member (codes "$names") (told_members (p ∷ ps)) no_members)

abbrev pub fixed_first : Bool → Members → Json
fixed_first false ms = json.object ms
fixed_first true ms = tagged (codes "$fixed") (json.boolean true) ms

-- what a node holds, its named pairs in by-name order
unfoldable pub told_body : Digits → Head → List (List ℕ × Json) → List Json → Json
told_body digits (xml_document x) ps vs = alone (codes "$xmldoc") (told_text x)
told_body digits (date p) ps vs = alone (codes "$date") (told_pattern digits p)
told_body digits array ps vs = told_array ps vs
told_body digits (object t) ps vs = told_object t ps vs
told_body digits (wrapper c) ps vs = json.object (members_of (map (λ v. (wrapper_tag c, v)) vs))
told_body digits (xml x) ps vs = alone (codes "$xml") (told_text x)
told_body digits (bytes x) ps vs = alone (codes "$bytes") (word (hex x))
told_body digits (ints f ns) ps vs = fixed_first f (member (codes "$ints") (listed (map (λ n. json.number (signed_decimal n)) ns)) no_members)
told_body digits (uints f ns) ps vs = fixed_first f (member (codes "$uints") (listed (map (λ n. json.number (decimal n)) ns)) no_members)
told_body digits (doubles f ns) ps vs = tagged (codes "$doubles") (listed (map (told_pattern digits) ns)) (flag (codes "$fixed") f)
told_body digits (values f x) ps vs = fixed_first f (member (codes "$type") (told_text x) (member (codes "$values") (listed vs) no_members))
told_body digits (dictionary f) ps vs = tagged (codes "$dictionary") (listed (entries_of vs)) (flag (codes "$weak") f)

abbrev pub told_node : Way → (Value → Json) → Node → Json
told_node w tell n = told_body w.digits n.head (told_names tell (by_name n.names)) (map tell n.values)

-- the place in the canonical order, by as many digits as the largest of the table has
abbrev pub place_in : Way → ℕ → List ℕ
place_in w i = decimal (place_of w.order i)

abbrev pub longest : List (List ℕ) → ℕ
longest [] = 0
longest (x ∷ xs) = max (length x) (longest xs)

abbrev pub padded : ℕ → List ℕ → List ℕ
padded width x = replicate (width - length x) 0x30 ++ x

abbrev pub label_of : Way → ℕ → List ℕ
label_of w i = padded (longest (map (place_in w) w.table)) (place_in w i)

abbrev pub called : Way → ℕ → Json
called w i = alone (codes "$node") (word (label_of w i))

abbrev pub in_table : Way → ℕ → Bool
in_table w i = some_is (λ j. j == i) w.table

-- a value with so many levels of nodes left; the table is made so that they suffice
unfoldable pub told : Way → Graph → ℕ → Value → Json
told w g levels (leaf x) = told_leaf w x
told w g zero (node i) = called w i
told w g (suc levels) (node i) = if in_table w i then called w i else told_node w (told w g levels) (node_at g i)

-- so many nodes stand within one another at most: from the root, or from a node of the table or the holder of a file, which is the first of them
abbrev pub levels : ℕ
levels = 32

abbrev pub levels_below : ℕ
levels_below = 31

abbrev pub told_row : Way → Graph → ℕ → List ℕ × Json
told_row w g i = (label_of w i, told_node w (told w g levels_below) (node_at g i))

-- the table stands before another member, where it has rows
abbrev pub rows_before : List (List ℕ × Json) → Members → Members
rows_before [] ms = ms
rows_before (p ∷ ps) ms = member (codes "nodes") (json.object (members_of (p ∷ ps))) ms

abbrev pub table_before : Way → Graph → Members → Members
table_before w g ms = rows_before (map (told_row w g) w.table) ms

abbrev pub told_root : Way → Graph → Json
told_root w g = told w g levels g.root

-- the pairs of a file's holder
abbrev pub told_pairs : Way → Graph → Node → Json
told_pairs w g holder = told_members (told_names (told w g levels_below) (by_name holder.names))
