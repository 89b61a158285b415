-- The services that are shipped: echo, sum and names, each with one operation of its own name. Values are as AMF 3, 3.2 to 3.16, has them.
use Rattle.std.specs.Prelude.{ℕ, Bool, List, [], ◌∷◌, ◌++◌, map, codes, bytes_eq, if◌then◌else◌, ℤ, pos, negsuc, nat_lt, Option, Some, None, suc}
use Rattle.std.specs.Prelude.{◌+ℤ◌}
use Rattle.std.specs.Ordering.{is_lt, nat_cmp}
use Rattle.std.specs.Cmp.Lexicographic.{slice_cmp}
use Rattle.amf_graph.specs.Graph.{Value, leaf, node, integer, double, text, Traits, Head, array, object, Node, Graph, node_at}
use Rattle.amf_graph.specs.ByName.{stable_sort}
use Rattle.amf_wire.specs.WholeNumbers.{whole_of, signed_pattern}
use Rattle.amf_service.specs.Meaning.{Given, result, fault, Meanings}
use Rattle.amf_service.specs.Registry.{Entry}

abbrev pub wrong_arguments : List ℕ
wrong_arguments = codes "wrong arguments"

abbrev pub too_large : List ℕ
too_large = codes "too large"

-- The items of an array without names.

abbrev pub unnamed : List (List ℕ × Value) → List Value → Option (List Value)
unnamed [] vs = Some vs
unnamed (p ∷ ps) vs = None

abbrev pub items_by_kind : Head → Node → Option (List Value)
items_by_kind array a = unnamed a.names a.values
items_by_kind _ a = None

abbrev pub items_at : Graph → Value → Option (List Value)
items_at g (node i) = items_by_kind (node_at g i).head (node_at g i)
items_at g (leaf x) = None

abbrev pub items_of : Graph → Option (List Value)
items_of g = items_at g g.root

-- the one item
abbrev pub one_of : Option (List Value) → Option Value
one_of (Some (v ∷ [])) = Some v
one_of _ = None

abbrev pub or_fault : {X : Type 0} → Option X → (X → Given) → Given
or_fault None next = fault wrong_arguments
or_fault (Some x) next = next x

-- echo: its one item

abbrev pub echoed : Graph → Given
echoed g = or_fault (one_of (items_of g)) (λ v. result (record { nodes = g.nodes; root = v }))

-- sum: of integers, and doubles that are whole numbers

abbrev pub number_of : Value → Option ℤ
number_of (leaf (integer n)) = Some n
number_of (leaf (double p)) = whole_of p
number_of _ = None

abbrev pub and_number : Option ℤ → Option ℤ → Option ℤ
and_number (Some n) (Some m) = Some (n +ℤ m)
and_number _ _ = None

abbrev pub total_of : List Value → Option ℤ
total_of [] = Some (pos 0)
total_of (v ∷ vs) = and_number (number_of v) (total_of vs)

abbrev pub size_of : ℤ → ℕ
size_of (pos n) = n
size_of (negsuc n) = suc n

abbrev pub number_graph : ℤ → Graph
number_graph n = record { nodes = []; root = leaf (double (signed_pattern n)) }

abbrev pub summed_total : ℤ → Given
summed_total n = if nat_lt (size_of n) 9007199254740992 then result (number_graph n) else fault too_large

abbrev pub summed : Graph → Given
summed g = or_fault (items_of g) (λ vs. or_fault (total_of vs) summed_total)

-- names: the member names of its one item, sealed and then dynamic, ordered by their bytes

abbrev pub is_before : List ℕ → List ℕ → Bool
is_before x y = is_lt (slice_cmp nat_cmp x y)

abbrev pub member_names : Traits → Node → List (List ℕ)
member_names t a = t.sealed ++ map (λ p. p.0) a.names

abbrev pub object_names : Head → Node → Option (List (List ℕ))
object_names (object t) a = Some (member_names t a)
object_names _ a = None

abbrev pub names_at : Graph → Value → Option (List (List ℕ))
names_at g (node i) = object_names (node_at g i).head (node_at g i)
names_at g (leaf x) = None

-- the array of these texts
abbrev pub texts_graph : List (List ℕ) → Graph
texts_graph xs = record { nodes = record { head = array; names = []; values = map (λ x. leaf (text x)) xs } ∷ []; root = node 0 }

abbrev pub named : Graph → Given
named g = or_fault (one_of (items_of g)) (λ v. or_fault (names_at g v) (λ xs. result (texts_graph (stable_sort is_before xs))))

-- Each under its own name. Of an operation that it does not know a service means nothing, and this says a fault.

abbrev pub echo_name : List ℕ
echo_name = codes "echo"

abbrev pub sum_name : List ℕ
sum_name = codes "sum"

abbrev pub names_name : List ℕ
names_name = codes "names"

abbrev pub of_one : List ℕ → (Graph → Given) → Meanings
of_one name f = record { knows = bytes_eq name; gives = λ operation g. f g }

abbrev pub shipped : List Entry
shipped =
    record { name = echo_name; means = of_one echo_name echoed }
    ∷ record { name = sum_name; means = of_one sum_name summed }
    ∷ record { name = names_name; means = of_one names_name named } ∷ []
