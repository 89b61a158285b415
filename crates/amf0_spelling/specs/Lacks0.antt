-- Why a lowered graph has no canonical spelling in AMF 0: kinds that it lacks, names above 16 bits (1.3.1), and nodes met again that no index names (2.9).
use Rattle.std.specs.Prelude.{◌≡◌, ◌≢◌, ℕ, ◌<◌, ◌≤◌, Bool, true, false, cond, List, [], ◌∷◌, length, take, slice_get, Some, ◌^◌, ◌-◌}
use Rattle.std.specs.List.{AllByRecursion}
use Rattle.amf_graph.specs.declared.lack.LackKind.{LackKind}
use Rattle.amf_graph.specs.declared.lack.LackKind.TheVariants.{NoForm, LongName, Shared, FarReference}
use Rattle.amf_graph.specs.Graph.{node, Head, xml_document, date, array, object, Node, Graph, node_at}
use Rattle.amf_graph.specs.Order.{IsOrder}
use Rattle.amf_graph.specs.Lacks.{IsFirstLack}
use Rattle.amf0_spelling.specs.Met.{all_met, IsTwice}

-- kinds of which AMF 0 has none
abbrev pub HasNoForm : Node → Head → Type 0
HasNoForm a array = (a.names ≢ []) × (a.values ≢ [])
HasNoForm a (object t) = ⊥
HasNoForm a (date p) = ⊥
HasNoForm a (xml_document x) = ⊥
HasNoForm a _ = Unit {0}

abbrev pub IsShortName : List ℕ → Type 0
IsShortName x = length x < 2 ^ 16

abbrev pub class_of : Head → List ℕ
class_of (object t) = t.class
class_of _ = []

abbrev pub HasShortNames : Node → Type 0
HasShortNames a = IsShortName (class_of a.head) × AllByRecursion (λ p. IsShortName p.0) a.names

-- whether an index can name the node
abbrev pub enters0 : Head → Bool
enters0 array = true
enters0 (object t) = true
enters0 _ = false

-- whether it has a form, but no index can name it
abbrev pub is_loose0 : Head → Bool
is_loose0 (date p) = true
is_loose0 (xml_document x) = true
is_loose0 _ = false

-- the nodes that an index can name, in order
abbrev pub entered : Graph → List ℕ → List ℕ
entered g [] = []
entered g (i ∷ xs) = cond (enters0 (node_at g i).head) (i ∷ entered g xs) (entered g xs)

-- the place in the AMF 0 table of the node with this canonical number, where the first so many of them are in no table
abbrev pub place0 : Graph → ℕ → List ℕ → ℕ → ℕ
place0 g outside order number = length (entered g (take number order)) - outside

-- the reason applies to a node of this canonical number
abbrev pub NodeLacks0 : Graph → ℕ → List ℕ → ℕ → ℕ → LackKind → Type 0
NodeLacks0 g outside order number i NoForm = HasNoForm (node_at g i) (node_at g i).head
NodeLacks0 g outside order number i LongName = HasShortNames (node_at g i) → ⊥
NodeLacks0 g outside order number i Shared = (is_loose0 (node_at g i).head ≡ true) × IsTwice (all_met g order) (node i)
NodeLacks0 g outside order number i FarReference = (enters0 (node_at g i).head ≡ true) × (2 ^ 16 ≤ place0 g outside order number) × IsTwice (all_met g order) (node i)
NodeLacks0 g outside order number i _ = ⊥

abbrev pub Lacks0 : Graph → ℕ → List ℕ → ℕ → LackKind → Type 0
Lacks0 g outside order number kind = (i : ℕ) × (slice_get order number ≡ Some i) × NodeLacks0 g outside order number i kind

abbrev pub IsLack0 : Graph → ℕ → LackKind → Type 0
IsLack0 g number kind = (order : List ℕ) × IsOrder g order × IsFirstLack (Lacks0 g 0 order) number kind
