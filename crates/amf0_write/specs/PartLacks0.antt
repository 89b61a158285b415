-- Why a part of a lowered graph has no canonical spelling in AMF 0 (1.3.1, 2.9), by the canonical numbers of the whole graph.
use Rattle.std.specs.Prelude.{◌≡◌, ℕ, ◌<◌, ◌≤◌, ◌^◌, ◌-◌, ◌⊎◌, true, List, [], ◌∷◌, length, take, slice_get, Option, Some, MatchOption}
use Rattle.amf_graph.specs.declared.lack.Lack.{Lack}
use Rattle.amf_graph.specs.declared.lack.LackKind.{LackKind}
use Rattle.amf_graph.specs.declared.lack.LackKind.TheVariants.{NoForm, LongName, Shared, FarReference}
use Rattle.amf_graph.specs.declared.value.Value.{Value as Stored}
use Rattle.amf_graph.specs.Arena.{value_content}
use Rattle.amf_graph.specs.Graph.{Value, Graph, node_at}
use Rattle.amf_graph.specs.Lacks.{IsFirstLack}
use Rattle.amf_graph.specs.Order.{IsOrder}
use Rattle.amf_graph.specs.Rooted.{RootedArena, content}
use Rattle.amf0_spelling.specs.Lacks0.{HasNoForm, HasShortNames, enters0, is_loose0, entered, place0, Lacks0}
use Rattle.amf0_spelling.specs.Meets.{Meets, IsAgain}
use Rattle.amf0_spelling.specs.Tables0.{Tables0}

-- how many nodes that an index could name are done, and are in no table
abbrev pub outside_of : Graph → Tables0 → ℕ
outside_of g t = length (entered g t.amf3.done) - length t.nodes

-- no index names the node at this place of those that are met: it is a date or an XML document, or one of the first so many that are in no table
abbrev pub HasNoIndex : Graph → ℕ → List ℕ → ℕ → ℕ → Type 0
HasNoIndex g outside all place i =
    (is_loose0 (node_at g i).head ≡ true) ⊎ ((enters0 (node_at g i).head ≡ true) × (length (entered g (take place all)) < outside))

-- the reason applies to the node at this place of all that are met, of which the first so many were done before
abbrev pub PlaceLacks0 : Graph → ℕ → ℕ → List ℕ → List ℕ → ℕ → ℕ → LackKind → Type 0
PlaceLacks0 g outside before all again place i NoForm = (before ≤ place) × HasNoForm (node_at g i) (node_at g i).head
PlaceLacks0 g outside before all again place i LongName = (before ≤ place) × (HasShortNames (node_at g i) → ⊥)
PlaceLacks0 g outside before all again place i Shared = HasNoIndex g outside all place i × IsAgain again place
PlaceLacks0 g outside before all again place i FarReference = (enters0 (node_at g i).head ≡ true) × (2 ^ 16 ≤ place0 g outside all place) × IsAgain again place
PlaceLacks0 g outside before all again place i _ = ⊥

-- the reason applies to the node of this canonical number, which is one of those that are met
abbrev pub PartLacks0 : Graph → ℕ → ℕ → List ℕ → List ℕ → List ℕ → ℕ → LackKind → Type 0
PartLacks0 g outside before order all again number kind =
    (i : ℕ) × (place : ℕ) × (slice_get order number ≡ Some i) × (slice_get all place ≡ Some i) × PlaceLacks0 g outside before all again place i kind

-- of the nodes that the value meets, behind what is done in these tables, the first by its canonical number that has no spelling
abbrev pub IsPartLack0 : Graph → Value → Tables0 → ℕ → LackKind → Type 0
IsPartLack0 g v t number kind =
    (order : List ℕ) × (all : List ℕ) × (again : List ℕ) × IsOrder g order × Meets g t.amf3.done (v ∷ []) all again
    × IsFirstLack (PartLacks0 g (outside_of g t) (length t.amf3.done) order all again) number kind

-- the same of a value that a graph keeps
abbrev pub IsKeptPartLack0 : RootedArena → Stored → Tables0 → ℕ → LackKind → Type 0
IsKeptPartLack0 g v t number kind = IsPartLack0 (content g) (value_content g.arena v) t number kind

-- the node of this number has no spelling, where of those that an index could name the first so many are in no table
abbrev pub LacksOutside : Graph → ℕ → ℕ → LackKind → Type 0
LacksOutside g outside number kind = (order : List ℕ) × IsOrder g order × Lacks0 g outside order number kind

-- the first node of the graph that has no spelling, where of those that an index could name the first so many are in no table
abbrev pub IsLackOutside : Graph → ℕ → ℕ → LackKind → Type 0
IsLackOutside g outside number kind = (order : List ℕ) × IsOrder g order × IsFirstLack (Lacks0 g outside order) number kind

-- that node and why, or that each node has a spelling
abbrev pub TellsLackOutside : Graph → ℕ → Option Lack → Type 0
TellsLackOutside g outside lack =
    MatchOption lack ((number : ℕ) (kind : LackKind) → LacksOutside g outside number kind → ⊥) (λ l. IsLackOutside g outside l.node l.kind)
