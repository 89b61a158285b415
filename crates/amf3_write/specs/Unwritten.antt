-- What a stack of runs stands for. A device of proofs.
use Rattle.std.specs.Prelude.{ℕ, ◌+◌, ◌*◌, ◌^◌, ◌<◌, ◌≤◌, ◌⊎◌, List, [], ◌∷◌, ◌++◌, length, reverse, Option, Some, None}
use Rattle.std.specs.List.{AllByRecursion}
use Rattle.amf_graph.specs.declared.value.Value.{Value as Stored}
use Rattle.amf_graph.specs.declared.value.NodeId.{NodeId}
use Rattle.amf_graph.specs.declared.value.TextId.{TextId}
use Rattle.amf_graph.specs.declared.lack.Lack.{Lack}
use Rattle.amf_graph.specs.ByName.{by_name}
use Rattle.amf_graph.specs.Graph.{node, array, object, Value, Graph}
use Rattle.amf_graph.specs.Arena.{Arena, Names, IsTextId, traits_at, value_content}
use Rattle.amf_graph.specs.Order.{Absent}
use Rattle.amf_graph.specs.Rooted.{RootedArena, content}
use Rattle.amf_graph.specs.Views.{flat}
use Rattle.amf3_spelling.specs.ByteSpelling.{Segment, value, values_then, pairs_then, segments_of}
use Rattle.amf_iso.specs.Contents.{values_of, pairs_of, AreValues}
use Rattle.amf3_write.specs.declared.unwritten.Unwritten.{Unwritten}
use Rattle.amf3_write.specs.declared.unwritten.Unwritten.TheVariants.{One, Values, Entries, Pairs, Sorted}
use Rattle.amf3_write.specs.declared.output.Output.{Output}
use Rattle.amf3_write.specs.Writes.{BeginsWith, Leads, Stops}

-- the segments of a run
abbrev pub run_segments : Arena → Unwritten → List Segment
run_segments a (One v) = value (value_content a v) ∷ []
run_segments a (Values vs) = values_then (values_of a vs.now) []
run_segments a (Entries es) = values_then (values_of a (flat es.now)) []
run_segments a (Pairs ps) = pairs_then (pairs_of a ps.now) []
run_segments a (Sorted ps) = pairs_then (pairs_of a (reverse ps.items)) []

-- the segments of a stack, those of the last run first
abbrev pub segments_left : Arena → List Unwritten → List Segment
segments_left a [] = []
segments_left a (run ∷ runs) = segments_left a runs ++ run_segments a run

-- the segment that a node is, if there is one
abbrev pub next_segments : Option NodeId → List Segment
next_segments None = []
next_segments (Some n) = value (node n.0) ∷ []

-- a node of the arena that is not in the table
abbrev pub IsNextOf : Arena → List ℕ → Option NodeId → Type 0
IsNextOf a nodes None = Unit {0}
IsNextOf a nodes (Some n) = (n.0 < length a.nodes) × Absent nodes n.0

abbrev pub IsStoredPair : Arena → TextId × Stored → Type 0
IsStoredPair a p = IsTextId a p.0.0 × Names a p.1

abbrev pub AreStoredPairs : Arena → List (TextId × Stored) → Type 0
AreStoredPairs a ps = AllByRecursion (IsStoredPair a) ps

-- the values and the names are the arena's
abbrev pub IsRunOf : Arena → Unwritten → Type 0
IsRunOf a (One v) = Names a v
IsRunOf a (Values vs) = AreValues a vs.now
IsRunOf a (Entries es) = AreValues a (flat es.now)
IsRunOf a (Pairs ps) = AreStoredPairs a ps.now
IsRunOf a (Sorted ps) = AreStoredPairs a ps.items

abbrev pub AreRunsOf : Arena → List Unwritten → Type 0
AreRunsOf a runs = AllByRecursion (IsRunOf a) runs

-- how many turns a run takes at most
abbrev pub run_turns : Unwritten → ℕ
run_turns (One v) = 1
run_turns (Values vs) = 1 + length vs.now
run_turns (Entries es) = 1 + 2 * length es.now
run_turns (Pairs ps) = 1 + length ps.now
run_turns (Sorted ps) = 1 + length ps.items

abbrev pub turns_left : List Unwritten → ℕ
turns_left [] = 0
turns_left (run ∷ runs) = run_turns run + turns_left runs

-- no node takes more turns
abbrev pub node_turns : ℕ
node_turns = 2 ^ 30

-- no more turns are left than before; or one of so many nodes is new in the table, and no more turns came than a node has
abbrev pub Falls : ℕ → List ℕ → List ℕ → ℕ → ℕ → Type 0
Falls count old new before after = (after ≤ before) ⊎ ((i : ℕ) × (i < count) × Absent old i × BeginsWith (old ++ i ∷ []) new × (after ≤ before + node_turns))

-- What is to be written of values, of pairs, of an array and of an object.

abbrev pub values_ahead : Arena → List Stored → List Segment
values_ahead a vs = values_then (values_of a vs) []

abbrev pub pairs_ahead : Arena → List (TextId × Stored) → List Segment
pairs_ahead a ps = pairs_then (pairs_of a ps) []

abbrev pub sorted_ahead : Arena → List (TextId × Stored) → List Segment
sorted_ahead a ps = pairs_then (by_name (pairs_of a ps)) []

abbrev pub array_ahead : Arena → List (TextId × Stored) → List Stored → List Segment
array_ahead a names items = segments_of array (by_name (pairs_of a names)) (values_of a items)

abbrev pub object_ahead : Arena → ℕ → List (TextId × Stored) → List Stored → List Segment
object_ahead a traits members sealed = segments_of (object (traits_at a traits)) (by_name (pairs_of a members)) (values_of a sealed)

-- segments are written up to the next node, with a stack before and behind
abbrev pub LeadsToNext : RootedArena → List Segment → (waiting left : List Unwritten) → Option NodeId → Output → Output → Type 0
LeadsToNext g ps waiting left next old new = Leads (content g) (ps ++ segments_left g.arena waiting) (next_segments next ++ segments_left g.arena left) old new

-- they are written, or wait
abbrev pub LeadsToRest : RootedArena → List Segment → (waiting left : List Unwritten) → Output → Output → Type 0
LeadsToRest g ps waiting left old new = Leads (content g) (ps ++ segments_left g.arena waiting) (segments_left g.arena left) old new

abbrev pub StopsWithin : RootedArena → List Segment → List Unwritten → Output → Lack → Type 0
StopsWithin g ps waiting old lack = Stops (content g) (ps ++ segments_left g.arena waiting) old lack

-- a value is written, or it is the next node, whatever stands behind it
abbrev pub LeadsValue : Graph → Value → Option NodeId → Output → Output → Type 0
LeadsValue g v next old new = (ps : List Segment) → Leads g (value v ∷ ps) (next_segments next ++ ps) old new
