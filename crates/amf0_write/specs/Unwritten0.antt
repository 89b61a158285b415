-- What a stack of runs stands for. A device of proofs.
use Rattle.std.specs.Prelude.{◌≡◌, ℕ, ◌+◌, ◌^◌, ◌<◌, ◌≤◌, ◌⊎◌, List, [], ◌∷◌, ◌++◌, length, reverse, Option, Some, None}
use Rattle.std.specs.List.{AllByRecursion}
use Rattle.amf_graph.specs.declared.value.NodeId.{NodeId}
use Rattle.amf_graph.specs.declared.value.TextId.{TextId}
use Rattle.amf_graph.specs.declared.value.Value.{Value as Stored}
use Rattle.amf_graph.specs.declared.value.Value.TheVariants.{Node as NodeRef}
use Rattle.amf_graph.specs.ByName.{by_name}
use Rattle.amf_graph.specs.Graph.{leaf, node, array, object, Leaf, Node, Value, Graph}
use Rattle.amf_graph.specs.Arena.{Arena, Names, IsTextId, text_at, traits_at, value_content}
use Rattle.amf_graph.specs.Order.{Absent}
use Rattle.amf_graph.specs.Reached.{IsReachedValue}
use Rattle.amf_graph.specs.Rooted.{RootedArena, content}
use Rattle.amf_iso.specs.Contents.{values_of, pairs_of, ArePairs}
use Rattle.amf0_spelling.specs.Lacks0.{IsShortName}
use Rattle.amf0_write.specs.declared.unwritten.Unwritten.{Unwritten}
use Rattle.amf0_write.specs.declared.unwritten.Unwritten.TheVariants.{One, Values, Made, Pairs, Sorted}
use Rattle.amf0_write.specs.declared.output.Output.{Output}
use Rattle.amf0_write.specs.Writes0.{Segment, name, value, ending, values_then, pairs_then, done_of, Leads, Stops, Opened}

-- the segments of a run
abbrev pub run_segments : Arena → Unwritten → List Segment
run_segments a (One v) = value (value_content a v) ∷ []
run_segments a (Values vs) = values_then (values_of a vs.now)
run_segments a (Made vs) = values_then (values_of a (reverse vs.items))
run_segments a (Pairs ps) = pairs_then (pairs_of a ps.now)
run_segments a (Sorted ps) = pairs_then (pairs_of a (reverse ps.items))

-- the segments of a stack, those of the last run first
abbrev pub segments_left : Arena → List Unwritten → List Segment
segments_left a [] = []
segments_left a (run ∷ runs) = segments_left a runs ++ run_segments a run

-- the segment that a node is, if there is one
abbrev pub next_segments : Option NodeId → List Segment
next_segments None = []
next_segments (Some n) = value (node n.0) ∷ []

-- the value is the graph's, and the root leads to it
pub record IsMetValue (g : RootedArena) (v : Stored) : Type 0 where
  pub names : Names g.arena v
  pub reached : IsReachedValue (content g) (value_content g.arena v)

-- the name is the graph's, and fits its length field
pub record IsMetPair (g : RootedArena) (p : TextId × Stored) : Type 0 where
  pub name : IsTextId g.arena p.0.0
  pub short : IsShortName (text_at g.arena p.0.0)
  pub value : IsMetValue g p.1

-- the same of pairs by content
pub record AreMetPairs (g : RootedArena) (ps : List (TextId × Stored)) : Type 0 where
  pub pairs : ArePairs g.arena ps
  pub short : AllByRecursion (λ p. IsShortName p.0) (pairs_of g.arena ps)
  pub reached : AllByRecursion (λ p. IsReachedValue (content g) p.1) (pairs_of g.arena ps)

-- a node that the root leads to, and that has not been written
abbrev pub IsNextOf : RootedArena → List ℕ → Option NodeId → Type 0
IsNextOf g done None = Unit {0}
IsNextOf g done (Some n) = IsMetValue g (NodeRef n) × Absent done n.0

abbrev pub IsRunOf : RootedArena → Unwritten → Type 0
IsRunOf g (One v) = IsMetValue g v
IsRunOf g (Values vs) = AllByRecursion (IsMetValue g) vs.now
IsRunOf g (Made vs) = AllByRecursion (IsMetValue g) vs.items
IsRunOf g (Pairs ps) = AllByRecursion (IsMetPair g) ps.now
IsRunOf g (Sorted ps) = AllByRecursion (IsMetPair g) ps.items

abbrev pub AreRunsOf : RootedArena → List Unwritten → Type 0
AreRunsOf g runs = AllByRecursion (IsRunOf g) runs

-- how many turns a run takes at most
abbrev pub run_turns : Unwritten → ℕ
run_turns (One v) = 1
run_turns (Values vs) = 1 + length vs.now
run_turns (Made vs) = 1 + length vs.items
run_turns (Pairs ps) = 1 + length ps.now
run_turns (Sorted ps) = 1 + length ps.items

abbrev pub turns_left : List Unwritten → ℕ
turns_left [] = 0
turns_left (run ∷ runs) = run_turns run + turns_left runs

-- what is opened adds no more turns
abbrev pub opened_turns : ℕ
opened_turns = 2 ^ 29

-- and no node takes more
abbrev pub node_turns : ℕ
node_turns = 2 ^ 30

-- no more turns are left than before; or one of so many nodes is new among those written, and no more turns came than a node has
abbrev pub Falls : ℕ → List ℕ → List ℕ → ℕ → ℕ → Type 0
Falls count old new before after =
    ((new ≡ old) × (after ≤ before)) ⊎ ((i : ℕ) × (i < count) × Absent old i × (new ≡ old ++ i ∷ []) × (after ≤ before + node_turns))

-- the turns of a stack fall so from one output to the other
abbrev pub TurnsFall : RootedArena → (waiting left : List Unwritten) → Output → Output → Type 0
TurnsFall g waiting left old new = Falls (length g.arena.nodes) (done_of old) (done_of new) (turns_left waiting) (turns_left left)

-- What is to be written of values and of pairs, and what is opened.

abbrev pub values_ahead : Arena → List Stored → List Segment
values_ahead a vs = values_then (values_of a vs)

abbrev pub pairs_ahead : Arena → List (TextId × Stored) → List Segment
pairs_ahead a ps = pairs_then (pairs_of a ps)

abbrev pub sorted_ahead : Arena → List (TextId × Stored) → List Segment
sorted_ahead a ps = pairs_then (by_name (pairs_of a ps))

abbrev pub array_node : Arena → List (TextId × Stored) → List Stored → Node
array_node a names items = record { head = array; names = pairs_of a names; values = values_of a items }

abbrev pub object_node : Arena → ℕ → List (TextId × Stored) → Node
object_node a traits members = record { head = object (traits_at a traits); names = pairs_of a members; values = [] }

-- pairs were put onto a stack, in by-name order
abbrev pub PutsSorted : Arena → List (TextId × Stored) → (waiting left : List Unwritten) → Type 0
PutsSorted a ps waiting left = segments_left a left ≡ sorted_ahead a ps ++ segments_left a waiting

-- the value is this leaf
abbrev pub IsLeafOf : RootedArena → Stored → Leaf → Type 0
IsLeafOf g v x = value_content g.arena v ≡ leaf x

-- segments are written up to the next node, with a stack before and behind
abbrev pub LeadsToNext : RootedArena → List Segment → (waiting left : List Unwritten) → Option NodeId → Output → Output → Type 0
LeadsToNext g ps waiting left next old new = Leads (content g) (ps ++ segments_left g.arena waiting) (next_segments next ++ segments_left g.arena left) old new

-- a run is so written, or values, or pairs with the end behind them
abbrev pub LeadsRun : RootedArena → Unwritten → (waiting left : List Unwritten) → Option NodeId → Output → Output → Type 0
LeadsRun g run waiting left next old new = LeadsToNext g (run_segments g.arena run) waiting left next old new

abbrev pub LeadsValues : RootedArena → List Stored → (waiting left : List Unwritten) → Option NodeId → Output → Output → Type 0
LeadsValues g vs waiting left next old new = LeadsToNext g (values_ahead g.arena vs) waiting left next old new

abbrev pub LeadsPairs : RootedArena → List (TextId × Stored) → (waiting left : List Unwritten) → Option NodeId → Output → Output → Type 0
LeadsPairs g ps waiting left next old new = LeadsToNext g (pairs_ahead g.arena ps) waiting left next old new

-- they are written, or wait
abbrev pub LeadsToRest : RootedArena → List Segment → (waiting left : List Unwritten) → Output → Output → Type 0
LeadsToRest g ps waiting left old new = Leads (content g) (ps ++ segments_left g.arena waiting) (segments_left g.arena left) old new

-- a node is written up to its first value, and the rest waits
abbrev pub LeadsNode : RootedArena → NodeId → (waiting left : List Unwritten) → Output → Output → Type 0
LeadsNode g n waiting left old new = LeadsToRest g (value (node n.0) ∷ []) waiting left old new

abbrev pub StopsWithin : RootedArena → List Segment → List Unwritten → Output → Type 0
StopsWithin g ps waiting old = Stops (content g) (ps ++ segments_left g.arena waiting) old

abbrev pub OpenedOn : RootedArena → Node → (waiting left : List Unwritten) → Output → Output → Type 0
OpenedOn g n waiting left old new = Opened n (segments_left g.arena waiting) (segments_left g.arena left) old new

-- an array or an object of these parts is opened
abbrev pub OpensArray : RootedArena → List (TextId × Stored) → List Stored → (waiting left : List Unwritten) → Output → Output → Type 0
OpensArray g names items waiting left old new = OpenedOn g (array_node g.arena names items) waiting left old new

abbrev pub OpensObject : RootedArena → ℕ → List (TextId × Stored) → (waiting left : List Unwritten) → Output → Output → Type 0
OpensObject g traits members waiting left old new = OpenedOn g (object_node g.arena traits members) waiting left old new

-- a name is written, or the end of pairs, whatever stands behind it
abbrev pub LeadsName : Graph → List ℕ → Output → Output → Type 0
LeadsName g x old new = (ps : List Segment) → Leads g (name x ∷ ps) ps old new

abbrev pub LeadsEnd : Output → Output → Type 0
LeadsEnd old new = (g : Graph) (ps : List Segment) → Leads g (name [] ∷ ending ∷ ps) ps old new

-- a value is written, or it is the next node, whatever stands behind it
abbrev pub LeadsValue : Graph → Value → Option NodeId → Output → Output → Type 0
LeadsValue g v next old new = (ps : List Segment) → Leads g (value v ∷ ps) (next_segments next ++ ps) old new

-- a node is written by its index, or it is the next node
abbrev pub LeadsNamed : Graph → NodeId → Option NodeId → Output → Output → Type 0
LeadsNamed g n next old new = LeadsValue g (node n.0) next old new

-- a writer of a value stops, whatever stands behind it
abbrev pub StopsAt : Graph → Value → Output → Type 0
StopsAt g v old = (ps : List Segment) → Stops g (value v ∷ ps) old

abbrev pub StopsNamed : Graph → NodeId → Output → Type 0
StopsNamed g n old = StopsAt g (node n.0) old
