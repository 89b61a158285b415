-- A graph with doubles for integers, members for sealed values, and other values in the place of its nodes (AMF 0, 2.2, 2.5, 2.18).
use Rattle.std.specs.Prelude.{◌≡◌, ℕ, true, List, [], ◌++◌, map, slice_get, get_or, Some, Result, OnOk}
use Rattle.std.specs.List.{AllZip, zip}
use Rattle.amf_wire.specs.Whole.{IsPatternOf}
use Rattle.amf_graph.specs.declared.value.Value.{Value as Stored}
use Rattle.amf_graph.specs.declared.value.Value.TheVariants.{Integer, Double, Node as NodeRef}
use Rattle.amf_graph.specs.Graph.{IsPattern}
use Rattle.amf_graph.specs.Arena.{StoredTraits, no_traits, StoredHead, object, StoredNode}
use Rattle.amf_graph.specs.Rooted.{RootedArena}

-- what stands for a value, where each node has its stand-in by its number
abbrev pub StandsFor : List Stored → Stored → Stored → Type 0
StandsFor ins (Integer n) w = (p : ℕ) × IsPatternOf p n × IsPattern p × (w ≡ Double (record { 0 = p }))
StandsFor ins (NodeRef n) w = slice_get ins n.0 ≡ Some w
StandsFor ins v w = w ≡ v

abbrev pub PairStandsFor : List Stored → ℕ × Stored → ℕ × Stored → Type 0
PairStandsFor ins p q = (q.0 ≡ p.0) × StandsFor ins p.1 q.1

-- where the copies stood for some values, they stand for these too behind them, unless memory runs out
abbrev pub StandBehind : {X E : Type 0} → List Stored → (old new values : List Stored) → Result X E → Type 0
StandBehind ins old new values result = (before : List Stored) → AllZip (StandsFor ins) before old → OnOk result (AllZip (StandsFor ins) (before ++ values) new)

abbrev pub PairsStandBehind : {X E : Type 0} → List Stored → (old new pairs : List (ℕ × Stored)) → Result X E → Type 0
PairsStandBehind ins old new pairs result = (before : List (ℕ × Stored)) → AllZip (PairStandsFor ins) before old → OnOk result (AllZip (PairStandsFor ins) (before ++ pairs) new)

-- a class that takes further members, and has no sealed ones
abbrev pub opened_traits : StoredTraits → StoredTraits
opened_traits t = record { class = t.class; dynamic = true; sealed = [] }

abbrev pub sealed_of : List StoredTraits → StoredHead → List ℕ
sealed_of ts (object t) = (get_or ts t no_traits).sealed
sealed_of ts _ = []

abbrev pub unsealed_of : StoredHead → List Stored → List Stored
unsealed_of (object t) vs = []
unsealed_of _ vs = vs

-- an object's sealed pairs stand before its members
pub record NodeStandsFor (ts : List StoredTraits) (ins : List Stored) (old new : StoredNode) : Type 0 where
  pub is_open : new.is_open ≡ old.is_open
  pub head : new.head ≡ old.head
  pub names : AllZip (PairStandsFor ins) (zip (sealed_of ts old.head) old.values ++ old.names) new.names
  pub values : AllZip (StandsFor ins) (unsealed_of old.head old.values) new.values

-- node by node and number by number, with the texts as they were and every class opened
pub record GraphStandsFor (ins : List Stored) (old new : RootedArena) : Type 0 where
  pub root : StandsFor ins old.root new.root
  pub texts : new.arena.texts ≡ old.arena.texts
  pub traits : new.arena.traits ≡ map opened_traits old.arena.traits
  pub nodes : AllZip (NodeStandsFor old.arena.traits ins) old.arena.nodes new.arena.nodes
