-- Where chains of wrappers lead. A device of proofs.
use Rattle.std.specs.Prelude.{◌≡◌, ◌⊎◌, ℕ, ◌<◌, ◌≤◌, false, List, length, slice_get, Some}
use Rattle.std.specs.List.{AllByRecursion}
use Rattle.amf_graph.specs.declared.value.Value.{Value as Stored}
use Rattle.amf_graph.specs.Arena.{Names, value_content}
use Rattle.amf_graph.specs.Graph.{node, node_at}
use Rattle.amf_graph.specs.Rooted.{RootedArena, content}
use Rattle.amf0_spelling.specs.Lowered.{is_wrapper, wraps, unwrapped_times, Low}

-- so many values of the graph, each of which is one for the node of its number
pub record AreFor (g : RootedArena) (IsFor : ℕ → Stored → Type 0) (count : ℕ) (vs : List Stored) : Type 0 where
  pub all : length vs ≡ count
  pub names : AllByRecursion (Names g.arena) vs
  pub each : (i : ℕ) (v : Stored) → slice_get vs i ≡ Some v → IsFor i v

-- the value so many steps on from the node
abbrev pub IsAfter : RootedArena → ℕ → ℕ → Stored → Type 0
IsAfter g steps i v = value_content g.arena v ≡ unwrapped_times (content g) steps (node i)

abbrev pub AreAfter : RootedArena → ℕ → List Stored → Type 0
AreAfter g steps vs = AreFor g (IsAfter g steps) (length g.arena.nodes) vs

-- where the values are those so many steps on from each node, the last one is as many steps on from the first
abbrev pub IsFurther : (vs : List Stored) → (v further : Stored) → Type 0
IsFurther vs v further =
    (g : RootedArena) (steps : ℕ) → AreAfter g steps vs → Names g.arena v
    → value_content g.arena further ≡ unwrapped_times (content g) steps (value_content g.arena v)

-- none of the values is a wrapper
abbrev pub AreUnwrapped : RootedArena → List Stored → Type 0
AreUnwrapped g vs = AllByRecursion (λ v. wraps (content g) (value_content g.arena v) ≡ false) vs

-- so many steps on from each node, where none is a wrapper, or each chain that has not ended is longer than there are nodes
abbrev pub AreChainEnds : RootedArena → List Stored → Type 0
AreChainEnds g vs = (steps : ℕ) × AreAfter g steps vs × ((length g.arena.nodes ≤ steps) ⊎ AreUnwrapped g vs)

-- what the node is in the lowering
abbrev pub IsLowFor : RootedArena → ℕ → Stored → Type 0
IsLowFor g i v = Low (content g) (node i) (value_content g.arena v)

-- where the one value is the end of a node's chain, or as many steps on as there are nodes, the other is what the node is in the lowering
abbrev pub IsLowEnd : RootedArena → (end v : Stored) → Type 0
IsLowEnd g end v =
    (steps i : ℕ) → IsAfter g steps i end → (length g.arena.nodes ≤ steps) ⊎ (wraps (content g) (value_content g.arena end) ≡ false) → IsLowFor g i v

abbrev pub AreLow : RootedArena → List Stored → Type 0
AreLow g vs = AreFor g (IsLowFor g) (length g.arena.nodes) vs

abbrev pub HasNoWrapper : RootedArena → Type 0
HasNoWrapper g = (i : ℕ) → i < length g.arena.nodes → is_wrapper (node_at (content g) i).head ≡ false
