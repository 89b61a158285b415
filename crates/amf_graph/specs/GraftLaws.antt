-- A graft stands to the values that were copied as isomorphic, in every finished graph that completes the builder.
use Rattle.std.specs.Prelude.{◌≡◌, ℕ, ◌<◌, ◌≤◌, List, length, map, slice_get, Some}
use Rattle.std.specs.List.{AllByRecursion}
use Rattle.amf_graph.specs.declared.value.Value.{Value as Stored}
use Rattle.amf_graph.specs.Graph.{Graph, Value}
use Rattle.amf_graph.specs.Isomorphic.{Isomorphic, StandIn}
use Rattle.amf_graph.specs.Arena.{Arena, IsBuilt, IsFinished, Names, Completes, graph_of, value_content}
use Rattle.amf_graph.specs.Roots.{SameFrom, ReachedFrom, rooted_at}
use Rattle.amf_graph.specs.Grafting.{Grafted}

-- the pairing of a graft: each reached node with a new one, and each new node with a reached one
pub record GraftPairs (g h : Graph) (vs ws : List Value) (from to : ℕ) : Type 0 where
  pub same : SameFrom g h vs ws
  pub reached : (i j : ℕ) → StandIn same.pairs i j → ReachedFrom g vs i
  pub new : (i j : ℕ) → StandIn same.pairs i j → (from ≤ j) × (j < to)
  pub all : (j : ℕ) → from ≤ j → j < to → (i : ℕ) × StandIn same.pairs i j

abbrev pub GraftLaw : Type 0
GraftLaw =
    (a : Arena) (vs : List Stored) (old new : Arena) (copies : List Stored) →
    IsFinished a → AllByRecursion (Names a) vs → IsBuilt old → Grafted a vs old new copies →
    (h : Arena) → Completes new h → (v w : Stored) →
    GraftPairs (graph_of a v) (graph_of h w) (map (value_content a) vs) (map (value_content h) copies) (length old.nodes) (length new.nodes)

-- so each copy alone is the root of a graph that is isomorphic to the one below the value
abbrev pub EachRootLaw : Type 0
EachRootLaw = (g h : Graph) (vs ws : List Value) → SameFrom g h vs ws → (k : ℕ) (v w : Value) → slice_get vs k ≡ Some v → slice_get ws k ≡ Some w → Isomorphic (rooted_at g v) (rooted_at h w)

pub record GraftLaws : Type 0 where
  pub graft : GraftLaw
  pub each_root : EachRootLaw
