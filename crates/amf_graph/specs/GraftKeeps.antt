-- A graft keeps what is true of a builder: what is there is well-formed.
use Rattle.std.specs.List.{AllByRecursion}
use Rattle.std.specs.Prelude.{List, length, ◌<◌, ◌+◌}
use Rattle.amf_graph.specs.Bounds.{weight, IsWithinBounds, count_end, traits_end}
use Rattle.amf_graph.specs.declared.value.Value.{Value as Stored}
use Rattle.amf_graph.specs.Arena.{Arena, IsBuilt, IsFinished, Names}
use Rattle.amf_graph.specs.Grafting.{Grafted}

pub record GraftKeeps (a : Arena) (vs : List Stored) (old new : Arena) (copies : List Stored) : Type 0 where
  pub built : IsBuilt new
  pub names : AllByRecursion (Names new) copies
  -- nothing is counted twice
  pub light : weight new < weight old + weight a
  pub within : IsWithinBounds a → IsWithinBounds old → length new.texts < count_end → length new.traits < traits_end → length new.nodes < count_end → IsWithinBounds new

abbrev pub GraftKeepsLaw : Type 0
GraftKeepsLaw = (a : Arena) (vs : List Stored) (old new : Arena) (copies : List Stored) → IsFinished a → AllByRecursion (Names a) vs → IsBuilt old → Grafted a vs old new copies → GraftKeeps a vs old new copies
