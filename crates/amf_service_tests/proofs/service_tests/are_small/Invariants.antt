use Rattle.std.proofs.Common.{take}
use Rattle.std.specs.List.{AllByRecursion}
use Rattle.amf_graph.specs.Arena.{Names}
use Rattle.amf_graph.specs.Building.{no_arena}
use Rattle.amf_service_tests.proofs.service_tests.are_small.Given as goal

abbrev pub invariant-loop-item : goal.invariant-loop-item
invariant-loop-item l = AllByRecursion (Names no_arena) (take l.item-index l.items)
