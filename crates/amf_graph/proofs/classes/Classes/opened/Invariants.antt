use Rattle.std.proofs.Common.{◌≡◌, map, take}
use Rattle.amf_graph.specs.StandIns.{opened_traits}
use Rattle.amf_graph.proofs.classes.Classes.opened.Given as goal

abbrev pub invariant-loop-place : goal.invariant-loop-place
invariant-loop-place l = l.opened ≡ map opened_traits (take l.place l.self)
