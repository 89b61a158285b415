use Rattle.std.proofs.Common.{◌≡◌, take}
use Rattle.amf_graph.specs.Gather.{placed, with_all}
use Rattle.amf_graph.proofs.number_set.NumberSet.add_all.Given as goal

abbrev pub invariant-loop-item : goal.invariant-loop-item
invariant-loop-item l = l.self ≡ placed l.initial.self.count (with_all (take l.item-index l.items) l.initial.self.items)
