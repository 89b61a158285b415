use Rattle.std.proofs.Common.{◌≡◌, ◌++◌, map, take}
use Rattle.amf_graph.specs.Views.{named}
use Rattle.amf_graph.proofs.reach.push_seconds.Given as goal

abbrev pub invariant-loop-value : goal.invariant-loop-value
invariant-loop-value l = l.values.items ≡ l.fn.values.items ++ map (λ p. p.1) (named (take l.value-index l.pairs))
