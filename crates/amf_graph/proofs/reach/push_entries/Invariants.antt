use Rattle.std.proofs.Common.{◌≡◌, ◌++◌, take}
use Rattle.amf_graph.specs.Views.{flat}
use Rattle.amf_graph.proofs.reach.push_entries.Given as goal

abbrev pub invariant-loop-key : goal.invariant-loop-key
invariant-loop-key l = l.values.items ≡ l.fn.values.items ++ flat (take l.key-index l.entries)
