use Rattle.std.proofs.Common.{◌≡◌, take}
use Rattle.amf_graph.specs.Renumbered.{renumbered_values, number_in}
use Rattle.amf_graph.proofs.renumber.renumbered_values.Given as goal

abbrev pub invariant-loop-value : goal.invariant-loop-value
invariant-loop-value l = l.copies.items ≡ renumbered_values (number_in l.numbers) (take l.value-index l.values)
