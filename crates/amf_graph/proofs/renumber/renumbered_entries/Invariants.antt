use Rattle.std.proofs.Common.{◌≡◌, take}
use Rattle.amf_graph.specs.Views.{flat}
use Rattle.amf_graph.specs.Renumbered.{renumbered_values, number_in}
use Rattle.amf_graph.proofs.renumber.renumbered_entries.Given as goal

abbrev pub invariant-loop-key : goal.invariant-loop-key
invariant-loop-key l = flat l.copies.items ≡ renumbered_values (number_in l.numbers) (flat (take l.key-index l.entries))
