use Rattle.std.proofs.Common.{◌≡◌, take}
use Rattle.amf_graph.specs.Views.{named}
use Rattle.amf_graph.specs.Renumbered.{renumbered_names, number_in}
use Rattle.amf_graph.proofs.renumber.renumbered_pairs.Given as goal

abbrev pub invariant-loop-name : goal.invariant-loop-name
invariant-loop-name l = named l.copies.items ≡ renumbered_names (number_in l.numbers) (named (take l.name-index l.pairs))
