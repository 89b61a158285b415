use Rattle.std.proofs.Common.{◌≡◌, take}
use Rattle.amf_graph.specs.Grafting.{renamed_values}
use Rattle.amf_graph.specs.Copying.{renaming_of}
use Rattle.amf_graph.proofs.copying.Copying.values.Given as goal

abbrev pub invariant-loop-value : goal.invariant-loop-value
invariant-loop-value l = l.copies.items ≡ renamed_values (renaming_of l.self) (take l.value-index l.values)
