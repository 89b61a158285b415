use Rattle.std.proofs.Common.{◌≡◌, take}
use Rattle.amf_graph.specs.Grafting.{renamed_values}
use Rattle.amf_graph.specs.Copying.{renaming_of}
use Rattle.amf_graph.specs.Views.{flat}
use Rattle.amf_graph.proofs.copying.Copying.entries.Given as goal

abbrev pub invariant-loop-key : goal.invariant-loop-key
invariant-loop-key l = flat l.copies.items ≡ renamed_values (renaming_of l.self) (flat (take l.key-index l.entries))
