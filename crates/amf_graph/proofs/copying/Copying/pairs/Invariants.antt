use Rattle.std.proofs.Common.{◌≡◌, take}
use Rattle.amf_graph.specs.Grafting.{renamed_names}
use Rattle.amf_graph.specs.Copying.{renaming_of}
use Rattle.amf_graph.specs.Views.{named}
use Rattle.amf_graph.proofs.copying.Copying.pairs.Given as goal

abbrev pub invariant-loop-name : goal.invariant-loop-name
invariant-loop-name l = named l.copies.items ≡ renamed_names (renaming_of l.self) (named (take l.name-index l.pairs))
