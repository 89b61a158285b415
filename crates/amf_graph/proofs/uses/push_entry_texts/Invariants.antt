use Rattle.std.proofs.Common.{◌≡◌, ◌++◌, take}
use Rattle.amf_graph.specs.Gather.{texts_in}
use Rattle.amf_graph.specs.Views.{flat}
use Rattle.amf_graph.proofs.uses.push_entry_texts.Given as goal

abbrev pub invariant-loop-key : goal.invariant-loop-key
invariant-loop-key l = l.texts.items ≡ l.fn.texts.items ++ texts_in (flat (take l.key-index l.entries))
