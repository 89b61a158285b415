use Rattle.std.proofs.Common.{◌≡◌, ◌++◌, take}
use Rattle.amf_graph.specs.Gather.{texts_in}
use Rattle.amf_graph.proofs.uses.push_texts.Given as goal

abbrev pub invariant-loop-value : goal.invariant-loop-value
invariant-loop-value l = l.texts.items ≡ l.fn.texts.items ++ texts_in (take l.value-index l.values)
