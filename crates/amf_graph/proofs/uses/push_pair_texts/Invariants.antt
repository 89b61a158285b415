use Rattle.std.proofs.Common.{◌≡◌, ◌++◌, take}
use Rattle.amf_graph.specs.Gather.{pair_texts}
use Rattle.amf_graph.specs.Views.{named}
use Rattle.amf_graph.proofs.uses.push_pair_texts.Given as goal

abbrev pub invariant-loop-name : goal.invariant-loop-name
invariant-loop-name l = l.texts.items ≡ l.fn.texts.items ++ pair_texts (named (take l.name-index l.pairs))
