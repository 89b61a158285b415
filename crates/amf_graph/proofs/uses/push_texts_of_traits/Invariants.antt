use Rattle.std.proofs.Common.{◌≡◌, ◌++◌, take}
use Rattle.amf_graph.specs.Gather.{texts_of_traits}
use Rattle.amf_graph.proofs.uses.push_texts_of_traits.Given as goal

abbrev pub invariant-loop-place : goal.invariant-loop-place
invariant-loop-place l = l.texts.items ≡ l.fn.texts.items ++ texts_of_traits l.graph.arena (take l.place l.traits.items)
