use Rattle.std.proofs.Common.{◌≡◌, ◌++◌, map, take}
use Rattle.amf_graph.proofs.uses.push_traits_texts.Given as goal

abbrev pub invariant-loop-name : goal.invariant-loop-name
invariant-loop-name l = l.texts.items ≡ l.initial.texts.items ++ map (λ x. x.0) (take l.name-index l.sealed)
