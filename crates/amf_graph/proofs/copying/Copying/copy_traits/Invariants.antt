use Rattle.std.proofs.Common.{◌≡◌, map, take}
use Rattle.amf_graph.specs.Copying.{renaming_of}
use Rattle.amf_graph.proofs.copying.Copying.copy_traits.Given as goal

abbrev pub invariant-loop-name : goal.invariant-loop-name
invariant-loop-name l = map (λ x. x.0) l.sealed.items ≡ map (renaming_of l.self).texts (map (λ x. x.0) (take l.name-index l.names))
