use Rattle.std.proofs.Common.{◌≡◌, map, take}
use Rattle.amf_text_graphs.proofs.nodes.firsts.Given as goal

abbrev pub invariant-loop-pair : goal.invariant-loop-pair
invariant-loop-pair l = l.names.items ≡ map (λ p. p.0) (take l.pair-index l.fn.pairs)
