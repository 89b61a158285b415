use Rattle.std.proofs.Common.{◌≡◌, map, take}
use Rattle.amf_text_graphs.proofs.items.patterns.Given as goal

abbrev pub invariant-loop-item : goal.invariant-loop-item
invariant-loop-item l = map (λ p. p.0) l.patterns.items ≡ take l.item-index l.fn.items
