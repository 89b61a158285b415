use Rattle.std.proofs.Common.{◌≡◌, map, take}
use Rattle.amf_text_graphs.specs.Lookups.{AreFirst}
use Rattle.amf_text_graphs.proofs.lookup.Lookup.of.Given as goal

abbrev pub invariant-loop-pair : goal.invariant-loop-pair
invariant-loop-pair l = (l.names ≡ map (λ p. p.0.items) (take l.pair-index l.fn.pairs)) × AreFirst l.names l.places.items
