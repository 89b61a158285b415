use Rattle.std.proofs.Common.{◌≡◌, ◌++◌, map, take}
use Rattle.amf_iso.proofs.met.push_seconds.Given as goal

abbrev pub invariant-loop-value : goal.invariant-loop-value
invariant-loop-value l = l.values.items ≡ l.fn.values.items ++ map (λ p. p.1) (take l.value-index l.pairs)
