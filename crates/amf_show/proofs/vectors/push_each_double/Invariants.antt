use Rattle.std.proofs.Common.{◌≡◌, ◌++◌, take, map}
use Rattle.amf_show.specs.Shown.{joined, shown_double}
use Rattle.amf_show.proofs.vectors.push_each_double.Given as goal

abbrev pub invariant-loop-place : goal.invariant-loop-place
invariant-loop-place l = l.out.items ≡ l.fn.out.items ++ joined (map shown_double (map (λ p. p.0) (take l.place l.doubles)))
