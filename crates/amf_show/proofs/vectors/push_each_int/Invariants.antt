use Rattle.std.proofs.Common.{◌≡◌, ◌++◌, take, map}
use Rattle.std.specs.Fmt.{signed_decimal}
use Rattle.amf_show.specs.Shown.{joined}
use Rattle.amf_show.proofs.vectors.push_each_int.Given as goal

abbrev pub invariant-loop-place : goal.invariant-loop-place
invariant-loop-place l = l.out.items ≡ l.fn.out.items ++ joined (map signed_decimal (take l.place l.ints))
