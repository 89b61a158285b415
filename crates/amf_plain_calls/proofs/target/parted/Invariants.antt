use Rattle.std.proofs.Common.{length}
use Rattle.amf_plain_calls.proofs.Dots.{Parts}
use Rattle.amf_plain_calls.proofs.target.parted.Given as goal

abbrev pub invariant-loop-front : goal.invariant-loop-front
invariant-loop-front l = Parts l.front l.bytes

abbrev pub decreases-loop-front : goal.decreases-loop-front
decreases-loop-front l = length l.front
