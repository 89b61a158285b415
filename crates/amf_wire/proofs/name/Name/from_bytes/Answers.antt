-- The refusal names the one place where the longest text ends.
use Rattle.std.proofs.Common.{◌≡◌, ◌<◌, subst, length}
use Rattle.amf_wire.specs.Text.{EndsText}
use Rattle.amf_wire.proofs.TextFront.{one_end}
use Rattle.amf_wire.proofs.name.Name.from_bytes.Goals as goal

pub returns-in-Some-clause-bad : goal.returns-in-Some-clause-bad
returns-in-Some-clause-bad c n = (
  λ e. let k : c.in-Some.at ≡ n = cc in subst (λ m. (m < length c.args.bytes.now) × EndsText c.args.bytes.now m) k c.in-Some.ensures.front,
  λ h. let k : c.in-Some.at ≡ n = one_end c.args.bytes.now c.in-Some.at n c.in-Some.ensures.front.1 h.1 in cc,
)
