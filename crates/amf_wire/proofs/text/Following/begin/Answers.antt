-- Too few bytes are no rest of a unit.
use Rattle.std.proofs.Common.{arith}
use Rattle.amf_wire.proofs.TextFront.{too_few}
use Rattle.amf_wire.proofs.text.Following.begin.Goals as goal

pub returns-then-bytes-count : goal.returns-then-bytes-count
returns-then-bytes-count c = (λ f. absurd cc, λ h. absurd (too_few c.args.self.count c.args.self.low c.args.self.high c.args.bytes.now (omega arith) h))
