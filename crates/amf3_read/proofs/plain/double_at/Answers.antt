use Rattle.std.proofs.Common.{refl, arith}
use Rattle.amf3_read.proofs.plain.double_at.Goals as goal

pub returns : goal.returns
returns c = record { eight = refl; bits = c.be64_at.result; fits = omega arith; of_bytes = c.be64_at.ensures; is = refl }
