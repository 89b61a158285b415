-- What is written is the shortest spelling, by one to four bytes.
use Rattle.std.proofs.Common.{arith}
use Rattle.amf_wire.proofs.Digits.{one_written, two_written, three_written, four_written}
use Rattle.amf_wire.proofs.u29_bytes.write_u29.Goals as goal
use Rattle.amf_wire.proofs.u29_bytes.write_u29.Goals.{then-n-lt128, else-n-lt128+then-n-lt16384, else-n-lt128+else-n-lt16384+then-n-lt2097152, else-n-lt128+else-n-lt16384+else-n-lt2097152}

pub returns : goal.returns
returns c = elim c.if-n-lt128.branch [
  | then-n-lt128 w ↦ one_written _ _ _ c.get-n.ensures.value (omega arith) w.result-is
  | else-n-lt128+then-n-lt16384 w ↦ two_written _ _ _ _ _ c.get-n.ensures.value (omega arith) (omega arith) w.more.ensures w.last.ensures w.result-is
  | else-n-lt128+else-n-lt16384+then-n-lt2097152 w ↦ three_written _ _ _ _ _ _ c.get-n.ensures.value (omega arith) (omega arith) w.more-then-n-lt2097152.ensures w.more-then-n-lt2097152-2.ensures w.last-then-n-lt2097152.ensures w.result-is
  | else-n-lt128+else-n-lt16384+else-n-lt2097152 w ↦ four_written _ _ _ _ _ _ c.get-n.ensures.value (omega arith) (omega arith) w.more-else-n-lt2097152.ensures w.more-else-n-lt2097152-2.ensures w.more-else-n-lt2097152-3.ensures w.result-is
]
