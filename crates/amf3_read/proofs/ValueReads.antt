-- An integer that was read.
use Rattle.std.proofs.Common.{ℤ, pos, negsuc, w32, arith}
use mir.Val.{SFits}
use Rattle.amf_wire.specs.Integer.{IsInteger}

-- an integer fits 32 bits
pub integer_fits : (n : ℤ) → IsInteger n → SFits w32 n
integer_fits (pos n) h = omega arith
integer_fits (negsuc n) h = omega arith
