use Rattle.std.proofs.Common.{sym, inl, inr}
use Rattle.amf_text_read.proofs.HexPairs.{bytes_are, no_bytes}
use Rattle.amf_text_read.proofs.scalars.hex_bytes.Goals as goal

pub returns-in-Ok : goal.returns-in-Ok
returns-in-Ok c = sym (bytes_are c.args.digits.now c.in-Ok.bytes.items c.in-Ok.ensures.ok)

pub returns-in_default : goal.returns-in_default
returns-in_default c = elim c.in-Err.ensures.err [
  | inl e ↦ absurd (c.in_default.not-OutOfMemory e)
  | inr e ↦ sym (no_bytes c.args.digits.now c.in-Err.end e)
]
