use Rattle.std.proofs.Common.{take}
use Rattle.amf_text.specs.Scalars.{Digits, AreDigits}
use Rattle.amf_text_write.specs.Tells.{Tells}
use Rattle.amf_text_write.specs.Parts.{each_pattern}
use Rattle.amf_text_write.proofs.layout.Output.each_pattern.Given as goal

abbrev pub invariant-loop-double : goal.invariant-loop-double
invariant-loop-double l = (d : Digits) → AreDigits d → Tells (each_pattern d (take l.double-index l.items)) l.initial.self l.self
