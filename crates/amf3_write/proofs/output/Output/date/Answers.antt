use Rattle.std.proofs.Common.{subst}
use Rattle.std.specs.Int.{to_be_bytes, w64}
use Rattle.amf3_spelling.specs.ByteSpelling.{unused, raw}
use Rattle.amf3_write.specs.Writes.{WritesStep}
use Rattle.amf3_write.proofs.WroteSegments.{wrote_two, wrote_unused}
use Rattle.amf3_write.proofs.output.Output.date.Goals as goal

pub returns-clause-ok : goal.returns-clause-ok
returns-clause-ok c =
    wrote_two unused (raw (to_be_bytes w64 c.args.milliseconds.0)) c.args.self.now c.number.new.self c.raw.new.self (wrote_unused c.args.self.now c.number.new.self c.in_ok-number.ensures.ok)
    (subst (λ x. WritesStep (raw x) c.number.new.self c.raw.new.self) c.to_be_bytes.ensures c.in_ok-raw.ensures.ok)
