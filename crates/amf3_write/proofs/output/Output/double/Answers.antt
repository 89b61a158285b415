use Rattle.std.proofs.Common.{subst}
use Rattle.std.specs.Int.{to_be_bytes, w64}
use Rattle.amf3_spelling.specs.ByteSpelling.{byte, raw}
use Rattle.amf3_write.specs.Writes.{WritesStep}
use Rattle.amf3_write.proofs.WroteSegments.{wrote_two}
use Rattle.amf3_write.proofs.output.Output.double.Goals as goal

pub returns-clause-ok : goal.returns-clause-ok
returns-clause-ok c =
    wrote_two (byte 5) (raw (to_be_bytes w64 c.args.double.0)) c.args.self.now c.marker.new.self c.raw.new.self c.in_ok-marker.ensures.ok
    (subst (λ x. WritesStep (raw x) c.marker.new.self c.raw.new.self) c.to_be_bytes.ensures c.in_ok-raw.ensures.ok)
