use Rattle.std.proofs.Common.{◌+◌, ◌*◌, length}
use Rattle.amf3_spelling.specs.ByteSpelling.{number, raw}
use Rattle.amf3_write.proofs.WroteSegments.{wrote_two}
use Rattle.amf3_write.proofs.output.Output.counted.Goals as goal

pub returns-clause-ok : goal.returns-clause-ok
returns-clause-ok c = wrote_two (number (2 * length c.args.bytes.now + 1)) (raw c.args.bytes.now) c.args.self.now c.number.new.self c.raw.new.self c.in_ok-number.ensures.ok c.in_ok-raw.ensures.ok
