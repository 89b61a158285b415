use Rattle.std.proofs.Common.{◌+◌, ◌*◌}
use Rattle.amf3_spelling.specs.ByteSpelling.{number, flag}
use Rattle.amf3_write.proofs.WroteSegments.{wrote_two}
use Rattle.amf3_write.proofs.output.Output.vector.Goals as goal

pub returns-clause-ok : goal.returns-clause-ok
returns-clause-ok c = wrote_two (number (2 * c.args.count + 1)) (flag c.args.fixed) c.args.self.now c.number.new.self c.flag.new.self c.in_ok-number.ensures.ok c.in_ok-flag.ensures.ok
