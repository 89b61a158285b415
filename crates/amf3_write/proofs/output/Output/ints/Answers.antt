use Rattle.std.proofs.Common.{◌+◌, ◌*◌, length}
use Rattle.amf3_spelling.specs.ByteSpelling.{number, flag, raw, signed_bytes}
use Rattle.amf3_write.proofs.WroteSegments.{wrote_third}
use Rattle.amf3_write.proofs.output.Output.ints.Goals as goal

pub returns-clause-ok : goal.returns-clause-ok
returns-clause-ok c = wrote_third (number (2 * length c.args.items.now + 1)) (flag c.args.fixed) (raw (signed_bytes c.args.items.now)) c.args.self.now c.vector.new.self c.int_items.new.self c.in_ok-vector.ensures.ok c.in_ok-int_items.ensures.ok
