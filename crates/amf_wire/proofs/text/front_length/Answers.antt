-- A word of ASCII is a text, and so is a unit.
use Rattle.std.proofs.Common.{arith}
use Rattle.amf_wire.proofs.TextFront.{ascii_front, byte_front, some_front}
use Rattle.amf_wire.proofs.text.front_length.Goals as goal

pub returns-then-is_ascii-clause-text : goal.returns-then-is_ascii-clause-text
returns-then-is_ascii-clause-text c = ascii_front c.args.bytes.now 8 (omega arith) (omega arith) c.if-is_ascii.ensures.cases

pub returns-then-bytes-lt128-clause-text : goal.returns-then-bytes-lt128-clause-text
returns-then-bytes-lt128-clause-text c = byte_front c.args.bytes.now c.requires c.if-bytes-lt128.true

pub returns-clause-text : goal.returns-clause-text
returns-clause-text c = some_front c.args.bytes.now c.unit_length.result c.unit_length.ensures.unit
