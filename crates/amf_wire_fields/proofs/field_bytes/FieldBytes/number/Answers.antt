use Rattle.amf_wire_fields.proofs.FieldNumbers.{not_short}
use Rattle.amf_wire_fields.proofs.field_bytes.FieldBytes.number.Goals as goal

pub unreachable-requires : goal.unreachable-requires
unreachable-requires c = not_short c.as_slice.result.now c.args.self.now c.as_slice.ensures c.requires c.in-Short.ensures.answer
