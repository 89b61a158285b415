use Rattle.std.proofs.Common.{ap, ◌∙◌}
use Rattle.amf_io.specs.Field.{whole}
use Rattle.amf_wire_fields.specs.FieldSize.{size_of}
use Rattle.amf_wire_fields.proofs.FieldLoop.{short_number, not_whole}
use Rattle.amf_wire_fields.proofs.field.FieldSize.is_whole.Goals as goal

pub returns-in-Short : goal.returns-in-Short
returns-in-Short c = not_whole (whole (size_of c.args.self) c.args.bytes.now)
    (ap (λ k. whole (size_of k) c.args.bytes.now) c.in-U29.is ∙ short_number c.args.bytes.now c.in-Short.ensures.answer)
