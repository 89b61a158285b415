-- The field came, or it is cut.
use Rattle.std.proofs.Common.{refl}
use Rattle.amf_io.specs.Field.{fixed}
use Rattle.rtmp_chunks.proofs.Alone.{alone, field_passed}
use Rattle.rtmp_chunks.proofs.fields.read_field.Goals as goal

pub returns-in_err-append_field-clause-field : goal.returns-in_err-append_field-clause-field
returns-in_err-append_field-clause-field g c =
    let S = g.S.Source in
    field_passed S.tells S.left (λ bytes. bytes.items) (fixed c.args.size) c.args.cursor.now c.append_field.new.cursor c.from_residual.result c.in_err-append_field.field-0.0 c.from_residual.ensures.1 c.in_err-append_field.ensures.field

pub returns-clause-field : goal.returns-clause-field
returns-clause-field g c =
    let S = g.S.Source in
    alone S.tells S.left (λ bytes. bytes.items) (fixed c.args.size) c.new-bytes.result.items c.append_field.new.out.items c.args.cursor.now c.append_field.new.cursor c.in_ok-append_field.field-0 c.append_field.new.out c.new-bytes.ensures.items refl c.in_ok-append_field.ensures.field
