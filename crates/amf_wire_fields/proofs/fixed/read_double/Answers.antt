use Rattle.std.proofs.Common.{Ok, refl}
use Rattle.std.specs.Int.{from_be_bytes, w64}
use Rattle.std.proofs.lemmas.Result.{err_from_is_err_and}
use Rattle.amf_wire.specs.declared.pattern.Pattern.{Pattern}
use Rattle.amf_io.specs.Field.{raw_kind}
use Rattle.amf_io.specs.Layout.{give}
use Rattle.amf_io.proofs.CursorReads.{field_ended, field_reads, gives}
use Rattle.amf_wire_fields.proofs.fixed.read_double.Goals as goal

pub returns-in_err-field-clause-answers : goal.returns-in_err-field-clause-answers
returns-in_err-field-clause-answers g c =
    let p = err_from_is_err_and c.from_residual.result c.from_residual.ensures.1 in
    rw (p.1, p.2) (field_ended g.S.Source.tells g.S.Source.left g.S.Source.faults (raw_kind 8) (λ b. give (from_be_bytes w64 b)) c.args.cursor.now c.read_field.new.cursor c.in_err-field.field-0.0 c.in_err-field.ensures.field)

pub returns-clause-answers : goal.returns-clause-answers
returns-clause-answers g c =
    let p : Pattern = record { 0 = c.eight.result } in
    let d = c.read_field.new.cursor in
    field_reads g.S.Source.tells g.S.Source.left g.S.Source.faults (λ b. b) (λ (q : Pattern). q.0) (raw_kind 8) (λ b. give (from_be_bytes w64 b)) c.args.cursor.now d d c.in_ok-field.field (Ok p)
    c.in_ok-field.ensures.goes c.in_ok-field.ensures.field refl (gives g.S.Source.tells g.S.Source.left g.S.Source.faults (λ (q : Pattern). q.0) d p (from_be_bytes w64 c.in_ok-field.field) c.in_ok-field.ensures.placed c.eight.ensures)
