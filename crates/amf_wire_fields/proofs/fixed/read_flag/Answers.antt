use Rattle.std.proofs.Common.{Bool, Ok, refl, ap, not, nat_eq}
use Rattle.std.specs.Prelude.{slice_index, ◌==◌}
use Rattle.std.proofs.lemmas.Result.{err_from_is_err_and}
use Rattle.amf_io.specs.Field.{raw_kind}
use Rattle.amf_io.specs.Layout.{give}
use Rattle.amf_io.proofs.CursorReads.{field_ended, field_reads, gives}
use Rattle.amf_wire_fields.proofs.fixed.read_flag.Goals as goal

pub returns-in_err-read_field-clause-answers : goal.returns-in_err-read_field-clause-answers
returns-in_err-read_field-clause-answers g c =
    let p = err_from_is_err_and c.from_residual.result c.from_residual.ensures.1 in
    rw (p.1, p.2) (field_ended g.S.Source.tells g.S.Source.left g.S.Source.faults (raw_kind 1) (λ b. give (not (slice_index b 0 == 0))) c.args.cursor.now c.read_field.new.cursor c.in_err-read_field.field-0.0 c.in_err-read_field.ensures.field)

pub returns-clause-answers : goal.returns-clause-answers
returns-clause-answers g c =
    let d = c.read_field.new.cursor in
    let field = c.in_ok-read_field.field-0 in
    let h = c.in_ok-read_field.ensures in
    let flag = not (nat_eq c.byte.result 0) in
    field_reads g.S.Source.tells g.S.Source.left g.S.Source.faults (λ b. b) (λ (f : Bool). f) (raw_kind 1) (λ b. give (not (slice_index b 0 == 0))) c.args.cursor.now d d field (Ok flag)
    h.goes h.field refl (gives g.S.Source.tells g.S.Source.left g.S.Source.faults (λ (f : Bool). f) d flag (not (slice_index field 0 == 0)) h.placed (ap (λ b. not (b == 0)) c.byte.ensures))
