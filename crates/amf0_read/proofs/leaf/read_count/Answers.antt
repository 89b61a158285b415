use Rattle.std.proofs.Common.{ℕ, Ok, refl}
use Rattle.std.specs.Int.{from_be_bytes, w32}
use Rattle.amf_io.specs.Field.{u32_kind, no_refusal}
use Rattle.amf_io.specs.Layout.{give}
use Rattle.amf_io.proofs.CursorReads.{field_reads, field_ended, gives}
use Rattle.amf_wire_fields.proofs.LayoutBinds.{passed_on}
use Rattle.amf0_read.specs.Leaves0.{count_layout}
use Rattle.amf0_read.proofs.leaf.read_count.Goals as goal

pub returns-in_err-read_field-clause-answers : goal.returns-in_err-read_field-clause-answers
returns-in_err-read_field-clause-answers g c =
    let S = g.S.Source in
    passed_on S.tells S.left S.faults (λ (n : ℕ). n) count_layout c.args.cursor.now c.read_field.new.cursor c.from_residual.result c.in_err-read_field.field-0.0 c.from_residual.ensures.1
    (field_ended S.tells S.left S.faults (u32_kind no_refusal) (λ b. give (from_be_bytes w32 b)) c.args.cursor.now c.read_field.new.cursor c.in_err-read_field.field-0.0 c.in_err-read_field.ensures.field)

pub returns-clause-answers : goal.returns-clause-answers
returns-clause-answers g c =
    let S = g.S.Source in
    let d = c.read_field.new.cursor in
    let field = c.in_ok-read_field.field-0 in
    let h = c.in_ok-read_field.ensures in
    let n : ℕ = c.four.result in
    field_reads S.tells S.left S.faults (λ b. b) (λ (n : ℕ). n) (u32_kind no_refusal) (λ b. give (from_be_bytes w32 b)) c.args.cursor.now d d field (Ok n) h.goes h.field refl
    (gives S.tells S.left S.faults (λ (n : ℕ). n) d n (from_be_bytes w32 field) h.placed c.four.ensures)
