use Rattle.std.proofs.Common.{Ok, Err, refl}
use Rattle.std.specs.Int.{from_be_bytes, w64}
use Rattle.amf_wire.specs.declared.pattern.Pattern.{Pattern}
use Rattle.amf_io.specs.Field.{raw_kind}
use Rattle.amf_io.specs.Layout.{give, want}
use Rattle.amf_io.proofs.CursorReads.{field_reads, field_ended, gives}
use Rattle.amf_wire_fields.proofs.LayoutBinds.{passed_on}
use Rattle.amf0_read.proofs.leaf.read_time.Goals as goal

pub returns-in_err-read_field-clause-answers : goal.returns-in_err-read_field-clause-answers
returns-in_err-read_field-clause-answers g c =
    let S = g.S.Source in
    passed_on S.tells S.left S.faults _ _ c.args.cursor.now c.read_field.new.cursor c.from_residual.result c.in_err-read_field.field-0.0 c.from_residual.ensures.1
    (field_ended S.tells S.left S.faults (raw_kind 8) (λ b. want (raw_kind 2) (λ zone. give (from_be_bytes w64 b))) c.args.cursor.now c.read_field.new.cursor c.in_err-read_field.field-0.0 c.in_err-read_field.ensures.field)

pub returns-in_err-read_field-2-clause-answers : goal.returns-in_err-read_field-2-clause-answers
returns-in_err-read_field-2-clause-answers g c =
    let S = g.S.Source in
    let d = c.read_field.new.cursor in
    let field = c.in_ok-read_field.field-0 in
    let h = c.in_ok-read_field.ensures in
    let end = c.in_err-read_field-2.field-0.0 in
    passed_on S.tells S.left S.faults (λ (p : Pattern). p.0) _ c.args.cursor.now c.read_field-2.new.cursor c.from_residual-in_err-read_field-2.result end c.from_residual-in_err-read_field-2.ensures.1
    (field_reads S.tells S.left S.faults (λ b. b) (λ (p : Pattern). p.0) (raw_kind 8) (λ b. want (raw_kind 2) (λ zone. give (from_be_bytes w64 b))) c.args.cursor.now d c.read_field-2.new.cursor field (Err end) h.goes h.field refl
    (field_ended S.tells S.left S.faults (raw_kind 2) (λ zone. give (from_be_bytes w64 field)) d c.read_field-2.new.cursor end c.in_err-read_field-2.ensures.field))

pub returns-clause-answers : goal.returns-clause-answers
returns-clause-answers g c =
    let S = g.S.Source in
    let d = c.read_field.new.cursor in
    let e = c.read_field-2.new.cursor in
    let field = c.in_ok-read_field.field-0 in
    let h = c.in_ok-read_field.ensures in
    let k = c.in_ok-read_field-2.ensures in
    let p : Pattern = record { 0 = c.eight-time.result } in
    field_reads S.tells S.left S.faults (λ b. b) (λ (p : Pattern). p.0) (raw_kind 8) (λ b. want (raw_kind 2) (λ zone. give (from_be_bytes w64 b))) c.args.cursor.now d e field (Ok p) h.goes h.field refl
    (field_reads S.tells S.left S.faults (λ b. b) (λ (p : Pattern). p.0) (raw_kind 2) (λ zone. give (from_be_bytes w64 field)) d e e c.in_ok-read_field-2.field-0 (Ok p) k.goes k.field refl
    (gives S.tells S.left S.faults (λ (p : Pattern). p.0) e p (from_be_bytes w64 field) k.placed c.eight-time.ensures))
