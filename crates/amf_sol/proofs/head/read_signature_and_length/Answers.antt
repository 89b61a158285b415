use Rattle.std.proofs.Common.{Err, Ok}
use Rattle.std.specs.Int.{from_be_bytes, w32}
use Rattle.amf_io.specs.Field.{u32_kind, no_refusal}
use Rattle.amf_io.specs.Layout.{give}
use Rattle.amf_io.proofs.CursorReads.{field_ended}
use Rattle.amf_wire_fields.proofs.LayoutBinds.{passed_on}
use Rattle.amf_sol.proofs.HeadReads.{length_ended, length_behind, four_read}
use Rattle.amf_sol.proofs.head.read_signature_and_length.Goals as goal

pub returns-in_err-read_exactly-clause-answers : goal.returns-in_err-read_exactly-clause-answers
returns-in_err-read_exactly-clause-answers g c =
    let S = g.S.Source in
    let end = c.in_err-read_exactly.field-0.0 in
    passed_on S.tells S.left S.faults _ _ c.args.cursor.now c.read_exactly.new.cursor c.from_residual.result end c.from_residual.ensures.1
    (length_ended S.tells S.left S.faults c.args.cursor.now c.read_exactly.new.cursor end c.in_err-read_exactly.ensures.answers)

pub returns-in_err-read_field-clause-answers : goal.returns-in_err-read_field-clause-answers
returns-in_err-read_field-clause-answers g c =
    let S = g.S.Source in
    let k = c.args.cursor.now in
    let d = c.read_exactly.new.cursor in
    let e = c.read_field.new.cursor in
    let end = c.in_err-read_field.field-0.0 in
    let r = c.from_residual-in_err-read_field in
    passed_on S.tells S.left S.faults _ _ k e r.result end r.ensures.1
    (length_behind S.tells S.left S.faults k d e (Err end) c.in_ok-read_exactly.ensures.goes c.in_ok-read_exactly.ensures.answers
    (field_ended S.tells S.left S.faults (u32_kind no_refusal) (λ b. give (from_be_bytes w32 b)) d e end c.in_err-read_field.ensures.field))

pub returns-clause-answers : goal.returns-clause-answers
returns-clause-answers g c =
    let S = g.S.Source in
    let d = c.read_exactly.new.cursor in
    let e = c.read_field.new.cursor in
    let h = c.in_ok-read_field.ensures in
    length_behind S.tells S.left S.faults c.args.cursor.now d e (Ok c.four.result) c.in_ok-read_exactly.ensures.goes c.in_ok-read_exactly.ensures.answers
    (four_read S.tells S.left S.faults d e c.in_ok-read_field.field-0 c.four.result h.goes h.field h.placed c.four.ensures)
