use Rattle.std.proofs.Common.{List, ℕ, Ok, Err, sym, ◌∙◌, subst}
use Rattle.amf_io.specs.Field.{text_kind}
use Rattle.amf_io.specs.Layout.{give}
use Rattle.amf_io.specs.CursorReads.{Answers, Ends}
use Rattle.amf3_layout_laws.specs.Layout3Words.{chunk}
use Rattle.amf_wire_fields.proofs.LayoutBinds.{passed_on}
use Rattle.amf_sol.specs.FileReading.{name_layout}
use Rattle.amf_sol.proofs.HeadReads.{name_reads, name_cut}
use Rattle.amf_sol.proofs.head.read_name.Goals as goal

pub returns-in_err-read_field-clause-answers : goal.returns-in_err-read_field-clause-answers
returns-in_err-read_field-clause-answers g c =
    let S = g.S.Source in
    let end = c.in_err-read_field.field-0.0 in
    passed_on S.tells S.left S.faults _ _ c.args.cursor.now c.read_field.new.cursor c.from_residual.result end c.from_residual.ensures.1
    (name_cut S.tells S.left S.faults c.args.cursor.now c.read_field.new.cursor end c.in_err-read_field.ensures.field)

pub returns-in_err-bytes-clause-answers : goal.returns-in_err-bytes-clause-answers
returns-in_err-bytes-clause-answers g c =
    let S = g.S.Source in
    let k = c.args.cursor.now in
    let d = c.read_field.new.cursor in
    let e = c.read_contents.new.cursor in
    let h = c.in_ok-read_field.ensures in
    let end = c.in_err-bytes.field-0.0 in
    let r = c.from_residual-in_err-bytes in
    passed_on S.tells S.left S.faults _ _ k e r.result end r.ensures.1
    (name_reads S.tells S.left S.faults k d e c.in_ok-read_field.field-0 (Err end) h.goes h.field (subst (λ n. Ends S.tells S.left (chunk text_kind n (λ y. give y)) d e end) c.two-size.ensures c.in_err-bytes.ensures.answers))

pub returns-clause-answers : goal.returns-clause-answers
returns-clause-answers g c =
    let S = g.S.Source in
    let k = c.args.cursor.now in
    let d = c.read_field.new.cursor in
    let e = c.read_contents.new.cursor in
    let h = c.in_ok-read_field.ensures in
    let x = c.in_ok-bytes.bytes.items in
    subst (λ (y : List ℕ). Answers S.tells S.left (λ (z : List ℕ). z) name_layout k e (Ok y)) (sym (c.in_ok-of_bytes.ensures ∙ c.deref.ensures.value))
    (name_reads S.tells S.left S.faults k d e c.in_ok-read_field.field-0 (Ok x) h.goes h.field (subst (λ n. Answers S.tells S.left (λ (y : List ℕ). y) (chunk text_kind n (λ y. give y)) d e (Ok x)) c.two-size.ensures c.in_ok-bytes.ensures.answers))
