use Rattle.std.proofs.Common.{sym, ◌∙◌}
use Rattle.amf_wire_fields.proofs.LayoutBinds.{passed_on}
use Rattle.amf_sol.proofs.HeadReads.{end_came, end_cut}
use Rattle.amf_sol.proofs.head.read_pair_end.Goals as goal

pub returns-in_err-read_field-clause-answers : goal.returns-in_err-read_field-clause-answers
returns-in_err-read_field-clause-answers g c =
    let S = g.S.Source in
    let end = c.in_err-read_field.field-0.0 in
    passed_on S.tells S.left S.faults _ _ c.args.cursor.now c.read_field.new.cursor c.from_residual.result end c.from_residual.ensures.1
    (end_cut S.tells S.left S.faults c.args.cursor.now c.read_field.new.cursor end c.in_err-read_field.ensures.field)

pub returns-then-byte-eq0-clause-answers : goal.returns-then-byte-eq0-clause-answers
returns-then-byte-eq0-clause-answers g c =
    let S = g.S.Source in
    let h = c.in_ok-read_field.ensures in
    end_came S.tells S.left S.faults c.args.cursor.now c.read_field.new.cursor c.in_ok-read_field.field-0 h.goes h.field h.placed (sym c.byte.ensures ∙ c.if-byte-eq0.true)
