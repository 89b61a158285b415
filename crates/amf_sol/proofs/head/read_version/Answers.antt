use Rattle.std.proofs.Common.{sym, ◌∙◌}
use Rattle.amf_wire_fields.proofs.LayoutBinds.{passed_on}
use Rattle.amf_sol.proofs.HeadReads.{version_is0, version_is3, version_cut}
use Rattle.amf_sol.proofs.head.read_version.Goals as goal

pub returns-in_err-read_field-clause-answers : goal.returns-in_err-read_field-clause-answers
returns-in_err-read_field-clause-answers g c =
    let S = g.S.Source in
    let end = c.in_err-read_field.field-0.0 in
    passed_on S.tells S.left S.faults _ _ c.args.cursor.now c.read_field.new.cursor c.from_residual.result end c.from_residual.ensures.1
    (version_cut S.tells S.left S.faults c.args.cursor.now c.read_field.new.cursor end c.in_err-read_field.ensures.field)

pub returns-in-0-clause-answers : goal.returns-in-0-clause-answers
returns-in-0-clause-answers g c =
    let S = g.S.Source in
    let h = c.in_ok-read_field.ensures in
    version_is0 S.tells S.left S.faults c.args.cursor.now c.read_field.new.cursor c.in_ok-read_field.field-0 h.goes h.field h.placed (sym c.byte.ensures ∙ c.in-0.is)

pub returns-in-3-clause-answers : goal.returns-in-3-clause-answers
returns-in-3-clause-answers g c =
    let S = g.S.Source in
    let h = c.in_ok-read_field.ensures in
    version_is3 S.tells S.left S.faults c.args.cursor.now c.read_field.new.cursor c.in_ok-read_field.field-0 h.goes h.field h.placed (sym c.byte.ensures ∙ c.in-3.is)
