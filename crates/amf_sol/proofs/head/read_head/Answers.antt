use Rattle.amf_wire_fields.proofs.LayoutBinds.{passed_on}
use Rattle.amf_sol.proofs.HeadReads.{signature_ended, name_ended, padding_ended, version_ended, head_read}
use Rattle.amf_sol.proofs.head.read_head.Goals as goal

pub returns-in_err-read_exactly-clause-answers : goal.returns-in_err-read_exactly-clause-answers
returns-in_err-read_exactly-clause-answers g c =
    let S = g.S.Source in
    let end = c.in_err-read_exactly.field-0.0 in
    passed_on S.tells S.left S.faults _ _ c.args.cursor.now c.read_exactly.new.cursor c.from_residual.result end c.from_residual.ensures.1
    (signature_ended S.tells S.left S.faults c.args.cursor.now c.read_exactly.new.cursor end c.in_err-read_exactly.ensures.answers)

pub returns-in_err-name-clause-answers : goal.returns-in_err-name-clause-answers
returns-in_err-name-clause-answers g c =
    let S = g.S.Source in
    let end = c.in_err-name.field-0.0 in
    let r = c.from_residual-in_err-name in
    let s = c.in_ok-read_exactly.ensures in
    passed_on S.tells S.left S.faults _ _ c.args.cursor.now c.read_name.new.cursor r.result end r.ensures.1
    (name_ended S.tells S.left S.faults c.args.cursor.now c.read_exactly.new.cursor s.goes s.answers c.read_name.new.cursor end c.in_err-name.ensures.answers)

pub returns-in_err-read_exactly-2-clause-answers : goal.returns-in_err-read_exactly-2-clause-answers
returns-in_err-read_exactly-2-clause-answers g c =
    let S = g.S.Source in
    let end = c.in_err-read_exactly-2.field-0.0 in
    let r = c.from_residual-in_err-read_exactly-2 in
    let s = c.in_ok-read_exactly.ensures in
    let n = c.in_ok-name.ensures in
    passed_on S.tells S.left S.faults _ _ c.args.cursor.now c.read_exactly-2.new.cursor r.result end r.ensures.1
    (padding_ended S.tells S.left S.faults c.args.cursor.now c.read_exactly.new.cursor s.goes s.answers c.in_ok-name.name c.read_name.new.cursor n.goes n.answers c.read_exactly-2.new.cursor end c.in_err-read_exactly-2.ensures.answers)

pub returns-in_err-version-clause-answers : goal.returns-in_err-version-clause-answers
returns-in_err-version-clause-answers g c =
    let S = g.S.Source in
    let end = c.in_err-version.field-0.0 in
    let r = c.from_residual-in_err-version in
    let s = c.in_ok-read_exactly.ensures in
    let n = c.in_ok-name.ensures in
    let p = c.in_ok-read_exactly-2.ensures in
    passed_on S.tells S.left S.faults _ _ c.args.cursor.now c.read_version.new.cursor r.result end r.ensures.1
    (version_ended S.tells S.left S.faults c.args.cursor.now c.read_exactly.new.cursor s.goes s.answers c.in_ok-name.name c.read_name.new.cursor n.goes n.answers c.read_exactly-2.new.cursor p.goes p.answers c.read_version.new.cursor end c.in_err-version.ensures.answers)

pub returns-clause-answers : goal.returns-clause-answers
returns-clause-answers g c =
    let S = g.S.Source in
    let s = c.in_ok-read_exactly.ensures in
    let n = c.in_ok-name.ensures in
    let p = c.in_ok-read_exactly-2.ensures in
    let v = c.in_ok-version.ensures in
    head_read S.tells S.left S.faults c.args.cursor.now c.read_exactly.new.cursor s.goes s.answers c.in_ok-name.name c.read_name.new.cursor n.goes n.answers c.read_exactly-2.new.cursor p.goes p.answers c.read_version.new.cursor c.in_ok-version.version v.goes v.answers v.placed
