use Rattle.std.proofs.Common.{suc, reverse, ap, ◌∙◌, arith}
use Rattle.amf0_spelling.specs.TableParts0.{shown_tables}
use Rattle.amf_wire_fields.specs.Room.{left_of}
use Rattle.amf0_read.specs.Beginnings0.{form_of}
use Rattle.amf0_read.specs.Frames0.{owed}
use Rattle.amf0_read.proofs.Stack0.{ready_twice}
use Rattle.amf0_read.proofs.ReadAnswers0.{passed, ended, whole_ended, whole_answered, whole_raised}
use Rattle.amf0_read.proofs.value.read0.Goals as goal

pub returns-in_err-frames-clause-answers : goal.returns-in_err-frames-clause-answers
returns-in_err-frames-clause-answers g c =
    let S = g.S.Source in
    let a = c.args.builder.now in let t = shown_tables c.args.tables.now in let k = c.args.cursor.now in
    let n = suc (left_of k) in
    let b = c.read_beginning.new.builder in let u = shown_tables c.read_beginning.new.tables in let d = c.read_beginning.new.cursor in
    let end = c.in_err-frames.field-0.0 in
    passed S.tells S.left S.faults a b t u c.is_built.ensures.built c.requires.tables k d c.from_residual.result end c.from_residual.ensures.1
    (ended S.tells S.left S.faults a b t u c.is_built.ensures.built c.requires.tables k d c.at-start.ensures.within n (omega arith) end (c.in_err-frames.ensures.leads n (omega arith)))

pub returns-in_err-value-clause-answers : goal.returns-in_err-value-clause-answers
returns-in_err-value-clause-answers g c =
    let S = g.S.Source in
    let a = c.args.builder.now in let t = shown_tables c.args.tables.now in let k = c.args.cursor.now in
    let n = suc (left_of k) in
    let b1 = c.read_beginning.new.builder in let u1 = shown_tables c.read_beginning.new.tables in let m = c.read_beginning.new.cursor in
    let b = c.read_on.new.builder in let u = shown_tables c.read_on.new.tables in let d = c.read_on.new.cursor in
    let e = c.in_ok-frames.ensures in
    let x = c.in_ok-frames.field-0 in
    let y = e.leads n (omega arith) in
    let end = c.in_err-value.field-0.0 in
    let r = c.from_residual-in_err-value in
    passed S.tells S.left S.faults a b t u c.is_built.ensures.built c.requires.tables k d r.result end r.ensures.1
    (whole_ended S.tells S.left S.faults a b t u c.is_built.ensures.built c.requires.tables k d b1 u1 x x.is_call x.now (reverse x.frames.items) m n e.goes y
    c.at-start.ensures.within (omega arith) end (c.in_err-value.ensures.answers y.fuel y.fuels y.enough y.fueled))

pub returns-clause-answers : goal.returns-clause-answers
returns-clause-answers g c =
    let S = g.S.Source in
    let a = c.args.builder.now in let t = shown_tables c.args.tables.now in let k = c.args.cursor.now in
    let n = suc (left_of k) in
    let b1 = c.read_beginning.new.builder in let u1 = shown_tables c.read_beginning.new.tables in let m = c.read_beginning.new.cursor in
    let b = c.read_on.new.builder in let u = shown_tables c.read_on.new.tables in let d = c.read_on.new.cursor in
    let e = c.in_ok-frames.ensures in
    let x = c.in_ok-frames.field-0 in
    let y = e.leads n (omega arith) in
    whole_answered S.tells S.left S.faults a b t u c.is_built.ensures.built c.requires.tables k d b1 u1 x x.is_call x.now (reverse x.frames.items) m n e.goes y
    c.in_ok-value.value (c.in_ok-value.ensures.answers y.fuel y.fuels y.enough y.fueled) c.form_of-form.result (c.form_of-form.ensures ∙ ap (form_of x.is_call) c.has_switched.ensures)

pub returns-clause-raises : goal.returns-clause-raises
returns-clause-raises g c =
    let S = g.S.Source in
    let a = c.args.builder.now in let t = shown_tables c.args.tables.now in let k = c.args.cursor.now in
    let n = suc (left_of k) in
    let b1 = c.read_beginning.new.builder in let u1 = shown_tables c.read_beginning.new.tables in let m = c.read_beginning.new.cursor in
    let b = c.read_on.new.builder in let u = shown_tables c.read_on.new.tables in let d = c.read_on.new.cursor in
    let e = c.in_ok-frames.ensures in
    let x = c.in_ok-frames.field-0 in
    let y = e.leads n (omega arith) in
    whole_raised S.tells S.left S.faults a b t u c.is_built.ensures.built c.requires.tables k d b1 u1 x x.is_call x.now (reverse x.frames.items) m n e.goes y
    c.in_ok-value.value (c.in_ok-value.ensures.answers y.fuel y.fuels y.enough y.fueled) c.at-start.ensures.within (c.in_ok-value.ensures.goes.same_bound ∙ e.goes.same_bound)
    (ready_twice 0 (owed x.now) 0 a b1 b u1 u k m d e.still_ready c.in_ok-value.ensures.still_ready)
