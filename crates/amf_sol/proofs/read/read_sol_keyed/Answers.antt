use Rattle.std.proofs.Common.{◌+◌, ◌≤◌, sym, subst, arith}
use Rattle.amf_io.specs.Cursor.{place}
use Rattle.amf_io.specs.Stretch.{between}
use Rattle.amf_graph.specs.Bounds.{weight}
use Rattle.amf_sol.specs.FileAnswer.{IsFileTaken}
use Rattle.amf_sol.specs.StoredFile.{StoredFile}
use Rattle.amf_sol.proofs.FileAnswers.{length_sized, file_passed, length_end, rest_end, pairs_end, file_came, file_weighs, file_taken, file_other, name_text, name_short}
use Rattle.amf_sol.proofs.Unheld.{file_holder}
use Rattle.amf_sol.proofs.read.read_sol_keyed.Goals as goal

pub returns-in_err-length-clause-answers : goal.returns-in_err-length-clause-answers
returns-in_err-length-clause-answers g c =
    let S = g.S.Source in
    let end = c.in_err-length.field-0.0 in
    file_passed S.tells S.left c.args.cursor.now c.read_signature_and_length.new.cursor c.from_residual.result end c.from_residual.ensures.1
    (length_end S.tells S.left S.faults c.args.cursor.now c.read_signature_and_length.new.cursor c.at-start.ensures.within end c.in_err-length.ensures.answers)

pub returns-in_err-head-clause-answers : goal.returns-in_err-head-clause-answers
returns-in_err-head-clause-answers g c =
    let S = g.S.Source in
    let l = c.in_ok-length.ensures in
    let end = c.in_err-head.field-0.0 in
    let r = c.from_residual-in_err-head in
    file_passed S.tells S.left c.args.cursor.now c.read_head.new.cursor r.result end r.ensures.1
    (rest_end S.tells S.left S.faults c.args.cursor.now c.in_ok-length.length c.read_signature_and_length.new.cursor l.goes l.answers c.read_head.new.cursor c.at-start.ensures.within end c.in_err-head.ensures.answers)

pub returns-in_err-holder-clause-answers : goal.returns-in_err-holder-clause-answers
returns-in_err-holder-clause-answers g c =
    let S = g.S.Source in
    let l = c.in_ok-length.ensures in
    let h = c.in_ok-head.ensures in
    let end = c.in_err-holder.field-0.0 in
    let r = c.from_residual-in_err-holder in
    file_passed S.tells S.left c.args.cursor.now c.read_holder.new.cursor r.result end r.ensures.1
    (pairs_end S.tells S.left S.faults c.args.cursor.now c.in_ok-length.length c.read_signature_and_length.new.cursor l.goes l.answers c.in_ok-head.head c.read_head.new.cursor h.goes h.answers c.read_holder.new.cursor c.at-start.ensures.within end c.in_err-holder.ensures.answers)

pub read_holder-requires-clause-room : goal.read_holder-requires-clause-room
read_holder-requires-clause-room g c =
    let l = c.in_ok-length.ensures in
    let h = c.in_ok-head.ensures in
    let six = (length_sized l.answers.fields c.in_ok-length.length l.answers.runs).six in
    let p = l.answers.taken in
    let q = h.answers.taken in
    let w = h.placed.within in
    let x = l.goes.same_bound in
    let y = h.goes.same_bound in
    let room = c.requires.room in
    omega arith

pub overflow_sub-at : goal.overflow_sub-at
overflow_sub-at g c =
    let S = g.S.Source in
    let l = c.in_ok-length.ensures in
    let h = c.in_ok-head.ensures in
    let came = file_came S.tells S.left S.faults c.args.cursor.now c.in_ok-length.length c.read_signature_and_length.new.cursor l.goes l.answers c.in_ok-head.head c.read_head.new.cursor h.goes h.answers c.in_ok-holder.holder c.read_holder.new.cursor c.in_ok-holder.ensures.answers in
    let t = came.taken in
    omega arith

pub overflow_add-start : goal.overflow_add-start
overflow_add-start g c =
    let S = g.S.Source in
    let l = c.in_ok-length.ensures in
    let h = c.in_ok-head.ensures in
    let came = file_came S.tells S.left S.faults c.args.cursor.now c.in_ok-length.length c.read_signature_and_length.new.cursor l.goes l.answers c.in_ok-head.head c.read_head.new.cursor h.goes h.answers c.in_ok-holder.holder c.read_holder.new.cursor c.in_ok-holder.ensures.answers in
    let t = came.taken in
    let six = came.six in
    omega arith

pub returns-then-length-at-clause-answers : goal.returns-then-length-at-clause-answers
returns-then-length-at-clause-answers g c =
    let S = g.S.Source in
    let l = c.in_ok-length.ensures in
    let h = c.in_ok-head.ensures in
    let k = c.args.cursor.now in
    let e = c.read_holder.new.cursor in
    let came = file_came S.tells S.left S.faults k c.in_ok-length.length c.read_signature_and_length.new.cursor l.goes l.answers c.in_ok-head.head c.read_head.new.cursor h.goes h.answers c.in_ok-holder.holder e c.in_ok-holder.ensures.answers in
    file_other _ c.in_ok-length.length (between S.tells S.left k e) c.at-start.result c.refused.result came (λ same. let start = c.at-start.ensures.place in let stop = c.at.ensures.place in let other = c.if-length-at.true in omega arith) c.at-start.ensures.place c.refused.ensures

pub of_parts-requires : goal.of_parts-requires
of_parts-requires g c =
    let S = g.S.Source in
    let l = c.in_ok-length.ensures in
    let h = c.in_ok-head.ensures in
    let k = c.args.cursor.now in
    let d = c.read_signature_and_length.new.cursor in
    let x = c.in_ok-head.head in
    let f = c.read_head.new.cursor in
    let came = file_came S.tells S.left S.faults k c.in_ok-length.length d l.goes l.answers x f h.goes h.answers c.in_ok-holder.holder c.read_holder.new.cursor c.in_ok-holder.ensures.answers in
    record {
      text = name_text S.tells S.left S.faults k c.in_ok-length.length d l.goes l.answers x f h.goes h.answers;
      short = name_short S.tells S.left S.faults k c.in_ok-length.length d l.goes l.answers x f h.goes h.answers;
      holder = file_holder _ came.fields came.spelled;
    }

pub returns-clause-answers : goal.returns-clause-answers
returns-clause-answers g c =
    let S = g.S.Source in
    let l = c.in_ok-length.ensures in
    let h = c.in_ok-head.ensures in
    let k = c.args.cursor.now in
    let e = c.read_holder.new.cursor in
    let came = file_came S.tells S.left S.faults k c.in_ok-length.length c.read_signature_and_length.new.cursor l.goes l.answers c.in_ok-head.head c.read_head.new.cursor h.goes h.answers c.in_ok-holder.holder e c.in_ok-holder.ensures.answers in
    let start = c.at-start.ensures.place in
    let stop = c.at.ensures.place in
    subst (λ (o : StoredFile). IsFileTaken o (between S.tells S.left k e)) (sym c.of_parts.ensures) (file_taken _ c.in_ok-length.length (between S.tells S.left k e) came (let same = c.if-length-at.false in omega arith))

pub returns-clause-weighs : goal.returns-clause-weighs
returns-clause-weighs g c =
    let S = g.S.Source in
    let l = c.in_ok-length.ensures in
    let h = c.in_ok-head.ensures in
    let k = c.args.cursor.now in
    let e = c.read_holder.new.cursor in
    let weighs = file_weighs S.tells S.left S.faults k c.in_ok-length.length c.read_signature_and_length.new.cursor l.goes l.answers c.in_ok-head.head c.read_head.new.cursor h.goes h.answers c.in_ok-holder.holder e c.in_ok-holder.ensures.answers in
    subst (λ (o : StoredFile). place k + weight o.holder.arena ≤ place e) (sym c.of_parts.ensures) weighs
