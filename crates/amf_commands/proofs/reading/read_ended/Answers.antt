use Rattle.std.proofs.Common.{Err, subst}
use Rattle.std.proofs.lemmas.Result.{err_from_is_err_and}
use Rattle.amf_io.specs.Cursor.{source_of, place, unread}
use Rattle.amf_commands.specs.declared.content.Content.{Content as KeptContent}
use Rattle.amf_commands.specs.Content.{content_of}
use Rattle.amf_commands.specs.Input.{one}
use Rattle.amf_commands.specs.ReadContent.{IsReadOne, AnswersOne}
use Rattle.amf_commands.specs.Run.{IsInputOf}
use Rattle.amf_commands.proofs.Inputs.{whole_ends, whole_read, whole_end_ends, end_of_input, left_behind, nothing_left, taken_by, taken_behind}
use Rattle.amf_commands.proofs.reading.read_ended.Goals as goal

pub returns-in_err-content-clause-reads : goal.returns-in_err-content-clause-reads
returns-in_err-content-clause-reads g c = λ told.
    let f = c.args.from in
    let left = g.S.Source.left in
    let y = g.S.Source.tells (source_of c.args.cursor.now).now in
    let old = c.args.cursor.now in
    let new = c.read_one.new.cursor in
    let e = c.in_err-content.field-0.0 in
    let Q = λ (x : KeptContent). IsInputOf f (content_of x) (unread left old) in
    let p = err_from_is_err_and c.from_residual.result c.from_residual.ensures.1 in
    rw (p.1, p.2) (end_of_input (one f) Q Q (unread left old) (unread left new) (left (source_of new).now) e
    (whole_ends f c.requires.ended Q y (unread left old) (unread left new) (place new) e told (subst (λ n. AnswersOne content_of f y (unread left old) (unread left new) n (place new) (Err e)) c.requires.at_start c.in_err-content.ensures.answers))
    (left_behind g.S.Source.tells left g.S.Source.faults old new e c.in_err-content.ensures.goes))

pub returns-in_err-content-clause-taken : goal.returns-in_err-content-clause-taken
returns-in_err-content-clause-taken g c = λ told. taken_by g.S.Source.tells g.S.Source.left g.S.Source.faults c.args.cursor.now c.read_one.new.cursor _ c.requires.at_start c.requires.limit c.in_err-content.ensures.goes told

pub returns-in_err-expect_end-clause-reads : goal.returns-in_err-expect_end-clause-reads
returns-in_err-expect_end-clause-reads g c = λ told.
    let f = c.args.from in
    let left = g.S.Source.left in
    let y = g.S.Source.tells (source_of c.args.cursor.now).now in
    let old = c.args.cursor.now in
    let mid = c.read_one.new.cursor in
    let new = c.expect_end.new.cursor in
    let h = content_of c.in_ok-content.content in
    let e = c.in_err-expect_end.field-0.0 in
    let Q = λ (x : KeptContent). IsInputOf f (content_of x) (unread left old) in
    let front = subst (λ n. IsReadOne f y h (unread left old) (unread left mid) n (place mid)) c.requires.at_start c.in_ok-content.ensures.answers in
    let p = err_from_is_err_and c.from_residual-in_err-expect_end.result c.from_residual-in_err-expect_end.ensures.1 in
    rw (p.1, p.2) (end_of_input (one f) Q Q (unread left old) (unread left new) (left (source_of new).now) e
    (whole_end_ends f c.requires.ended Q y h (unread left old) (unread left mid) (unread left new) (place mid) e told front (c.in_err-expect_end.ensures.answers (c.in_ok-content.ensures.goes.told told)))
    (left_behind g.S.Source.tells left g.S.Source.faults mid new e c.in_err-expect_end.ensures.goes))

pub returns-in_err-expect_end-clause-taken : goal.returns-in_err-expect_end-clause-taken
returns-in_err-expect_end-clause-taken g c = λ told. taken_behind g.S.Source.tells g.S.Source.left g.S.Source.faults c.args.cursor.now c.read_one.new.cursor c.expect_end.new.cursor _ _ c.requires.at_start c.requires.limit c.in_ok-content.ensures.goes c.in_err-expect_end.ensures.goes told

pub returns-clause-reads : goal.returns-clause-reads
returns-clause-reads g c = λ told.
    let f = c.args.from in
    let left = g.S.Source.left in
    let y = g.S.Source.tells (source_of c.args.cursor.now).now in
    let old = c.args.cursor.now in
    let mid = c.read_one.new.cursor in
    let h = content_of c.in_ok-content.content in
    let front = subst (λ n. IsReadOne f y h (unread left old) (unread left mid) n (place mid)) c.requires.at_start c.in_ok-content.ensures.answers in
    let end = c.in_ok-expect_end.ensures.answers (c.in_ok-content.ensures.goes.told told) in
    (whole_read f c.requires.ended y h (unread left old) (unread left mid) (place mid) told end.0 front, nothing_left left c.expect_end.new.cursor end.1)

pub returns-clause-taken : goal.returns-clause-taken
returns-clause-taken g c = λ told. taken_behind g.S.Source.tells g.S.Source.left g.S.Source.faults c.args.cursor.now c.read_one.new.cursor c.expect_end.new.cursor _ _ c.requires.at_start c.requires.limit c.in_ok-content.ensures.goes c.in_ok-expect_end.ensures.goes told
