use Rattle.std.proofs.Common.{Err, subst}
use Rattle.std.proofs.lemmas.Result.{err_from_is_err_and}
use Rattle.amf_io.specs.Cursor.{source_of, place, unread}
use Rattle.amf_graph.specs.Rooted.{RootedArena, content}
use Rattle.amf_commands.specs.Content.{value}
use Rattle.amf_commands.specs.Input.{two}
use Rattle.amf_commands.specs.declared.format.Format.TheVariants.{Amf3}
use Rattle.amf_commands.specs.ReadContent.{IsReadOne, AnswersOne}
use Rattle.amf_commands.specs.Run.{ArePairIn}
use Rattle.amf_commands.proofs.Inputs.{of_value, end_is_read, end_counts, pair_first_ends, pair_second_ends, pair_read, pair_end_ends, end_of_input, left_behind, nothing_left, taken_by, taken_behind, taken_last, read_told, ends_told}
use Rattle.amf_commands.proofs.reading.read_pair.Goals as goal

pub returns-in_err-left-clause-reads : goal.returns-in_err-left-clause-reads
returns-in_err-left-clause-reads g c = λ told.
    let left = g.S.Source.left in
    let y = g.S.Source.tells (source_of c.args.cursor.now).now in
    let old = c.args.cursor.now in
    let new = c.read_one3.new.cursor in
    let e = c.in_err-left.field-0.0 in
    let Q = λ (x : RootedArena × RootedArena). ArePairIn (content x.0) (content x.1) (unread left old) in
    let p = err_from_is_err_and c.from_residual.result c.from_residual.ensures.1 in
    rw (p.1, p.2) (end_of_input two Q Q (unread left old) (unread left new) (left (source_of new).now) e
    (pair_first_ends Q y (unread left old) (unread left new) (place new) e told (subst (λ n. AnswersOne of_value Amf3 y (unread left old) (unread left new) n (place new) (Err e)) c.requires.at_start c.in_err-left.ensures.answers))
    (left_behind g.S.Source.tells left g.S.Source.faults old new e c.in_err-left.ensures.goes))

pub returns-in_err-left-clause-taken : goal.returns-in_err-left-clause-taken
returns-in_err-left-clause-taken g c = λ told. taken_by g.S.Source.tells g.S.Source.left g.S.Source.faults c.args.cursor.now c.read_one3.new.cursor _ c.requires.at_start c.requires.limit c.in_err-left.ensures.goes told

pub returns-in_err-right-clause-reads : goal.returns-in_err-right-clause-reads
returns-in_err-right-clause-reads g c = λ told.
    let left = g.S.Source.left in
    let y = g.S.Source.tells (source_of c.args.cursor.now).now in
    let old = c.args.cursor.now in
    let mid = c.read_one3.new.cursor in
    let new = c.read_one3-2.new.cursor in
    let h = content c.in_ok-left.left in
    let e = c.in_err-right.field-0.0 in
    let Q = λ (x : RootedArena × RootedArena). ArePairIn (content x.0) (content x.1) (unread left old) in
    let first = subst (λ n. IsReadOne Amf3 y (value h) (unread left old) (unread left mid) n (place mid)) c.requires.at_start c.in_ok-left.ensures.answers in
    let second = ends_told Amf3 y (unread left mid) (unread left new) (place mid) (place new) e (λ t. c.in_ok-left.ensures.goes.told t) c.in_err-right.ensures.answers in
    let p = err_from_is_err_and c.from_residual-in_err-right.result c.from_residual-in_err-right.ensures.1 in
    rw (p.1, p.2) (end_of_input two Q Q (unread left old) (unread left new) (left (source_of new).now) e
    (pair_second_ends Q y h (unread left old) (unread left mid) (unread left new) (place mid) (place new) e told first second)
    (left_behind g.S.Source.tells left g.S.Source.faults mid new e c.in_err-right.ensures.goes))

pub returns-in_err-right-clause-taken : goal.returns-in_err-right-clause-taken
returns-in_err-right-clause-taken g c = λ told. taken_behind g.S.Source.tells g.S.Source.left g.S.Source.faults c.args.cursor.now c.read_one3.new.cursor c.read_one3-2.new.cursor _ _ c.requires.at_start c.requires.limit c.in_ok-left.ensures.goes c.in_err-right.ensures.goes told

pub returns-in_err-expect_end-clause-reads : goal.returns-in_err-expect_end-clause-reads
returns-in_err-expect_end-clause-reads g c = λ told.
    let left = g.S.Source.left in
    let y = g.S.Source.tells (source_of c.args.cursor.now).now in
    let old = c.args.cursor.now in
    let mid = c.read_one3.new.cursor in
    let last = c.read_one3-2.new.cursor in
    let new = c.expect_end.new.cursor in
    let h = content c.in_ok-left.left in
    let k = content c.in_ok-right.right in
    let e = c.in_err-expect_end.field-0.0 in
    let Q = λ (x : RootedArena × RootedArena). ArePairIn (content x.0) (content x.1) (unread left old) in
    let more = c.in_ok-left.ensures.goes.told told in
    let first = subst (λ n. IsReadOne Amf3 y (value h) (unread left old) (unread left mid) n (place mid)) c.requires.at_start c.in_ok-left.ensures.answers in
    let second = read_told Amf3 y (value k) (unread left mid) (unread left last) (place mid) (place last) (λ t. c.in_ok-left.ensures.goes.told t) c.in_ok-right.ensures.answers in
    let p = err_from_is_err_and c.from_residual-in_err-expect_end.result c.from_residual-in_err-expect_end.ensures.1 in
    rw (p.1, p.2) (end_of_input two Q Q (unread left old) (unread left new) (left (source_of new).now) e
    (pair_end_ends Q y h k (unread left old) (unread left mid) (unread left last) (unread left new) (place mid) (place last) e told first second (c.in_err-expect_end.ensures.answers (c.in_ok-right.ensures.goes.told more)))
    (left_behind g.S.Source.tells left g.S.Source.faults last new e c.in_err-expect_end.ensures.goes))

pub returns-in_err-expect_end-clause-ends : goal.returns-in_err-expect_end-clause-ends
returns-in_err-expect_end-clause-ends g c =
    let p = err_from_is_err_and c.from_residual-in_err-expect_end.result c.from_residual-in_err-expect_end.ensures.1 in
    rw (p.1, p.2) (end_is_read (RootedArena × RootedArena) c.in_err-expect_end.field-0.0)

pub returns-in_err-expect_end-clause-counts : goal.returns-in_err-expect_end-clause-counts
returns-in_err-expect_end-clause-counts g c =
    let faults = g.S.Source.faults in
    let p = err_from_is_err_and c.from_residual-in_err-expect_end.result c.from_residual-in_err-expect_end.ensures.1 in
    rw (p.1, p.2) (end_counts (RootedArena × RootedArena) c.in_err-expect_end.field-0.0 (faults (source_of c.args.cursor.now).now) (faults (source_of c.read_one3.new.cursor).now) (faults (source_of c.read_one3-2.new.cursor).now) (faults (source_of c.expect_end.new.cursor).now) c.in_ok-left.ensures.goes.cause c.in_ok-right.ensures.goes.cause c.in_err-expect_end.ensures.goes.cause)

pub returns-in_err-expect_end-clause-taken : goal.returns-in_err-expect_end-clause-taken
returns-in_err-expect_end-clause-taken g c = λ told. taken_last g.S.Source.tells g.S.Source.left g.S.Source.faults c.args.cursor.now c.read_one3.new.cursor c.read_one3-2.new.cursor c.expect_end.new.cursor _ _ _ c.requires.at_start c.requires.limit c.in_ok-left.ensures.goes c.in_ok-right.ensures.goes c.in_err-expect_end.ensures.goes told

pub returns-clause-reads : goal.returns-clause-reads
returns-clause-reads g c = λ told.
    let left = g.S.Source.left in
    let y = g.S.Source.tells (source_of c.args.cursor.now).now in
    let old = c.args.cursor.now in
    let mid = c.read_one3.new.cursor in
    let last = c.read_one3-2.new.cursor in
    let h = content c.in_ok-left.left in
    let k = content c.in_ok-right.right in
    let more = c.in_ok-left.ensures.goes.told told in
    let first = subst (λ n. IsReadOne Amf3 y (value h) (unread left old) (unread left mid) n (place mid)) c.requires.at_start c.in_ok-left.ensures.answers in
    let second = read_told Amf3 y (value k) (unread left mid) (unread left last) (place mid) (place last) (λ t. c.in_ok-left.ensures.goes.told t) c.in_ok-right.ensures.answers in
    let end = c.in_ok-expect_end.ensures.answers (c.in_ok-right.ensures.goes.told more) in
    (pair_read y h k (unread left old) (unread left mid) (unread left last) (place mid) (place last) told end.0 first second, nothing_left left c.expect_end.new.cursor end.1)

pub returns-clause-taken : goal.returns-clause-taken
returns-clause-taken g c = λ told. taken_last g.S.Source.tells g.S.Source.left g.S.Source.faults c.args.cursor.now c.read_one3.new.cursor c.read_one3-2.new.cursor c.expect_end.new.cursor _ _ _ c.requires.at_start c.requires.limit c.in_ok-left.ensures.goes c.in_ok-right.ensures.goes c.in_ok-expect_end.ensures.goes told
