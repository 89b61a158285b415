-- The head, and then the tags.
use Rattle.std.proofs.Common.{◌≤◌, Ok, Err, sym, ◌∙◌, subst}
use Rattle.std.proofs.lemmas.Result.{err_from_is_err_and}
use Rattle.amf_io.specs.Cursor.{source_of, place, unread}
use Rattle.amf_io.specs.Stretch.{between, stretch}
use Rattle.flv_meta.specs.FileAnswers.{AnswersHead}
use Rattle.amf_media.specs.Ends.{end_of}
use Rattle.amf_media.specs.FlvSteps.{FileCopies, CopiesTags, ended, work_of}
use Rattle.amf_media.specs.Written.{CountsPuts}
use Rattle.amf_media.proofs.FlvTags.{copied_end}
use Rattle.amf_media.proofs.FlvFiles.{head_ends, head_came, head_unput, file_copied}
use Rattle.amf_media.proofs.FlvMoves.{moves_of, moves_on, moves_unput}
use Rattle.amf_media.proofs.flv_file.copy_file.Goals as goal

pub returns-in_err-read_head-clause-copies : goal.returns-in_err-read_head-clause-copies
returns-in_err-read_head-clause-copies g c = λ value st y.
    let S = g.S.Source in
    let O = g.O.Sink in
    let k = c.args.cursor.now in
    let m = c.read_head.new.cursor in
    let told = S.tells (source_of k).now in
    let held = O.held c.args.out.now in
    let e = c.in_err-read_head.field-0.0 in
    let p = err_from_is_err_and c.from_residual.result c.from_residual.ensures.1 in
    let a = subst (λ n. AnswersHead c.new-head.result.items c.read_head.new.out.items (stretch told (unread S.left k) (unread S.left m) (place k) (place m) n) (Err e)) c.requires.limit c.in_err-read_head.ensures.answers in
    rw (p.1, p.2) (subst (λ l. FileCopies (work_of c.args.job value) (place k) (unread S.left k) (unread S.left m) (O.tells c.args.out.now) held held l (end_of e)) (sym c.requires.none)
    (head_ends (work_of c.args.job value) told y (O.tells c.args.out.now) c.new-head.result.items c.read_head.new.out.items (unread S.left k) (unread S.left m) (place k) (place m) held e (subst (λ n. place k ≤ n) c.requires.limit c.at-start.ensures.within) a))

pub returns-in_err-put_head-clause-moves : goal.returns-in_err-put_head-clause-moves
returns-in_err-put_head-clause-moves g c =
    let S = g.S.Source in
    let p = err_from_is_err_and c.from_residual-in_err-put_head.result c.from_residual-in_err-put_head.ensures.1 in
    rw (p.1, p.2) (moves_unput S.tells S.left S.faults c.args.cursor.now c.read_head.new.cursor c.in_err-put_head.field-0.0 (moves_of S.tells S.left S.faults c.args.cursor.now c.read_head.new.cursor c.in_ok-read_head.field-0 c.in_ok-read_head.ensures.goes) c.in_err-put_head.ensures.ends)

pub returns-in_err-put_head-clause-copies : goal.returns-in_err-put_head-clause-copies
returns-in_err-put_head-clause-copies g c = λ value st y.
    let S = g.S.Source in
    let O = g.O.Sink in
    let k = c.args.cursor.now in
    let m = c.read_head.new.cursor in
    let told = S.tells (source_of k).now in
    let new = c.put_head.new in
    let p = err_from_is_err_and c.from_residual-in_err-put_head.result c.from_residual-in_err-put_head.ensures.1 in
    let a = subst (λ n. AnswersHead c.new-head.result.items c.read_head.new.out.items (stretch told (unread S.left k) (unread S.left m) (place k) (place m) n) (Ok c.in_ok-read_head.field-0)) c.requires.limit c.in_ok-read_head.ensures.answers in
    rw (p.1, p.2) (head_unput c.args.job value c.args.start.now st c.new-head.result.items c.read_head.new.out.items c.deref.result.now told y (unread S.left k) (unread S.left m) (place k) (place m) (O.tells new.out) (O.held c.args.out.now) (O.held new.out) c.args.waiting.now.items new.waiting.items c.in_err-put_head.field-0.0 a
    c.new-head.ensures.items c.deref.ensures.value c.requires.none c.in_err-put_head.ensures.ends c.in_err-put_head.ensures.puts)

pub returns-clause-moves : goal.returns-clause-moves
returns-clause-moves g c =
    let S = g.S.Source in
    moves_on S.tells S.left S.faults c.args.cursor.now c.read_head.new.cursor c.copy_tags.new.cursor (ended c.copy_tags.result) (moves_of S.tells S.left S.faults c.args.cursor.now c.read_head.new.cursor c.in_ok-read_head.field-0 c.in_ok-read_head.ensures.goes) c.copy_tags.ensures.moves

pub returns-clause-copies : goal.returns-clause-copies
returns-clause-copies g c = λ value st y.
    let S = g.S.Source in
    let O = g.O.Sink in
    let k = c.args.cursor.now in
    let m = c.read_head.new.cursor in
    let n = c.copy_tags.new.cursor in
    let told = S.tells (source_of k).now in
    let mid = c.put_head.new in
    let new = c.copy_tags.new in
    let goes = c.in_ok-read_head.ensures.goes in
    let h = c.in_ok-put_head.ensures in
    let a = subst (λ b. AnswersHead c.new-head.result.items c.read_head.new.out.items (stretch told (unread S.left k) (unread S.left m) (place k) (place m) b) (Ok c.in_ok-read_head.field-0)) c.requires.limit c.in_ok-read_head.ensures.answers in
    let came = head_came c.args.job c.args.start.now c.new-head.result.items c.read_head.new.out.items c.deref.result.now told y (unread S.left k) (unread S.left m) (place k) (place m) _ (O.tells mid.out) (O.held c.args.out.now) (O.held mid.out) c.args.waiting.now.items mid.waiting.items c.in_ok-put_head.field-0 a
    c.new-head.ensures.items c.deref.ensures.value c.requires.none h.puts in
    file_copied c.args.job value c.args.start.now st (place k) (place m) (unread S.left k) (unread S.left m) (unread S.left n) (S.tells (source_of m).now) (goes.told y) (O.tells new.out) (O.tells mid.out) c.copy_tags.ensures.tells (O.held c.args.out.now) (O.held mid.out) (O.held new.out) mid.waiting.items new.waiting.items (place n) a.read.1.0 came c.copy_tags.result
    (subst (λ b. CopiesTags c.args.job (stretch (S.tells (source_of m).now) (unread S.left m) (unread S.left n) (place m) (place n) b) (O.tells new.out) (O.held mid.out) (O.held new.out) mid.waiting.items new.waiting.items c.copy_tags.result) (goes.same_bound ∙ c.requires.limit) c.copy_tags.ensures.copies)

pub returns-clause-ends : goal.returns-clause-ends
returns-clause-ends g c =
    let S = g.S.Source in
    let O = g.O.Sink in
    copied_end c.args.job (between S.tells S.left c.read_head.new.cursor c.copy_tags.new.cursor) (O.tells c.copy_tags.new.out) (O.held c.put_head.new.out) (O.held c.copy_tags.new.out) c.put_head.new.waiting.items c.copy_tags.new.waiting.items c.copy_tags.result c.copy_tags.ensures.copies

pub returns-clause-counts : goal.returns-clause-counts
returns-clause-counts g c =
    let O = g.O.Sink in
    subst (λ n. CountsPuts n (O.faults c.copy_tags.new.out) c.copy_tags.result) c.in_ok-put_head.ensures.counts c.copy_tags.ensures.counts
