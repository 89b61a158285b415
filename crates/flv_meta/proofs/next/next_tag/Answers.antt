-- The input ends, a tag comes, or it ends inside the tag.
use Rattle.std.proofs.Common.{[], sym, subst, Ok, Err, arith}
use Rattle.amf_io.specs.declared.ends.ReadEnd.{ReadEnd}
use Rattle.amf_io.specs.Cursor.{source_of, place, bound, unread}
use Rattle.amf_io.specs.CursorReads.{Answers}
use Rattle.amf_io.specs.Stretch.{between}
use Rattle.flv_meta.specs.FileAnswers.{AnswersTag}
use Rattle.flv_meta.specs.FileLayout.{tag_layout}
use Rattle.flv_meta.proofs.Answered.{tag_came, tag_stored, tag_ended, tag_faulted, tag_passed, looked, goes_on}
use Rattle.flv_meta.proofs.next.next_tag.Goals as goal

pub returns-in_err-is_over-clause-answers : goal.returns-in_err-is_over-clause-answers
returns-in_err-is_over-clause-answers g c =
    let S = g.S.Source in
    let k = c.args.cursor.now in
    let d = c.is_over.new.cursor in
    let s = between S.tells S.left k d in
    tag_passed s c.from_residual.result c.in_err-is_over.field-0.0 c.from_residual.ensures.1
    (subst (λ (y : ReadEnd). AnswersTag s (Err y)) (sym c.in_err-is_over.ensures.err) (tag_faulted (S.tells (source_of k).now) (unread S.left k) (unread S.left d) (place k) (place d) (bound k) c.at-at.ensures.within c.in_err-is_over.ensures.same))

pub returns-in_err-append_tag-clause-answers : goal.returns-in_err-append_tag-clause-answers
returns-in_err-append_tag-clause-answers g c =
    let S = g.S.Source in
    let k = c.args.cursor.now in
    let d = c.is_over.new.cursor in
    let m = c.append_tag.new.cursor in
    let h = c.in_ok-is_over.ensures in
    let over = c.in_ok-is_over.field-0 in
    let e = c.in_err-append_tag.field-0.0 in
    let r = c.from_residual-in_err-append_tag in
    tag_passed (between S.tells S.left k m) r.result e r.ensures.1
    (tag_ended (S.tells (source_of k).now) (unread S.left k) (unread S.left m) (place k) (place m) (bound k) c.at-at.ensures.within (goes_on S.tells S.left S.faults k d over h.goes h.stays h.same c.if-branch.false h.over) e
    (subst (λ l. Answers S.tells S.left (λ (x : Unit {0}). c.append_tag.new.out.items) (tag_layout l) k m (Err e)) c.new-bytes.ensures.items
    (looked S.tells S.left S.faults k d over h.goes h.stays h.same (λ (x : Unit {0}). c.append_tag.new.out.items) (tag_layout c.new-bytes.result.items) m (Err e) c.at-at.ensures.within c.in_err-append_tag.ensures.answers)))

pub returns-clause-answers : goal.returns-clause-answers
returns-clause-answers g c =
    let S = g.S.Source in
    let k = c.args.cursor.now in
    let d = c.is_over.new.cursor in
    let m = c.append_tag.new.cursor in
    let h = c.in_ok-is_over.ensures in
    let over = c.in_ok-is_over.field-0 in
    let x = c.in_ok-append_tag.field-0 in
    let bytes = c.append_tag.new.out.items in
    tag_came (S.tells (source_of k).now) (record { at = c.at-at.result; bytes = c.of_vec.result }) (unread S.left k) (unread S.left m) (place k) (place m) (bound k) c.at-at.ensures.place
    (subst (λ b. Answers S.tells S.left (λ (x : Unit {0}). b) (tag_layout []) k m (Ok x)) (sym c.of_vec.ensures)
    (subst (λ l. Answers S.tells S.left (λ (x : Unit {0}). bytes) (tag_layout l) k m (Ok x)) c.new-bytes.ensures.items
    (looked S.tells S.left S.faults k d over h.goes h.stays h.same (λ (x : Unit {0}). bytes) (tag_layout c.new-bytes.result.items) m (Ok x) c.at-at.ensures.within c.in_ok-append_tag.ensures.answers)))

pub returns-clause-stored : goal.returns-clause-stored
returns-clause-stored g c =
    let S = g.S.Source in
    let k = c.args.cursor.now in
    let m = c.append_tag.new.cursor in
    tag_stored (S.tells (source_of k).now) (record { at = c.at-at.result; bytes = c.of_vec.result }) (unread S.left k) (unread S.left m) (place k) (place m) (bound k) (returns-clause-answers g c) (omega (arith, c.at-end.ensures.place))
