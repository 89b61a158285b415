-- The head came, or it ended.
use Rattle.std.proofs.Common.{◌∙◌, ◌++◌, ap, subst}
use Rattle.amf_io.specs.Cursor.{source_of, place, bound, unread}
use Rattle.amf_io.specs.LayoutAnswer.{DoneBy}
use Rattle.amf_io.specs.CursorReads.{Ends}
use Rattle.amf_io.specs.Stretch.{between}
use Rattle.flv_meta.specs.FileLayout.{head_layout}
use Rattle.flv_meta.proofs.Answered.{head_ended, head_came, head_passed}
use Rattle.flv_meta.proofs.head.read_head.Goals as goal

pub returns-in_err-append_head-clause-answers : goal.returns-in_err-append_head-clause-answers
returns-in_err-append_head-clause-answers g c =
    let S = g.S.Source in
    let k = c.args.cursor.now in
    let d = c.append_head.new.cursor in
    let e = c.in_err-append_head.field-0.0 in
    head_passed c.args.out.now.items c.args.out.now.items (between S.tells S.left k d) c.from_residual.result e c.from_residual.ensures.1
    (head_ended (S.tells (source_of k).now) c.args.out.now.items c.args.out.now.items (unread S.left k) (unread S.left d) (place k) (place d) (bound k) c.at-start.ensures.within e
    (subst (λ l. Ends S.tells S.left (head_layout l) k d e) c.new-head.ensures.items c.in_err-append_head.ensures.answers))

pub returns-clause-answers : goal.returns-clause-answers
returns-clause-answers g c =
    let S = g.S.Source in
    let k = c.args.cursor.now in
    let d = c.append_head.new.cursor in
    let told = S.tells (source_of k).now in
    let before = c.args.out.now.items in
    let bytes = c.append_head.new.out.items in
    head_came told before c.extend_from_slice.new.self.items bytes (unread S.left k) (unread S.left d) (place k) (place d) (bound k) c.in_ok-append_head.field-0 (c.in_ok-extend_from_slice.ensures.items ∙ ap (λ z. before ++ z) c.as_slice.ensures.value)
    (subst (λ l. DoneBy told (head_layout l) bytes (unread S.left k) (unread S.left d) (place k) (place d) (bound k)) c.new-head.ensures.items c.in_ok-append_head.ensures.answers)
