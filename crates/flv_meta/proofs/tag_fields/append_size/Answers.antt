-- The size, and what is behind it by its number.
use Rattle.std.proofs.Common.{◌≡◌, ◌++◌, refl, ap, ◌∙◌, subst, length, drop, arith}
use Rattle.amf_io.specs.Field.{raw_kind}
use Rattle.amf_io.specs.CursorReads.{Answers}
use Rattle.amf_io.proofs.CursorReads.{field_reads, field_ended}
use Rattle.flv_meta.specs.File.{number24}
use Rattle.flv_meta.specs.FileLayout.{time_layout}
use Rattle.amf_io.proofs.FieldReads.{passed_on, rejoined}
use Rattle.flv_meta.proofs.tag_fields.append_size.Goals as goal

pub returns-in_err-append_field-clause-answers : goal.returns-in_err-append_field-clause-answers
returns-in_err-append_field-clause-answers g c =
    let S = g.S.Source in
    let end = c.in_err-append_field.field-0.0 in
    passed_on S.tells S.left S.faults _ _ c.args.cursor.now c.append_field.new.cursor c.from_residual.result end c.from_residual.ensures.1
    (field_ended S.tells S.left S.faults (raw_kind 3) (λ s. time_layout (number24 s) (c.args.out.now.items ++ s)) c.args.cursor.now c.append_field.new.cursor end c.in_err-append_field.ensures.field)

pub returns-clause-answers : goal.returns-clause-answers
returns-clause-answers g c =
    let S = g.S.Source in
    let e = c.in_ok-append_field.ensures in
    let front = c.args.out.now.items in
    let mid = c.append_field.new.out.items in
    let r = c.append_time.result in
    let d = c.append_field.new.cursor in
    let k = c.append_time.new.cursor in
    let behind : c.len-before.result ≡ length front = omega arith in
    let view = λ (x : Unit {0}). c.append_time.new.out.items in
    field_reads S.tells S.left S.faults (λ (x : Unit {0}). drop (length front) mid) view (raw_kind 3) (λ s. time_layout (number24 s) (front ++ s)) c.args.cursor.now d k c.in_ok-append_field.field-0 r e.goes e.field refl
    (subst (λ n. Answers S.tells S.left view (time_layout n (front ++ drop (length front) mid)) d k r) (c.last24-size.ensures ∙ ap (λ n. number24 (drop n c.deref.result.now)) behind ∙ ap (λ l. number24 (drop (length front) l)) c.deref.ensures.value)
    (subst (λ l. Answers S.tells S.left view (time_layout c.last24-size.result l) d k r) (rejoined front mid e.begins) c.append_time.ensures.answers))
