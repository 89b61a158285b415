-- A header came with its stamp, or it ends before.
use Rattle.std.proofs.Common.{ℕ, sym, ap, ◌∙◌, cond, Some, None, Bool, ◌≡◌, List, ◌==◌, ◌&&◌, not, nat_lt, true, false}
use Rattle.amf_io.specs.declared.reason.Reason.TheVariants.{BadChunk}
use Rattle.rtmp_chunks.specs.Chunk.{type_in, length_in, stamp_in, filled}
use Rattle.rtmp_chunks.specs.Table.{head_seen}
use Rattle.rtmp_chunks.proofs.Heads.{header_ended, header_refused, stamp_ended, stamp_came}
use Rattle.rtmp_chunks.proofs.headers.read_header.Goals as goal

-- what is refused of a header that is one
test : (format : ℕ) (now items : List ℕ) (r b : Bool) → now ≡ items → r ≡ (nat_lt format 2 && (type_in now == 1) && not (length_in now == 4)) → r ≡ b
    → cond (nat_lt format 2 && (type_in items == 1) && not (length_in items == 4)) (Some BadChunk) None ≡ cond b (Some BadChunk) None
test format now items r b e h t = ap (λ x. cond x (Some BadChunk) None) (ap (λ l. nat_lt format 2 && (type_in l == 1) && not (length_in l == 4)) (sym e) ∙ sym h ∙ t)

pub returns-in_err-header-clause-answers : goal.returns-in_err-header-clause-answers
returns-in_err-header-clause-answers g c =
    let S = g.S.Source in
    header_ended S.tells S.left S.faults head_seen c.args.format c.size_in.result (head_seen c.args.before) c.requires c.size_in.ensures.size c.args.cursor.now c.read_field.new.cursor c.from_residual.result c.in_err-header.field-0.0 c.from_residual.ensures.1 c.in_err-header.ensures.field

pub returns-then-is_bad-clause-answers : goal.returns-then-is_bad-clause-answers
returns-then-is_bad-clause-answers g c =
    let S = g.S.Source in
    header_refused S.tells S.left S.faults head_seen c.args.format c.size_in.result (head_seen c.args.before) c.requires c.size_in.ensures.size c.args.cursor.now c.read_field.new.cursor (λ bytes. bytes.items) c.in_ok-header.header c.in_ok-header.ensures.field
    c.at-start.result c.refused.result (test c.args.format c.deref.result.now c.in_ok-header.header.items c.is_bad.result true c.deref.ensures.value c.is_bad.ensures c.if-is_bad.true) c.at-start.ensures.place c.refused.ensures

pub returns-in_err-stamp-clause-answers : goal.returns-in_err-stamp-clause-answers
returns-in_err-stamp-clause-answers g c =
    let S = g.S.Source in
    stamp_ended S.tells S.left S.faults head_seen c.args.format c.size_in.result (head_seen c.args.before) c.requires c.size_in.ensures.size c.args.cursor.now c.read_field.new.cursor (λ bytes. bytes.items) c.in_ok-header.header c.in_ok-header.ensures.field
    c.in_ok-header.ensures.goes (test c.args.format c.deref.result.now c.in_ok-header.header.items c.is_bad.result false c.deref.ensures.value c.is_bad.ensures c.if-is_bad.false) c.read_stamp.new.cursor
    c.three_at.result (c.three_at.ensures.number ∙ ap stamp_in c.deref-2.ensures.value) c.from_residual-in_err-stamp.result c.in_err-stamp.field-0.0 c.from_residual-in_err-stamp.ensures.1 c.in_err-stamp.ensures.answers

pub returns-clause-answers : goal.returns-clause-answers
returns-clause-answers g c =
    let S = g.S.Source in
    let h = c.in_ok-stamp.ensures in
    stamp_came S.tells S.left S.faults head_seen c.args.format c.size_in.result (head_seen c.args.before) c.requires c.size_in.ensures.size c.args.cursor.now c.read_field.new.cursor (λ bytes. bytes.items) c.in_ok-header.header c.in_ok-header.ensures.field
    c.in_ok-header.ensures.goes (test c.args.format c.deref.result.now c.in_ok-header.header.items c.is_bad.result false c.deref.ensures.value c.is_bad.ensures c.if-is_bad.false) c.read_stamp.new.cursor
    c.three_at.result c.in_ok-stamp.stamp (c.three_at.ensures.number ∙ ap stamp_in c.deref-2.ensures.value) h.goes h.answers h.placed
    c.fill.result (c.fill.ensures ∙ ap (λ l. filled c.args.format l c.in_ok-stamp.stamp (head_seen c.args.before)) c.deref-3.ensures.value)
