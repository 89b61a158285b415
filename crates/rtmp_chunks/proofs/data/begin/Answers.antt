-- A header came, and data behind it.
use Rattle.std.proofs.Common.{subst}
use Rattle.rtmp_chunks.specs.Table.{head_seen, part_seen, begun, taken_by}
use Rattle.std.proofs.Common.{[]}
use Rattle.amf_io.specs.Layout.{bind}
use Rattle.amf_io.specs.CursorReads.{Answers}
use Rattle.amf_io.proofs.CursorReads.{then_reads, end_reads}
use Rattle.amf_io.proofs.FieldReads.{passed_on}
use Rattle.rtmp_chunks.proofs.data.begin.Goals as goal

pub returns-in_err-head-clause-answers : goal.returns-in_err-head-clause-answers
returns-in_err-head-clause-answers g c =
    let S = g.S.Source in
    let b = begun c.args.format (head_seen c.args.before) in
    passed_on S.tells S.left S.faults part_seen (bind b (λ h. taken_by c.args.size h [])) c.args.cursor.now c.read_head.new.cursor c.from_residual.result c.in_err-head.field-0.0 c.from_residual.ensures.1
    (end_reads S.tells S.left S.faults b (λ h. taken_by c.args.size h []) c.args.cursor.now c.read_head.new.cursor c.in_err-head.field-0.0 c.in_err-head.ensures.answers)

pub returns-clause-answers : goal.returns-clause-answers
returns-clause-answers g c =
    let S = g.S.Source in
    let h = c.in_ok-head.ensures in
    then_reads S.tells S.left S.faults head_seen part_seen (begun c.args.format (head_seen c.args.before)) (λ h. taken_by c.args.size h []) c.args.cursor.now c.read_head.new.cursor c.read_data.new.cursor c.in_ok-head.head c.read_data.result h.goes h.answers
    (subst (λ l. Answers S.tells S.left part_seen (taken_by c.args.size (head_seen c.in_ok-head.head) l) c.read_head.new.cursor c.read_data.new.cursor c.read_data.result) c.new-bytes.ensures.items c.read_data.ensures.answers)
