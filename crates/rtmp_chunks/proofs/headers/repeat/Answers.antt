-- The header before, with its delta once more.
use Rattle.std.proofs.Common.{[], refl, Ok}
use Rattle.amf_io.specs.Layout.{give}
use Rattle.amf_io.proofs.CursorReads.{gives, then_reads}
use Rattle.rtmp_chunks.specs.Chunk.{Head, filled}
use Rattle.rtmp_chunks.specs.Machine.{passed}
use Rattle.rtmp_chunks.specs.Table.{head_seen}
use Rattle.rtmp_chunks.proofs.headers.repeat.Goals as goal

pub returns-clause-answers : goal.returns-clause-answers
returns-clause-answers g c =
    let S = g.S.Source in
    let h = c.in_ok-pass_extended.ensures in
    let d = c.pass_extended.new.cursor in
    let y : Head = filled 3 [] 0 (head_seen c.args.before) in
    then_reads S.tells S.left S.faults (λ done. 0) (λ (h : Head). h) (passed c.args.before.extended) (λ u. give y) c.args.cursor.now d d c.in_ok-pass_extended.field-0 (Ok y) h.goes h.answers
    (gives S.tells S.left S.faults (λ (h : Head). h) d y y h.placed refl)
