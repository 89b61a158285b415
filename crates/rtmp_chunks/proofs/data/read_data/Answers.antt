-- The data of a chunk came, are cut off, or are refused.
use Rattle.std.proofs.Common.{ap, ◌∙◌, ◌≡◌, ◌++◌, length, drop, true, false, arith, eqb, ◌-◌, ◌+◌, ◌≤◌}
use Rattle.std.proofs.lemmas.List.{length-drop}
use Rattle.amf_io.proofs.FieldReads.{rejoined}
use Rattle.rtmp_chunks.specs.Chunk.{lesser}
use Rattle.rtmp_chunks.specs.Table.{Met, head_seen, part_seen, met}
use Rattle.rtmp_chunks.proofs.ChunkData.{count_fits, data_test, data_ended, data_refused, data_came}
use Rattle.rtmp_chunks.proofs.data.read_data.Goals as goal

pub returns-in_err-append_field-clause-answers : goal.returns-in_err-append_field-clause-answers
returns-in_err-append_field-clause-answers g c =
    let S = g.S.Source in
    let p = c.args.part in
    data_ended S.tells S.left S.faults part_seen c.args.size c.share-count.result (head_seen p.head) p.bytes.items (c.share-count.ensures ∙ ap (λ k. lesser c.args.size (p.head.size - k)) (c.len.ensures ∙ p.bytes.ok.0)) c.args.cursor.now c.append_field.new.cursor (omega arith)
    c.from_residual.result c.in_err-append_field.field-0.0 c.from_residual.ensures.1 c.in_err-append_field.ensures.field

pub returns-then-is_bad_data-clause-answers : goal.returns-then-is_bad_data-clause-answers
returns-then-is_bad_data-clause-answers g c =
    let S = g.S.Source in
    let p = c.args.part in
    let e = c.in_ok-append_field.ensures in
    let came = p.bytes.items in
    let now = c.append_field.new.out.items in
    let piece = drop (length came) now in
    let n = c.share-count.result in
    let count : n ≡ lesser c.args.size (p.head.size - length came) = c.share-count.ensures ∙ ap (λ k. lesser c.args.size (p.head.size - k)) (c.len.ensures ∙ p.bytes.ok.0) in
    let fits : length came + n ≤ p.head.size = count_fits n c.args.size p.head.size (length came) count p.short in
    let grown = e.grown in
    let many = length-drop (length came) now in
    data_refused S.tells S.left S.faults part_seen c.args.size n (head_seen p.head) came count c.args.cursor.now c.append_field.new.cursor (omega arith) (λ (x : Unit {0}). piece) c.in_ok-append_field.field-0 e.field
    c.at-start.result c.refused.result
    (data_test (head_seen p.head) came piece c.deref.result.now n c.is_empty-first.result c.is_bad_data.result true p.head.four (omega (arith, fits, grown, many)) (c.deref.ensures.value ∙ rejoined came now e.begins) (c.is_empty-first.ensures ∙ ap (λ k. eqb k 0) p.bytes.ok.0) c.is_bad_data.ensures c.if-is_bad_data.true)
    c.at-start.ensures.place c.refused.ensures

pub returns-clause-answers : goal.returns-clause-answers
returns-clause-answers g c =
    let S = g.S.Source in
    let p = c.args.part in
    let e = c.in_ok-append_field.ensures in
    let came = p.bytes.items in
    let now = c.append_field.new.out.items in
    let piece = drop (length came) now in
    let n = c.share-count.result in
    let count : n ≡ lesser c.args.size (p.head.size - length came) = c.share-count.ensures ∙ ap (λ k. lesser c.args.size (p.head.size - k)) (c.len.ensures ∙ p.bytes.ok.0) in
    let fits : length came + n ≤ p.head.size = count_fits n c.args.size p.head.size (length came) count p.short in
    let grown = e.grown in
    let many = length-drop (length came) now in
    let whole : now ≡ came ++ piece = rejoined came now e.begins in
    data_came S.tells S.left S.faults (λ (m : Met). m) c.args.size n (head_seen p.head) came count c.args.cursor.now c.append_field.new.cursor (omega arith) (λ (x : Unit {0}). piece) c.in_ok-append_field.field-0 e.field
    e.goes
    (data_test (head_seen p.head) came piece c.deref.result.now n c.is_empty-first.result c.is_bad_data.result false p.head.four (omega (arith, fits, grown, many)) (c.deref.ensures.value ∙ whole) (c.is_empty-first.ensures ∙ ap (λ k. eqb k 0) p.bytes.ok.0) c.is_bad_data.ensures c.if-is_bad_data.false)
    e.placed (met (head_seen p.head) now) (ap (λ l. met (head_seen p.head) l) whole)
