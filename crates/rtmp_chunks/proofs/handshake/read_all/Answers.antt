-- The version, and the blocks behind it.
use Rattle.std.proofs.Common.{◌≡◌, ◌∙◌, sym, ℕ, List, [], ◌∷◌, length, ap, arith, cond, eq-eqb, Ok, Err, Some, None, get_or}
use Rattle.amf_io.specs.declared.reason.Reason.TheVariants.{BadVersion}
use Rattle.amf_io.proofs.CursorReads.{field_reads}
use Rattle.amf_io.proofs.FieldReads.{passed_on}
use Rattle.rtmp_chunks.specs.Chunk.{version_kind}
use Rattle.rtmp_chunks.specs.Machine.{blocks_layout, handshake_layout}
use Rattle.rtmp_chunks.proofs.handshake.read_all.Goals as goal

first_is : (l : List ℕ) (n : ℕ) → length l ≡ 1 → n ≡ get_or l 0 n → n ≡ 3 → get_or l 0 0 ≡ 3
first_is [] n e f g = absurd (omega arith)
first_is (x ∷ l) n e f g = sym f ∙ g

pub returns-in_err-append_blocks-clause-answers : goal.returns-in_err-append_blocks-clause-answers
returns-in_err-append_blocks-clause-answers g c =
    let S = g.S.Source in
    let v = c.in_ok-bytes.bytes in
    let e = first_is v.items c.index.result.now c.in_ok-bytes.ensures.size c.index.ensures c.if-index-ne3.false in
    let end = c.in_err-append_blocks.field-0.0 in
    passed_on S.tells S.left S.faults (λ bytes. bytes.items) handshake_layout c.args.cursor.now c.append_blocks.new.cursor c.from_residual-in_err-append_blocks.result end c.from_residual-in_err-append_blocks.ensures.1
    (field_reads S.tells S.left S.faults (λ bytes. bytes.items) (λ (l : List ℕ). l) version_kind (λ v. blocks_layout v) c.args.cursor.now c.read_field.new.cursor c.append_blocks.new.cursor v (Err end)
    c.in_ok-bytes.ensures.goes c.in_ok-bytes.ensures.field (ap (λ t. cond t None (Some BadVersion)) (eq-eqb (get_or v.items 0 0) 3 e)) c.in_err-append_blocks.ensures.answers)

pub returns-clause-answers : goal.returns-clause-answers
returns-clause-answers g c =
    let S = g.S.Source in
    let v = c.in_ok-bytes.bytes in
    let e = first_is v.items c.index.result.now c.in_ok-bytes.ensures.size c.index.ensures c.if-index-ne3.false in
    field_reads S.tells S.left S.faults (λ bytes. bytes.items) (λ (l : List ℕ). l) version_kind (λ v. blocks_layout v) c.args.cursor.now c.read_field.new.cursor c.append_blocks.new.cursor v (Ok c.append_blocks.new.out.items)
    c.in_ok-bytes.ensures.goes c.in_ok-bytes.ensures.field (ap (λ t. cond t None (Some BadVersion)) (eq-eqb (get_or v.items 0 0) 3 e)) c.in_ok-append_blocks.ensures.answers
