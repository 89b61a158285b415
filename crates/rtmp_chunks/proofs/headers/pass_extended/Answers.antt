-- The extended field stands, and was passed.
use Rattle.std.proofs.Common.{ℕ, sym, subst, refl, Ok}
use Rattle.amf_io.specs.Layout.{give}
use Rattle.amf_io.specs.CursorReads.{Answers}
use Rattle.amf_io.proofs.CursorReads.{gives, field_reads}
use Rattle.rtmp_chunks.specs.Chunk.{extended_kind}
use Rattle.rtmp_chunks.specs.Machine.{passed}
use Rattle.rtmp_chunks.proofs.headers.pass_extended.Goals as goal

pub returns-in_ok-_passed-clause-answers : goal.returns-in_ok-_passed-clause-answers
returns-in_ok-_passed-clause-answers g c =
    let S = g.S.Source in
    let h = c.in_ok-_passed.ensures in
    subst (λ b. Answers {X = ℕ} S.tells S.left (λ k. k) (passed b) c.args.cursor.now c.read_field.new.cursor (Ok 0)) (sym c.if-there.true)
    (field_reads S.tells S.left S.faults (λ bytes. bytes.items) (λ (k : ℕ). k) extended_kind (λ b. give 0) c.args.cursor.now c.read_field.new.cursor c.read_field.new.cursor c.in_ok-_passed._passed (Ok 0) h.goes h.field refl
    (gives S.tells S.left S.faults (λ (k : ℕ). k) c.read_field.new.cursor 0 0 h.placed refl))
