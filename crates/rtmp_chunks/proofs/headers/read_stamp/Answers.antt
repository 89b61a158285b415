-- The stamp is what the extended field has.
use Rattle.std.proofs.Common.{ℕ, sym, subst, refl, ap, ◌∙◌, Ok, cond, eq-eqb}
use Rattle.std.specs.Int.{from_be_bytes, w32}
use Rattle.amf_io.specs.Layout.{give, want}
use Rattle.amf_io.specs.CursorReads.{Answers}
use Rattle.amf_io.proofs.CursorReads.{gives, field_reads}
use Rattle.rtmp_chunks.specs.Chunk.{extended_kind}
use Rattle.rtmp_chunks.proofs.headers.read_stamp.Goals as goal

pub returns-clause-answers : goal.returns-clause-answers
returns-clause-answers g c =
    let S = g.S.Source in
    let h = c.in_ok-bytes.ensures in
    subst (λ b. Answers {X = ℕ} S.tells S.left (λ k. k) (cond b (want extended_kind (λ b. give (from_be_bytes w32 b))) (give c.args.short)) c.args.cursor.now c.read_field.new.cursor (Ok c.number_in.result)) (sym (eq-eqb c.args.short 16777215 c.if-short-ne-EXTENDED.false))
    (field_reads S.tells S.left S.faults (λ bytes. bytes.items) (λ (k : ℕ). k) extended_kind (λ b. give (from_be_bytes w32 b)) c.args.cursor.now c.read_field.new.cursor c.read_field.new.cursor c.in_ok-bytes.bytes (Ok c.number_in.result) h.goes h.field refl
    (gives S.tells S.left S.faults (λ (k : ℕ). k) c.read_field.new.cursor c.number_in.result (from_be_bytes w32 c.in_ok-bytes.bytes.items) h.placed (c.number_in.ensures ∙ ap (λ l. from_be_bytes w32 l) c.deref.ensures.value)))
