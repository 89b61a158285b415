-- The header of a message, as it comes.
use Rattle.std.proofs.Common.{◌≡◌, ℕ, ◌<◌, cond, List, sym, ap, ◌∙◌, arith, subst, Some, None, Result, Ok}
use Rattle.std.specs.Result.{IsErrAnd}
use Rattle.std.proofs.lemmas.Bool.{ne_eqb}
use Rattle.amf_io.specs.declared.window.Window.{Window}
use Rattle.amf_io.specs.declared.cursor.Cursor.{Cursor}
use Rattle.amf_io.specs.declared.reason.Reason.TheVariants.{BadChunk}
use Rattle.amf_io.specs.declared.ends.ReadEnd.{ReadEnd}
use Rattle.amf_io.specs.declared.ends.ReadEnd.TheVariants.{Refused}
use Rattle.amf_io.specs.Cursor.{place}
use Rattle.amf_io.specs.Field.{fixed}
use Rattle.amf_io.specs.Layout.{Layout, give, want, bind}
use Rattle.amf_io.specs.ReadEnds.{GoesBy, IsPlaced}
use Rattle.amf_io.specs.CursorReads.{Answers, AnswersField, Ends, EndsField}
use Rattle.amf_io.proofs.CursorReads.{gives, then_reads, end_reads, field_reads, field_refused, field_ended}
use Rattle.amf_io.proofs.FieldReads.{passed_on}
use Rattle.rtmp_chunks.specs.Chunk.{header_size, header_kind, stamp_in, Head, filled}
use Rattle.rtmp_chunks.specs.Machine.{stamp_layout}
use Rattle.rtmp_chunks.specs.Table.{begun}

abbrev stamped : ℕ → Head → List ℕ → Layout Head
stamped format before header = bind (stamp_layout (stamp_in header)) (λ stamp. give (filled format header stamp before))

is_field : (format : ℕ) (before : Head) → format < 3 → want (header_kind format) (stamped format before) ≡ begun format before
is_field format before lt = sym (ap (λ b. cond b (begun 3 before) (want (header_kind format) (stamped format before))) (ne_eqb format 3 (λ e. omega arith)))

module _ {S Z : Type 0} (tells : S → Type 0) (left : S → List ℕ) (faults : S → ℕ) (view : Z → Head) (format n : ℕ) (before : Head) (lt : format < 3) (size : n ≡ header_size format) (c d : Cursor S Window) where
  over : (e : Cursor S Window) (r : Result Z ReadEnd) → Answers tells left view (want (header_kind format) (stamped format before)) c e r → Answers tells left view (begun format before) c e r
  over e r a = subst (λ l. Answers tells left view l c e r) (is_field format before lt) a

  pub header_ended : (r : Result Z ReadEnd) (e : ReadEnd) → IsErrAnd r (λ x. x ≡ e) → EndsField tells left (fixed n) c d e → Answers tells left view (begun format before) c d r
  header_ended r e is a = over d r (passed_on tells left faults view (want (header_kind format) (stamped format before)) c d r e is (field_ended tells left faults (header_kind format) (stamped format before) c d e (subst (λ k. EndsField tells left (fixed k) c d e) size a)))

  module _ {X : Type 0} (seen : X → List ℕ) (x : X) (field : AnswersField tells left seen (fixed n) c d (Ok x)) where
    pub header_refused : (start : ℕ) (e : ReadEnd) → (header_kind format).refusal (seen x) ≡ Some BadChunk → start ≡ place c → e ≡ Refused (record { reason = BadChunk; at = start }) → Ends tells left (begun format before) c d e
    header_refused start e bad s is = subst (λ l. Ends tells left l c d e) (is_field format before lt)
        (subst (λ v. Ends tells left (want (header_kind format) (stamped format before)) c d v) (ap (λ k. let y : ReadEnd = Refused (record { reason = BadChunk; at = k }) in y) (sym s) ∙ sym is)
        (field_refused tells left faults seen (header_kind format) (stamped format before) c d d x BadChunk (subst (λ k. AnswersField tells left seen (fixed k) c d (Ok x)) size field) bad))

    module _ (goes : GoesBy tells left faults c d (Ok x)) (clean : (header_kind format).refusal (seen x) ≡ None) (e : Cursor S Window) where
      behind : (r : Result Z ReadEnd) → Answers tells left view (stamped format before (seen x)) d e r → Answers tells left view (begun format before) c e r
      behind r a = over e r (field_reads tells left faults seen view (header_kind format) (stamped format before) c d e x r goes (subst (λ k. AnswersField tells left seen (fixed k) c d (Ok x)) size field) clean a)

      pub stamp_ended : (short : ℕ) → short ≡ stamp_in (seen x) → (r : Result Z ReadEnd) (end : ReadEnd) → IsErrAnd r (λ x. x ≡ end) → Ends tells left (stamp_layout short) d e end → Answers tells left view (begun format before) c e r
      stamp_ended short is r end err a = behind r (passed_on tells left faults view (stamped format before (seen x)) d e r end err
          (end_reads tells left faults (stamp_layout (stamp_in (seen x))) (λ stamp. give (filled format (seen x) stamp before)) d e end (subst (λ k. Ends tells left (stamp_layout k) d e end) is a)))

      pub stamp_came : (short stamp : ℕ) → short ≡ stamp_in (seen x) → GoesBy {X = ℕ} tells left faults d e (Ok stamp) → Answers {X = ℕ} tells left (λ k. k) (stamp_layout short) d e (Ok stamp) → IsPlaced e
          → (z : Z) → view z ≡ filled format (seen x) stamp before → Answers tells left view (begun format before) c e (Ok z)
      stamp_came short stamp is g a p z same = behind (Ok z)
          (then_reads tells left faults (λ (k : ℕ). k) view (stamp_layout (stamp_in (seen x))) (λ stamp. give (filled format (seen x) stamp before)) d e e stamp (Ok z) g (subst (λ k. Answers {X = ℕ} tells left (λ k. k) (stamp_layout k) d e (Ok stamp)) is a)
          (gives tells left faults view e z (filled format (seen x) stamp before) p same))
