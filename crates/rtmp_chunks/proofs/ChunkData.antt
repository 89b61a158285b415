-- The data of a chunk, as they come.
use Rattle.std.proofs.Common.{◌≡◌, ℕ, zero, suc, ◌+◌, ◌-◌, ◌<◌, ◌≤◌, Bool, true, false, cond, eqb, leb, List, [], ◌∷◌, ◌++◌, length, length-append, refl, sym, ap, ◌∙◌, arith, subst, Some, None, Result, Ok}
use Rattle.std.specs.Prelude.{◌&&◌, ◌||◌, slice_index}
use Rattle.std.specs.Result.{IsErrAnd}
use Rattle.std.proofs.lemmas.Bool.{ne_eqb, eq-eqb, eqb-true, le-leb, leb-true}
use Rattle.amf_io.specs.declared.window.Window.{Window}
use Rattle.amf_io.specs.declared.cursor.Cursor.{Cursor}
use Rattle.amf_io.specs.declared.reason.Reason.{Reason}
use Rattle.amf_io.specs.declared.reason.Reason.TheVariants.{BadChunkSize}
use Rattle.amf_io.specs.declared.ends.ReadEnd.{ReadEnd}
use Rattle.amf_io.specs.declared.ends.ReadEnd.TheVariants.{Refused}
use Rattle.amf_io.specs.Cursor.{place}
use Rattle.amf_io.specs.Field.{fixed}
use Rattle.amf_io.specs.Layout.{give, want}
use Rattle.amf_io.specs.ReadEnds.{GoesBy, IsPlaced}
use Rattle.amf_io.specs.CursorReads.{Answers, AnswersField, Ends, EndsField}
use Rattle.amf_io.proofs.CursorReads.{gives, field_reads, field_refused, field_ended}
use Rattle.amf_io.proofs.FieldReads.{passed_on}
use Rattle.rtmp_chunks.specs.Chunk.{lesser, data_kind, size_refusal, number_of, Head}
use Rattle.rtmp_chunks.specs.Table.{Met, met, taken, taken_by}

whole_four : (a p s : ℕ) → s ≡ 4 → a + p ≤ s → leb (s - a) p ≡ eqb (a + p) 4
whole_four a p s e le = by (eqb (a + p) 4) refl
  where
    over : (n m : ℕ) → m < n → leb n m ≡ false
    over n m lt = grind arith

    by : (t : Bool) → eqb (a + p) 4 ≡ t → leb (s - a) p ≡ t
    by true q = let f = eqb-true (a + p) 4 q in le-leb (s - a) p (omega arith)
    by false q = over (s - a) p (less (λ f. absurd (differ (sym (eq-eqb (a + p) 4 f) ∙ q))))
      where
        differ : true ≡ false → ⊥
        differ e = absurd cc

        less : ((a + p ≡ 4) → ⊥) → p < s - a
        less f = omega (arith, f)

either : (a w : Bool) (x : Reason) → cond a (Some x) (cond w (Some x) None) ≡ cond (a || w) (Some x) None
either true w x = refl
either false w x = refl

refusal_is : (came piece : List ℕ) (size : ℕ) → size ≡ 4 → length came + length piece ≤ size
    → size_refusal came piece (size - length came) ≡ cond (((eqb (length came) 0) && leb 0x80 (slice_index (came ++ piece) 0)) || ((eqb (length came + length piece) 4) && eqb (number_of (came ++ piece)) 0)) (Some BadChunkSize) None
refusal_is [] piece size e le = either (leb 0x80 (slice_index piece 0)) (leb (size - 0) (length piece) && eqb (number_of piece) 0) BadChunkSize
    ∙ ap (λ t. cond (leb 0x80 (slice_index piece 0) || (t && eqb (number_of piece) 0)) (Some BadChunkSize) None) (whole_four 0 (length piece) size e le)
refusal_is (b ∷ came) piece size e le = ap (λ t. cond (t && eqb (number_of ((b ∷ came) ++ piece)) 0) (Some BadChunkSize) None) (whole_four (suc (length came)) (length piece) size e le)
    ∙ ap (λ t. cond ((t && leb 0x80 (slice_index ((b ∷ came) ++ piece) 0)) || ((eqb (suc (length came) + length piece) 4) && eqb (number_of ((b ∷ came) ++ piece)) 0)) (Some BadChunkSize) None) (sym (ne_eqb (suc (length came)) 0 (λ z. omega arith)))

pub data_test : (h : Head) (came piece bytes : List ℕ) (n : ℕ) (first r b : Bool) → (h.type ≡ 1 → h.size ≡ 4) → length came + length piece ≤ h.size → bytes ≡ came ++ piece → first ≡ eqb (length came) 0
    → r ≡ ((eqb h.type 1) && ((first && leb 0x80 (slice_index bytes 0)) || ((eqb (length bytes) 4) && eqb (number_of bytes) 0))) → r ≡ b
    → (data_kind h came n).refusal piece ≡ cond b (Some BadChunkSize) None
data_test h came piece bytes n first r b four le e f g t = by (eqb h.type 1) refl ∙ ap (λ x. cond x (Some BadChunkSize) None) (sym same ∙ t)
  where
    X : Bool
    X = ((eqb (length came) 0) && leb 0x80 (slice_index (came ++ piece) 0)) || ((eqb (length came + length piece) 4) && eqb (number_of (came ++ piece)) 0)

    same : r ≡ ((eqb h.type 1) && (((eqb (length came) 0) && leb 0x80 (slice_index (came ++ piece) 0)) || ((eqb (length came + length piece) 4) && eqb (number_of (came ++ piece)) 0)))
    same = g ∙ ap (λ x. (eqb h.type 1) && ((x && leb 0x80 (slice_index bytes 0)) || ((eqb (length bytes) 4) && eqb (number_of bytes) 0))) f
        ∙ ap (λ l. (eqb h.type 1) && (((eqb (length came) 0) && leb 0x80 (slice_index l 0)) || ((eqb (length l) 4) && eqb (number_of l) 0))) e
        ∙ ap (λ k. (eqb h.type 1) && (((eqb (length came) 0) && leb 0x80 (slice_index (came ++ piece) 0)) || ((eqb k 4) && eqb (number_of (came ++ piece)) 0))) (length-append came piece)

    by : (t : Bool) → eqb h.type 1 ≡ t → cond t (size_refusal came piece (h.size - length came)) None ≡ cond (t && (((eqb (length came) 0) && leb 0x80 (slice_index (came ++ piece) 0)) || ((eqb (length came + length piece) 4) && eqb (number_of (came ++ piece)) 0))) (Some BadChunkSize) None
    by true one = refusal_is came piece h.size (four (eqb-true h.type 1 one)) le
    by false no_one = refl

pub count_fits : (n size s k : ℕ) → n ≡ lesser size (s - k) → k ≤ s → k + n ≤ s
count_fits n size s k e le = by (leb size (s - k)) refl
  where
    by : (t : Bool) → leb size (s - k) ≡ t → k + n ≤ s
    by true q = let f : n ≡ size = e ∙ ap (λ t. cond t size (s - k)) q in let g = leb-true size (s - k) q in omega arith
    by false q = let f : n ≡ s - k = e ∙ ap (λ t. cond t size (s - k)) q in omega arith

is_taken : (n : ℕ) (h : Head) (came : List ℕ) → 0 < n → want (data_kind h came n) (λ b. give (met h (came ++ b))) ≡ taken n h came
is_taken zero h came lt = absurd (omega (arith, lt))
is_taken (suc n) h came lt = refl

none_taken : (n : ℕ) (h : Head) (came : List ℕ) → n ≡ 0 → give (met h came) ≡ taken n h came
none_taken n h came e = ap (λ k. taken k h came) (sym e)

module _ {S Z : Type 0} (tells : S → Type 0) (left : S → List ℕ) (faults : S → ℕ) (view : Z → Met) (size n : ℕ) (h : Head) (came : List ℕ) (count : n ≡ lesser size (h.size - length came)) (c d : Cursor S Window) where
  pub data_none : (z : Z) → n ≡ 0 → IsPlaced c → view z ≡ met h came → Answers tells left view (taken_by size h came) c c (Ok z)
  data_none z e p same = subst (λ l. Answers tells left view l c c (Ok z)) (none_taken n h came e ∙ ap (λ k. taken k h came) count) (gives tells left faults view c z (met h came) p same)

  module _ (some : 0 < n) where
    over : (r : Result Z ReadEnd) → Answers tells left view (want (data_kind h came n) (λ b. give (met h (came ++ b)))) c d r → Answers tells left view (taken_by size h came) c d r
    over r a = subst (λ l. Answers tells left view l c d r) (is_taken n h came some ∙ ap (λ k. taken k h came) count) a

    pub data_ended : (r : Result Z ReadEnd) (e : ReadEnd) → IsErrAnd r (λ x. x ≡ e) → EndsField tells left (fixed n) c d e → Answers tells left view (taken_by size h came) c d r
    data_ended r e is a = over r (passed_on tells left faults view (want (data_kind h came n) (λ b. give (met h (came ++ b)))) c d r e is (field_ended tells left faults (data_kind h came n) (λ b. give (met h (came ++ b))) c d e a))

    module _ {X : Type 0} (seen : X → List ℕ) (x : X) (field : AnswersField tells left seen (fixed n) c d (Ok x)) where
      pub data_refused : (start : ℕ) (e : ReadEnd) → (data_kind h came n).refusal (seen x) ≡ Some BadChunkSize → start ≡ place c → e ≡ Refused (record { reason = BadChunkSize; at = start }) → Ends tells left (taken_by size h came) c d e
      data_refused start e bad s is = subst (λ l. Ends tells left l c d e) (is_taken n h came some ∙ ap (λ k. taken k h came) count)
          (subst (λ v. Ends tells left (want (data_kind h came n) (λ b. give (met h (came ++ b)))) c d v) (ap (λ k. let y : ReadEnd = Refused (record { reason = BadChunkSize; at = k }) in y) (sym s) ∙ sym is)
          (field_refused tells left faults seen (data_kind h came n) (λ b. give (met h (came ++ b))) c d d x BadChunkSize field bad))

      pub data_came : GoesBy tells left faults c d (Ok x) → (data_kind h came n).refusal (seen x) ≡ None → IsPlaced d → (z : Z) → view z ≡ met h (came ++ seen x) → Answers tells left view (taken_by size h came) c d (Ok z)
      data_came goes clean p z same = over (Ok z) (field_reads tells left faults seen view (data_kind h came n) (λ b. give (met h (came ++ b))) c d d x (Ok z) goes field clean (gives tells left faults view d z (met h (came ++ seen x)) p same))
