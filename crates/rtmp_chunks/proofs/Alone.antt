-- A field that was put behind nothing.
use Rattle.std.proofs.Common.{◌≡◌, ℕ, List, [], length, drop, sym, ap, ◌∙◌, subst, Result, Ok, Err, OnOk, ◌≤◌}
use Rattle.std.specs.Result.{IsErrAnd}
use Rattle.amf_io.specs.declared.window.Window.{Window}
use Rattle.amf_io.specs.declared.cursor.Cursor.{Cursor}
use Rattle.amf_io.specs.declared.ends.ReadEnd.{ReadEnd}
use Rattle.amf_io.specs.Field.{Size, basic}
use Rattle.amf_io.specs.Cursor.{source_of, place, bound, unread}
use Rattle.amf_io.specs.LayoutAnswer.{Came}
use Rattle.amf_io.specs.CursorReads.{AnswersField, EndsField}
use Rattle.rtmp_chunks.specs.Chunk.{id_of}
use Rattle.rtmp_chunks.proofs.ChunkFields.{basic_is}
use Rattle.rtmp_chunks.proofs.Rechunking.{id_fits}

module _ {S X : Type 0} (tells : S → Type 0) (left : S → List ℕ) (seen : X → List ℕ) (size : Size) (before now : List ℕ) (c d : Cursor S Window) where
  pub alone : (done : Unit {0}) (x : X) → before ≡ [] → seen x ≡ now → AnswersField tells left (λ (u : Unit {0}). drop (length before) now) size c d (Ok done) → AnswersField tells left seen size c d (Ok x)
  alone done x none same a = subst (λ l. Came size (tells (source_of c).now) l (unread left c) (unread left d) (place c) (place d) (bound c)) (ap (λ b. drop (length b) now) none ∙ sym same) a

-- an end that is passed on
pub field_passed : {S X : Type 0} (tells : S → Type 0) (left : S → List ℕ) (seen : X → List ℕ) (size : Size) (c d : Cursor S Window) (r : Result X ReadEnd) (e : ReadEnd) → IsErrAnd r (λ x. x ≡ e) → EndsField tells left size c d e → AnswersField tells left seen size c d r
field_passed tells left seen size c d (Ok x) e h a = absurd h
field_passed tells left seen size c d (Err x) e h a = subst (EndsField tells left size c d) (sym h) a

-- A basic header that was put behind nothing, and its number.
module _ {S : Type 0} (tells : S → Type 0) (left : S → List ℕ) where
  pub cleared : (before now : List ℕ) (c d : Cursor S Window) (r : Result (Unit {0}) ReadEnd) → before ≡ [] → AnswersField tells left (λ (u : Unit {0}). drop (length before) now) basic c d r → AnswersField tells left (λ (u : Unit {0}). now) basic c d r
  cleared before now c d r none a = subst (λ b. AnswersField tells left (λ (u : Unit {0}). drop (length b) now) basic c d r) none a

  pub least_id : (now : List ℕ) (c d : Cursor S Window) (r : Result (Unit {0}) ReadEnd) → AnswersField tells left (λ (u : Unit {0}). now) basic c d r → OnOk r (2 ≤ id_of now)
  least_id now c d (Ok u) a = (id_fits now (basic_is now a.is_whole) a.are_bytes).0
  least_id now c d (Err e) a = tt
