-- The fields that are read here: their sizes, and what is refused in contents. A device of proofs.
use Rattle.std.specs.Prelude.{◌≡◌, ℕ, ◌≤◌, true, List, length, take, Option, Result, Ok, Err}
use Rattle.amf_wire.specs.U29.{u29_value}
use Rattle.amf_wire.specs.Text.{is_text}
use Rattle.amf_io.specs.declared.window.Window.{Window}
use Rattle.amf_io.specs.declared.cursor.Cursor.{Cursor}
use Rattle.amf_io.specs.declared.ends.ReadEnd.{ReadEnd}
use Rattle.amf_io.specs.declared.reason.Reason.{Reason}
use Rattle.amf_io.specs.Field.{Size, fixed, u29, Kind, raw_kind, text_kind, AreBytes}
use Rattle.amf_io.specs.ReadEnds.{GoesBy}
use Rattle.amf_io.specs.CursorReads.{AnswersField, EndsField}
use Rattle.amf3_spelling.specs.Refusals3.{class_kind}
use Rattle.amf_wire_fields.specs.declared.field.FieldSize.{FieldSize}
use Rattle.amf_wire_fields.specs.declared.field.FieldSize.TheVariants.{Byte, U29, Two, Four, Eight}
use Rattle.amf_wire_fields.specs.declared.contents.Contents.{Contents}
use Rattle.amf_wire_fields.specs.declared.contents.Contents.TheVariants as contents

abbrev pub size_of : FieldSize → Size
size_of Byte = fixed 1
size_of U29 = u29
size_of Two = fixed 2
size_of Four = fixed 4
size_of Eight = fixed 8

abbrev pub contents_kind : Contents → ℕ → Kind
contents_kind contents.Bytes n = raw_kind n
contents_kind contents.Text n = text_kind n
contents_kind contents.Class n = class_kind n

abbrev pub contents_refusal : Contents → List ℕ → Option Reason
contents_refusal c bytes = (contents_kind c 0).refusal bytes

-- the bytes of one U29 came, which are the number
pub record IsNumberRead {S : Type 0} (tells : S → Type 0) (left : S → List ℕ) (faults : S → ℕ) (c d : Cursor S Window) (n : ℕ) : Type 0 where
  pub bytes : List ℕ
  pub goes : GoesBy {X = List ℕ} tells left faults c d (Ok bytes)
  pub field : AnswersField {X = List ℕ} tells left (λ x. x) u29 c d (Ok bytes)
  pub value : n ≡ u29_value bytes

abbrev pub AnswersNumber : {S : Type 0} → (S → Type 0) → (S → List ℕ) → (S → ℕ) → Cursor S Window → Cursor S Window → Result ℕ ReadEnd → Type 0
AnswersNumber tells left faults c d (Ok n) = IsNumberRead tells left faults c d n
AnswersNumber tells left faults c d (Err e) = EndsField tells left u29 c d e

-- so many bytes at the front are a text
pub record BeginsWithText (bytes : List ℕ) (n : ℕ) : Type 0 where
  pub there : n ≤ length bytes
  pub are_bytes : AreBytes bytes
  pub passes : is_text (take n bytes) ≡ true
