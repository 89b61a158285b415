-- The steps of a run of `bytes`: the text is taken, read and spelled. A device of proofs.
use Rattle.std.specs.Prelude.{◌≡◌, ℕ, ◌<◌, List, [], length, take, Result, Ok, Err}
use Rattle.std.specs.declared.vec.Vec.{Vec}
use Rattle.std.specs.declared.alloc.Global.{Global}
use Rattle.amf_text.specs.Scalars.{read_number}
use Rattle.amf_text.specs.Refused.{IsTextAccepted, text_limit}
use Rattle.amf_text_pages.specs.declared.written.Written.{Written}
use Rattle.amf_text_read.specs.TextVerdicts.{IsRefusedSo}
use Rattle.amf_text_pages.specs.Written.{document_written}
use Rattle.amf_commands.specs.Content.{content_of}
use Rattle.amf_commands.specs.Formats.{IsWritten, IsUnwritten}
use Rattle.amf_commands.specs.ReadContent.{IsSpellable}
use Rattle.amf_bytes.specs.declared.ending.BytesEnd.{BytesEnd}
use Rattle.amf_bytes.specs.declared.ending.BytesEnd.TheVariants.{Refused, ReadFault, WriteFault, NoForm, Memory}
use Rattle.amf_bytes.specs.declared.meaning.Meaning.{Meaning}
use Rattle.amf_bytes.specs.Meanings.{IsDocumentOf, IsTextBytes, LacksBytes}
use Rattle.amf_bytes.specs.TextRuns.{IsTextHidden}

-- the text is the input; or the input is longer than a text may be, and so is the text, with the same front
pub data IsTextOf (input rest text : List ℕ) : Type 0 where
  whole : text ≡ input → rest ≡ [] → IsTextOf input rest text
  longer : text_limit < length input → text_limit < length text → take text_limit text ≡ take text_limit input → IsTextOf input rest text

-- how the taking of a text ends
abbrev pub TakesText : List ℕ → List ℕ → Result (Vec ℕ Global) BytesEnd → Type 0
TakesText input rest (Ok text) = IsTextOf input rest text.items
TakesText input rest (Err ReadFault) = IsTextHidden input rest
TakesText input rest (Err Memory) = Unit {0}
TakesText input rest (Err _) = ⊥

-- how the reading of a text ends
abbrev pub ReadsText : List ℕ → Result Written BytesEnd → Type 0
ReadsText text (Ok w) = IsTextAccepted read_number text (document_written w)
ReadsText text (Err (Refused f)) = IsRefusedSo text f
ReadsText text (Err Memory) = Unit {0}
ReadsText text (Err _) = ⊥

-- what was read is this content, of this format, and its writer takes it
pub record IsMeaning (w : Written) (m : Meaning) : Type 0 where
  pub means : IsDocumentOf m.format (content_of m.content) (document_written w)
  pub spellable : IsSpellable m.format (content_of m.content)

-- how the spelling of a meaning ends
abbrev pub SpellsMeaning : Meaning → Result (Vec ℕ Global) BytesEnd → Type 0
SpellsMeaning m (Ok bytes) = IsWritten m.format (content_of m.content) bytes.items
SpellsMeaning m (Err (NoForm number l)) = IsUnwritten m.format (content_of m.content) number l
SpellsMeaning m (Err Memory) = Unit {0}
SpellsMeaning m (Err _) = ⊥

-- how the making of bytes of a text ends
abbrev pub MakesBytes : List ℕ → Result (Vec ℕ Global) BytesEnd → Type 0
MakesBytes text (Ok bytes) = IsTextBytes text bytes.items
MakesBytes text (Err (Refused f)) = IsRefusedSo text f
MakesBytes text (Err (NoForm number l)) = LacksBytes text number l
MakesBytes text (Err Memory) = Unit {0}
MakesBytes text (Err _) = ⊥

-- and of an input
abbrev pub OutputText : List ℕ → List ℕ → Result (Vec ℕ Global) BytesEnd → Type 0
OutputText input rest (Ok bytes) = IsTextBytes input bytes.items × (rest ≡ [])
OutputText input rest (Err (Refused f)) = IsRefusedSo input f
OutputText input rest (Err ReadFault) = IsTextHidden input rest
OutputText input rest (Err (NoForm number l)) = LacksBytes input number l × (rest ≡ [])
OutputText input rest (Err Memory) = Unit {0}
OutputText input rest (Err WriteFault) = ⊥

-- an end that the taking of a text has
abbrev pub IsTakingEnd : {T : Type 0} → Result T BytesEnd → Type 0
IsTakingEnd (Ok x) = Unit {0}
IsTakingEnd (Err ReadFault) = Unit {0}
IsTakingEnd (Err Memory) = Unit {0}
IsTakingEnd (Err _) = ⊥

-- nothing is written yet
abbrev pub IsOutputEnd : {T : Type 0} → Result T BytesEnd → Type 0
IsOutputEnd (Err WriteFault) = ⊥
IsOutputEnd _ = Unit {0}
