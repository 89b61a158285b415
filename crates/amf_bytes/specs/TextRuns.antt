-- How a run of `bytes` ends, by the bytes of the input and those that it left, and by what the output held before and holds now.
use Rattle.std.specs.Prelude.{◌≡◌, ℕ, ◌≤◌, List, [], ◌++◌, length, Result, Ok, Err}
use Rattle.amf_io.specs.Outside.{Rose}
use Rattle.amf_io.specs.Written.{WritesFront}
use Rattle.amf_io.specs.declared.source.Source.{Ghosts as SourceMembers}
use Rattle.amf_io.specs.declared.sink.Sink.{Ghosts as SinkMembers}
use Rattle.amf_graph.specs.declared.lack.Lack.{Lack}
use Rattle.amf_text.specs.Refused.{text_limit}
use Rattle.amf_text_read.specs.TextVerdicts.{IsRefusedSo}
use Rattle.amf_bytes.specs.declared.ending.BytesEnd.{BytesEnd}
use Rattle.amf_bytes.specs.declared.ending.BytesEnd.TheVariants.{Refused, ReadFault, WriteFault, NoForm, Memory}
use Rattle.amf_bytes.specs.Meanings.{IsTextBytes, DecidesBytes, LacksBytes, LacksBytesEver}

-- the output was written whole
pub record WritesText (input rest : List ℕ) (told : Type 0) (held now : List ℕ) : Type 0 where
  pub bytes : List ℕ
  pub made : IsTextBytes input bytes
  pub decides : DecidesBytes input bytes
  pub all_read : rest ≡ []
  pub written : told → now ≡ held ++ bytes

-- some front of it was written
pub record WritesTextFront (input rest : List ℕ) (told : Type 0) (held now : List ℕ) : Type 0 where
  pub bytes : List ℕ
  pub made : IsTextBytes input bytes
  pub decides : DecidesBytes input bytes
  pub all_read : rest ≡ []
  pub written : told → WritesFront held now bytes

-- the bytes that came before a read failed decide nothing: a text that is too long is refused for that, whatever else is wrong
pub record IsTextHidden (input rest : List ℕ) : Type 0 where
  pub given : List ℕ
  pub parts : input ≡ given ++ rest
  pub within : length given ≤ text_limit

-- the text was read to its end, and what it means has no canonical spelling
pub record HasNoBytes (input rest : List ℕ) (number : ℕ) (l : Lack) : Type 0 where
  pub lacking : LacksBytes input number l
  pub every : LacksBytesEver input number l
  pub all_read : rest ≡ []

abbrev pub RunsText : {T : Type 0} → List ℕ → List ℕ → Type 0 → List ℕ → List ℕ → Result T BytesEnd → Type 0
RunsText input rest told held now (Ok x) = WritesText input rest told held now
RunsText input rest told held now (Err (Refused f)) = IsRefusedSo input f
RunsText input rest told held now (Err ReadFault) = IsTextHidden input rest
RunsText input rest told held now (Err WriteFault) = WritesTextFront input rest told held now
RunsText input rest told held now (Err (NoForm number l)) = HasNoBytes input rest number l
RunsText input rest told held now (Err Memory) = Unit {0}

-- the same of the input and the output, before and after
abbrev pub RunsTextOver : {I O T : Type 0} → SourceMembers I → SinkMembers O → (a b : I) → (held now : O) → Result T BytesEnd → Type 0
RunsTextOver i o a b held now r = RunsText (i.left a) (i.left b) (o.tells now) (o.held held) (o.held now) r

-- a read fault is counted, and without one the count stays
abbrev pub CountsTextReads : {T : Type 0} → ℕ → ℕ → Result T BytesEnd → Type 0
CountsTextReads before now (Err ReadFault) = (before ≤ now) × Rose before now
CountsTextReads before now _ = now ≡ before

-- a write fault is counted, and without one the count stays
abbrev pub CountsTextWrites : {T : Type 0} → ℕ → ℕ → Result T BytesEnd → Type 0
CountsTextWrites before now (Err WriteFault) = (before ≤ now) × Rose before now
CountsTextWrites before now _ = now ≡ before

-- nothing was asked of the output, but where it was or may have been written to
abbrev pub IsTextUntouched : {S T : Type 0} → S → S → Result T BytesEnd → Type 0
IsTextUntouched before now (Ok x) = Unit {0}
IsTextUntouched before now (Err WriteFault) = Unit {0}
IsTextUntouched before now (Err _) = now ≡ before
