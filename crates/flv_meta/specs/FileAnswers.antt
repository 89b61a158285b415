-- What the readers of a head and of a tag answer, told by the bytes that were before them and those that they left.
use Rattle.std.specs.Prelude.{◌≡◌, ◌+◌, ◌^◌, ◌<◌, ℕ, List, [], ◌++◌, length, Option, Some, None, Result, Ok, Err}
use Rattle.amf_io.specs.declared.ends.ReadEnd.{ReadEnd}
use Rattle.amf_io.specs.declared.ends.ReadEnd.TheVariants.{Refused, ReadFault, Memory}
use Rattle.amf_io.specs.Field.{Field}
use Rattle.amf_io.specs.Stretch.{Stretch, IsTaken, AnswersOf}
use Rattle.flv_meta.specs.declared.tag.Tag.{Tag as StoredTag}
use Rattle.flv_meta.specs.File.{Head, IsHead, head_bytes, Tag, IsTag, tag_bytes}
use Rattle.flv_meta.specs.Fields.{head_fields, IsHeadReading, tag_fields, IsTagReading}

-- these are the bytes of a head with these fields
abbrev pub IsHeadOf : List ℕ → List Field → Type 0
IsHeadOf bytes fs = (h : Head) × IsHead h × (fs ≡ head_fields h) × (bytes ≡ head_bytes h)

-- what was appended to the output, which was before
abbrev pub AnswersHead : List ℕ → List ℕ → Stretch → Result (Unit {0}) ReadEnd → Type 0
AnswersHead before now s result = AnswersOf (λ done fs. (bytes : List ℕ) × IsHeadOf bytes fs × (now ≡ before ++ bytes)) IsHeadReading s result

-- these are the bytes of a tag with these fields, which begins at this place
abbrev pub IsTagOf : ℕ → StoredTag → List Field → Type 0
IsTagOf at x fs = (t : Tag) × IsTag t × (fs ≡ tag_fields t) × (x.bytes ≡ tag_bytes t) × (x.at ≡ at)

-- its bytes are one whole tag, which ends within 32 bits
pub record IsStoredTag (x : StoredTag) : Type 0 where
  pub tag : Tag
  pub is_tag : IsTag tag
  pub bytes : x.bytes ≡ tag_bytes tag
  pub within : x.at + length x.bytes < 2 ^ 32

-- a tag, or nothing exactly where the input ends; a refusal comes only where it goes on
abbrev pub AnswersTag : Stretch → Result (Option StoredTag) ReadEnd → Type 0
AnswersTag s (Ok None) = (s.told → (s.input ≡ []) × (s.rest ≡ [])) × (s.place ≡ s.at)
AnswersTag s (Ok (Some x)) = IsTaken (IsTagOf s.at x) IsTagReading s
AnswersTag s (Err (Refused f)) = AnswersOf (λ (x : StoredTag). IsTagOf s.at x) IsTagReading s (Err (Refused f)) × (s.told → 0 < length s.input)
AnswersTag s (Err ReadFault) = AnswersOf (λ (x : StoredTag). IsTagOf s.at x) IsTagReading s (Err ReadFault)
AnswersTag s (Err Memory) = Unit {0}
