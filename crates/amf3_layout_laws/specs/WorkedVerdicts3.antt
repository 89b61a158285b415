-- Worked verdicts on inputs of one AMF 3 value.
use Rattle.std.specs.Prelude.{ℕ, List, [], ◌∷◌, replicate}
use Rattle.amf_io.specs.declared.reason.Reason.{Reason}
use Rattle.amf_io.specs.declared.reason.Reason.TheVariants.{Truncated, BadMarker, BadReference, BadTraits, BadTextIndex, BadText, WrongKind, UnknownExternal, Trailing}
use Rattle.amf_io.specs.Verdict.{IsInputRefused, IsInputAccepted}
use Rattle.amf3_spelling.specs.Values3.{IsValue3}

-- within 2^26 bytes

abbrev pub Accepted : List ℕ → Type 0
Accepted = IsInputAccepted IsValue3 67108864

abbrev pub Refused : List ℕ → Reason → ℕ → Type 0
Refused = IsInputRefused IsValue3 67108864

pub record Verdicts : Type 0 where
  pub a_null : Accepted (0x01 ∷ [])
  -- the empty text, by the shortest header and by a longer one
  pub empty_text : Accepted (0x06 ∷ 0x01 ∷ [])
  pub longer_header : Accepted (0x06 ∷ 0x80 ∷ 0x01 ∷ [])
  -- a dictionary of one entry, from null to false
  pub one_entry : Accepted (0x11 ∷ 0x03 ∷ 0x00 ∷ 0x01 ∷ 0x02 ∷ [])
  pub more_follows : Refused (0x01 ∷ 0x01 ∷ []) Trailing 1
  pub no_bytes : Refused [] Truncated 0
  pub no_marker : Refused (0x12 ∷ []) BadMarker 0
  pub no_node : Refused (0x09 ∷ 0x00 ∷ []) BadReference 1
  pub no_traits : Refused (0x0A ∷ 0x01 ∷ []) BadTraits 1
  pub no_text : Refused (0x06 ∷ 0x02 ∷ []) BadTextIndex 1
  pub cut_text : Refused (0x06 ∷ 0x07 ∷ 0x66 ∷ []) Truncated 2
  pub not_a_text : Refused (0x06 ∷ 0x03 ∷ 0xFF ∷ []) BadText 2
  -- an object of class C with one sealed name, a, and no value of it
  pub no_value : Refused (0x0A ∷ 0x13 ∷ 0x03 ∷ 0x43 ∷ 0x03 ∷ 0x61 ∷ []) Truncated 6
  -- an array that is still open can be named from within, and is the one node in the table
  pub within : Accepted (0x09 ∷ 0x03 ∷ 0x01 ∷ 0x09 ∷ 0x00 ∷ [])
  pub no_second : Refused (0x09 ∷ 0x03 ∷ 0x01 ∷ 0x09 ∷ 0x02 ∷ []) BadReference 4
  -- it is no object
  pub other_kind : Refused (0x09 ∷ 0x03 ∷ 0x01 ∷ 0x0A ∷ 0x00 ∷ []) WrongKind 4
  -- no served class has a name of three bytes, nor one of 27 times 61
  pub short_class : Refused (0x0A ∷ 0x07 ∷ 0x07 ∷ 0x66 ∷ 0x6F ∷ 0x6F ∷ []) UnknownExternal 2
  pub other_class : Refused (0x0A ∷ 0x07 ∷ 0x37 ∷ replicate 27 0x61) UnknownExternal 3
  -- a class name is compared, never read as a text
  pub no_text_class : Refused (0x0A ∷ 0x07 ∷ 0x37 ∷ replicate 27 0xFF) UnknownExternal 3
  -- arrays stand within one another, and so does a date that is cut off
  pub nested : Accepted (0x09 ∷ 0x03 ∷ 0x01 ∷ 0x09 ∷ 0x01 ∷ 0x01 ∷ [])
  pub cut_date : Refused (0x09 ∷ 0x03 ∷ 0x01 ∷ 0x08 ∷ 0x01 ∷ []) Truncated 5
