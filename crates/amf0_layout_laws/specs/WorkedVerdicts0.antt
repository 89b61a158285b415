-- Worked verdicts on inputs of one AMF 0 value.
use Rattle.std.specs.Prelude.{ℕ, List, [], ◌∷◌}
use Rattle.amf_io.specs.declared.reason.Reason.{Reason}
use Rattle.amf_io.specs.declared.reason.Reason.TheVariants.{Truncated, BadMarker, BadReference, BadText, Trailing}
use Rattle.amf_io.specs.Verdict.{IsInputRefused, IsInputAccepted}
use Rattle.amf0_spelling.specs.Values0.{IsValue0}

-- within 2^26 bytes

abbrev pub Accepted : List ℕ → Type 0
Accepted = IsInputAccepted IsValue0 67108864

abbrev pub Refused : List ℕ → Reason → ℕ → Type 0
Refused = IsInputRefused IsValue0 67108864

pub record Verdicts0 : Type 0 where
  pub unsupported : Accepted (0x0D ∷ [])
  pub movie_clip : Refused (0x04 ∷ []) BadMarker 0
  pub record_set : Refused (0x0E ∷ []) BadMarker 0
  pub no_marker : Refused (0x12 ∷ []) BadMarker 0
  -- the end of pairs ends no value
  pub end_alone : Refused (0x09 ∷ []) BadMarker 0
  pub end_behind_a_name : Refused (0x03 ∷ 0x00 ∷ 0x01 ∷ 0x61 ∷ 0x09 ∷ []) BadMarker 4
  pub no_pairs : Accepted (0x03 ∷ 0x00 ∷ 0x00 ∷ 0x09 ∷ [])
  -- a member with the empty name
  pub empty_name : Accepted (0x03 ∷ 0x00 ∷ 0x00 ∷ 0x05 ∷ 0x00 ∷ 0x00 ∷ 0x09 ∷ [])
  pub unchecked_count : Accepted (0x08 ∷ 0x00 ∷ 0x00 ∷ 0x00 ∷ 0x05 ∷ 0x00 ∷ 0x00 ∷ 0x09 ∷ [])
  -- the table is empty; and here it has the array alone
  pub no_node : Refused (0x07 ∷ 0x00 ∷ 0x00 ∷ []) BadReference 0
  pub no_second : Refused (0x0A ∷ 0x00 ∷ 0x00 ∷ 0x00 ∷ 0x01 ∷ 0x07 ∷ 0x00 ∷ 0x01 ∷ []) BadReference 6
  pub within : Accepted (0x0A ∷ 0x00 ∷ 0x00 ∷ 0x00 ∷ 0x01 ∷ 0x07 ∷ 0x00 ∷ 0x00 ∷ [])
  -- a date is not in the table, nor is an array of AMF 3
  pub date_has_no_place : Refused (0x0A ∷ 0x00 ∷ 0x00 ∷ 0x00 ∷ 0x02 ∷ 0x0B ∷ 0 ∷ 0 ∷ 0 ∷ 0 ∷ 0 ∷ 0 ∷ 0 ∷ 0 ∷ 0x00 ∷ 0x00 ∷ 0x07 ∷ 0x00 ∷ 0x01 ∷ []) BadReference 17
  pub amf3_has_no_place : Refused (0x0A ∷ 0x00 ∷ 0x00 ∷ 0x00 ∷ 0x02 ∷ 0x11 ∷ 0x09 ∷ 0x01 ∷ 0x01 ∷ 0x07 ∷ 0x00 ∷ 0x01 ∷ []) BadReference 10
  -- behind the switch the rules are those of AMF 3, and its tables go on
  pub switched : Accepted (0x11 ∷ 0x04 ∷ 0x05 ∷ [])
  pub no_marker3 : Refused (0x11 ∷ 0x12 ∷ []) BadMarker 1
  pub shared_tables : Accepted (0x0A ∷ 0x00 ∷ 0x00 ∷ 0x00 ∷ 0x02 ∷ 0x11 ∷ 0x09 ∷ 0x01 ∷ 0x01 ∷ 0x11 ∷ 0x09 ∷ 0x00 ∷ [])
  pub no_second3 : Refused (0x0A ∷ 0x00 ∷ 0x00 ∷ 0x00 ∷ 0x02 ∷ 0x11 ∷ 0x09 ∷ 0x01 ∷ 0x01 ∷ 0x11 ∷ 0x09 ∷ 0x02 ∷ []) BadReference 11
  pub not_a_text : Refused (0x02 ∷ 0x00 ∷ 0x01 ∷ 0xFF ∷ []) BadText 3
  pub cut_text : Refused (0x0C ∷ 0x00 ∷ 0x00 ∷ 0x00 ∷ 0x02 ∷ 0x61 ∷ []) Truncated 5
  pub no_bytes : Refused [] Truncated 0
  pub more_follows : Refused (0x05 ∷ 0x05 ∷ []) Trailing 1
