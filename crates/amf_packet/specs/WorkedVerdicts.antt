-- Worked verdicts on inputs of one packet.
use Rattle.std.specs.Prelude.{ℕ, List, [], ◌∷◌, ◌++◌}
use Rattle.amf_io.specs.declared.reason.Reason.{Reason}
use Rattle.amf_io.specs.declared.reason.Reason.TheVariants.{Truncated, BadMarker, BadReference, BadText, BadVersion, Trailing}
use Rattle.amf_io.specs.Verdict.{IsInputRefused, IsInputAccepted}
use Rattle.amf_packet.specs.Packet.{IsPacketReading}
use Rattle.amf_packet.specs.WorkedPackets.{request_bytes}

-- within 2^26 bytes

abbrev pub Accepted : List ℕ → Type 0
Accepted = IsInputAccepted IsPacketReading 67108864

abbrev pub Refused : List ℕ → Reason → ℕ → Type 0
Refused = IsInputRefused IsPacketReading 67108864

-- a packet of two messages without texts, and their values with a length
abbrev pub two_values : List ℕ → List ℕ → List ℕ
two_values first second = 0x00 ∷ 0x00 ∷ 0x00 ∷ 0x00 ∷ 0x00 ∷ 0x02 ∷ 0x00 ∷ 0x00 ∷ 0x00 ∷ 0x00 ∷ 0x00 ∷ 0x00 ∷ 0x00 ∷ 0x00 ∷ first ++ 0x00 ∷ 0x00 ∷ 0x00 ∷ 0x00 ∷ 0x00 ∷ 0x00 ∷ 0x00 ∷ 0x00 ∷ second

pub record Verdicts : Type 0 where
  pub request : Accepted (request_bytes (0x00 ∷ 0x00 ∷ 0x00 ∷ 0x0A ∷ []))
  pub any_length : Accepted (request_bytes (0x12 ∷ 0x34 ∷ 0x56 ∷ 0x78 ∷ []))
  -- versions
  pub version_1 : Accepted (0x00 ∷ 0x01 ∷ 0x00 ∷ 0x00 ∷ 0x00 ∷ 0x00 ∷ [])
  pub version_2 : Refused (0x00 ∷ 0x02 ∷ []) BadVersion 0
  pub version_3 : Accepted (0x00 ∷ 0x03 ∷ 0x00 ∷ 0x00 ∷ 0x00 ∷ 0x00 ∷ [])
  pub version_256 : Refused (0x01 ∷ 0x00 ∷ 0x00 ∷ 0x00 ∷ 0x00 ∷ 0x00 ∷ []) BadVersion 0
  -- a name that is no text, and one that is cut off
  pub bad_name : Refused (0x00 ∷ 0x00 ∷ 0x00 ∷ 0x01 ∷ 0x00 ∷ 0x01 ∷ 0xFF ∷ 0x00 ∷ []) BadText 6
  pub cut_name : Refused (0x00 ∷ 0x00 ∷ 0x00 ∷ 0x01 ∷ 0x00 ∷ 0x02 ∷ 0x61 ∷ []) Truncated 6
  pub bad_response : Refused (0x00 ∷ 0x00 ∷ 0x00 ∷ 0x00 ∷ 0x00 ∷ 0x01 ∷ 0x00 ∷ 0x00 ∷ 0x00 ∷ 0x01 ∷ 0xC0 ∷ []) BadText 10
  -- inside a value
  pub bad_value : Refused (two_values (0x05 ∷ []) (0x04 ∷ [])) BadMarker 23
  -- the tables of a value are its own: the second array has no other before it
  pub own_reference : Accepted (two_values (0x0A ∷ 0x00 ∷ 0x00 ∷ 0x00 ∷ 0x01 ∷ 0x07 ∷ 0x00 ∷ 0x00 ∷ []) (0x05 ∷ []))
  pub no_reference : Refused (two_values (0x0A ∷ 0x00 ∷ 0x00 ∷ 0x00 ∷ 0x00 ∷ []) (0x07 ∷ 0x00 ∷ 0x00 ∷ [])) BadReference 27
  pub no_reference3 : Refused (two_values (0x11 ∷ 0x09 ∷ 0x01 ∷ 0x01 ∷ []) (0x11 ∷ 0x09 ∷ 0x00 ∷ [])) BadReference 28
  -- the ends
  pub no_bytes : Refused [] Truncated 0
  pub no_messages : Refused (0x00 ∷ 0x00 ∷ 0x00 ∷ 0x00 ∷ 0x00 ∷ []) Truncated 4
  pub one_of_two : Refused (0x00 ∷ 0x00 ∷ 0x00 ∷ 0x00 ∷ 0x00 ∷ 0x02 ∷ 0x00 ∷ 0x00 ∷ 0x00 ∷ 0x00 ∷ 0x00 ∷ 0x00 ∷ 0x00 ∷ 0x00 ∷ 0x05 ∷ []) Truncated 15
  pub more_follows : Refused (0x00 ∷ 0x00 ∷ 0x00 ∷ 0x00 ∷ 0x00 ∷ 0x00 ∷ 0x00 ∷ []) Trailing 6
