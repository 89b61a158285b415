-- What is told of a leaf is meant: doubles by their digits or bits, integers and texts.
use Rattle.std.specs.Prelude.{◌≡◌, ℕ, ◌<◌, ◌^◌, ℤ, Bool, true, false, ◌&&◌, List, Option, Some, None, if◌then◌else◌}
use Rattle.std.specs.Fmt.{signed_decimal}
use Rattle.std.specs.List.{AllByRecursion}
use Rattle.json.specs.Json as json
use Rattle.amf_wire.specs.Integer.{IsInteger}
use Rattle.amf_wire.specs.Text.{is_text}
use Rattle.amf_wire.specs.WholeNumbers.{whole_of}
use Rattle.amf_graph.specs.Graph.{Leaf, integer, double, text}
use Rattle.amf_text.specs.Scalars.{is_odd, is_small, read_number, Digits, AreDigits, told_text, told_pattern, told_double}
use Rattle.amf_text.specs.Meant.{said, pattern_meant, meant}

-- where integers are told as doubles, a double that an integer could stand for is read as one
abbrev pub double_read : Bool → ℕ → Option ℤ → Leaf
double_read bare p None = double p
double_read bare p (Some n) = if bare && is_small n then integer n else double p

pub record LeafLaws : Type 0 where
  -- the pattern of a date, and of a vector of doubles
  pub pattern : (digits : Digits) (p : ℕ) → AreDigits digits → p < 2 ^ 64 → pattern_meant read_number (told_pattern digits p) ≡ Some p
  -- a double as a value
  pub finite : (digits : Digits) (bare : Bool) (p : ℕ) → AreDigits digits → p < 2 ^ 64 → is_odd p ≡ false
      → meant read_number (told_double digits bare p) ≡ Some (said (double_read bare p (whole_of p)))
  pub odd : (digits : Digits) (bare : Bool) (p : ℕ) → AreDigits digits → p < 2 ^ 64 → is_odd p ≡ true
      → meant read_number (told_double digits bare p) ≡ Some (said (double p))
  -- an integer, and a text
  pub whole : (n : ℤ) → IsInteger n → meant read_number (json.number (signed_decimal n)) ≡ Some (said (integer n))
  pub string : (x : List ℕ) → AllByRecursion (λ b. b < 256) x → is_text x ≡ true → meant read_number (told_text x) ≡ Some (said (text x))
