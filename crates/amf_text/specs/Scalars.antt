-- Texts, numbers and flags as JSON (RFC 8259): this project's own form.
use Rattle.std.specs.Prelude.{◌≡◌, ℕ, ◌+◌, ◌<◌, ◌/◌, ◌%◌, ◌^◌, ℤ, pos, negsuc, Bool, true, false, ◌&&◌, ◌||◌, not, List, [], ◌∷◌, Option, Some, None, option_and_then, nat_le, nat_lt, ◌==◌, if◌then◌else◌, codes, to_bits}
use Rattle.std.specs.Float.{Float, binary64, float_is_finite}
use Rattle.std.specs.Float.Parse.{parse_float}
use Rattle.std.specs.Fmt.{signed_decimal}
use Rattle.std.specs.List.{flat_map}
use Rattle.std.specs.Int.{to_be_bytes, w64}
use Rattle.json.specs.Json.{Json, no_items, no_members, item, member, Items, Members}
use Rattle.json.specs.Json as json
use Rattle.json.specs.Print.{IsNumber}
use Rattle.amf_wire.specs.WholeNumbers.{whole_of}

abbrev pub word : List ℕ → Json
word x = json.string x

-- an object of one member, or of one and then others
abbrev pub tagged : List ℕ → Json → Members → Json
tagged tag j ms = json.object (member tag j ms)

abbrev pub alone : List ℕ → Json → Json
alone tag j = tagged tag j no_members

-- texts

abbrev pub hex_digit : ℕ → ℕ
hex_digit n = if nat_lt n 10 then 48 + n else 87 + n

unfoldable pub hex_byte : ℕ → List ℕ
hex_byte b = hex_digit (b / 16) ∷ hex_digit (b % 16) ∷ []

abbrev pub hex : List ℕ → List ℕ
hex = flat_map hex_byte

-- of the bytes of a text, whether none is a zero by two bytes or a surrogate by itself: then it is UTF-8
abbrev pub is_plain : List ℕ → Bool
is_plain [] = true
is_plain (b ∷ []) = true
is_plain (b ∷ c ∷ bytes) = not (b == 0xC0) && (not ((b == 0xED) && nat_le 0xA0 c) && is_plain (c ∷ bytes))

unfoldable pub told_text : List ℕ → Json
told_text x = if is_plain x then word x else alone (codes "$text") (word (hex x))

-- numbers

abbrev pub exponent : ℕ → ℕ
exponent p = (p / 2 ^ 52) % 2048

-- infinite or no number, or minus zero
abbrev pub is_odd : ℕ → Bool
is_odd p = (exponent p == 2047) || (p == 2 ^ 63)

-- the least number of AMF 3 is -2^28, and the greatest 2^28 - 1
abbrev pub is_small : ℤ → Bool
is_small (pos n) = nat_lt n (2 ^ 28)
is_small (negsuc n) = nat_lt n (2 ^ 28)

-- how the text of a number is read: the pattern that it is nearest to, where that is finite
abbrev pub Reads : Type 0
Reads = List ℕ → Option ℕ

abbrev pub finite_pattern : Float → Option ℕ
finite_pattern x = if float_is_finite x then Some (to_bits binary64 x) else None

unfoldable pub read_number : Reads
read_number s = option_and_then finite_pattern (parse_float binary64 s)

-- the digits of a double that is finite and no whole number below 2^53
abbrev pub Digits : Type 0
Digits = ℕ → List ℕ

-- each is a number (RFC 8259, 6) that reads back
abbrev pub AreDigits : Digits → Type 0
AreDigits digits = (p : ℕ) → p < 2 ^ 64 → is_odd p ≡ false → whole_of p ≡ None → IsNumber (digits p) × (read_number (digits p) ≡ Some p)

-- whole numbers below 2^53 by their decimal digits
abbrev pub written_number : Digits → ℕ → Option ℤ → List ℕ
written_number digits p None = digits p
written_number digits p (Some n) = signed_decimal n

abbrev pub odd_word : ℕ → List ℕ
odd_word p = if p == 0x7FF8000000000000 then codes "NaN"
    else (if p == 0x7FF0000000000000 then codes "Infinity"
    else (if p == 0xFFF0000000000000 then codes "-Infinity"
    else (if p == 2 ^ 63 then codes "-0"
    else flat_map hex_byte (to_be_bytes w64 p))))

-- where only a double can stand: of a date, and in a vector of doubles
unfoldable pub told_pattern : Digits → ℕ → Json
told_pattern digits p = if is_odd p then word (odd_word p) else json.number (written_number digits p (whole_of p))

abbrev pub is_integer_like : Option ℤ → Bool
is_integer_like None = false
is_integer_like (Some n) = is_small n

-- as a value: a double that an integer could stand for is told so, but where no integers are
unfoldable pub told_double : Digits → Bool → ℕ → Json
told_double digits bare p = if is_odd p || (is_integer_like (whole_of p) && not bare) then alone (codes "$double") (told_pattern digits p) else told_pattern digits p

-- a flag stands where it holds
abbrev pub flag : List ℕ → Bool → Members
flag name false = no_members
flag name true = member name (json.boolean true) no_members
