-- Numbers and identifiers as texts.
use Rattle.std.specs.Prelude.{ℕ, ◌^◌, nat_lt, ◌&&◌, ◌==◌, not, if◌then◌else◌, Bool, false, List, [], ◌∷◌, ◌++◌}
use Rattle.std.specs.List.{list_all}
use Rattle.std.specs.Char.{is_ascii_digit}
use Rattle.std.specs.Int.{to_be_bytes, w64}
use Rattle.std.specs.Str.Parse.{digits_value}
use Rattle.uuid.specs.declared.Variant.TheVariants.{RFC4122}
use Rattle.uuid.specs.declared.Version.TheVariants.{Random}
use Rattle.uuid.specs.Parts.{with_variant, with_version}
use Rattle.uuid.specs.Text.{lower, hyphenated_text}

-- decimal digits, of which the first is no 0
abbrev pub is_numeral : List ℕ → Bool
is_numeral [] = false
is_numeral (b ∷ x) = not (b == 48) && list_all is_ascii_digit (b ∷ x)

-- the number of a client, a subscription or a poll by its text: below 2^64, without leading zeros. Every other text counts as 0, which is no number of theirs
abbrev pub number_in : List ℕ → ℕ
number_in x = if is_numeral x && nat_lt (digits_value 10 x) (2 ^ 64) then digits_value 10 x else 0

-- the identifier that two words make, the first of them the high half: version 4, variant 10, in lower case with hyphens (RFC 9562, sections 4 and 5.4)
abbrev pub identifier : ℕ → ℕ → List ℕ
identifier high low = hyphenated_text lower (with_version (with_variant (to_be_bytes w64 high ++ to_be_bytes w64 low) RFC4122) Random)
