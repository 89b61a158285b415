-- Texts: UTF-8, and with it surrogates by three bytes each and C0 80 for a zero (AMF 3, 1.3.2; AMF 0, 1.3.1; RFC 3629, 4).
use Rattle.std.specs.Prelude.{◌≡◌, ℕ, ◌≤◌, Bool, true, false, ◌&&◌, List, [], ◌∷◌, length, take, slice_get, Option, Some, None, nat_le, nat_lt, ◌==◌, if◌then◌else◌}
use Rattle.std.specs.List.{AllZip, AllByRecursion, concat}

-- the least and the greatest byte at a place
abbrev pub Range : Type 0
Range = ℕ × ℕ

abbrev pub rest_byte : Range
rest_byte = (0x80, 0xBF)

-- the ranges of the bytes of one unit, row by row
abbrev pub rows : List (List Range)
rows =
    ((0x00, 0x7F) ∷ [])
    ∷ ((0xC2, 0xDF) ∷ rest_byte ∷ [])
    ∷ ((0xE0, 0xE0) ∷ (0xA0, 0xBF) ∷ rest_byte ∷ [])
    ∷ ((0xE1, 0xEC) ∷ rest_byte ∷ rest_byte ∷ [])
    ∷ ((0xED, 0xED) ∷ (0x80, 0x9F) ∷ rest_byte ∷ [])
    ∷ ((0xEE, 0xEF) ∷ rest_byte ∷ rest_byte ∷ [])
    ∷ ((0xF0, 0xF0) ∷ (0x90, 0xBF) ∷ rest_byte ∷ rest_byte ∷ [])
    ∷ ((0xF1, 0xF3) ∷ rest_byte ∷ rest_byte ∷ rest_byte ∷ [])
    ∷ ((0xF4, 0xF4) ∷ (0x80, 0x8F) ∷ rest_byte ∷ rest_byte ∷ [])
    ∷ ((0xED, 0xED) ∷ (0xA0, 0xBF) ∷ rest_byte ∷ [])
    ∷ ((0xC0, 0xC0) ∷ (0x80, 0x80) ∷ [])
    ∷ []

abbrev pub IsWithin : Range → ℕ → Type 0
IsWithin r b = (r.0 ≤ b) × (b ≤ r.1)

-- the bytes of one unit
abbrev pub IsUnit : List ℕ → Type 0
IsUnit bytes = (k : ℕ) × (row : List Range) × (slice_get rows k ≡ Some row) × AllZip IsWithin row bytes

-- a joining of units
abbrev pub IsText : List ℕ → Type 0
IsText bytes = (units : List (List ℕ)) × AllByRecursion IsUnit units × (bytes ≡ concat units)

-- the longest front that is a text ends here
pub record EndsText (bytes : List ℕ) (n : ℕ) : Type 0 where
  pub within : n ≤ length bytes
  pub front : IsText (take n bytes)
  pub longest : (m : ℕ) → m ≤ length bytes → IsText (take m bytes) → m ≤ n

-- The same as a test, for a field that has to be judged: `WorkedFacts` says that the two agree.

-- the ranges of the bytes that follow this one in its unit
abbrev pub following : ℕ → Option (List Range)
following b =
    if nat_le b 0x7F then Some []
    else (if b == 0xC0 then Some ((0x80, 0x80) ∷ [])
    else (if nat_lt b 0xC2 then None
    else (if nat_le b 0xDF then Some (rest_byte ∷ [])
    else (if b == 0xE0 then Some ((0xA0, 0xBF) ∷ rest_byte ∷ [])
    else (if nat_le b 0xEF then Some (rest_byte ∷ rest_byte ∷ [])
    else (if b == 0xF0 then Some ((0x90, 0xBF) ∷ rest_byte ∷ rest_byte ∷ [])
    else (if nat_le b 0xF3 then Some (rest_byte ∷ rest_byte ∷ rest_byte ∷ [])
    else (if b == 0xF4 then Some ((0x80, 0x8F) ∷ rest_byte ∷ rest_byte ∷ [])
    else None))))))))

-- whether the bytes end a unit of which these ranges are still to come, and units follow
abbrev pub is_text_after : Option (List Range) → List ℕ → Bool
is_text_after None bytes = false
is_text_after (Some []) [] = true
is_text_after (Some (r ∷ rs)) [] = false
is_text_after (Some []) (b ∷ bytes) = is_text_after (following b) bytes
is_text_after (Some (r ∷ rs)) (b ∷ bytes) = (nat_le r.0 b && nat_le b r.1) && is_text_after (Some rs) bytes

abbrev pub is_text : List ℕ → Bool
is_text bytes = is_text_after (Some []) bytes
