-- How texts, numbers and flags stand in a listing: this project's own form.
use Rattle.std.specs.Prelude.{ℕ, ◌+◌, ◌/◌, ◌%◌, Bool, cond, ◌&&◌, not, List, [], ◌∷◌, ◌++◌, nat_le, nat_lt, ◌==◌, if◌then◌else◌, codes}
use Rattle.std.specs.Fmt.{signed_decimal}
use Rattle.std.specs.List.{flat_map}
use Rattle.std.specs.Int.{to_be_bytes, w64}
use Rattle.amf_graph.specs.Graph.{Leaf, undefined, null, boolean, integer, double, text}

-- parts with a comma and a space between them
abbrev pub joined : List (List ℕ) → List ℕ
joined [] = []
joined (x ∷ []) = x
joined (x ∷ y ∷ xs) = x ++ codes ", " ++ joined (y ∷ xs)

-- in square brackets, and in braces

abbrev pub bracketed : List ℕ → List ℕ
bracketed x = codes "[" ++ x ++ codes "]"

abbrev pub braced : List ℕ → List ℕ
braced x = codes "{" ++ x ++ codes "}"

abbrev pub line_feed : List ℕ
line_feed = 10 ∷ []

-- 0 to 9, and then a to f
abbrev pub hex_digit : ℕ → ℕ
hex_digit n = if nat_lt n 10 then 48 + n else 87 + n

unfoldable pub hex_byte : ℕ → List ℕ
hex_byte b = hex_digit (b / 16) ∷ hex_digit (b % 16) ∷ []

-- a byte that stands for itself: a printable one of ASCII, but for the quotation mark and the backslash
abbrev pub is_plain : ℕ → Bool
is_plain b = ((nat_le 0x20 b && nat_le b 0x7E) && not (b == 0x22)) && not (b == 0x5C)

-- any other byte is a backslash and its two digits
unfoldable pub shown_byte : ℕ → List ℕ
shown_byte b = if is_plain b then b ∷ [] else 0x5C ∷ hex_byte b

-- between quotation marks
unfoldable pub shown_text : List ℕ → List ℕ
shown_text x = 0x22 ∷ flat_map shown_byte x ++ 0x22 ∷ []

-- the sixteen digits of its bits
unfoldable pub shown_double : ℕ → List ℕ
shown_double p = codes "d" ++ flat_map hex_byte (to_be_bytes w64 p)

abbrev pub shown_leaf : Leaf → List ℕ
shown_leaf undefined = codes "undefined"
shown_leaf null = codes "null"
shown_leaf (boolean b) = cond b (codes "true") (codes "false")
shown_leaf (integer n) = signed_decimal n
shown_leaf (double p) = shown_double p
shown_leaf (text x) = shown_text x

-- whether the length of a vector is fixed
abbrev pub shown_fixed : Bool → List ℕ
shown_fixed f = cond f (codes "fixed") (codes "open")

-- whether the keys of a dictionary are held weakly
abbrev pub shown_weak : Bool → List ℕ
shown_weak f = cond f (codes "weak") (codes "strong")
