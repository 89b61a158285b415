-- Devices of the proofs: with which bytes a token goes on where a text ends inside it.
use Rattle.std.specs.Prelude.{◌≡◌, ℕ, Bool, true, false, not, List, [], ◌∷◌, ◌++◌, drop}
use Rattle.std.specs.Str.{IsUtf8}
use Rattle.json.specs.Token.{Token}
use Rattle.json.specs.Lex.{between, class, tokens}
use Rattle.amf_text.specs.Scan.{next_mode, is_open}
use Rattle.amf_text_read.specs.Scanned.{is_bad}

-- it begins with a string, a number or a word
abbrev pub begins_open : List ℕ → Bool
begins_open [] = false
begins_open (x ∷ xs) = is_open (next_mode between (class x))

abbrev pub first_good : List Token → Bool
first_good [] = false
first_good (t ∷ ts) = not (is_bad t)

-- a token begins with the front and these bytes
pub record Completes (front end : List ℕ) : Type 0 where
  pub utf8 : IsUtf8 (front ++ end)
  pub good : first_good (tokens (front ++ end)) ≡ true

-- none does
abbrev pub Fails : List ℕ → List ℕ → Type 0
Fails front end = first_good (tokens (front ++ end)) ≡ false

-- the bytes that are tried behind a string
pub data StringEnd : List ℕ → Type 0 where
  quote_end : StringEnd (34 ∷ [])
  letter_end : StringEnd (110 ∷ 34 ∷ [])
  four_end : StringEnd (48 ∷ 48 ∷ 48 ∷ 48 ∷ 34 ∷ [])
  three_end : StringEnd (48 ∷ 48 ∷ 48 ∷ 34 ∷ [])
  two_end : StringEnd (48 ∷ 48 ∷ 34 ∷ [])
  one_end : StringEnd (48 ∷ 34 ∷ [])
  two_low_end : StringEnd (48 ∷ 48 ∷ 92 ∷ 117 ∷ 100 ∷ 99 ∷ 48 ∷ 48 ∷ 34 ∷ [])
  one_low_end : StringEnd (48 ∷ 92 ∷ 117 ∷ 100 ∷ 99 ∷ 48 ∷ 48 ∷ 34 ∷ [])
  low_end : StringEnd (92 ∷ 117 ∷ 100 ∷ 99 ∷ 48 ∷ 48 ∷ 34 ∷ [])
  u_end : StringEnd (117 ∷ 100 ∷ 99 ∷ 48 ∷ 48 ∷ 34 ∷ [])
  d_end : StringEnd (100 ∷ 99 ∷ 48 ∷ 48 ∷ 34 ∷ [])
  c_end : StringEnd (99 ∷ 48 ∷ 48 ∷ 34 ∷ [])

-- and behind a number or a word
pub data WordEnd : List ℕ → Type 0 where
  nothing_end : WordEnd []
  zero_end : WordEnd (48 ∷ [])
  true_end : (n : ℕ) → WordEnd (drop n (116 ∷ 114 ∷ 117 ∷ 101 ∷ []))
  false_end : (n : ℕ) → WordEnd (drop n (102 ∷ 97 ∷ 108 ∷ 115 ∷ 101 ∷ []))
  null_end : (n : ℕ) → WordEnd (drop n (110 ∷ 117 ∷ 108 ∷ 108 ∷ []))

-- and behind a part of a character in a string
pub data CharEnd : List ℕ → Type 0 where
  one_more : CharEnd (128 ∷ 34 ∷ [])
  two_more : CharEnd (128 ∷ 128 ∷ 34 ∷ [])
  two_high : CharEnd (160 ∷ 128 ∷ 34 ∷ [])
  three_more : CharEnd (128 ∷ 128 ∷ 128 ∷ 34 ∷ [])
  three_high : CharEnd (144 ∷ 128 ∷ 128 ∷ 34 ∷ [])

-- where they end the character, no token begins
abbrev pub FailsWhole : List ℕ → List ℕ → Type 0
FailsWhole front end = IsUtf8 (front ++ end) → Fails front end
