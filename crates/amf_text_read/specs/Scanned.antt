-- Devices of the proofs: the tokens of a text, as the kit's reader gives them, beside those of its scan; and what its lexemes say of where they stop.
use Rattle.std.specs.Prelude.{◌≡◌, ℕ, ◌<◌, Bool, true, false, ◌||◌, List, [], ◌∷◌, if◌then◌else◌}
use Rattle.std.specs.List.{zip}
use Rattle.json.specs.Token.{Token, begin_object, begin_array, key, bad}
use Rattle.json.specs.Lex.{Lexeme, comma, Mode, lex}
use Rattle.amf_text.specs.Scan.{places, Stop, ended, comma_last, inside, fault}

abbrev pub is_bad : Token → Bool
is_bad bad = true
is_bad t = false

-- behind the last token, where the text ends inside it
abbrev pub is_cut : Bool → List Token → Bool
is_cut cut [] = cut
is_cut cut (t ∷ ts) = false

-- the tokens before one that is none, or is cut off
abbrev pub whole_tokens : Bool → List Token → List Token
whole_tokens cut [] = []
whole_tokens cut (t ∷ ts) = if is_cut cut ts || is_bad t then [] else t ∷ whole_tokens cut ts

-- there is such a one
abbrev pub stops_early : Bool → List Token → Bool
stops_early cut [] = false
stops_early cut (t ∷ ts) = if is_cut cut ts || is_bad t then true else stops_early cut ts

-- an object or a list begins by it, or a member by its key
abbrev pub opens : Token → Bool
opens begin_object = true
opens begin_array = true
opens (key k) = true
opens t = false

abbrev pub last_opens : Bool → List Token → Bool
last_opens o [] = o
last_opens o (t ∷ ts) = last_opens (opens t) ts

-- lexemes with their places, from a byte on that is passed in a mode
abbrev pub placed_lexemes : Mode → ℕ → List ℕ → List (ℕ × Lexeme)
placed_lexemes m n xs = zip (places m n xs) (lex m xs)

-- where the last lexeme begins, or this place where there is none
abbrev pub last_place : ℕ → List (ℕ × Lexeme) → ℕ
last_place n [] = n
last_place n (l ∷ ls) = last_place l.0 ls

abbrev pub is_comma : Lexeme → Bool
is_comma comma = true
is_comma l = false

-- whether the last lexeme stands behind a comma: of the last so far this is known, and whether it is one
abbrev pub behind_comma : Bool → Bool → List (ℕ × Lexeme) → Bool
behind_comma b c [] = b
behind_comma b c (l ∷ ls) = behind_comma c (is_comma l.1) ls

-- what is known of a stop: whether the last lexeme is open, where it begins, whether a token can stand there, and the end of the text
pub data StopsSo (cut : Bool) (last : ℕ) (can : Bool) (end : ℕ) : Stop → Type 0 where
  so_ended : StopsSo cut last can end ended
  so_comma : (at : ℕ) → at ≡ last → StopsSo cut last can end (comma_last at)
  so_inside : (at : ℕ) → cut ≡ true → at ≡ last → can ≡ true → at < end → StopsSo cut last can end (inside at)
  so_fault : (at : ℕ) → (cut ≡ true → at ≡ last → can ≡ false) → at < end → StopsSo cut last can end (fault at)

abbrev pub is_ended : Stop → Bool
is_ended ended = true
is_ended s = false
