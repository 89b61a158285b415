-- Where the tokens of a text begin.
use Rattle.std.specs.Prelude.{◌≡◌, ℕ, ◌<◌, ◌≤◌, ◌==◌, Bool, true, false, ◌&&◌, ◌||◌, not, List, [], ◌∷◌, ◌++◌, length, drop, get_or, map}
use Rattle.std.specs.List.{zip}
use Rattle.json.specs.Lex.{Lexeme, comma, colon, Mode, between, class, lex, Place, after_value, after_key}
use Rattle.amf_text.specs.Scan.{begins, places, mode_after, is_open, Scan, Stop, ended, comma_last, inside, fault, scan_from, scan}

-- where its tokens stop
abbrev pub stop_place : ℕ → Stop → ℕ
stop_place end ended = end
stop_place end (comma_last at) = end
stop_place end (inside at) = at
stop_place end (fault at) = at

-- the places of its tokens, and then where they stop
abbrev pub token_places : List ℕ → List ℕ
token_places text = map (λ p. p.0) (scan text).tokens ++ stop_place (length text) (scan text).stop ∷ []

-- What follows is a device of proofs: where a scan stands.

abbrev pub byte_at : List ℕ → ℕ → ℕ
byte_at text at = get_or text at 0

-- from one place on, passed in this mode, the next lexeme begins at the other, or there is none
pub record NextBegins (text : List ℕ) (mode : Mode) (start next : ℕ) : Type 0 where
  pub behind : start ≤ next
  pub within : next ≤ length text
  pub same_places : places mode start (drop start text) ≡ places between next (drop next text)
  pub same_lexemes : lex mode (drop start text) ≡ lex between (drop next text)
  pub begins : next < length text → begins between (class (byte_at text next)) ≡ true

-- Where a scan stands before its token of a number.

-- the lexemes from a place on

abbrev pub lexemes_at : List ℕ → ℕ → List (ℕ × Lexeme)
lexemes_at text at = zip (places between at (drop at text)) (lex between (drop at text))

-- a comma or colon that has its place
abbrev pub is_parting : Place → Lexeme → Bool
is_parting after_value comma = true
is_parting after_key colon = true
is_parting p l = false

abbrev pub first_parts : Place → List (ℕ × Lexeme) → Bool
first_parts p [] = false
first_parts p (l ∷ ls) = is_parting p l.1

abbrev pub is_cut_text : List ℕ → Bool
is_cut_text text = is_open (mode_after between text)

abbrev pub scan_at : List ℕ → Place → ℕ → Scan
scan_at text p at = scan_from (is_cut_text text) p (lexemes_at text at)

pub record StandsAt (text : List ℕ) (n at : ℕ) : Type 0 where
  pub place : Place
  pub within : at ≤ length text
  pub first : at < length text → begins between (class (byte_at text at)) ≡ true
  pub few : n ≤ length (scan text).tokens
  pub left : drop n (scan text).tokens ≡ (scan_at text place at).tokens
  pub stop : stop_place (length text) (scan text).stop ≡ stop_place (length text) (scan_at text place at).stop
  pub parted : first_parts place (lexemes_at text at) ≡ false

-- a comma or colon has its place behind a token that begins with the first byte
abbrev pub parts_of : ℕ → ℕ → Bool
parts_of x y = ((y == 44) && (not (x == 123) && not (x == 91))) || ((y == 58) && (x == 34))
