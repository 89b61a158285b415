-- The tokens of an input with the offsets at which they begin, and where it ends.
use Rattle.std.specs.Prelude.{ℕ, suc, Bool, true, false, List, [], ◌∷◌, if◌then◌else◌}
use Rattle.std.specs.List.{zip}
use Rattle.json.specs.Token.{Token, begin_object, end_object, begin_array, end_array, key, string, number, boolean, null, bad}
use Rattle.json.specs.Lex.{Lexeme, token, comma, colon, Class, quote, backslash, operator, space, other, class, Mode, between, in_word, in_string, in_escape, lex, Place, fresh, after_value, after_comma, after_key, begins_colon, may_begin, may_close}

-- the mode of the lexer behind a byte of this class, and whether a token, a comma or a colon begins with it
abbrev pub next_mode : Mode → Class → Mode
next_mode between quote = in_string
next_mode between backslash = in_word
next_mode between operator = between
next_mode between space = between
next_mode between other = in_word
next_mode in_word operator = between
next_mode in_word space = between
next_mode in_word _ = in_word
next_mode in_string quote = between
next_mode in_string backslash = in_escape
next_mode in_string _ = in_string
next_mode in_escape c = in_string

abbrev pub begins : Mode → Class → Bool
begins between space = false
begins between _ = true
begins in_word operator = true
begins _ _ = false

-- where lexemes begin, from an offset on
unfoldable pub places : Mode → ℕ → List ℕ → List ℕ
places m n [] = []
places m n (x ∷ xs) = if begins m (class x) then n ∷ places (next_mode m (class x)) (suc n) xs else places (next_mode m (class x)) (suc n) xs

unfoldable pub mode_after : Mode → List ℕ → Mode
mode_after m [] = m
mode_after m (x ∷ xs) = mode_after (next_mode m (class x)) xs

-- the input ends inside its last token: that is a string without its end, or touches the end as a number or a word
abbrev pub is_open : Mode → Bool
is_open between = false
is_open _ = true

abbrev pub lexemes : List ℕ → List (ℕ × Lexeme)
lexemes input = zip (places between 0 input) (lex between input)

-- where the tokens stop: at the end, at the end behind a comma, inside the token that begins here, or at what is no token or stands out of place
pub data Stop : Type 0 where
  ended : Stop
  comma_last : (at : ℕ) → Stop
  inside : (at : ℕ) → Stop
  fault : (at : ℕ) → Stop

-- tokens with their offsets
pub record Scan : Type 0 where
  pub tokens : List (ℕ × Token)
  pub stop : Stop

abbrev pub stopped : Stop → Scan
stopped s = record { tokens = []; stop = s }

abbrev pub more : ℕ → Token → Scan → Scan
more n t s = record { tokens = (n, t) ∷ s.tokens; stop = s.stop }

abbrev pub if_allowed : Bool → ℕ → Token → (Place → Scan) → Place → Scan
if_allowed true n t k next = more n t (k next)
if_allowed false n t k next = stopped (fault n)

-- the rules for commas and colons, as `punctuate` has them
abbrev pub place_token : Place → ℕ → Token → Bool → (Place → Scan) → Scan
place_token p n begin_object before_colon k = if_allowed (may_begin p) n begin_object k fresh
place_token p n end_object before_colon k = if_allowed (may_close p) n end_object k after_value
place_token p n begin_array before_colon k = if_allowed (may_begin p) n begin_array k fresh
place_token p n end_array before_colon k = if_allowed (may_close p) n end_array k after_value
place_token p n (key s) before_colon k = stopped (fault n)
place_token p n (string s) true k = if_allowed (may_begin p) n (key s) k after_key
place_token p n (string s) false k = if_allowed (may_begin p) n (string s) k after_value
place_token p n (number s) before_colon k = if_allowed (may_begin p) n (number s) k after_value
place_token p n (boolean b) before_colon k = if_allowed (may_begin p) n (boolean b) k after_value
place_token p n null before_colon k = if_allowed (may_begin p) n null k after_value
place_token p n bad before_colon k = stopped (fault n)

abbrev pub last_token : Place → ℕ → Scan
last_token p n = if may_begin p then stopped (inside n) else stopped (fault n)

abbrev pub seconds : List (ℕ × Lexeme) → List Lexeme
seconds [] = []
seconds (p ∷ ps) = p.1 ∷ seconds ps

abbrev pub is_last : Bool → List (ℕ × Lexeme) → Bool
is_last cut [] = cut
is_last cut (l ∷ ls) = false

-- the flag says that the last lexeme is open
unfoldable pub scan_from : Bool → Place → List (ℕ × Lexeme) → Scan
scan_from cut p [] = stopped ended
scan_from cut p ((n, token t) ∷ ls) = if is_last cut ls then last_token p n else place_token p n t (begins_colon (seconds ls)) (λ next. scan_from cut next ls)
scan_from cut after_value ((n, comma) ∷ []) = stopped (comma_last n)
scan_from cut after_value ((n, comma) ∷ l ∷ ls) = scan_from cut after_comma (l ∷ ls)
scan_from cut _ ((n, comma) ∷ ls) = stopped (fault n)
scan_from cut after_key ((n, colon) ∷ ls) = scan_from cut fresh ls
scan_from cut _ ((n, colon) ∷ ls) = stopped (fault n)

abbrev pub scan : List ℕ → Scan
scan input = scan_from (is_open (mode_after between input)) fresh (lexemes input)
