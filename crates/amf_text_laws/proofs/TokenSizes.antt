-- A text has the bytes of its tokens, and of the commas between them.
use Rattle.std.proofs.Common.{◌≡◌, ℕ, suc, ◌+◌, ◌≤◌, Bool, true, false, cond, List, [], ◌∷◌, ◌++◌, length, Option, Some, None, refl, sym, ap, ◌∙◌, subst, arith, length-append}
use Rattle.std.specs.Prelude.{⊤, ◌==◌, ◌&&◌, nat_lt}
use Rattle.std.specs.Char.{is_digit, encode_utf8}
use Rattle.std.proofs.lemmas.Bool.{false≢true, and_parts, eqb-true}
use Rattle.std.proofs.lemmas.Str.{length-encode}
use Rattle.json.specs.Token.{Token, begin_object, end_object, begin_array, end_array, key, string, number, boolean, null, bad}
use Rattle.json.specs.Ascii as ascii
use Rattle.json.specs.Text.{code_unit, short_escape, is_high_surrogate, is_low_surrogate, surrogate_pair, plain, after_backslash, after_u, after_high, prepend, content}
use Rattle.json.specs.Word.{is_operator, is_space, word, head, ends_word, number_before, literal, after_number}
use Rattle.json.specs.Lex as kit
use Rattle.json.specs.Lex.{Lexeme, token, comma, colon, Class, quote, backslash, operator, space, other, class, operator_lexeme, string_token, Mode, between, in_word, in_string, in_escape, lex_byte, lex, Place, fresh, after_value, after_comma, after_key, begins_colon, may_begin, may_close, punctuate, tokens}
use Rattle.amf_text.proofs.IfThere.{Each, then_each, map_each, if_each}
use Rattle.amf_text_laws.specs.TextBounds.{token_size, tokens_size}
use Rattle.amf_text_laws.proofs.Scanned.{not_true}
use Rattle.amf_text_laws.proofs.Sizes.{begins, ends, spaced, any, weaker}

abbrev lexeme_size : Lexeme → ℕ
lexeme_size (token t) = token_size t
lexeme_size comma = 1
lexeme_size colon = 1

abbrev lexemes_size : List Lexeme → ℕ
lexemes_size [] = 0
lexemes_size (l ∷ ls) = lexeme_size l + lexemes_size ls

-- Words and operators are of a byte at least.

cond_size : (b : Bool) (t u : Token) → token_size t ≤ 1 → token_size u ≤ 1 → token_size (cond b t u) ≤ 1
cond_size true t u p q = p
cond_size false t u p q = q

number_size : (t : List ℕ) (o : Option (List ℕ)) → token_size (number_before t o) ≤ 1
number_size t None = omega arith
number_size t (Some rest) = cond_size (ends_word rest) _ bad (omega arith) (omega arith)

word_size : (t : List ℕ) → token_size (word t) ≤ 1
unfolding word
word_size t =
    cond_size (head t == ascii.lower_t) (literal ascii.true_text (boolean true) t) _ (cond_size _ (boolean true) bad (omega arith) (omega arith))
    (cond_size (head t == ascii.lower_f) (literal ascii.false_text (boolean false) t) _ (cond_size _ (boolean false) bad (omega arith) (omega arith))
    (cond_size (head t == ascii.lower_n) (literal ascii.null_text null t) _ (cond_size _ null bad (omega arith) (omega arith)) (number_size t (after_number t))))

choice_size : (b : Bool) (l m : Lexeme) → lexeme_size l ≤ 1 → lexeme_size m ≤ 1 → lexeme_size (cond b l m) ≤ 1
choice_size true l m p q = p
choice_size false l m p q = q

operator_size : (x : ℕ) → lexeme_size (operator_lexeme x) ≤ 1
operator_size x =
    choice_size (x == ascii.open_brace) (token begin_object) _ (omega arith)
    (choice_size (x == ascii.close_brace) (token end_object) _ (omega arith)
    (choice_size (x == ascii.open_bracket) (token begin_array) _ (omega arith)
    (choice_size (x == ascii.close_bracket) (token end_array) _ (omega arith) (choice_size (x == ascii.comma) comma colon (omega arith) (omega arith)))))

-- In a string.

abbrev below : ℕ → Class
below x = cond (is_operator x) operator (cond (is_space x) space other)

abbrev string_byte : ℕ → List ℕ → Class → List Lexeme
string_byte x xs c = lex_byte in_string c x xs (λ next. lex next xs)

at_quote : (x : ℕ) (xs : List ℕ) → (x == 34) ≡ true → lex in_string (x ∷ xs) ≡ lex between xs
unfolding lex
at_quote x xs e = ap (λ b. string_byte x xs (cond b quote (cond (x == 92) backslash (below x)))) e

at_backslash : (x : ℕ) (xs : List ℕ) → (x == 34) ≡ false → (x == 92) ≡ true → lex in_string (x ∷ xs) ≡ lex in_escape xs
unfolding lex
at_backslash x xs e f = ap (λ b. string_byte x xs (cond b quote (cond (x == 92) backslash (below x)))) e ∙ ap (λ b. string_byte x xs (cond b backslash (below x))) f

at_below : (o s : Bool) (x : ℕ) (xs : List ℕ) → string_byte x xs (cond o operator (cond s space other)) ≡ lex in_string xs
at_below true s x xs = refl
at_below false true x xs = refl
at_below false false x xs = refl

at_other : (x : ℕ) (xs : List ℕ) → (x == 34) ≡ false → (x == 92) ≡ false → lex in_string (x ∷ xs) ≡ lex in_string xs
unfolding lex
at_other x xs e f =
    ap (λ b. string_byte x xs (cond b quote (cond (x == 92) backslash (below x)))) e ∙ ap (λ b. string_byte x xs (cond b backslash (below x))) f ∙ at_below (is_operator x) (is_space x) x xs

in_the_escape : (x : ℕ) (xs : List ℕ) → lex in_escape (x ∷ xs) ≡ lex in_string xs
unfolding lex
in_the_escape x xs = refl

at_digit : (x : ℕ) (xs : List ℕ) → is_digit x 16 ≡ true → lex in_string (x ∷ xs) ≡ lex in_string xs
at_digit x xs h =
    at_other x xs
    (not_true (x == 34) (λ e. let l : is_digit x 16 ≡ false = ap (λ y. is_digit y 16) (eqb-true x 34 e) in false≢true (sym l ∙ h)))
    (not_true (x == 92) (λ e. let l : is_digit x 16 ≡ false = ap (λ y. is_digit y 16) (eqb-true x 92 e) in false≢true (sym l ∙ h)))

record AreDigits (a b c d : ℕ) : Type 0 where
  one : is_digit a 16 ≡ true
  two : is_digit b 16 ≡ true
  three : is_digit c 16 ≡ true
  four : is_digit d 16 ≡ true

unit_digits : (a b c d : ℕ) → Each (λ (u : ℕ). AreDigits a b c d) (code_unit a b c d)
unfolding code_unit
unit_digits a b c d =
    if_each (λ (u : ℕ). AreDigits a b c d) (is_digit a 16 && is_digit b 16 && is_digit c 16 && is_digit d 16) (Some _) None (λ e.
    let p = and_parts (is_digit a 16 && is_digit b 16 && is_digit c 16) (is_digit d 16) e in
    let q = and_parts (is_digit a 16 && is_digit b 16) (is_digit c 16) p.0 in
    let r = and_parts (is_digit a 16) (is_digit b 16) q.0 in
    record { one = r.0; two = r.1; three = q.1; four = p.1 }) (λ e. tt)

at_digits : (a b c d : ℕ) (xs : List ℕ) → AreDigits a b c d → lex in_string (a ∷ b ∷ c ∷ d ∷ xs) ≡ lex in_string xs
at_digits a b c d xs h = at_digit a (b ∷ c ∷ d ∷ xs) h.one ∙ at_digit b (c ∷ d ∷ xs) h.two ∙ at_digit c (d ∷ xs) h.three ∙ at_digit d xs h.four

choice_long : (b : Bool) (m n : ℕ) → m ≤ 4 → n ≤ 4 → cond b m n ≤ 4
choice_long true m n p q = p
choice_long false m n p q = q

encoded_long : (c : ℕ) → length (encode_utf8 c) ≤ 4
encoded_long c =
    subst (λ n. n ≤ 4) (sym (length-encode c))
    (choice_long (nat_lt c 0x80) 1 (cond (nat_lt c 0x800) 2 (cond (nat_lt c 0x10000) 3 4)) (omega arith)
    (choice_long (nat_lt c 0x800) 2 (cond (nat_lt c 0x10000) 3 4) (omega arith) (choice_long (nat_lt c 0x10000) 3 4 (omega arith) (omega arith))))

-- so many bytes of content, so many more bytes, and then the lexemes behind the string
abbrev Room : ℕ → List Lexeme → ℕ → List ℕ → Type 0
Room k ls n s = length s + k + lexemes_size ls ≤ n

-- the same lexemes, with one byte more, or four
wider : (o : Option (List ℕ)) (ls ks : List Lexeme) (n : ℕ) → ks ≡ ls → Each (Room 0 ls n) o → Each (Room 1 ks (suc n)) o
wider o ls ks n e h = weaker (Room 0 ls n) (Room 1 ks (suc n)) o h (λ s r. omega (arith, r, ap lexemes_size e))

from_string : (o : Option (List ℕ)) (ls ks : List Lexeme) (n : ℕ) → ks ≡ ls → Each (Room 0 ls n) o → Each (Room 0 ks (suc n)) o
from_string o ls ks n e h = weaker (Room 0 ls n) (Room 0 ks (suc n)) o h (λ s r. omega (arith, r, ap lexemes_size e))

four_more : (o : Option (List ℕ)) (ls ks : List Lexeme) (n : ℕ) → ks ≡ ls → Each (Room 0 ls n) o → Each (Room 0 ks (suc (suc (suc (suc n))))) o
four_more o ls ks n e h = weaker (Room 0 ls n) (Room 0 ks (suc (suc (suc (suc n))))) o h (λ s r. omega (arith, r, ap lexemes_size e))

string_size : (o : Option (List ℕ)) (ls : List Lexeme) (n : ℕ) → lexemes_size ls ≤ n → Each (Room 1 ls n) o → token_size (string_token o) + lexemes_size ls ≤ suc n
string_size None ls n l h = omega (arith, l)
string_size (Some s) ls n l h = omega (arith, h)

byte_in : (m : Mode) (c : Class) (x : ℕ) (xs : List ℕ) → lexemes_size (lex between xs) ≤ length xs → lexemes_size (lex in_word xs) ≤ length xs → lexemes_size (lex in_string xs) ≤ length xs
    → lexemes_size (lex in_escape xs) ≤ length xs → Each (Room 1 (lex in_string xs) (length xs)) (content plain xs) → lexemes_size (lex_byte m c x xs (λ next. lex next xs)) ≤ suc (length xs)
byte_in between quote x xs b w s e p = string_size (content plain xs) (lex in_string xs) (length xs) s p
byte_in between backslash x xs b w s e p = omega (arith, w)
byte_in between operator x xs b w s e p = omega (arith, b, operator_size x)
byte_in between space x xs b w s e p = omega (arith, b)
byte_in between other x xs b w s e p = omega (arith, w, word_size (x ∷ xs))
byte_in in_word quote x xs b w s e p = omega (arith, w)
byte_in in_word backslash x xs b w s e p = omega (arith, w)
byte_in in_word operator x xs b w s e p = omega (arith, b, operator_size x)
byte_in in_word space x xs b w s e p = omega (arith, b)
byte_in in_word other x xs b w s e p = omega (arith, w)
byte_in in_string quote x xs b w s e p = omega (arith, b)
byte_in in_string backslash x xs b w s e p = omega (arith, e)
byte_in in_string operator x xs b w s e p = omega (arith, s)
byte_in in_string space x xs b w s e p = omega (arith, s)
byte_in in_string other x xs b w s e p = omega (arith, s)
byte_in in_escape c x xs b w s e p = omega (arith, s)

mutual
  unfolding content lex

  plain_in : (xs : List ℕ) → Each (Room 1 (lex in_string xs) (length xs)) (content plain xs)
  plain_in [] = tt
  plain_in (x ∷ xs) =
      let All = Room 1 (lex in_string (x ∷ xs)) (length (x ∷ xs)) in
      if_each All (x == 34) (Some []) _ (λ e. omega (arith, lex_in between xs, ap lexemes_size (at_quote x xs e))) (λ e.
      if_each All (x == 92) (content after_backslash xs) _
      (λ f. wider (content after_backslash xs) (lex in_escape xs) (lex in_string (x ∷ xs)) (length xs) (at_backslash x xs e f) (backslash_in xs)) (λ f.
      if_each All (nat_lt x 32) None _ (λ g. tt) (λ g.
      map_each (Room 1 (lex in_string xs) (length xs)) All (λ s. x ∷ s) (content plain xs) (plain_in xs) (λ s r. omega (arith, r, ap lexemes_size (at_other x xs e f))))))

  backslash_in : (xs : List ℕ) → Each (Room 0 (lex in_escape xs) (length xs)) (content after_backslash xs)
  backslash_in [] = tt
  backslash_in (x ∷ xs) =
      let All = Room 0 (lex in_escape (x ∷ xs)) (length (x ∷ xs)) in
      let same = in_the_escape x xs in
      if_each All (x == 117) (content after_u xs) _ (λ e. from_string (content after_u xs) (lex in_string xs) (lex in_escape (x ∷ xs)) (length xs) same (u_in xs)) (λ e.
      then_each (λ (c : ℕ). ⊤) All (λ c. prepend (c ∷ []) (content plain xs)) (short_escape x) (any (short_escape x))
      (λ c t. map_each (Room 1 (lex in_string xs) (length xs)) All (λ s. c ∷ s) (content plain xs) (plain_in xs) (λ s r. omega (arith, r, ap lexemes_size same))))

  u_in : (xs : List ℕ) → Each (Room 0 (lex in_string xs) (length xs)) (content after_u xs)
  u_in [] = tt
  u_in (a ∷ []) = tt
  u_in (a ∷ b ∷ []) = tt
  u_in (a ∷ b ∷ c ∷ []) = tt
  u_in (a ∷ b ∷ c ∷ d ∷ xs) =
      let All = Room 0 (lex in_string (a ∷ b ∷ c ∷ d ∷ xs)) (length (a ∷ b ∷ c ∷ d ∷ xs)) in
      then_each (λ (u : ℕ). AreDigits a b c d) All _ (code_unit a b c d) (unit_digits a b c d) (λ u h.
      let same = at_digits a b c d xs h in
      if_each All (is_high_surrogate u) (content (after_high u) xs) _ (λ e. four_more (content (after_high u) xs) (lex in_string xs) (lex in_string (a ∷ b ∷ c ∷ d ∷ xs)) (length xs) same (high_in u xs)) (λ e.
      if_each All (is_low_surrogate u) None _ (λ f. tt) (λ f.
      map_each (Room 1 (lex in_string xs) (length xs)) All (λ s. encode_utf8 u ++ s) (content plain xs) (plain_in xs)
      (λ s r. omega (arith, r, ap lexemes_size same, length-append (encode_utf8 u) s, encoded_long u)))))

  high_in : (h : ℕ) (xs : List ℕ) → Each (Room 0 (lex in_string xs) (length xs)) (content (after_high h) xs)
  high_in h [] = tt
  high_in h (s ∷ []) = tt
  high_in h (s ∷ u ∷ []) = tt
  high_in h (s ∷ u ∷ a ∷ []) = tt
  high_in h (s ∷ u ∷ a ∷ b ∷ []) = tt
  high_in h (s ∷ u ∷ a ∷ b ∷ c ∷ []) = tt
  high_in h (s ∷ u ∷ a ∷ b ∷ c ∷ d ∷ xs) =
      let bytes = s ∷ u ∷ a ∷ b ∷ c ∷ d ∷ xs in
      let All = Room 0 (lex in_string bytes) (length bytes) in
      if_each All ((s == 92) && (u == 117)) _ None (λ e.
      let p = and_parts (s == 92) (u == 117) e in
      let no_quote : (s == 34) ≡ false = ap (λ n. n == 34) (eqb-true s 92 p.0) in
      then_each (λ (l : ℕ). AreDigits a b c d) All _ (code_unit a b c d) (unit_digits a b c d) (λ l k.
      let same : lex in_string bytes ≡ lex in_string xs = at_backslash s (u ∷ a ∷ b ∷ c ∷ d ∷ xs) no_quote p.0 ∙ in_the_escape u (a ∷ b ∷ c ∷ d ∷ xs) ∙ at_digits a b c d xs k in
      if_each All (is_low_surrogate l) _ None (λ f.
      map_each (Room 1 (lex in_string xs) (length xs)) All (λ x. encode_utf8 (surrogate_pair h l) ++ x) (content plain xs) (plain_in xs)
      (λ x r. omega (arith, r, ap lexemes_size same, length-append (encode_utf8 (surrogate_pair h l)) x, encoded_long (surrogate_pair h l)))) (λ f. tt))) (λ e. tt)

  -- where all that follows is in the lexemes, they are in the bytes
  lex_in : (m : Mode) (xs : List ℕ) → lexemes_size (lex m xs) ≤ length xs
  lex_in m [] = omega arith
  lex_in m (x ∷ xs) = byte_in m (class x) x xs (lex_in between xs) (lex_in in_word xs) (lex_in in_string xs) (lex_in in_escape xs) (plain_in xs)

-- Commas and colons: the colon of a key is paid by its token.

abbrev Colon : Place → List Lexeme → Type 0
Colon after_key ls = begins_colon ls ≡ true
Colon _ ls = ⊤

abbrev owed : Place → ℕ
owed after_key = 1
owed _ = 0

abbrev behind_value : Place → Bool
behind_value after_value = true
behind_value _ = false

abbrev Punctuated : List Lexeme → Type 0
Punctuated ls = (p : Place) → Colon p ls → spaced (behind_value p) (punctuate p ls) + owed p ≤ lexemes_size ls

no_comma : (b : Bool) → ◌≡◌ {A = ℕ} (cond b 0 0) 0
no_comma true = refl
no_comma false = refl

-- the tokens end here
ended : (b : Bool) → spaced b (bad ∷ []) ≡ 0
ended true = refl
ended false = refl

begin_alone : (p : Place) (n : ℕ) → may_begin p ≡ true → cond (behind_value p) n 0 ≡ 0
begin_alone fresh n h = refl
begin_alone after_value n h = absurd (false≢true h)
begin_alone after_comma n h = refl
begin_alone after_key n h = refl

allowed_in : (a b : Bool) (t : Token) (k : Place → List Token) (next : Place) (n : ℕ) → (a ≡ true → cond b (begins t) 0 ≡ 0) → token_size t + spaced (ends t) (k next) ≤ n → spaced b (kit.if_allowed a t k next) ≤ n
allowed_in true b t k next n g h = omega (arith, h, g refl)
allowed_in false b t k next n g h = omega (arith, ended b)

token_in : (p : Place) (t : Token) (ls : List Lexeme) (c : Bool) → begins_colon ls ≡ c → Punctuated ls → spaced (behind_value p) (kit.place_token p t c (λ next. punctuate next ls)) ≤ token_size t + lexemes_size ls
token_in p begin_object ls c e more = allowed_in (may_begin p) (behind_value p) begin_object (λ next. punctuate next ls) fresh (1 + lexemes_size ls) (begin_alone p 1) (omega (arith, more fresh tt))
token_in p end_object ls c e more = allowed_in (may_close p) (behind_value p) end_object (λ next. punctuate next ls) after_value (1 + lexemes_size ls) (λ h. no_comma (behind_value p)) (omega (arith, more after_value tt))
token_in p begin_array ls c e more = allowed_in (may_begin p) (behind_value p) begin_array (λ next. punctuate next ls) fresh (1 + lexemes_size ls) (begin_alone p 1) (omega (arith, more fresh tt))
token_in p end_array ls c e more = allowed_in (may_close p) (behind_value p) end_array (λ next. punctuate next ls) after_value (1 + lexemes_size ls) (λ h. no_comma (behind_value p)) (omega (arith, more after_value tt))
token_in p (key s) ls c e more = omega (arith, ended (behind_value p))
token_in p (string s) ls true e more = allowed_in (may_begin p) (behind_value p) (key s) (λ next. punctuate next ls) after_key (2 + length s + lexemes_size ls) (begin_alone p 1) (omega (arith, more after_key e))
token_in p (string s) ls false e more = allowed_in (may_begin p) (behind_value p) (string s) (λ next. punctuate next ls) after_value (2 + length s + lexemes_size ls) (begin_alone p 1) (omega (arith, more after_value tt))
token_in p (number s) ls c e more = allowed_in (may_begin p) (behind_value p) (number s) (λ next. punctuate next ls) after_value (1 + lexemes_size ls) (begin_alone p 1) (omega (arith, more after_value tt))
token_in p (boolean b) ls c e more = allowed_in (may_begin p) (behind_value p) (boolean b) (λ next. punctuate next ls) after_value (1 + lexemes_size ls) (begin_alone p 1) (omega (arith, more after_value tt))
token_in p null ls c e more = allowed_in (may_begin p) (behind_value p) null (λ next. punctuate next ls) after_value (1 + lexemes_size ls) (begin_alone p 1) (omega (arith, more after_value tt))
token_in p bad ls c e more = omega (arith, ended (behind_value p))

one_begins : (t : Token) → begins t ≤ 1
one_begins begin_object = omega arith
one_begins end_object = omega arith
one_begins begin_array = omega arith
one_begins end_array = omega arith
one_begins (key s) = omega arith
one_begins (string s) = omega arith
one_begins (number s) = omega arith
one_begins (boolean b) = omega arith
one_begins null = omega arith
one_begins bad = omega arith

one_comma : (ts : List Token) → spaced true ts ≤ suc (spaced false ts)
one_comma [] = omega arith
one_comma (t ∷ ts) = omega (arith, one_begins t)

punctuated : (ls : List Lexeme) → Punctuated ls
unfolding punctuate
punctuated [] fresh h = omega arith
punctuated [] after_value h = omega arith
punctuated [] after_comma h = omega arith
punctuated [] after_key h = absurd (false≢true h)
punctuated (token t ∷ ls) fresh h = omega (arith, token_in fresh t ls (begins_colon ls) refl (punctuated ls))
punctuated (token t ∷ ls) after_value h = omega (arith, token_in after_value t ls (begins_colon ls) refl (punctuated ls))
punctuated (token t ∷ ls) after_comma h = omega (arith, token_in after_comma t ls (begins_colon ls) refl (punctuated ls))
punctuated (token t ∷ ls) after_key h = absurd (false≢true h)
punctuated (comma ∷ ls) fresh h = omega arith
punctuated (comma ∷ ls) after_value h = omega (arith, punctuated ls after_comma tt, one_comma (punctuate after_comma ls))
punctuated (comma ∷ ls) after_comma h = omega arith
punctuated (comma ∷ ls) after_key h = absurd (false≢true h)
punctuated (colon ∷ ls) fresh h = omega arith
punctuated (colon ∷ ls) after_value h = omega arith
punctuated (colon ∷ ls) after_comma h = omega arith
punctuated (colon ∷ ls) after_key h = omega (arith, punctuated ls fresh tt)

pub spaced_in : (text : List ℕ) → spaced false (tokens text) ≤ length text
spaced_in text = omega (arith, punctuated (lex between text) fresh tt, lex_in between text)

without_commas : (b : Bool) (ts : List Token) → tokens_size ts ≤ spaced b ts
without_commas b [] = omega arith
without_commas b (t ∷ ts) = omega (arith, without_commas (ends t) ts)

pub tokens_in : (text : List ℕ) → tokens_size (tokens text) ≤ length text
tokens_in text = omega (arith, without_commas false (tokens text), spaced_in text)
