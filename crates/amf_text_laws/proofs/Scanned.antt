-- Where the tokens of a text are those of an object of JSON, its scan has the same ones and comes to the end.
use Rattle.std.proofs.Common.{◌≡◌, ℕ, suc, ◌-◌, Bool, true, false, cond, ◌&&◌, nat_eq, if◌then◌else◌, List, [], ◌∷◌, ◌++◌, length, take, drop, Option, Some, None, refl, sym, ap, ◌∙◌, subst}
use Rattle.std.specs.Prelude.{⊤, ◌==◌}
use Rattle.std.specs.List.{zip, starts_with}
use Rattle.std.proofs.lemmas.Bool.{false≢true}
use Rattle.json.specs.Token.{Token, begin_object, end_object, begin_array, end_array, key, string, number, boolean, null, bad}
use Rattle.json.specs.Json.{Json, no_items, no_members, item, member, Items, Members}
use Rattle.json.specs.Json as json
use Rattle.json.specs.Tree.{json_tokens, items_tokens, members_tokens}
use Rattle.json.specs.Ascii as ascii
use Rattle.json.specs.Text.{content, plain}
use Rattle.json.specs.Word.{word, head, ends_word, number_before, literal, after_number}
use Rattle.json.specs.Lex as kit
use Rattle.json.specs.Lex.{Lexeme, token, comma, colon, Class, quote, backslash, operator, space, other, class, operator_lexeme, string_token, Mode, between, in_word, in_string, in_escape, lex_byte, lex, Place, fresh, after_value, after_comma, after_key, begins_colon, may_begin, may_close, punctuate, tokens}
use Rattle.amf_text.specs.Scan.{next_mode, begins, places, mode_after, is_open, Scan, ended, if_allowed, last_token, seconds, is_last, place_token, scan_from, scan, lexemes}
use Rattle.amf_text.specs.Refused.{tokens_of}

-- Places and lexemes go side by side.

step_zip : (m : Mode) (c : Class) (n x : ℕ) (xs : List ℕ) → ((next : Mode) → seconds (zip (places next (suc n) xs) (lex next xs)) ≡ lex next xs)
    → seconds (zip (if begins m c then n ∷ places (next_mode m c) (suc n) xs else places (next_mode m c) (suc n) xs) (lex_byte m c x xs (λ next. lex next xs))) ≡ lex_byte m c x xs (λ next. lex next xs)
step_zip between quote n x xs more = ap (λ l. token (string_token (content plain xs)) ∷ l) (more in_string)
step_zip between backslash n x xs more = ap (λ l. token bad ∷ l) (more in_word)
step_zip between operator n x xs more = ap (λ l. operator_lexeme x ∷ l) (more between)
step_zip between space n x xs more = more between
step_zip between other n x xs more = ap (λ l. token (word (x ∷ xs)) ∷ l) (more in_word)
step_zip in_word quote n x xs more = more in_word
step_zip in_word backslash n x xs more = more in_word
step_zip in_word operator n x xs more = ap (λ l. operator_lexeme x ∷ l) (more between)
step_zip in_word space n x xs more = more between
step_zip in_word other n x xs more = more in_word
step_zip in_string quote n x xs more = more between
step_zip in_string backslash n x xs more = more in_escape
step_zip in_string operator n x xs more = more in_string
step_zip in_string space n x xs more = more in_string
step_zip in_string other n x xs more = more in_string
step_zip in_escape quote n x xs more = more in_string
step_zip in_escape backslash n x xs more = more in_string
step_zip in_escape operator n x xs more = more in_string
step_zip in_escape space n x xs more = more in_string
step_zip in_escape other n x xs more = more in_string

pub zipped : (m : Mode) (n : ℕ) (xs : List ℕ) → seconds (zip (places m n xs) (lex m xs)) ≡ lex m xs
unfolding lex places
zipped m n [] = refl
zipped m n (x ∷ xs) = step_zip m (class x) n x xs (λ next. zipped next (suc n) xs)

-- Tokens of which none is wrong, and what the last one is.

abbrev pub IsGood : Token → Type 0
IsGood bad = ⊥
IsGood _ = ⊤

abbrev pub AreGood : List Token → Type 0
AreGood [] = ⊤
AreGood (t ∷ ts) = IsGood t × AreGood ts

good_both : (a b : List Token) → AreGood a → AreGood b → AreGood (a ++ b)
good_both [] b p q = q
good_both (t ∷ a) b p q = (p.0, good_both a b p.1 q)

mutual
  json_good : (j : Json) → AreGood (json_tokens j)
  json_good json.null = (tt, tt)
  json_good (json.boolean b) = (tt, tt)
  json_good (json.number s) = (tt, tt)
  json_good (json.string s) = (tt, tt)
  json_good (json.array js) = (tt, items_good js)
  json_good (json.object ms) = (tt, members_good ms)

  items_good : (js : Items) → AreGood (items_tokens js)
  items_good no_items = (tt, tt)
  items_good (item j js) = good_both (json_tokens j) (items_tokens js) (json_good j) (items_good js)

  members_good : (ms : Members) → AreGood (members_tokens ms)
  members_good no_members = (tt, tt)
  members_good (member k j ms) = (tt, good_both (json_tokens j) (members_tokens ms) (json_good j) (members_good ms))

abbrev is_end : Token → Bool
is_end end_object = true
is_end _ = false

-- whether the last of them ends an object
abbrev last_ends : Bool → List Token → Bool
last_ends b [] = b
last_ends b (t ∷ ts) = last_ends (is_end t) ts

last_both : (b : Bool) (xs ys : List Token) → last_ends b (xs ++ ys) ≡ last_ends (last_ends b xs) ys
last_both b [] ys = refl
last_both b (x ∷ xs) ys = last_both (is_end x) xs ys

members_end : (b : Bool) (ms : Members) → last_ends b (members_tokens ms) ≡ true
members_end b no_members = refl
members_end b (member k j ms) = last_both false (json_tokens j) (members_tokens ms) ∙ members_end (last_ends false (json_tokens j)) ms

-- The same of lexemes.

abbrev lexeme_ends : Lexeme → Bool
lexeme_ends (token t) = is_end t
lexeme_ends _ = false

abbrev last_lexeme_ends : Bool → List Lexeme → Bool
last_lexeme_ends b [] = b
last_lexeme_ends b (l ∷ ls) = last_lexeme_ends (lexeme_ends l) ls

cond_end : (b : Bool) (t u : Token) → is_end t ≡ false → is_end u ≡ false → is_end (cond b t u) ≡ false
cond_end true t u p q = p
cond_end false t u p q = q

number_end : (t : List ℕ) (o : Option (List ℕ)) → is_end (number_before t o) ≡ false
number_end t None = refl
number_end t (Some rest) = cond_end (ends_word rest) (number (take (length t - length rest) t)) bad refl refl

literal_end : (name : List ℕ) (u : Token) (t : List ℕ) → is_end u ≡ false → is_end (literal name u t) ≡ false
literal_end name u t h = cond_end (starts_with nat_eq t name && ends_word (drop (length name) t)) u bad h refl

word_end : (t : List ℕ) → is_end (word t) ≡ false
unfolding word
word_end t =
    cond_end (head t == ascii.lower_t) (literal ascii.true_text (boolean true) t) _ (literal_end ascii.true_text (boolean true) t refl)
    (cond_end (head t == ascii.lower_f) (literal ascii.false_text (boolean false) t) _ (literal_end ascii.false_text (boolean false) t refl)
    (cond_end (head t == ascii.lower_n) (literal ascii.null_text null t) _ (literal_end ascii.null_text null t refl) (number_end t (after_number t))))

string_end : (o : Option (List ℕ)) → is_end (string_token o) ≡ false
string_end None = refl
string_end (Some s) = refl

-- A text that is open at its end has no end of an object there.

abbrev OpenLast : List ℕ → Type 0
OpenLast xs = (m : Mode) (b : Bool) → (is_open m ≡ true → b ≡ false) → is_open (mode_after m xs) ≡ true → last_lexeme_ends b (lex m xs) ≡ false

open_step : (m : Mode) (c : Class) (x : ℕ) (xs : List ℕ) (b : Bool) → (is_open m ≡ true → b ≡ false) → is_open (mode_after (next_mode m c) xs) ≡ true → OpenLast xs
    → last_lexeme_ends b (lex_byte m c x xs (λ next. lex next xs)) ≡ false
open_step between quote x xs b h o more = more in_string (is_end (string_token (content plain xs))) (λ e. string_end (content plain xs)) o
open_step between backslash x xs b h o more = more in_word false (λ e. refl) o
open_step between operator x xs b h o more = more between (lexeme_ends (operator_lexeme x)) (λ e. absurd (false≢true e)) o
open_step between space x xs b h o more = more between b h o
open_step between other x xs b h o more = more in_word (is_end (word (x ∷ xs))) (λ e. word_end (x ∷ xs)) o
open_step in_word quote x xs b h o more = more in_word b h o
open_step in_word backslash x xs b h o more = more in_word b h o
open_step in_word operator x xs b h o more = more between (lexeme_ends (operator_lexeme x)) (λ e. absurd (false≢true e)) o
open_step in_word space x xs b h o more = more between b (λ e. absurd (false≢true e)) o
open_step in_word other x xs b h o more = more in_word b h o
open_step in_string quote x xs b h o more = more between b (λ e. absurd (false≢true e)) o
open_step in_string backslash x xs b h o more = more in_escape b h o
open_step in_string operator x xs b h o more = more in_string b h o
open_step in_string space x xs b h o more = more in_string b h o
open_step in_string other x xs b h o more = more in_string b h o
open_step in_escape quote x xs b h o more = more in_string b h o
open_step in_escape backslash x xs b h o more = more in_string b h o
open_step in_escape operator x xs b h o more = more in_string b h o
open_step in_escape space x xs b h o more = more in_string b h o
open_step in_escape other x xs b h o more = more in_string b h o

open_last : (xs : List ℕ) → OpenLast xs
unfolding lex mode_after
open_last [] m b h o = h o
open_last (x ∷ xs) m b h o = open_step m (class x) x xs b h o (open_last xs)

-- The last token is the last lexeme's, where none is wrong.

-- what a place says of the last token and the last lexeme before it
abbrev Before : Place → Bool → Bool → Type 0
Before fresh b d = b ≡ true → d ≡ true
Before after_value b d = b ≡ true → d ≡ true
Before after_comma b d = ⊤
Before after_key b d = b ≡ false

abbrev LastSame : List Lexeme → Type 0
LastSame ls = (p : Place) (b d : Bool) → Before p b d → AreGood (punctuate p ls) → last_ends b (punctuate p ls) ≡ true → last_lexeme_ends d ls ≡ true

allowed_last : (a : Bool) (t : Token) (k : Place → List Token) (next : Place) (b : Bool) → AreGood (kit.if_allowed a t k next) → last_ends b (kit.if_allowed a t k next) ≡ true
    → AreGood (k next) × (last_ends (is_end t) (k next) ≡ true)
allowed_last true t k next b g e = (g.1, e)
allowed_last false t k next b g e = absurd g.0

token_last : (p : Place) (t : Token) (c : Bool) (ls : List Lexeme) (b : Bool) → LastSame ls
    → AreGood (kit.place_token p t c (λ next. punctuate next ls)) → last_ends b (kit.place_token p t c (λ next. punctuate next ls)) ≡ true → last_lexeme_ends (is_end t) ls ≡ true
token_last p begin_object c ls b more g e = let r = allowed_last (may_begin p) begin_object (λ next. punctuate next ls) fresh b g e in more fresh false false (λ h. h) r.0 r.1
token_last p end_object c ls b more g e = let r = allowed_last (may_close p) end_object (λ next. punctuate next ls) after_value b g e in more after_value true true (λ h. h) r.0 r.1
token_last p begin_array c ls b more g e = let r = allowed_last (may_begin p) begin_array (λ next. punctuate next ls) fresh b g e in more fresh false false (λ h. h) r.0 r.1
token_last p end_array c ls b more g e = let r = allowed_last (may_close p) end_array (λ next. punctuate next ls) after_value b g e in more after_value false false (λ h. h) r.0 r.1
token_last p (key s) c ls b more g e = absurd g.0
token_last p (string s) true ls b more g e = let r = allowed_last (may_begin p) (key s) (λ next. punctuate next ls) after_key b g e in more after_key false false refl r.0 r.1
token_last p (string s) false ls b more g e = let r = allowed_last (may_begin p) (string s) (λ next. punctuate next ls) after_value b g e in more after_value false false (λ h. h) r.0 r.1
token_last p (number s) c ls b more g e = let r = allowed_last (may_begin p) (number s) (λ next. punctuate next ls) after_value b g e in more after_value false false (λ h. h) r.0 r.1
token_last p (boolean x) c ls b more g e = let r = allowed_last (may_begin p) (boolean x) (λ next. punctuate next ls) after_value b g e in more after_value false false (λ h. h) r.0 r.1
token_last p null c ls b more g e = let r = allowed_last (may_begin p) null (λ next. punctuate next ls) after_value b g e in more after_value false false (λ h. h) r.0 r.1
token_last p bad c ls b more g e = absurd g.0

last_same : (ls : List Lexeme) → LastSame ls
unfolding punctuate
last_same [] fresh b d h g e = h e
last_same [] after_value b d h g e = h e
last_same [] after_comma b d h g e = absurd g.0
last_same [] after_key b d h g e = absurd g.0
last_same (token t ∷ ls) fresh b d h g e = token_last fresh t (begins_colon ls) ls b (last_same ls) g e
last_same (token t ∷ ls) after_value b d h g e = token_last after_value t (begins_colon ls) ls b (last_same ls) g e
last_same (token t ∷ ls) after_comma b d h g e = token_last after_comma t (begins_colon ls) ls b (last_same ls) g e
last_same (token t ∷ ls) after_key b d h g e = token_last after_key t (begins_colon ls) ls b (last_same ls) g e
last_same (comma ∷ ls) fresh b d h g e = absurd g.0
last_same (comma ∷ ls) after_value b d h g e = last_same ls after_comma b false tt g e
last_same (comma ∷ ls) after_comma b d h g e = absurd g.0
last_same (comma ∷ ls) after_key b d h g e = absurd g.0
last_same (colon ∷ ls) fresh b d h g e = absurd g.0
last_same (colon ∷ ls) after_value b d h g e = absurd g.0
last_same (colon ∷ ls) after_comma b d h g e = absurd g.0
last_same (colon ∷ ls) after_key b d h g e = last_same ls fresh b false (λ t. absurd (false≢true (sym h ∙ t))) g e

-- The scan has the same tokens.

abbrev pub IsScan : List Token → Scan → Type 0
IsScan ts s = (tokens_of s.tokens ≡ ts) × (s.stop ≡ ended)

abbrev ScanSame : List (ℕ × Lexeme) → Type 0
ScanSame ls = (p : Place) → AreGood (punctuate p (seconds ls)) → IsScan (punctuate p (seconds ls)) (scan_from false p ls)

allowed : (a : Bool) (n : ℕ) (t : Token) (k : Place → List Token) (s : Place → Scan) (next : Place) → ((p : Place) → AreGood (k p) → IsScan (k p) (s p)) → AreGood (kit.if_allowed a t k next)
    → IsScan (kit.if_allowed a t k next) (if_allowed a n t s next)
allowed true n t k s next more g = let r = more next g.1 in (ap (λ l. t ∷ l) r.0, r.1)
allowed false n t k s next more g = absurd g.0

placed : (p : Place) (n : ℕ) (t : Token) (c : Bool) (k : Place → List Token) (s : Place → Scan) → ((next : Place) → AreGood (k next) → IsScan (k next) (s next)) → AreGood (kit.place_token p t c k)
    → IsScan (kit.place_token p t c k) (place_token p n t c s)
placed p n begin_object c k s more g = allowed (may_begin p) n begin_object k s fresh more g
placed p n end_object c k s more g = allowed (may_close p) n end_object k s after_value more g
placed p n begin_array c k s more g = allowed (may_begin p) n begin_array k s fresh more g
placed p n end_array c k s more g = allowed (may_close p) n end_array k s after_value more g
placed p n (key x) c k s more g = absurd g.0
placed p n (string x) true k s more g = allowed (may_begin p) n (key x) k s after_key more g
placed p n (string x) false k s more g = allowed (may_begin p) n (string x) k s after_value more g
placed p n (number x) c k s more g = allowed (may_begin p) n (number x) k s after_value more g
placed p n (boolean x) c k s more g = allowed (may_begin p) n (boolean x) k s after_value more g
placed p n null c k s more g = allowed (may_begin p) n null k s after_value more g
placed p n bad c k s more g = absurd g.0

token_scan : (p : Place) (n : ℕ) (t : Token) (ls : List (ℕ × Lexeme)) → ScanSame ls → AreGood (kit.place_token p t (begins_colon (seconds ls)) (λ next. punctuate next (seconds ls)))
    → IsScan (kit.place_token p t (begins_colon (seconds ls)) (λ next. punctuate next (seconds ls)))
    (if is_last false ls then last_token p n else place_token p n t (begins_colon (seconds ls)) (λ next. scan_from false next ls))
token_scan p n t [] more g = placed p n t false (λ next. punctuate next []) (λ next. scan_from false next []) more g
token_scan p n t (l ∷ ls) more g = placed p n t (begins_colon (seconds (l ∷ ls))) (λ next. punctuate next (seconds (l ∷ ls))) (λ next. scan_from false next (l ∷ ls)) more g

scan_same : (ls : List (ℕ × Lexeme)) → ScanSame ls
unfolding punctuate scan_from
scan_same [] fresh g = (refl, refl)
scan_same [] after_value g = (refl, refl)
scan_same [] after_comma g = absurd g.0
scan_same [] after_key g = absurd g.0
scan_same ((n, token t) ∷ ls) fresh g = token_scan fresh n t ls (scan_same ls) g
scan_same ((n, token t) ∷ ls) after_value g = token_scan after_value n t ls (scan_same ls) g
scan_same ((n, token t) ∷ ls) after_comma g = token_scan after_comma n t ls (scan_same ls) g
scan_same ((n, token t) ∷ ls) after_key g = token_scan after_key n t ls (scan_same ls) g
scan_same ((n, comma) ∷ ls) fresh g = absurd g.0
scan_same ((n, comma) ∷ []) after_value g = absurd g.0
scan_same ((n, comma) ∷ l ∷ ls) after_value g = scan_same (l ∷ ls) after_comma g
scan_same ((n, comma) ∷ ls) after_comma g = absurd g.0
scan_same ((n, comma) ∷ ls) after_key g = absurd g.0
scan_same ((n, colon) ∷ ls) fresh g = absurd g.0
scan_same ((n, colon) ∷ ls) after_value g = absurd g.0
scan_same ((n, colon) ∷ ls) after_comma g = absurd g.0
scan_same ((n, colon) ∷ ls) after_key g = scan_same ls fresh g

pub not_true : (b : Bool) → (b ≡ true → ⊥) → b ≡ false
not_true true h = absurd (h refl)
not_true false h = refl

pub scanned : (text : List ℕ) (ms : Members) → tokens text ≡ json_tokens (json.object ms) → IsScan (json_tokens (json.object ms)) (scan text)
scanned text ms e =
    let same : seconds (lexemes text) ≡ lex between text = zipped between 0 text in
    let good : AreGood (punctuate fresh (lex between text)) = subst AreGood (sym e) (json_good (json.object ms)) in
    let ends : last_ends false (punctuate fresh (lex between text)) ≡ true = ap (last_ends false) e ∙ members_end false ms in
    let last : last_lexeme_ends false (lex between text) ≡ true = last_same (lex between text) fresh false false (λ h. h) good ends in
    let closed : is_open (mode_after between text) ≡ false = not_true (is_open (mode_after between text)) (λ o. false≢true (sym (open_last text between false (λ h. refl) o) ∙ last)) in
    let r = scan_same (lexemes text) fresh (subst (λ ls. AreGood (punctuate fresh ls)) (sym same) good) in (
      ap (λ b. tokens_of (scan_from b fresh (lexemes text)).tokens) closed ∙ r.0 ∙ ap (punctuate fresh) same ∙ e,
      ap (λ b. (scan_from b fresh (lexemes text)).stop) closed ∙ r.1,
    )
