-- Which comma or colon has its place, by the bytes with which lexemes begin.
use Rattle.std.proofs.Common.{◌≡◌, ℕ, suc, ◌+◌, ◌-◌, ◌<◌, ◌==◌, Bool, true, false, List, [], ◌∷◌, length, take, drop, refl, sym, ◌∙◌, cond, arith, inl, inr}
use Rattle.std.proofs.Math.Nat.{eq-or-lt_of_le}
use Rattle.std.specs.Prelude.{Option, Some, None}
use Rattle.std.proofs.lemmas.Bool.{false≢true}
use Rattle.json.specs.Token.{Token, begin_object, end_object, begin_array, end_array, string, number, boolean, null, bad}
use Rattle.json.specs.Text.{content, plain}
use Rattle.json.specs.Word.{word, head, literal, number_before, after_number, ends_word}
use Rattle.json.specs.Ascii as ascii
use Rattle.json.specs.Lex.{Lexeme, token, comma, colon, class, string_token, between, Place, fresh, after_value, after_comma, after_key}
use Rattle.amf_text.specs.Scan.{begins, next_mode, scan}
use Rattle.amf_text_read.specs.Places.{NextBegins, StandsAt, byte_at, first_parts, is_parting, lexemes_at, parts_of}
use Rattle.amf_text_read.proofs.ModeSteps.{byte_cases, class_other, no_brace, no_bracket, no_colon, no_comma}
use Rattle.amf_text_read.proofs.Scanning.{first_there, is_good_at, is_token, lexeme_at, lexeme_of, no_lexemes, parted_next, place_after, place_behind, place_there, unparted_next}

-- The second lexeme: a comma, a colon, or a token.

data Second (y : ℕ) : Lexeme → Type 0 where
  is_comma : y ≡ 44 → Second y comma
  is_colon : y ≡ 58 → Second y colon
  is_other : (t : Token) → (y == 44) ≡ false → (y == 58) ≡ false → Second y (token t)

abbrev IsSecond : ℕ → Type 0
IsSecond y = (ys : List ℕ) → begins between (class y) ≡ true → Second y (lexeme_of (class y) y ys)

second : (y : ℕ) → IsSecond y
second y =
    byte_cases IsSecond y (λ ys b. is_other (string_token (content plain ys)) refl refl) (λ ys b. is_other bad refl refl)
    (λ ys b. is_other begin_object refl refl) (λ ys b. is_other end_object refl refl) (λ ys b. is_other begin_array refl refl) (λ ys b. is_other end_array refl refl)
    (λ ys b. is_colon refl) (λ ys b. is_comma refl)
    (λ ys b. absurd (false≢true b)) (λ ys b. absurd (false≢true b)) (λ ys b. absurd (false≢true b)) (λ ys b. absurd (false≢true b))
    (λ x ys b. rw (class_other y x) (is_other (word (y ∷ ys)) (no_comma y x.no_operator) (no_colon y x.no_operator)))

-- The first lexeme, which is a token: an opening bracket, a string, or another.

data First (x : ℕ) : Lexeme → Type 0 where
  is_brace : x ≡ 123 → First x (token begin_object)
  is_bracket : x ≡ 91 → First x (token begin_array)
  is_string : x ≡ 34 → (s : List ℕ) → First x (token (string s))
  is_plain : (x == 123) ≡ false → (x == 91) ≡ false → (x == 34) ≡ false → (t : Token) → ((colon : Bool) → place_behind t colon ≡ after_value) → First x (token t)

-- a word is no bracket and no string
abbrev IsWord : Token → Type 0
IsWord t = (colon : Bool) → place_behind t colon ≡ after_value

chosen : (c : Bool) (a b : Token) → IsWord a → IsWord b → IsWord (cond c a b)
chosen true a b p q = p
chosen false a b p q = q

literal_word : (name : List ℕ) (a : Token) (t : List ℕ) → IsWord a → IsWord (literal name a t)
literal_word name a t p = chosen _ a bad p (λ c. refl)

number_word : (t : List ℕ) (o : Option (List ℕ)) → IsWord (number_before t o)
number_word t None = λ c. refl
number_word t (Some rest) = chosen (ends_word rest) (number (take (length t - length rest) t)) bad (λ c. refl) (λ c. refl)

null_word : (t : List ℕ) → IsWord (cond (head t == ascii.lower_n) (literal ascii.null_text null t) (number_before t (after_number t)))
null_word t = chosen (head t == ascii.lower_n) (literal ascii.null_text null t) (number_before t (after_number t)) (literal_word ascii.null_text null t (λ c. refl)) (number_word t (after_number t))

false_word : (t : List ℕ)
    → IsWord (cond (head t == ascii.lower_f) (literal ascii.false_text (boolean false) t) (cond (head t == ascii.lower_n) (literal ascii.null_text null t) (number_before t (after_number t))))
false_word t =
    chosen (head t == ascii.lower_f) (literal ascii.false_text (boolean false) t) (cond (head t == ascii.lower_n) (literal ascii.null_text null t) (number_before t (after_number t)))
    (literal_word ascii.false_text (boolean false) t (λ c. refl)) (null_word t)

word_word : (t : List ℕ) → IsWord (word t)
unfolding word
word_word t =
    chosen (head t == ascii.lower_t) (literal ascii.true_text (boolean true) t)
    (cond (head t == ascii.lower_f) (literal ascii.false_text (boolean false) t) (cond (head t == ascii.lower_n) (literal ascii.null_text null t) (number_before t (after_number t))))
    (literal_word ascii.true_text (boolean true) t (λ c. refl)) (false_word t)

abbrev IsFirst : ℕ → Type 0
IsFirst x = (xs : List ℕ) → is_token (lexeme_of (class x) x xs) ≡ true → First x (lexeme_of (class x) x xs)

string_first : (o : Option (List ℕ)) → is_token (token (string_token o)) ≡ true → First 34 (token (string_token o))
string_first None h = absurd (false≢true h)
string_first (Some s) h = is_string refl s

first : (x : ℕ) → IsFirst x
first x =
    byte_cases IsFirst x (λ xs h. string_first (content plain xs) h) (λ xs h. absurd (false≢true h))
    (λ xs h. is_brace refl) (λ xs h. is_plain refl refl refl end_object (λ c. refl)) (λ xs h. is_bracket refl) (λ xs h. is_plain refl refl refl end_array (λ c. refl))
    (λ xs h. absurd (false≢true h)) (λ xs h. absurd (false≢true h)) (λ xs h. absurd (false≢true h)) (λ xs h. absurd (false≢true h)) (λ xs h. absurd (false≢true h)) (λ xs h. absurd (false≢true h))
    (λ o xs h. rw (class_other x o) (is_plain (no_brace x o.no_operator) (no_bracket x o.no_operator) o.no_quote (word (x ∷ xs)) (word_word (x ∷ xs))))

-- Whether the second has its place behind the first.

no_parting : (p : Place) (t : Token) → is_parting p (token t) ≡ false
no_parting fresh t = refl
no_parting after_value t = refl
no_parting after_comma t = refl
no_parting after_key t = refl

no_parts : (x y : ℕ) → (y == 44) ≡ false → (y == 58) ≡ false → parts_of x y ≡ false
no_parts x y e f = rw e (rw f refl)

comma_behind : (x y : ℕ) (l : Lexeme) (ls : List (ℕ × Lexeme)) (n : ℕ) → First x l → y ≡ 44 → is_parting (place_after l ((n, comma) ∷ ls)) comma ≡ parts_of x y
comma_behind x y l ls n (is_brace e) h = rw e (rw h refl)
comma_behind x y l ls n (is_bracket e) h = rw e (rw h refl)
comma_behind x y l ls n (is_string e s) h = rw e (rw h refl)
comma_behind x y l ls n (is_plain e f g t w) h = rw (w false) (rw h (rw e (rw f refl)))

colon_behind : (x y : ℕ) (l : Lexeme) (ls : List (ℕ × Lexeme)) (n : ℕ) → First x l → y ≡ 58 → is_parting (place_after l ((n, colon) ∷ ls)) colon ≡ parts_of x y
colon_behind x y l ls n (is_brace e) h = rw e (rw h refl)
colon_behind x y l ls n (is_bracket e) h = rw e (rw h refl)
colon_behind x y l ls n (is_string e s) h = rw e (rw h refl)
colon_behind x y l ls n (is_plain e f g t w) h = rw (w true) (rw h (rw g refl))

behind_by : (x y : ℕ) (l m : Lexeme) (ls : List (ℕ × Lexeme)) (n : ℕ) → First x l → Second y m → is_parting (place_after l ((n, m) ∷ ls)) m ≡ parts_of x y
behind_by x y l m ls n f (is_comma e) = comma_behind x y l ls n f e
behind_by x y l m ls n f (is_colon e) = colon_behind x y l ls n f e
behind_by x y l m ls n f (is_other t e g) = no_parting (place_after l ((n, token t) ∷ ls)) t ∙ sym (no_parts x y e g)

pub parts_are : (x y : ℕ) (xs ys : List ℕ) (ls : List (ℕ × Lexeme)) (n : ℕ) → is_token (lexeme_of (class x) x xs) ≡ true → begins between (class y) ≡ true
    → is_parting (place_after (lexeme_of (class x) x xs) ((n, lexeme_of (class y) y ys) ∷ ls)) (lexeme_of (class y) y ys) ≡ parts_of x y
parts_are x y xs ys ls n h b = behind_by x y (lexeme_of (class x) x xs) (lexeme_of (class y) y ys) ls n (first x xs h) (second y ys b)

-- Behind the token at a place, where the next lexeme begins at the other.

first_is : (l m : Lexeme) (n : ℕ) (ls all : List (ℕ × Lexeme)) → all ≡ (n, m) ∷ ls → first_parts (place_after l all) all ≡ is_parting (place_after l ((n, m) ∷ ls)) m
first_is l m n ls all e = rw e refl

mark_is : (l m : Lexeme) (n : ℕ) (ls all : List (ℕ × Lexeme)) → all ≡ (n, m) ∷ ls → is_parting (place_after l all) m ≡ is_parting (place_after l ((n, m) ∷ ls)) m
mark_is l m n ls all e = rw e refl

abbrev Follows : List ℕ → ℕ → ℕ → Type 0
Follows text at next = NextBegins text (next_mode between (class (byte_at text at))) (at + 1) next

parted_there : (text : List ℕ) (at next : ℕ) → is_token (lexeme_at text at) ≡ true → (h : next < length text) → (b : begins between (class (byte_at text next)) ≡ true)
    → is_parting (place_after (lexeme_at text at) ((next, lexeme_at text next) ∷ (first_there text next h b).0)) (lexeme_at text next) ≡ parts_of (byte_at text at) (byte_at text next)
parted_there text at next good h b = parts_are (byte_at text at) (byte_at text next) (drop (at + 1) text) (drop (next + 1) text) (first_there text next h b).0 next good b

-- no comma or colon has its place there
pub behind_unparted : (text : List ℕ) (n at next : ℕ) → StandsAt text n at → n < length (scan text).tokens → Follows text at next
    → (next < length text → parts_of (byte_at text at) (byte_at text next) ≡ false) → StandsAt text (suc n) next
behind_unparted text n at next s less f none = elim (eq-or-lt_of_le f.within) [
  | inl same ↦ unparted_next text n at next s less f (at_end (place_there text at next) (lexemes_at text next) (no_lexemes text next (omega (arith, same))))
  | inr h ↦
      let r = first_there text next h (f.begins h) in
      unparted_next text n at next s less f
      (first_is (lexeme_at text at) (lexeme_at text next) next r.0 (lexemes_at text next) r.1 ∙ parted_there text at next (is_good_at text n at next s less f) h (f.begins h) ∙ none h)
]
  where
    at_end : (p : Place) (ls : List (ℕ × Lexeme)) → ls ≡ [] → first_parts p ls ≡ false
    at_end p ls e = rw e refl

-- one has
pub behind_parted : (text : List ℕ) (n at mark next : ℕ) → StandsAt text n at → n < length (scan text).tokens → Follows text at mark → mark < length text → Follows text mark next
    → parts_of (byte_at text at) (byte_at text mark) ≡ true → StandsAt text (suc n) next
behind_parted text n at mark next s less f h g parted =
    let r = first_there text mark h (f.begins h) in
    parted_next text n at mark next s less f h g
    (mark_is (lexeme_at text at) (lexeme_at text mark) mark r.0 (lexemes_at text mark) r.1 ∙ parted_there text at mark (is_good_at text n at mark s less f) h (f.begins h) ∙ parted)
