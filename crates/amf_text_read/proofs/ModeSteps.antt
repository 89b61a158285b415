-- Bytes by their classes, and what they do to the modes of the lexer.
use Rattle.std.proofs.Common.{◌≡◌, ℕ, ◌==◌, Bool, true, false, refl, sym, ap, ◌∙◌, subst, cond}
use Rattle.std.specs.Prelude.{◌||◌, not}
use Rattle.std.proofs.lemmas.Bool.{eqb-true, false≢true}
use Rattle.json.specs.Lex.{Class, quote, backslash, operator, space, other, class, between, in_word, in_string}
use Rattle.json.specs.Word.{is_operator, is_space}
use Rattle.amf_text.specs.Scan.{next_mode, begins}

-- a byte is a quote, a backslash, an operator, a space or another

space_elim : (P : ℕ → Type 0) (b : ℕ) (t u v w : Bool) → (b == 32) ≡ t → (b == 9) ≡ u → (b == 10) ≡ v → (b == 13) ≡ w → (t || u || v || w) ≡ true
    → P 32 → P 9 → P 10 → P 13 → P b
space_elim P b true u v w e f g h any p q r x = subst P (sym (eqb-true b 32 e)) p
space_elim P b false true v w e f g h any p q r x = subst P (sym (eqb-true b 9 f)) q
space_elim P b false false true w e f g h any p q r x = subst P (sym (eqb-true b 10 g)) r
space_elim P b false false false true e f g h any p q r x = subst P (sym (eqb-true b 13 h)) x
space_elim P b false false false false e f g h any p q r x = absurd (false≢true any)

operator_elim : (P : ℕ → Type 0) (b : ℕ) (t u v w x y : Bool) → (b == 123) ≡ t → (b == 125) ≡ u → (b == 91) ≡ v → (b == 93) ≡ w → (b == 58) ≡ x → (b == 44) ≡ y → (t || u || v || w || x || y) ≡ true
    → P 123 → P 125 → P 91 → P 93 → P 58 → P 44 → P b
operator_elim P b true u v w x y e f g h i j any k l m n o p = subst P (sym (eqb-true b 123 e)) k
operator_elim P b false true v w x y e f g h i j any k l m n o p = subst P (sym (eqb-true b 125 f)) l
operator_elim P b false false true w x y e f g h i j any k l m n o p = subst P (sym (eqb-true b 91 g)) m
operator_elim P b false false false true x y e f g h i j any k l m n o p = subst P (sym (eqb-true b 93 h)) n
operator_elim P b false false false false true y e f g h i j any k l m n o p = subst P (sym (eqb-true b 58 i)) o
operator_elim P b false false false false false true e f g h i j any k l m n o p = subst P (sym (eqb-true b 44 j)) p
operator_elim P b false false false false false false e f g h i j any k l m n o p = absurd (false≢true any)

pub record IsOther (b : ℕ) : Type 0 where
  pub no_quote : (b == 34) ≡ false
  pub no_backslash : (b == 92) ≡ false
  pub no_operator : is_operator b ≡ false
  pub no_space : is_space b ≡ false

cases_by : (P : ℕ → Type 0) (b : ℕ) (q s o w : Bool) → (b == 34) ≡ q → (b == 92) ≡ s → is_operator b ≡ o → is_space b ≡ w
    → P 34 → P 92 → P 123 → P 125 → P 91 → P 93 → P 58 → P 44 → P 32 → P 9 → P 10 → P 13 → (IsOther b → P b) → P b
cases_by P b true s o w e f g h quoted slashed k l m n c d x y z v rest = subst P (sym (eqb-true b 34 e)) quoted
cases_by P b false true o w e f g h quoted slashed k l m n c d x y z v rest = subst P (sym (eqb-true b 92 f)) slashed
cases_by P b false false true w e f g h quoted slashed k l m n c d x y z v rest = operator_elim P b (b == 123) (b == 125) (b == 91) (b == 93) (b == 58) (b == 44) refl refl refl refl refl refl g k l m n c d
cases_by P b false false false true e f g h quoted slashed k l m n c d x y z v rest = space_elim P b (b == 32) (b == 9) (b == 10) (b == 13) refl refl refl refl h x y z v
cases_by P b false false false false e f g h quoted slashed k l m n c d x y z v rest = rest (record { no_quote = e; no_backslash = f; no_operator = g; no_space = h })

-- quote, backslash, the six operators, the four spaces, and any other
pub byte_cases : (P : ℕ → Type 0) (b : ℕ) → P 34 → P 92 → P 123 → P 125 → P 91 → P 93 → P 58 → P 44 → P 32 → P 9 → P 10 → P 13 → (IsOther b → P b) → P b
byte_cases P b quoted slashed k l m n c d x y z v rest = cases_by P b (b == 34) (b == 92) (is_operator b) (is_space b) refl refl refl refl quoted slashed k l m n c d x y z v rest

abbrev class_by : Bool → Bool → Bool → Bool → Class
class_by q s o w = cond q quote (cond s backslash (cond o operator (cond w space other)))

other_by : (q s o w : Bool) → q ≡ false → s ≡ false → o ≡ false → w ≡ false → class_by q s o w ≡ other
other_by false false false false e f g h = refl
other_by true s o w e f g h = absurd (false≢true (sym e))
other_by false true o w e f g h = absurd (false≢true (sym f))
other_by false false true w e f g h = absurd (false≢true (sym g))
other_by false false false true e f g h = absurd (false≢true (sym h))

pub class_other : (b : ℕ) → IsOther b → class b ≡ other
class_other b x = other_by (b == 34) (b == 92) (is_operator b) (is_space b) x.no_quote x.no_backslash x.no_operator x.no_space

-- What a byte does to a mode, by the tests of the code.

abbrev pub delimits : ℕ → Bool
delimits b = is_operator b || is_space b

or_is : (o w : Bool) → o ≡ false → w ≡ false → (o || w) ≡ false
or_is false false e f = refl
or_is true w e f = absurd (false≢true (sym e))
or_is false true e f = absurd (false≢true (sym f))

other_delimits : (b : ℕ) → IsOther b → delimits b ≡ false
other_delimits b x = or_is (is_operator b) (is_space b) x.no_operator x.no_space

pub between_delimiter : (b : ℕ) → delimits b ≡ true → next_mode between (class b) ≡ between
between_delimiter b =
    let P : ℕ → Type 0 = λ n. delimits n ≡ true → next_mode between (class n) ≡ between in
    byte_cases P b (λ h. absurd (false≢true h)) (λ h. absurd (false≢true h)) (λ h. refl) (λ h. refl) (λ h. refl) (λ h. refl) (λ h. refl) (λ h. refl) (λ h. refl) (λ h. refl) (λ h. refl) (λ h. refl)
    (λ x h. absurd (false≢true (sym (other_delimits b x) ∙ h)))

pub word_delimiter : (b : ℕ) → delimits b ≡ true → next_mode in_word (class b) ≡ between
word_delimiter b =
    let P : ℕ → Type 0 = λ n. delimits n ≡ true → next_mode in_word (class n) ≡ between in
    byte_cases P b (λ h. absurd (false≢true h)) (λ h. absurd (false≢true h)) (λ h. refl) (λ h. refl) (λ h. refl) (λ h. refl) (λ h. refl) (λ h. refl) (λ h. refl) (λ h. refl) (λ h. refl) (λ h. refl)
    (λ x h. absurd (false≢true (sym (other_delimits b x) ∙ h)))

pub between_other : (b : ℕ) → (b == 34) ≡ false → delimits b ≡ false → next_mode between (class b) ≡ in_word
between_other b =
    let P : ℕ → Type 0 = λ n. (n == 34) ≡ false → delimits n ≡ false → next_mode between (class n) ≡ in_word in
    byte_cases P b (λ q h. absurd (false≢true (sym q))) (λ q h. refl)
    (λ q h. absurd (false≢true (sym h))) (λ q h. absurd (false≢true (sym h))) (λ q h. absurd (false≢true (sym h))) (λ q h. absurd (false≢true (sym h))) (λ q h. absurd (false≢true (sym h))) (λ q h. absurd (false≢true (sym h)))
    (λ q h. absurd (false≢true (sym h))) (λ q h. absurd (false≢true (sym h))) (λ q h. absurd (false≢true (sym h))) (λ q h. absurd (false≢true (sym h)))
    (λ x q h. ap (next_mode between) (class_other b x))

pub word_other : (b : ℕ) → delimits b ≡ false → next_mode in_word (class b) ≡ in_word
word_other b =
    let P : ℕ → Type 0 = λ n. delimits n ≡ false → next_mode in_word (class n) ≡ in_word in
    byte_cases P b (λ h. refl) (λ h. refl)
    (λ h. absurd (false≢true (sym h))) (λ h. absurd (false≢true (sym h))) (λ h. absurd (false≢true (sym h))) (λ h. absurd (false≢true (sym h))) (λ h. absurd (false≢true (sym h))) (λ h. absurd (false≢true (sym h)))
    (λ h. absurd (false≢true (sym h))) (λ h. absurd (false≢true (sym h))) (λ h. absurd (false≢true (sym h))) (λ h. absurd (false≢true (sym h)))
    (λ x h. ap (next_mode in_word) (class_other b x))

pub string_other : (b : ℕ) → (b == 34) ≡ false → (b == 92) ≡ false → next_mode in_string (class b) ≡ in_string
string_other b =
    let P : ℕ → Type 0 = λ n. (n == 34) ≡ false → (n == 92) ≡ false → next_mode in_string (class n) ≡ in_string in
    byte_cases P b (λ e f. absurd (false≢true (sym e))) (λ e f. absurd (false≢true (sym f)))
    (λ e f. refl) (λ e f. refl) (λ e f. refl) (λ e f. refl) (λ e f. refl) (λ e f. refl) (λ e f. refl) (λ e f. refl) (λ e f. refl) (λ e f. refl)
    (λ x e f. ap (next_mode in_string) (class_other b x))

-- a lexeme begins between lexemes with what is no space, and in a word with an operator alone

pub begins_between : (b : ℕ) → begins between (class b) ≡ not (is_space b)
begins_between b =
    let P : ℕ → Type 0 = λ n. begins between (class n) ≡ not (is_space n) in
    byte_cases P b refl refl refl refl refl refl refl refl refl refl refl refl (λ x. ap (begins between) (class_other b x) ∙ ap not (sym x.no_space))

pub begins_word : (b : ℕ) → begins in_word (class b) ≡ is_operator b
begins_word b =
    let P : ℕ → Type 0 = λ n. begins in_word (class n) ≡ is_operator n in
    byte_cases P b refl refl refl refl refl refl refl refl refl refl refl refl (λ x. ap (begins in_word) (class_other b x) ∙ sym x.no_operator)

-- a byte that is no operator is no comma and no colon

or_left : (a b : Bool) → (a || b) ≡ false → a ≡ false
or_left false b h = refl
or_left true b h = absurd (false≢true (sym h))

or_right : (a b : Bool) → (a || b) ≡ false → b ≡ false
or_right false b h = h
or_right true b h = absurd (false≢true (sym h))

pub no_comma : (b : ℕ) → is_operator b ≡ false → (b == 44) ≡ false
no_comma b h = or_right ((b == 123) || (b == 125) || (b == 91) || (b == 93) || (b == 58)) (b == 44) h

pub no_colon : (b : ℕ) → is_operator b ≡ false → (b == 58) ≡ false
no_colon b h = or_right ((b == 123) || (b == 125) || (b == 91) || (b == 93)) (b == 58) (or_left ((b == 123) || (b == 125) || (b == 91) || (b == 93) || (b == 58)) (b == 44) h)

pub no_brace : (b : ℕ) → is_operator b ≡ false → (b == 123) ≡ false
no_brace b h = or_left (b == 123) (b == 125) (or_left ((b == 123) || (b == 125)) (b == 91) (or_left ((b == 123) || (b == 125) || (b == 91)) (b == 93)
    (or_left ((b == 123) || (b == 125) || (b == 91) || (b == 93)) (b == 58) (or_left ((b == 123) || (b == 125) || (b == 91) || (b == 93) || (b == 58)) (b == 44) h))))

pub no_bracket : (b : ℕ) → is_operator b ≡ false → (b == 91) ≡ false
no_bracket b h = or_right ((b == 123) || (b == 125)) (b == 91) (or_left ((b == 123) || (b == 125) || (b == 91)) (b == 93)
    (or_left ((b == 123) || (b == 125) || (b == 91) || (b == 93)) (b == 58) (or_left ((b == 123) || (b == 125) || (b == 91) || (b == 93) || (b == 58)) (b == 44) h)))
