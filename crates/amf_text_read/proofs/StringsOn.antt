-- A string that goes on with a byte of a character of more than one ends behind other bytes of it too.
use Rattle.std.proofs.Common.{◌≡◌, ℕ, ◌<◌, ◌≤◌, ◌==◌, Bool, true, false, List, [], ◌∷◌, ◌++◌, Option, Some, None, refl, sym, ap, ◌∙◌, arith, nat_lt}
use Rattle.std.specs.Prelude.{is_some}
use Rattle.std.proofs.lemmas.Bool.{false≢true}
use Rattle.std.proofs.lemmas.Bool.Decides.{nat_tests}
use Rattle.std.specs.Char.{is_digit, encode_utf8}
use Rattle.json.specs.Text.{Within, plain, after_backslash, after_u, after_high, content, short_escape}
use Rattle.amf_text_read.proofs.CharEnds.{High}
use Rattle.amf_text_read.proofs.StringEnds.{Is, prepended, quote_plain, plain_quote, plain_slash, plain_low, plain_other, escape_u, escape_none, escape_some, digits, Unit2, high, other, unit_is, behind_unit, four, value, six, second, second_ends, unit}

-- What no such byte is.

pub not_byte : (t n : ℕ) → 128 ≤ t → n < 128 → (t == n) ≡ false
not_byte t n h l = grind (arith, nat_tests)

not_less : (t n : ℕ) → n ≤ t → nat_lt t n ≡ false
not_less t n h = grind (arith, nat_tests)

no_digit : (t : ℕ) → 128 ≤ t → is_digit t 16 ≡ false
no_digit t h = rw (not_less t 48 (omega (arith, h)), not_less t 58 (omega (arith, h)), not_less t 65 (omega (arith, h)), not_less t 91 (omega (arith, h)), not_less t 97 (omega (arith, h)), not_less t 123 (omega (arith, h))) refl

no_escape : (t : ℕ) → 128 ≤ t → short_escape t ≡ None
unfolding short_escape
no_escape t h = rw (not_byte t 34 h (omega arith), not_byte t 92 h (omega arith), not_byte t 47 h (omega arith), not_byte t 98 h (omega arith), not_byte t 102 h (omega arith), not_byte t 110 h (omega arith), not_byte t 114 h (omega arith), not_byte t 116 h (omega arith)) refl

-- such bytes, and the end of the string
pub high_ends : (xs : List ℕ) → High xs → Is (content plain (xs ++ 34 ∷ []))
high_ends [] h = quote_plain
high_ends (x ∷ xs) h = plain_other x (xs ++ 34 ∷ []) (not_byte x 34 h.0 (omega arith)) (not_byte x 92 h.0 (omega arith)) (let g = h.0 in not_less x 32 (omega (arith, g))) ∙ high_ends xs h.1

-- One step.

abbrev On : Within → List ℕ → ℕ → List ℕ → List ℕ → Type 0
On w xs t more ys = Is (content w (xs ++ t ∷ more)) → Is (content w (xs ++ t ∷ ys))

plain_step : (x t : ℕ) (xs more ys : List ℕ) (p q r : Bool) → (x == 34) ≡ p → (x == 92) ≡ q → nat_lt x 32 ≡ r → On after_backslash xs t more ys → On plain xs t more ys → On plain (x ∷ xs) t more ys
plain_step x t xs more ys true q r e f g b k i = plain_quote x (xs ++ t ∷ ys) e
plain_step x t xs more ys false true r e f g b k i = plain_slash x (xs ++ t ∷ ys) e f ∙ b (sym (plain_slash x (xs ++ t ∷ more) e f) ∙ i)
plain_step x t xs more ys false false true e f g b k i = absurd (false≢true (sym (plain_low x (xs ++ t ∷ more) e f g) ∙ i))
plain_step x t xs more ys false false false e f g b k i = plain_other x (xs ++ t ∷ ys) e f g ∙ k (sym (plain_other x (xs ++ t ∷ more) e f g) ∙ i)

escape_step : (x t : ℕ) (xs more ys : List ℕ) (p : Bool) (o : Option ℕ) → (x == 117) ≡ p → short_escape x ≡ o → On after_u xs t more ys → On plain xs t more ys → On after_backslash (x ∷ xs) t more ys
escape_step x t xs more ys true o e f b k i = escape_u x (xs ++ t ∷ ys) e ∙ b (sym (escape_u x (xs ++ t ∷ more) e) ∙ i)
escape_step x t xs more ys false None e f b k i = absurd (false≢true (sym (escape_none x (xs ++ t ∷ more) e f) ∙ i))
escape_step x t xs more ys false (Some c) e f b k i = escape_some x c (xs ++ t ∷ ys) e f ∙ k (sym (escape_some x c (xs ++ t ∷ more) e f) ∙ i)

unit_step : (a b c d t : ℕ) (xs more ys : List ℕ) → ((h : ℕ) → On (after_high h) xs t more ys) → On plain xs t more ys → Unit2 a b c d (xs ++ t ∷ more) → Is (content after_u (a ∷ b ∷ c ∷ d ∷ (xs ++ t ∷ ys)))
unit_step a b c d t xs more ys f k (high v e h i) =
    ap is_some (unit_is a b c d (xs ++ t ∷ ys) ∙ ap (λ o. behind_unit o (xs ++ t ∷ ys)) e) ∙ (rw h (f v i))
unit_step a b c d t xs more ys f k (other v e h l i) =
    ap is_some (unit_is a b c d (xs ++ t ∷ ys) ∙ ap (λ o. behind_unit o (xs ++ t ∷ ys)) e) ∙ (rw (h, l) (prepended (encode_utf8 v) (content plain (xs ++ t ∷ ys)) ∙ k i))

-- It is no digit, and no byte of an escape.

digit_not : {X : Type 0} (t a : ℕ) → 128 ≤ t → t ≡ a → is_digit a 16 ≡ true → X
digit_not t a h e d = absurd (false≢true (sym (no_digit t h) ∙ ap (λ n. is_digit n 16) e ∙ d))

byte_not : {X : Type 0} (t a n : ℕ) → 128 ≤ t → n < 128 → t ≡ a → (a == n) ≡ true → X
byte_not t a n h l e d = absurd (false≢true (sym (not_byte t n h l) ∙ ap (λ m. m == n) e ∙ d))

-- Where these bytes end it, those do.
pub goes_on : (w : Within) (xs : List ℕ) (t : ℕ) (more ys : List ℕ) → 128 ≤ t → Is (content plain (t ∷ ys)) → On w xs t more ys
goes_on plain [] t more ys h y i = y
goes_on plain (x ∷ xs) t more ys h y i = plain_step x t xs more ys (x == 34) (x == 92) (nat_lt x 32) refl refl refl (goes_on after_backslash xs t more ys h y) (goes_on plain xs t more ys h y) i
goes_on after_backslash [] t more ys h y i = absurd (false≢true (sym (escape_none t more (not_byte t 117 h (omega arith)) (no_escape t h)) ∙ i))
goes_on after_backslash (x ∷ xs) t more ys h y i = escape_step x t xs more ys (x == 117) (short_escape x) refl refl (goes_on after_u xs t more ys h y) (goes_on plain xs t more ys h y) i
goes_on after_u [] t more ys h y i =
    let f = four (t ∷ more) i in
    let same : t ≡ f.a = cc f.is in
    digit_not t f.a h same (value f.a f.b f.c f.d f.rest f.goes).digits_are.a_is
goes_on after_u (a ∷ []) t more ys h y i =
    let f = four (a ∷ t ∷ more) i in
    let same : t ≡ f.b = cc f.is in
    digit_not t f.b h same (value f.a f.b f.c f.d f.rest f.goes).digits_are.b_is
goes_on after_u (a ∷ b ∷ []) t more ys h y i =
    let f = four (a ∷ b ∷ t ∷ more) i in
    let same : t ≡ f.c = cc f.is in
    digit_not t f.c h same (value f.a f.b f.c f.d f.rest f.goes).digits_are.c_is
goes_on after_u (a ∷ b ∷ c ∷ []) t more ys h y i =
    let f = four (a ∷ b ∷ c ∷ t ∷ more) i in
    let same : t ≡ f.d = cc f.is in
    digit_not t f.d h same (value f.a f.b f.c f.d f.rest f.goes).digits_are.d_is
goes_on after_u (a ∷ b ∷ c ∷ d ∷ xs) t more ys h y i = unit_step a b c d t xs more ys (λ n. goes_on (after_high n) xs t more ys h y) (goes_on plain xs t more ys h y) (unit a b c d (xs ++ t ∷ more) i)
goes_on (after_high n) [] t more ys h y i =
    let f = six n (t ∷ more) i in
    let same : t ≡ f.s = cc f.is in
    byte_not t f.s 92 h (omega arith) same f.goes.s_is
goes_on (after_high n) (s ∷ []) t more ys h y i =
    let f = six n (s ∷ t ∷ more) i in
    let same : t ≡ f.u = cc f.is in
    byte_not t f.u 117 h (omega arith) same f.goes.u_is
goes_on (after_high n) (s ∷ u ∷ []) t more ys h y i =
    let f = six n (s ∷ u ∷ t ∷ more) i in
    let same : t ≡ f.a = cc f.is in
    digit_not t f.a h same (digits f.a f.b f.c f.d f.goes.v f.goes.unit_value).a_is
goes_on (after_high n) (s ∷ u ∷ a ∷ []) t more ys h y i =
    let f = six n (s ∷ u ∷ a ∷ t ∷ more) i in
    let same : t ≡ f.b = cc f.is in
    digit_not t f.b h same (digits f.a f.b f.c f.d f.goes.v f.goes.unit_value).b_is
goes_on (after_high n) (s ∷ u ∷ a ∷ b ∷ []) t more ys h y i =
    let f = six n (s ∷ u ∷ a ∷ b ∷ t ∷ more) i in
    let same : t ≡ f.c = cc f.is in
    digit_not t f.c h same (digits f.a f.b f.c f.d f.goes.v f.goes.unit_value).c_is
goes_on (after_high n) (s ∷ u ∷ a ∷ b ∷ c ∷ []) t more ys h y i =
    let f = six n (s ∷ u ∷ a ∷ b ∷ c ∷ t ∷ more) i in
    let same : t ≡ f.d = cc f.is in
    digit_not t f.d h same (digits f.a f.b f.c f.d f.goes.v f.goes.unit_value).d_is
goes_on (after_high n) (s ∷ u ∷ a ∷ b ∷ c ∷ d ∷ xs) t more ys h y i =
    let m = second n s u a b c d (xs ++ t ∷ more) i in
    second_ends n s u a b c d m.v (xs ++ t ∷ ys) m.s_is m.u_is m.unit_value m.low (goes_on plain xs t more ys h y m.goes)
