-- What stands behind a byte of a character of more than one does not change whether a word is one.
use Rattle.std.proofs.Common.{◌≡◌, ℕ, ◌<◌, ◌≤◌, ◌==◌, Bool, true, false, cond, ◌&&◌, List, [], ◌∷◌, ◌++◌, nat_eq, refl, sym, ap, ◌∙◌, arith}
use Rattle.std.proofs.lemmas.Bool.Decides.{nat_tests}
use Rattle.std.specs.Char.{is_ascii_digit}
use Rattle.json.specs.Word.{ends_word, word}
use Rattle.json.specs.Ascii as ascii
use Rattle.amf_text_read.proofs.WordEnds.{is_right, digits_then, exponent_ends, fraction_ends, whole_ends, number_ends, more_digits, first_digit, is_e, is_sign, spells, true_is, false_is, null_is, other_is}
use Rattle.amf_text_read.proofs.StringsOn.{not_byte}

abbrev Steady : (List ℕ → Bool) → Type 0
Steady K = (xs : List ℕ) (t : ℕ) (more ys : List ℕ) → 128 ≤ t → K (xs ++ t ∷ more) ≡ K (xs ++ t ∷ ys)

no_digit : (t : ℕ) → 128 ≤ t → is_ascii_digit t ≡ false
no_digit t h = grind (arith, nat_tests)

-- Both go one way.
both_ways : (b : Bool) (p q r s : Bool) → p ≡ r → q ≡ s → cond b p q ≡ cond b r s
both_ways true p q r s e f = e
both_ways false p q r s e f = f

word_steady : Steady ends_word
word_steady [] t more ys h = refl
word_steady (x ∷ xs) t more ys h = refl

-- digits

more_steady : (K : List ℕ → Bool) → Steady K → Steady (more_digits K)
more_steady K g [] t more ys h = rw (no_digit t h) (g [] t more ys h)
more_steady K g (x ∷ xs) t more ys h =
    both_ways (is_ascii_digit x) (more_digits K (xs ++ t ∷ more)) (K (x ∷ (xs ++ t ∷ more))) (more_digits K (xs ++ t ∷ ys)) (K (x ∷ (xs ++ t ∷ ys))) (more_steady K g xs t more ys h) (g (x ∷ xs) t more ys h)

none_first : (K : List ℕ → Bool) (t : ℕ) (ys : List ℕ) → 128 ≤ t → digits_then K (t ∷ ys) ≡ false
none_first K t ys h = first_digit K t ys ∙ ap (λ b. cond b (more_digits K ys) false) (no_digit t h)

digits_steady : (K : List ℕ → Bool) → Steady K → Steady (digits_then K)
digits_steady K g [] t more ys h = none_first K t more h ∙ sym (none_first K t ys h)
digits_steady K g (x ∷ xs) t more ys h =
    first_digit K x (xs ++ t ∷ more)
    ∙ both_ways (is_ascii_digit x) (more_digits K (xs ++ t ∷ more)) false (more_digits K (xs ++ t ∷ ys)) false (more_steady K g xs t more ys h) refl
    ∙ sym (first_digit K x (xs ++ t ∷ ys))

-- the exponent

no_e : (t : ℕ) → 128 ≤ t → is_e t ≡ false
no_e t h = rw (not_byte t 101 h (omega arith), not_byte t 69 h (omega arith)) refl

no_sign : (t : ℕ) → 128 ≤ t → is_sign t ≡ false
no_sign t h = rw (not_byte t 45 h (omega arith), not_byte t 43 h (omega arith)) refl

-- the same where a step is the same
same_step : (K L : List ℕ → Bool) (us vs cs ds : List ℕ) → K us ≡ L cs → K vs ≡ L ds → L cs ≡ L ds → K us ≡ K vs
same_step K L us vs cs ds e f g = e ∙ g ∙ sym f

sign_step : (b : Bool) (x y t : ℕ) (zs more ys : List ℕ) → is_sign y ≡ b → is_e x ≡ true → 128 ≤ t → exponent_ends (x ∷ y ∷ (zs ++ t ∷ more)) ≡ exponent_ends (x ∷ y ∷ (zs ++ t ∷ ys))
sign_step true x y t zs more ys s e h =
    same_step exponent_ends (digits_then ends_word) (x ∷ y ∷ (zs ++ t ∷ more)) (x ∷ y ∷ (zs ++ t ∷ ys)) (zs ++ t ∷ more) (zs ++ t ∷ ys) (rw e (rw s refl)) (rw e (rw s refl)) (digits_steady ends_word word_steady zs t more ys h)
sign_step false x y t zs more ys s e h =
    same_step exponent_ends (digits_then ends_word) (x ∷ y ∷ (zs ++ t ∷ more)) (x ∷ y ∷ (zs ++ t ∷ ys)) (y ∷ (zs ++ t ∷ more)) (y ∷ (zs ++ t ∷ ys)) (rw e (rw s refl)) (rw e (rw s refl)) (digits_steady ends_word word_steady (y ∷ zs) t more ys h)

last_sign : (x t : ℕ) (more ys : List ℕ) → is_e x ≡ true → 128 ≤ t → exponent_ends (x ∷ t ∷ more) ≡ exponent_ends (x ∷ t ∷ ys)
last_sign x t more ys e h =
    same_step exponent_ends (digits_then ends_word) (x ∷ t ∷ more) (x ∷ t ∷ ys) (t ∷ more) (t ∷ ys) (rw e (rw (no_sign t h) refl)) (rw e (rw (no_sign t h) refl)) (digits_steady ends_word word_steady [] t more ys h)

exponent_step : (b : Bool) (x t : ℕ) (xs more ys : List ℕ) → is_e x ≡ b → 128 ≤ t → exponent_ends (x ∷ (xs ++ t ∷ more)) ≡ exponent_ends (x ∷ (xs ++ t ∷ ys))
exponent_step true x t [] more ys e h = last_sign x t more ys e h
exponent_step true x t (y ∷ zs) more ys e h = sign_step (is_sign y) x y t zs more ys refl e h
exponent_step false x t xs more ys e h =
    same_step exponent_ends ends_word (x ∷ (xs ++ t ∷ more)) (x ∷ (xs ++ t ∷ ys)) (x ∷ (xs ++ t ∷ more)) (x ∷ (xs ++ t ∷ ys)) (rw e refl) (rw e refl) (word_steady (x ∷ xs) t more ys h)

exponent_steady : Steady exponent_ends
exponent_steady [] t more ys h =
    same_step exponent_ends ends_word (t ∷ more) (t ∷ ys) (t ∷ more) (t ∷ ys) (rw (no_e t h) refl) (rw (no_e t h) refl) (word_steady [] t more ys h)
exponent_steady (x ∷ xs) t more ys h = exponent_step (is_e x) x t xs more ys refl h

-- the fraction

fraction_by : (b : Bool) (x : ℕ) (us vs : List ℕ) → (x == 46) ≡ b → digits_then exponent_ends us ≡ digits_then exponent_ends vs → exponent_ends (x ∷ us) ≡ exponent_ends (x ∷ vs)
    → fraction_ends (x ∷ us) ≡ fraction_ends (x ∷ vs)
fraction_by true x us vs e f g = same_step fraction_ends (digits_then exponent_ends) (x ∷ us) (x ∷ vs) us vs (rw e refl) (rw e refl) f
fraction_by false x us vs e f g = same_step fraction_ends exponent_ends (x ∷ us) (x ∷ vs) (x ∷ us) (x ∷ vs) (rw e refl) (rw e refl) g

fraction_none : (t : ℕ) (ys : List ℕ) → 128 ≤ t → fraction_ends (t ∷ ys) ≡ exponent_ends (t ∷ ys)
fraction_none t ys h = rw (not_byte t 46 h (omega arith)) refl

fraction_steady : Steady fraction_ends
fraction_steady [] t more ys h = fraction_none t more h ∙ exponent_steady [] t more ys h ∙ sym (fraction_none t ys h)
fraction_steady (x ∷ xs) t more ys h =
    fraction_by (x == 46) x (xs ++ t ∷ more) (xs ++ t ∷ ys) refl (digits_steady exponent_ends exponent_steady xs t more ys h) (exponent_steady (x ∷ xs) t more ys h)

-- the whole number

whole_by : (b : Bool) (x : ℕ) (us vs : List ℕ) → (x == 48) ≡ b → fraction_ends us ≡ fraction_ends vs → digits_then fraction_ends (x ∷ us) ≡ digits_then fraction_ends (x ∷ vs)
    → whole_ends (x ∷ us) ≡ whole_ends (x ∷ vs)
whole_by true x us vs e f g = same_step whole_ends fraction_ends (x ∷ us) (x ∷ vs) us vs (rw e refl) (rw e refl) f
whole_by false x us vs e f g = same_step whole_ends (digits_then fraction_ends) (x ∷ us) (x ∷ vs) (x ∷ us) (x ∷ vs) (rw e refl) (rw e refl) g

whole_none : (t : ℕ) (ys : List ℕ) → 128 ≤ t → whole_ends (t ∷ ys) ≡ digits_then fraction_ends (t ∷ ys)
whole_none t ys h = rw (not_byte t 48 h (omega arith)) refl

whole_steady : Steady whole_ends
whole_steady [] t more ys h = whole_none t more h ∙ digits_steady fraction_ends fraction_steady [] t more ys h ∙ sym (whole_none t ys h)
whole_steady (x ∷ xs) t more ys h =
    whole_by (x == 48) x (xs ++ t ∷ more) (xs ++ t ∷ ys) refl (fraction_steady xs t more ys h) (digits_steady fraction_ends fraction_steady (x ∷ xs) t more ys h)

number_by : (b : Bool) (x : ℕ) (us vs : List ℕ) → (x == 45) ≡ b → whole_ends us ≡ whole_ends vs → whole_ends (x ∷ us) ≡ whole_ends (x ∷ vs) → number_ends (x ∷ us) ≡ number_ends (x ∷ vs)
number_by true x us vs e f g = same_step number_ends whole_ends (x ∷ us) (x ∷ vs) us vs (rw e refl) (rw e refl) f
number_by false x us vs e f g = same_step number_ends whole_ends (x ∷ us) (x ∷ vs) (x ∷ us) (x ∷ vs) (rw e refl) (rw e refl) g

number_same : (x t : ℕ) (xs more ys : List ℕ) → 128 ≤ t → number_ends (x ∷ (xs ++ t ∷ more)) ≡ number_ends (x ∷ (xs ++ t ∷ ys))
number_same x t xs more ys h = number_by (x == 45) x (xs ++ t ∷ more) (xs ++ t ∷ ys) refl (whole_steady xs t more ys h) (whole_steady (x ∷ xs) t more ys h)

-- Words.

abbrev Small : List ℕ → Type 0
Small [] = Unit {0}
Small (y ∷ ys) = (y < 128) × Small ys

not_this : (y t : ℕ) → y < 128 → 128 ≤ t → nat_eq y t ≡ false
not_this y t l h = grind (arith, nat_tests)

spells_steady : (name : List ℕ) → Small name → Steady (spells name)
spells_steady [] s xs t more ys h = word_steady xs t more ys h
spells_steady (y ∷ name) s [] t more ys h = rw (not_this y t s.0 h) refl
spells_steady (y ∷ name) s (x ∷ xs) t more ys h = ap (λ b. nat_eq y x && b) (spells_steady name s.1 xs t more ys h)

small_true : Small ascii.true_text
small_true = (omega arith, (omega arith, (omega arith, (omega arith, tt))))

small_false : Small ascii.false_text
small_false = (omega arith, (omega arith, (omega arith, (omega arith, (omega arith, tt)))))

small_null : Small ascii.null_text
small_null = (omega arith, (omega arith, (omega arith, (omega arith, tt))))

word_by : (p q r : Bool) (x t : ℕ) (xs more ys : List ℕ) → (x == 116) ≡ p → (x == 102) ≡ q → (x == 110) ≡ r → 128 ≤ t
    → is_right (word (x ∷ (xs ++ t ∷ more))) ≡ is_right (word (x ∷ (xs ++ t ∷ ys)))
word_by true q r x t xs more ys e f g h =
    true_is x (xs ++ t ∷ more) e ∙ spells_steady ascii.true_text small_true (x ∷ xs) t more ys h ∙ sym (true_is x (xs ++ t ∷ ys) e)
word_by false true r x t xs more ys e f g h =
    false_is x (xs ++ t ∷ more) e f ∙ spells_steady ascii.false_text small_false (x ∷ xs) t more ys h ∙ sym (false_is x (xs ++ t ∷ ys) e f)
word_by false false true x t xs more ys e f g h =
    null_is x (xs ++ t ∷ more) e f g ∙ spells_steady ascii.null_text small_null (x ∷ xs) t more ys h ∙ sym (null_is x (xs ++ t ∷ ys) e f g)
word_by false false false x t xs more ys e f g h =
    other_is x (xs ++ t ∷ more) e f g ∙ number_same x t xs more ys h ∙ sym (other_is x (xs ++ t ∷ ys) e f g)

pub word_same : (x t : ℕ) (xs more ys : List ℕ) → 128 ≤ t → is_right (word (x ∷ (xs ++ t ∷ more))) ≡ is_right (word (x ∷ (xs ++ t ∷ ys)))
word_same x t xs more ys h = word_by (x == 116) (x == 102) (x == 110) x t xs more ys refl refl refl h
