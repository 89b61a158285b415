-- With which bytes a number or a word can go on: some of these end it, where any do.
use Rattle.std.proofs.Common.{◌≡◌, ℕ, suc, ◌+◌, ◌-◌, ◌==◌, Bool, true, false, cond, ◌&&◌, ◌||◌, List, [], ◌∷◌, ◌++◌, length, take, drop, Option, Some, None, option_and_then, nat_eq, refl, sym, ap, ◌∙◌, arith}
use Rattle.std.proofs.lemmas.Bool.{false≢true}
use Rattle.std.proofs.lemmas.Bool.Decides.{nat_tests}
use Rattle.std.specs.List.{prefix_len, starts_with}
use Rattle.std.specs.Char.{is_ascii_digit}
use Rattle.json.specs.Token.{Token, number, boolean, null, bad}
use Rattle.json.specs.Word.{after_digits, after_exponent, after_fraction, after_minus, after_number, after_whole, ends_word, literal, number_before, word}
use Rattle.json.specs.Ascii as ascii
use Rattle.amf_text_read.specs.FrontEnds.{WordEnd, nothing_end, zero_end, true_end, false_end, null_end}

abbrev pub is_right : Token → Bool
is_right bad = false
is_right t = true

-- Numbers, part by part.

abbrev pub then_ends : (List ℕ → Bool) → Option (List ℕ) → Bool
then_ends K None = false
then_ends K (Some rest) = K rest

abbrev pub digits_then : (List ℕ → Bool) → List ℕ → Bool
digits_then K t = then_ends K (after_digits t)

abbrev pub exponent_ends : List ℕ → Bool
exponent_ends t = then_ends ends_word (after_exponent t)

abbrev pub fraction_ends : List ℕ → Bool
fraction_ends t = then_ends exponent_ends (after_fraction t)

abbrev pub whole_ends : List ℕ → Bool
whole_ends t = then_ends fraction_ends (after_whole t)

abbrev pub number_ends : List ℕ → Bool
number_ends t = whole_ends (after_minus t)

-- nothing, or a zero
pub data Zero : List ℕ → Type 0 where
  nothing : Zero []
  one_zero : Zero (48 ∷ [])

abbrev pub ByZero : (List ℕ → Bool) → List ℕ → Type 0
ByZero K xs = (e : List ℕ) × Zero e × (K (xs ++ e) ≡ true)

abbrev Goes : (List ℕ → Bool) → Type 0
Goes K = (xs more : List ℕ) → K (xs ++ more) ≡ true → ByZero K xs

-- the same behind each more
same_goes : (K L : List ℕ → Bool) (xs ys more : List ℕ) → ((m : List ℕ) → K (xs ++ m) ≡ L (ys ++ m)) → (L (ys ++ more) ≡ true → ByZero L ys) → K (xs ++ more) ≡ true → ByZero K xs
same_goes K L xs ys more e f h = let r = f (sym (e more) ∙ h) in (r.0, r.1, e r.0 ∙ r.2)

word_goes : Goes ends_word
word_goes [] more h = ([], nothing, refl)
word_goes (x ∷ xs) more h = ([], nothing, h)

-- digits

abbrev pub more_digits : (List ℕ → Bool) → List ℕ → Bool
more_digits K [] = K []
more_digits K (x ∷ xs) = cond (is_ascii_digit x) (more_digits K xs) (K (x ∷ xs))

dropped : (n x : ℕ) (xs : List ℕ) → drop (1 + n) (x ∷ xs) ≡ drop n xs
dropped n x xs = let e : 1 + n ≡ suc n = omega arith in rw e refl

digits_by : (b : Bool) (K : List ℕ → Bool) (x n : ℕ) (xs : List ℕ) → K (drop n xs) ≡ more_digits K xs → K (drop (cond b (1 + n) 0) (x ∷ xs)) ≡ cond b (more_digits K xs) (K (x ∷ xs))
digits_by true K x n xs e = ap K (dropped n x xs) ∙ e
digits_by false K x n xs e = refl

digits_more : (K : List ℕ → Bool) (xs : List ℕ) → K (drop (prefix_len is_ascii_digit xs) xs) ≡ more_digits K xs
digits_more K [] = refl
digits_more K (x ∷ xs) = digits_by (is_ascii_digit x) K x (prefix_len is_ascii_digit xs) xs (digits_more K xs)

not_none : (n : ℕ) → (1 + n == 0) ≡ false
not_none n = grind (arith, nat_tests)

first_by : (b : Bool) (K : List ℕ → Bool) (x n : ℕ) (xs : List ℕ) → K (drop n xs) ≡ more_digits K xs
    → then_ends K (cond (cond b (1 + n) 0 == 0) None (Some (drop (cond b (1 + n) 0) (x ∷ xs)))) ≡ cond b (more_digits K xs) false
first_by true K x n xs e = rw (not_none n) (ap K (dropped n x xs) ∙ e)
first_by false K x n xs e = refl

pub first_digit : (K : List ℕ → Bool) (x : ℕ) (xs : List ℕ) → digits_then K (x ∷ xs) ≡ cond (is_ascii_digit x) (more_digits K xs) false
first_digit K x xs = first_by (is_ascii_digit x) K x (prefix_len is_ascii_digit xs) xs (digits_more K xs)

more_by : (b : Bool) (K : List ℕ → Bool) (x : ℕ) (xs more : List ℕ) → is_ascii_digit x ≡ b → Goes K → (more_digits K (xs ++ more) ≡ true → ByZero (more_digits K) xs)
    → more_digits K (x ∷ (xs ++ more)) ≡ true → ByZero (more_digits K) (x ∷ xs)
more_by true K x xs more e g r h = same_goes (more_digits K) (more_digits K) (x ∷ xs) xs more (λ m. rw e refl) r h
more_by false K x xs more e g r h = same_goes (more_digits K) K (x ∷ xs) (x ∷ xs) more (λ m. rw e refl) (g (x ∷ xs) more) h

more_goes : (K : List ℕ → Bool) → Goes K → K [] ≡ true → Goes (more_digits K)
more_goes K g z [] more h = ([], nothing, z)
more_goes K g z (x ∷ xs) more h = more_by (is_ascii_digit x) K x xs more refl g (more_goes K g z xs more) h

digits_step : (b : Bool) (K : List ℕ → Bool) (x : ℕ) (xs more : List ℕ) → is_ascii_digit x ≡ b → (more_digits K (xs ++ more) ≡ true → ByZero (more_digits K) xs)
    → digits_then K (x ∷ (xs ++ more)) ≡ true → ByZero (digits_then K) (x ∷ xs)
digits_step true K x xs more e r h = same_goes (digits_then K) (more_digits K) (x ∷ xs) xs more (λ m. first_digit K x (xs ++ m) ∙ (rw e refl)) r h
digits_step false K x xs more e r h = absurd (false≢true (sym (first_digit K x (xs ++ more) ∙ ap (λ b. cond b (more_digits K (xs ++ more)) false) e) ∙ h))

digits_goes : (K : List ℕ → Bool) → Goes K → K [] ≡ true → Goes (digits_then K)
digits_goes K g z [] more h = (48 ∷ [], one_zero, first_digit K 48 [] ∙ z)
digits_goes K g z (x ∷ xs) more h = digits_step (is_ascii_digit x) K x xs more refl (more_goes K g z xs more) h

-- the exponent

abbrev pub is_e : ℕ → Bool
is_e x = (x == 101) || (x == 69)

abbrev pub is_sign : ℕ → Bool
is_sign y = (y == 45) || (y == 43)

sign_step : (b : Bool) (x y : ℕ) (ys more : List ℕ) → is_sign y ≡ b → is_e x ≡ true → exponent_ends (x ∷ y ∷ (ys ++ more)) ≡ true → ByZero exponent_ends (x ∷ y ∷ ys)
sign_step true x y ys more s e h =
    same_goes exponent_ends (digits_then ends_word) (x ∷ y ∷ ys) ys more (λ m. rw e (rw s refl)) (digits_goes ends_word word_goes refl ys more) h
sign_step false x y ys more s e h =
    same_goes exponent_ends (digits_then ends_word) (x ∷ y ∷ ys) (y ∷ ys) more (λ m. rw e (rw s refl)) (digits_goes ends_word word_goes refl (y ∷ ys) more) h

exponent_step : (b : Bool) (x : ℕ) (xs more : List ℕ) → is_e x ≡ b → exponent_ends (x ∷ (xs ++ more)) ≡ true → ByZero exponent_ends (x ∷ xs)
exponent_step true x [] more e h = (48 ∷ [], one_zero, rw e refl)
exponent_step true x (y ∷ ys) more e h = sign_step (is_sign y) x y ys more refl e h
exponent_step false x xs more e h = same_goes exponent_ends ends_word (x ∷ xs) (x ∷ xs) more (λ m. rw e refl) (word_goes (x ∷ xs) more) h

exponent_goes : Goes exponent_ends
exponent_goes [] more h = ([], nothing, refl)
exponent_goes (x ∷ xs) more h = exponent_step (is_e x) x xs more refl h

-- the fraction

fraction_step : (b : Bool) (x : ℕ) (xs more : List ℕ) → (x == 46) ≡ b → fraction_ends (x ∷ (xs ++ more)) ≡ true → ByZero fraction_ends (x ∷ xs)
fraction_step true x xs more e h = same_goes fraction_ends (digits_then exponent_ends) (x ∷ xs) xs more (λ m. rw e refl) (digits_goes exponent_ends exponent_goes refl xs more) h
fraction_step false x xs more e h = same_goes fraction_ends exponent_ends (x ∷ xs) (x ∷ xs) more (λ m. rw e refl) (exponent_goes (x ∷ xs) more) h

fraction_goes : Goes fraction_ends
fraction_goes [] more h = ([], nothing, refl)
fraction_goes (x ∷ xs) more h = fraction_step (x == 46) x xs more refl h

-- the whole number

whole_step : (b : Bool) (x : ℕ) (xs more : List ℕ) → (x == 48) ≡ b → whole_ends (x ∷ (xs ++ more)) ≡ true → ByZero whole_ends (x ∷ xs)
whole_step true x xs more e h = same_goes whole_ends fraction_ends (x ∷ xs) xs more (λ m. rw e refl) (fraction_goes xs more) h
whole_step false x xs more e h = same_goes whole_ends (digits_then fraction_ends) (x ∷ xs) (x ∷ xs) more (λ m. rw e refl) (digits_goes fraction_ends fraction_goes refl (x ∷ xs) more) h

whole_goes : Goes whole_ends
whole_goes [] more h = (48 ∷ [], one_zero, refl)
whole_goes (x ∷ xs) more h = whole_step (x == 48) x xs more refl h

number_step : (b : Bool) (x : ℕ) (xs more : List ℕ) → (x == 45) ≡ b → number_ends (x ∷ (xs ++ more)) ≡ true → ByZero number_ends (x ∷ xs)
number_step true x xs more e h = same_goes number_ends whole_ends (x ∷ xs) xs more (λ m. rw e refl) (whole_goes xs more) h
number_step false x xs more e h = same_goes number_ends whole_ends (x ∷ xs) (x ∷ xs) more (λ m. rw e refl) (whole_goes (x ∷ xs) more) h

number_goes : (x : ℕ) (xs more : List ℕ) → number_ends (x ∷ (xs ++ more)) ≡ true → ByZero number_ends (x ∷ xs)
number_goes x xs more h = number_step (x == 45) x xs more refl h

-- Words.

abbrev pub spells : List ℕ → List ℕ → Bool
spells [] t = ends_word t
spells (y ∷ ys) [] = false
spells (y ∷ ys) (x ∷ t) = nat_eq y x && spells ys t

abbrev ByRest : List ℕ → List ℕ → Type 0
ByRest name xs = (n : ℕ) × (spells name (xs ++ drop n name) ≡ true)

same_self : (y : ℕ) → nat_eq y y ≡ true
same_self y = grind (arith, nat_tests)

spells_self : (name : List ℕ) → spells name name ≡ true
spells_self [] = refl
spells_self (y ∷ ys) = rw (same_self y) (spells_self ys)

both : (p q : Bool) → (p && q) ≡ true → (p ≡ true) × (q ≡ true)
both true true h = (refl, refl)
both true false h = absurd (false≢true h)
both false q h = absurd (false≢true h)

joined : (p q : Bool) → p ≡ true → q ≡ true → (p && q) ≡ true
joined true q e f = f
joined false q e f = absurd (false≢true e)

spells_goes : (name xs more : List ℕ) → spells name (xs ++ more) ≡ true → ByRest name xs
spells_goes name [] more h = (0, spells_self name)
spells_goes [] (x ∷ xs) more h = (0, h)
spells_goes (y ∷ ys) (x ∷ xs) more h =
    let b = both (nat_eq y x) (spells ys (xs ++ more)) h in
    let r = spells_goes ys xs more b.1 in
    (suc r.0, joined (nat_eq y x) (spells ys (xs ++ drop r.0 ys)) b.0 r.1)

-- as the kit has it
literal_is : (name t : List ℕ) → (starts_with nat_eq t name && ends_word (drop (length name) t)) ≡ spells name t
literal_is [] t = refl
literal_is (y ∷ ys) [] = refl
literal_is (y ∷ ys) (x ∷ t) = literal_by (nat_eq y x) (starts_with nat_eq t ys) (ends_word (drop (length ys) t)) (spells ys t) (literal_is ys t)
  where
    literal_by : (a b c d : Bool) → (b && c) ≡ d → ((a && b) && c) ≡ (a && d)
    literal_by true b c d e = e
    literal_by false b c d e = refl

-- All words.

right_cond : (b : Bool) (t : Token) → is_right t ≡ true → is_right (cond b t bad) ≡ b
right_cond true t h = h
right_cond false t h = refl

right_literal : (name : List ℕ) (a : Token) (t : List ℕ) → is_right a ≡ true → is_right (literal name a t) ≡ spells name t
right_literal name a t h = right_cond (starts_with nat_eq t name && ends_word (drop (length name) t)) a h ∙ literal_is name t

right_number : (t : List ℕ) (o : Option (List ℕ)) → is_right (number_before t o) ≡ then_ends ends_word o
right_number t None = refl
right_number t (Some rest) = right_cond (ends_word rest) (number (take (length t - length rest) t)) refl

by_fraction : (o : Option (List ℕ)) → then_ends ends_word (option_and_then after_exponent o) ≡ then_ends exponent_ends o
by_fraction None = refl
by_fraction (Some t) = refl

by_whole : (o : Option (List ℕ)) → then_ends ends_word (option_and_then after_exponent (option_and_then after_fraction o)) ≡ then_ends fraction_ends o
by_whole None = refl
by_whole (Some t) = by_fraction (after_fraction t)

number_is : (t : List ℕ) → then_ends ends_word (after_number t) ≡ number_ends t
unfolding after_number
number_is t = by_whole (after_whole (after_minus t))

pub true_is : (x : ℕ) (xs : List ℕ) → (x == 116) ≡ true → is_right (word (x ∷ xs)) ≡ spells ascii.true_text (x ∷ xs)
unfolding word
true_is x xs t = ap is_right (rw t refl) ∙ right_literal ascii.true_text (boolean true) (x ∷ xs) refl

pub false_is : (x : ℕ) (xs : List ℕ) → (x == 116) ≡ false → (x == 102) ≡ true → is_right (word (x ∷ xs)) ≡ spells ascii.false_text (x ∷ xs)
unfolding word
false_is x xs t f = ap is_right (rw t (rw f refl)) ∙ right_literal ascii.false_text (boolean false) (x ∷ xs) refl

pub null_is : (x : ℕ) (xs : List ℕ) → (x == 116) ≡ false → (x == 102) ≡ false → (x == 110) ≡ true → is_right (word (x ∷ xs)) ≡ spells ascii.null_text (x ∷ xs)
unfolding word
null_is x xs t f n = ap is_right (rw t (rw f (rw n refl))) ∙ right_literal ascii.null_text null (x ∷ xs) refl

other_word : (x : ℕ) (xs : List ℕ) → (x == 116) ≡ false → (x == 102) ≡ false → (x == 110) ≡ false → word (x ∷ xs) ≡ number_before (x ∷ xs) (after_number (x ∷ xs))
unfolding word
other_word x xs t f n = rw t (rw f (rw n refl))

pub other_is : (x : ℕ) (xs : List ℕ) → (x == 116) ≡ false → (x == 102) ≡ false → (x == 110) ≡ false → is_right (word (x ∷ xs)) ≡ number_ends (x ∷ xs)
other_is x xs t f n = ap is_right (other_word x xs t f n) ∙ right_number (x ∷ xs) (after_number (x ∷ xs)) ∙ number_is (x ∷ xs)

by_zero : (e : List ℕ) → Zero e → WordEnd e
by_zero _ nothing = nothing_end
by_zero _ one_zero = zero_end

abbrev pub WordEnded : ℕ → List ℕ → Type 0
WordEnded x xs = (e : List ℕ) × WordEnd e × (is_right (word (x ∷ (xs ++ e))) ≡ true)

word_step : (x : ℕ) (xs more : List ℕ) (p q r : Bool) → (x == 116) ≡ p → (x == 102) ≡ q → (x == 110) ≡ r → is_right (word (x ∷ (xs ++ more))) ≡ true → WordEnded x xs
word_step x xs more true q r e f g h =
    let n = spells_goes ascii.true_text (x ∷ xs) more (sym (true_is x (xs ++ more) e) ∙ h) in
    (drop n.0 ascii.true_text, true_end n.0, true_is x (xs ++ drop n.0 ascii.true_text) e ∙ n.1)
word_step x xs more false true r e f g h =
    let n = spells_goes ascii.false_text (x ∷ xs) more (sym (false_is x (xs ++ more) e f) ∙ h) in
    (drop n.0 ascii.false_text, false_end n.0, false_is x (xs ++ drop n.0 ascii.false_text) e f ∙ n.1)
word_step x xs more false false true e f g h =
    let n = spells_goes ascii.null_text (x ∷ xs) more (sym (null_is x (xs ++ more) e f g) ∙ h) in
    (drop n.0 ascii.null_text, null_end n.0, null_is x (xs ++ drop n.0 ascii.null_text) e f g ∙ n.1)
word_step x xs more false false false e f g h =
    let n = number_goes x xs more (sym (other_is x (xs ++ more) e f g) ∙ h) in
    (n.0, by_zero n.0 n.1, other_is x (xs ++ n.0) e f g ∙ n.2)

-- Where some bytes end it, one of these does.
pub word_ended : (x : ℕ) (xs more : List ℕ) → is_right (word (x ∷ (xs ++ more))) ≡ true → WordEnded x xs
word_ended x xs more h = word_step x xs more (x == 116) (x == 102) (x == 110) refl refl refl h
