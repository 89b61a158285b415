-- With which bytes a part of a character goes on: some of these end it, where any do.
use Rattle.std.proofs.Common.{◌≡◌, ℕ, zero, suc, ◌+◌, ◌*◌, ◌/◌, ◌%◌, ◌<◌, ◌≤◌, true, List, [], ◌∷◌, ◌++◌, length, take, refl, sym, ap, subst, ◌∙◌, arith, inl, inr, IsUtf8}
use Rattle.std.specs.Prelude.{◌⊎◌}
use Rattle.std.proofs.lemmas.Bool.{and_parts, cases_lt, le-ltb, lt-ltb, le-leb}
use Rattle.std.proofs.lemmas.Str.{IsUtf8-encode, encode_ascii}
use lib.Utf8.{scalar, scalars, scalar_cases, low_scalar, encode, encodes}
use Rattle.amf_text_read.specs.FrontEnds.{CharEnd, one_more, two_more, two_high, three_more, three_high}

-- The bytes of a character.

two : (c : ℕ) → 128 ≤ c → c < 2048 → encode c ≡ (192 + c / 64) ∷ (128 + c % 64) ∷ []
unfolding encode
two c a b = rw (le-ltb c 128 a, lt-ltb c 2048 b) refl

three : (c : ℕ) → 2048 ≤ c → c < 65536 → encode c ≡ (224 + c / 4096) ∷ (128 + c / 64 % 64) ∷ (128 + c % 64) ∷ []
unfolding encode
three c a b = rw (le-ltb c 128 (omega arith), le-ltb c 2048 a, lt-ltb c 65536 b) refl

four : (c : ℕ) → 65536 ≤ c → encode c ≡ (240 + c / 262144) ∷ (128 + c / 4096 % 64) ∷ (128 + c / 64 % 64) ∷ (128 + c % 64) ∷ []
unfolding encode
four c a = rw (le-ltb c 128 (omega arith), le-ltb c 2048 (omega arith), le-ltb c 65536 a) refl

high_scalar : (c : ℕ) → 57344 ≤ c → c < 1114112 → scalar c ≡ true
high_scalar c a b = rw (le-ltb c 55296 (omega arith), le-leb 57344 c a, lt-ltb c 1114112 b) refl

abbrev InRange : ℕ → Type 0
InRange c = (c < 55296) ⊎ ((57344 ≤ c) × (c < 1114112))

is_scalar : (c : ℕ) → InRange c → scalar c ≡ true
is_scalar c (inl h) = low_scalar c h
is_scalar c (inr h) = high_scalar c h.0 h.1

-- bytes of a character of more than one
abbrev pub High : List ℕ → Type 0
High [] = Unit {0}
High (x ∷ xs) = (128 ≤ x) × High xs

-- these bytes end the part of a character
pub record Filled (tail : List ℕ) : Type 0 where
  pub end : List ℕ
  pub is : CharEnd (end ++ 34 ∷ [])
  pub utf8 : IsUtf8 (tail ++ end)
  pub high : High (tail ++ end)

-- by a character of these bytes
by_char : (c : ℕ) (bs : List ℕ) → InRange c → encode c ≡ bs → IsUtf8 bs
by_char c bs r e = subst IsUtf8 e (IsUtf8-encode c (is_scalar c r))

same_two : (a b c d : ℕ) → a ≡ c → b ≡ d → a ∷ b ∷ [] ≡ c ∷ d ∷ []
same_two a b c d e f = rw (e, f) refl

same_three : (a b c d e f : ℕ) → a ≡ d → b ≡ e → c ≡ f → a ∷ b ∷ c ∷ [] ≡ d ∷ e ∷ f ∷ []
same_three a b c d e f p q r = rw (p, q, r) refl

same_four : (a b c d e f g h : ℕ) → a ≡ e → b ≡ f → c ≡ g → d ≡ h → a ∷ b ∷ c ∷ d ∷ [] ≡ e ∷ f ∷ g ∷ h ∷ []
same_four a b c d e f g h p q r s = rw (p, q, r, s) refl

-- One byte of two.

fill_two : (c x : ℕ) → 128 ≤ c → c < 2048 → x ≡ 192 + c / 64 → Filled (x ∷ [])
fill_two c x a b e =
    let d = c / 64 * 64 in
    record {
      end = 128 ∷ [];
      is = one_more;
      utf8 = by_char d (x ∷ 128 ∷ []) (inl (omega (arith, a, b))) (two d (omega (arith, a)) (omega (arith, b)) ∙ same_two _ _ _ _ (omega (arith, e)) (omega arith));
      high = ((omega (arith, e)), (omega arith, tt));
    }

-- One and two bytes of three.

three_range : (c d : ℕ) → InRange c → c < 65536 → d / 64 ≡ c / 64 → InRange d
three_range c d (inl h) b e = inl (omega (arith, h, e))
three_range c d (inr h) b e = inr (omega (arith, h.0, e), omega (arith, b, e))

fill_three_low : (c x : ℕ) → 2048 ≤ c → c < 4096 → x ≡ 224 + c / 4096 → Filled (x ∷ [])
fill_three_low c x a b e =
    record {
      end = 160 ∷ 128 ∷ [];
      is = two_high;
      utf8 = by_char 2048 (x ∷ 160 ∷ 128 ∷ []) (inl (omega arith)) (three 2048 (omega arith) (omega arith) ∙ same_three _ _ _ _ _ _ (omega (arith, a, b, e)) refl refl);
      high = (omega (arith, e), (omega arith, (omega arith, tt)));
    }

first_range : (c : ℕ) → InRange c → c < 65536 → InRange (c / 4096 * 4096)
first_range c (inl h) b = inl (omega (arith, h))
first_range c (inr h) b = inr (omega (arith, h.0), omega (arith, b))

fill_three_one : (c x : ℕ) → InRange c → 4096 ≤ c → c < 65536 → x ≡ 224 + c / 4096 → Filled (x ∷ [])
fill_three_one c x r a b e =
    let d = c / 4096 * 4096 in
    record {
      end = 128 ∷ 128 ∷ [];
      is = two_more;
      utf8 = by_char d (x ∷ 128 ∷ 128 ∷ []) (first_range c r b) (three d (omega (arith, a)) (omega (arith, b)) ∙ same_three _ _ _ _ _ _ (omega (arith, e)) (omega arith) (omega arith));
      high = (omega (arith, e), (omega arith, (omega arith, tt)));
    }

first_three : (c x : ℕ) → InRange c → 2048 ≤ c → c < 65536 → x ≡ 224 + c / 4096 → Filled (x ∷ [])
first_three c x r a b e = elim (cases_lt c 4096) [ inl low ↦ fill_three_low c x a low e | inr more ↦ fill_three_one c x r more b e ]

fill_three : (c x y : ℕ) → InRange c → 2048 ≤ c → c < 65536 → x ≡ 224 + c / 4096 → y ≡ 128 + c / 64 % 64 → Filled (x ∷ y ∷ [])
fill_three c x y r a b e f =
    let d = c / 64 * 64 in
    record {
      end = 128 ∷ [];
      is = one_more;
      utf8 = by_char d (x ∷ y ∷ 128 ∷ []) (three_range c d r b (omega arith)) (three d (omega (arith, a)) (omega (arith, b)) ∙ same_three _ _ _ _ _ _ (omega (arith, e)) (omega (arith, f)) (omega arith));
      high = (omega (arith, e), (omega (arith, f), (omega arith, tt)));
    }

-- One, two and three bytes of four.

fill_four_low : (c x : ℕ) → 65536 ≤ c → c < 262144 → x ≡ 240 + c / 262144 → Filled (x ∷ [])
fill_four_low c x a b e =
    record {
      end = 144 ∷ 128 ∷ 128 ∷ [];
      is = three_high;
      utf8 = by_char 65536 (x ∷ 144 ∷ 128 ∷ 128 ∷ []) (inr (omega arith, omega arith)) (four 65536 (omega arith) ∙ same_four _ _ _ _ _ _ _ _ (omega (arith, a, b, e)) refl refl refl);
      high = (omega (arith, e), (omega arith, (omega arith, (omega arith, tt))));
    }

fill_four_one : (c x : ℕ) → 262144 ≤ c → c < 1114112 → x ≡ 240 + c / 262144 → Filled (x ∷ [])
fill_four_one c x a b e =
    let d = c / 262144 * 262144 in
    record {
      end = 128 ∷ 128 ∷ 128 ∷ [];
      is = three_more;
      utf8 = by_char d (x ∷ 128 ∷ 128 ∷ 128 ∷ []) (inr (omega (arith, a), omega (arith, b)))
          (four d (omega (arith, a)) ∙ same_four _ _ _ _ _ _ _ _ (omega (arith, e)) (omega arith) (omega arith) (omega arith));
      high = (omega (arith, e), (omega arith, (omega arith, (omega arith, tt))));
    }

first_four : (c x : ℕ) → 65536 ≤ c → c < 1114112 → x ≡ 240 + c / 262144 → Filled (x ∷ [])
first_four c x a b e = elim (cases_lt c 262144) [ inl low ↦ fill_four_low c x a low e | inr more ↦ fill_four_one c x more b e ]

second_four : (c x y : ℕ) → 65536 ≤ c → c < 1114112 → x ≡ 240 + c / 262144 → y ≡ 128 + c / 4096 % 64 → Filled (x ∷ y ∷ [])
second_four c x y a b e f =
    let d = c / 4096 * 4096 in
    record {
      end = 128 ∷ 128 ∷ [];
      is = two_more;
      utf8 = by_char d (x ∷ y ∷ 128 ∷ 128 ∷ []) (inr (omega (arith, a), omega (arith, b)))
          (four d (omega (arith, a)) ∙ same_four _ _ _ _ _ _ _ _ (omega (arith, e)) (omega (arith, f)) (omega arith) (omega arith));
      high = (omega (arith, e), (omega (arith, f), (omega arith, (omega arith, tt))));
    }

third_four : (c x y z : ℕ) → 65536 ≤ c → c < 1114112 → x ≡ 240 + c / 262144 → y ≡ 128 + c / 4096 % 64 → z ≡ 128 + c / 64 % 64 → Filled (x ∷ y ∷ z ∷ [])
third_four c x y z a b e f g =
    let d = c / 64 * 64 in
    record {
      end = 128 ∷ [];
      is = one_more;
      utf8 = by_char d (x ∷ y ∷ z ∷ 128 ∷ []) (inr (omega (arith, a), omega (arith, b)))
          (four d (omega (arith, a)) ∙ same_four _ _ _ _ _ _ _ _ (omega (arith, e)) (omega (arith, f)) (omega (arith, g)) (omega arith));
      high = (omega (arith, e), (omega (arith, f), (omega (arith, g), (omega arith, tt))));
    }

-- The tail of a text: no front of it is whole.

abbrev pub NoFront : List ℕ → Type 0
NoFront tail = (k : ℕ) → 0 < k → k ≤ length tail → IsUtf8 (take k tail) → ⊥

whole_char : (c : ℕ) (bs : List ℕ) → scalar c ≡ true → encode c ≡ bs → IsUtf8 bs
whole_char c bs s e = subst IsUtf8 e (IsUtf8-encode c s)

by_one : (c : ℕ) (tail more rest : List ℕ) → 0 < length tail → NoFront tail → scalar c ≡ true → encode c ≡ c ∷ [] → c ∷ rest ≡ tail ++ more → Filled tail
by_one c [] more rest l n s k e = absurd (omega (arith, l))
by_one c (x ∷ xs) more rest l n s k e =
    let same : c ≡ x = cc in
    absurd (n (suc zero) (omega arith) (omega arith) (subst (λ b. IsUtf8 (b ∷ [])) same (whole_char c (c ∷ []) s k)))

by_two : (c a b : ℕ) (tail more rest : List ℕ) → 0 < length tail → NoFront tail → scalar c ≡ true → 128 ≤ c → c < 2048 → a ≡ 192 + c / 64 → encode c ≡ a ∷ b ∷ [] → a ∷ b ∷ rest ≡ tail ++ more → Filled tail
by_two c a b [] more rest l n s p q f k e = absurd (omega (arith, l))
by_two c a b (x ∷ []) more rest l n s p q f k e = let same : a ≡ x = cc in fill_two c x p q (sym same ∙ f)
by_two c a b (x ∷ y ∷ xs) more rest l n s p q f k e =
    let same : a ∷ b ∷ [] ≡ x ∷ y ∷ [] = (let u : a ≡ x = cc in let v : b ≡ y = cc in same_two a b x y u v) in
    absurd (n (suc (suc zero)) (omega arith) (omega arith) (whole_char c (x ∷ y ∷ []) s (k ∙ same)))

by_three : (c a b d : ℕ) (tail more rest : List ℕ) → 0 < length tail → NoFront tail → scalar c ≡ true → 2048 ≤ c → c < 65536 → a ≡ 224 + c / 4096 → b ≡ 128 + c / 64 % 64
    → encode c ≡ a ∷ b ∷ d ∷ [] → a ∷ b ∷ d ∷ rest ≡ tail ++ more → Filled tail
by_three c a b d [] more rest l n s p q f g k e = absurd (omega (arith, l))
by_three c a b d (x ∷ []) more rest l n s p q f g k e = let same : a ≡ x = cc in first_three c x (scalar_cases c s) p q (sym same ∙ f)
by_three c a b d (x ∷ y ∷ []) more rest l n s p q f g k e =
    let same : a ≡ x = cc in
    let too : b ≡ y = cc in
    fill_three c x y (scalar_cases c s) p q (sym same ∙ f) (sym too ∙ g)
by_three c a b d (x ∷ y ∷ z ∷ xs) more rest l n s p q f g k e =
    let same : a ∷ b ∷ d ∷ [] ≡ x ∷ y ∷ z ∷ [] = (let u : a ≡ x = cc in let v : b ≡ y = cc in let w : d ≡ z = cc in same_three a b d x y z u v w) in
    absurd (n (suc (suc (suc zero))) (omega arith) (omega arith) (whole_char c (x ∷ y ∷ z ∷ []) s (k ∙ same)))

by_four : (c a b d h : ℕ) (tail more rest : List ℕ) → 0 < length tail → NoFront tail → scalar c ≡ true → 65536 ≤ c → c < 1114112 → a ≡ 240 + c / 262144 → b ≡ 128 + c / 4096 % 64 → d ≡ 128 + c / 64 % 64
    → encode c ≡ a ∷ b ∷ d ∷ h ∷ [] → a ∷ b ∷ d ∷ h ∷ rest ≡ tail ++ more → Filled tail
by_four c a b d h [] more rest l n s p q f g i k e = absurd (omega (arith, l))
by_four c a b d h (x ∷ []) more rest l n s p q f g i k e = let same : a ≡ x = cc in first_four c x p q (sym same ∙ f)
by_four c a b d h (x ∷ y ∷ []) more rest l n s p q f g i k e =
    let same : a ≡ x = cc in
    let too : b ≡ y = cc in
    second_four c x y p q (sym same ∙ f) (sym too ∙ g)
by_four c a b d h (x ∷ y ∷ z ∷ []) more rest l n s p q f g i k e =
    let same : a ≡ x = cc in
    let too : b ≡ y = cc in
    let third : d ≡ z = cc in
    third_four c x y z p q (sym same ∙ f) (sym too ∙ g) (sym third ∙ i)
by_four c a b d h (x ∷ y ∷ z ∷ w ∷ xs) more rest l n s p q f g i k e =
    let same : a ∷ b ∷ d ∷ h ∷ [] ≡ x ∷ y ∷ z ∷ w ∷ [] = (let u : a ≡ x = cc in let v : b ≡ y = cc in let o : d ≡ z = cc in let r : h ≡ w = cc in same_four a b d h x y z w u v o r) in
    absurd (n (suc (suc (suc (suc zero)))) (omega arith) (omega arith) (whole_char c (x ∷ y ∷ z ∷ w ∷ []) s (k ∙ same)))

small_scalar : (c : ℕ) → InRange c → c < 1114112
small_scalar c (inl h) = omega (arith, h)
small_scalar c (inr h) = h.1

by_first : (c : ℕ) (tail more rest : List ℕ) → 0 < length tail → NoFront tail → scalar c ≡ true → encode c ++ rest ≡ tail ++ more → Filled tail
by_first c tail more rest l n s e = elim (cases_lt c 128) [
  | inl low ↦ by_one c tail more rest l n s (encode_ascii c low) (sym (ap (λ b. b ++ rest) (encode_ascii c low)) ∙ e)
  | inr p ↦ elim (cases_lt c 2048) [
    | inl q ↦ by_two c (192 + c / 64) (128 + c % 64) tail more rest l n s p q refl (two c p q) (sym (ap (λ b. b ++ rest) (two c p q)) ∙ e)
    | inr p ↦ elim (cases_lt c 65536) [
      | inl q ↦ by_three c (224 + c / 4096) (128 + c / 64 % 64) (128 + c % 64) tail more rest l n s p q refl refl (three c p q) (sym (ap (λ b. b ++ rest) (three c p q)) ∙ e)
      | inr p ↦
          by_four c (240 + c / 262144) (128 + c / 4096 % 64) (128 + c / 64 % 64) (128 + c % 64) tail more rest l n s p (small_scalar c (scalar_cases c s)) refl refl refl (four c p)
          (sym (ap (λ b. b ++ rest) (four c p)) ∙ e)
    ]
  ]
]

by_chars : (cs tail more : List ℕ) → 0 < length tail → NoFront tail → scalars cs ≡ true → encodes cs ≡ tail ++ more → Filled tail
by_chars [] [] more l n s e = absurd (omega (arith, l))
by_chars [] (x ∷ xs) more l n s e = absurd cc
by_chars (c ∷ cs) tail more l n s e = by_first c tail more (encodes cs) l n (and_parts (scalar c) (scalars cs) s).0 e

-- Where some bytes end it, some of these do.
pub filled : (tail more : List ℕ) → 0 < length tail → NoFront tail → IsUtf8 (tail ++ more) → Filled tail
filled tail more l n u = by_chars u.0 tail more l n u.1.0 u.1.1
