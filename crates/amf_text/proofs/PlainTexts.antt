-- A text is UTF-8 exactly where none of its units is a zero by two bytes or a surrogate.
use Rattle.std.proofs.Common.{◌≡◌, ◌≢◌, ℕ, ◌+◌, ◌-◌, ◌*◌, ◌/◌, ◌%◌, ◌≤◌, ◌<◌, ◌⊎◌, inl, inr, zero, suc, lit<, lit≤, Option, None, Bool, true, false, List, [], ◌∷◌, ◌++◌, refl, sym, ap, ap₂, ◌∙◌, subst, arith}
use Rattle.std.specs.Prelude.{nat_le, ◌==◌, ◌&&◌, not, slice_get, Some}
use Rattle.std.specs.List.{AllZip, AllByRecursion, concat}
use Rattle.std.specs.Str.{IsUtf8}
use Rattle.std.specs.Char.{IsScalar}
use Rattle.std.proofs.lemmas.Bool.{and_parts, cases_lt, cases_eq}
use Rattle.std.proofs.lemmas.Option.{same_Some}
use Rattle.std.proofs.lemmas.Bool.Decides.{nat_tests}
use Rattle.std.proofs.lemmas.Str.{IsUtf8-append, IsUtf8-nil, IsUtf8-encode}
use Rattle.std.proofs.Math.Utf8.{scalars, encode, encodes, scalar_cases}
use Rattle.amf_wire.specs.Text.{Range, rows, IsWithin, IsUnit, IsText}
use Rattle.amf_text.specs.Scalars.{is_plain}

le_true : (a b : ℕ) → a ≤ b → nat_le a b ≡ true
le_true a b l = grind arith

le_false : (a b : ℕ) → b < a → nat_le a b ≡ false
le_false a b l = grind arith

eq_false : (a b : ℕ) → a ≢ b → (a == b) ≡ false
eq_false a b n = grind arith

eq_true : (a b : ℕ) → a ≡ b → (a == b) ≡ true
eq_true a b e = grind arith

pub one_byte : (c : ℕ) → c < 128 → encode c ≡ c ∷ []
unfolding encode
one_byte c below = grind (arith, nat_tests)

pub two_bytes : (c : ℕ) → 128 ≤ c → c < 2048 → encode c ≡ (192 + c / 64) ∷ (128 + c % 64) ∷ []
unfolding encode
two_bytes c above below = grind (arith, nat_tests)

pub three_bytes : (c : ℕ) → 2048 ≤ c → c < 65536 → encode c ≡ (224 + c / 4096) ∷ (128 + (c / 64) % 64) ∷ (128 + c % 64) ∷ []
unfolding encode
three_bytes c above below = grind (arith, nat_tests)

pub four_bytes : (c : ℕ) → 65536 ≤ c → encode c ≡ (240 + c / 262144) ∷ (128 + (c / 4096) % 64) ∷ (128 + (c / 64) % 64) ∷ (128 + c % 64) ∷ []
unfolding encode
four_bytes c above = grind (arith, nat_tests)

-- a byte that begins neither is passed over
past : (b : ℕ) (bytes : List ℕ) → b ≢ 0xC0 → b ≢ 0xED → is_plain (b ∷ bytes) ≡ is_plain bytes
past b [] x y = refl
past b (c ∷ bytes) x y = rw (eq_false b 0xC0 x, eq_false b 0xED y) refl

-- and so is one of which the next is no surrogate's
past_low : (b c : ℕ) (bytes : List ℕ) → b ≢ 0xC0 → c < 0xA0 → is_plain (b ∷ c ∷ bytes) ≡ is_plain (c ∷ bytes)
past_low b c bytes x l = go (b == 0xED)
  where
    go : (t : Bool) → (not (b == 0xC0) && (not (t && nat_le 0xA0 c) && is_plain (c ∷ bytes))) ≡ is_plain (c ∷ bytes)
    go true = rw (eq_false b 0xC0 x, le_false 0xA0 c l) refl
    go false = rw (eq_false b 0xC0 x) refl

-- UTF-8 has neither.

-- 0x80 to 0xBF
past_rest : (n : ℕ) (bytes : List ℕ) → is_plain ((128 + n % 64) ∷ bytes) ≡ is_plain bytes
past_rest n bytes = past (128 + n % 64) bytes (λ e. omega (arith, e)) (λ e. omega (arith, e))

past_three : (c : ℕ) (bytes : List ℕ) → 2048 ≤ c → (c < 55296) ⊎ (57344 ≤ c) → c < 65536 → is_plain ((224 + c / 4096) ∷ (128 + (c / 64) % 64) ∷ bytes) ≡ is_plain ((128 + (c / 64) % 64) ∷ bytes)
past_three c bytes above side below = elim (cases_eq (c / 4096) 13) [
  | inl e ↦ past_low (224 + c / 4096) (128 + (c / 64) % 64) bytes (λ x. omega (arith, x)) (elim side [ inl l ↦ omega (arith, l, e) | inr l ↦ absurd (omega (arith, l, e)) ])
  | inr n ↦ past (224 + c / 4096) ((128 + (c / 64) % 64) ∷ bytes) (λ x. omega (arith, x)) (λ x. n (omega (arith, x)))
]

past_char : (c : ℕ) (bytes : List ℕ) → (c < 55296) ⊎ ((57344 ≤ c) × (c < 1114112)) → is_plain (encode c ++ bytes) ≡ is_plain bytes
past_char c bytes side = elim (cases_lt c 128) [
  | inl one ↦ rw (one_byte c one) (past c bytes (λ e. omega (arith, e)) (λ e. omega (arith, e)))
  | inr more ↦ elim (cases_lt c 2048) [
    | inl two ↦ rw (two_bytes c more two) (past (192 + c / 64) ((128 + c % 64) ∷ bytes) (λ e. omega (arith, e)) (λ e. omega (arith, e)) ∙ past_rest c bytes)
    | inr more ↦ elim (cases_lt c 65536) [
      | inl three ↦ rw (three_bytes c more three) (past_three c ((128 + c % 64) ∷ bytes) more (elim side [ inl l ↦ inl l | inr l ↦ inr l.0 ]) three ∙ past_rest (c / 64) ((128 + c % 64) ∷ bytes) ∙ past_rest c bytes)
      | inr four ↦ rw (four_bytes c four) (past (240 + c / 262144) ((128 + (c / 4096) % 64) ∷ (128 + (c / 64) % 64) ∷ (128 + c % 64) ∷ bytes) (λ e. omega (arith, e)) (λ e. omega (arith, e)) ∙ past_rest (c / 4096) ((128 + (c / 64) % 64) ∷ (128 + c % 64) ∷ bytes) ∙ past_rest (c / 64) ((128 + c % 64) ∷ bytes) ∙ past_rest c bytes)
    ]
  ]
]

chars_plain : (cs : List ℕ) → scalars cs ≡ true → is_plain (encodes cs) ≡ true
chars_plain [] e = refl
chars_plain (c ∷ cs) e =
    let parts = and_parts _ _ e in
    past_char c (encodes cs) (scalar_cases c parts.0) ∙ chars_plain cs parts.1

pub utf8_is_plain : (bytes : List ℕ) → IsUtf8 bytes → is_plain bytes ≡ true
utf8_is_plain bytes (cs, (are, is)) = subst (λ b. is_plain b ≡ true) is (chars_plain cs are)

-- a text without a zero by two bytes and without surrogates is UTF-8

scalar_of : (c : ℕ) → (c < 55296) ⊎ ((57344 ≤ c) × (c < 1114112)) → IsScalar c
scalar_of c side = grind (arith, nat_tests, side)

two_utf8 : (b c : ℕ) → 0xC2 ≤ b → b ≤ 0xDF → 0x80 ≤ c → c ≤ 0xBF → IsUtf8 (b ∷ c ∷ [])
two_utf8 b c p q r s =
    let code = (b - 192) * 64 + (c - 128) in
    let first : 192 + code / 64 ≡ b = omega arith in
    let second : 128 + code % 64 ≡ c = omega arith in
    subst IsUtf8 (two_bytes code (omega arith) (omega arith) ∙ ap₂ (λ x y. x ∷ y ∷ []) first second) (IsUtf8-encode code (scalar_of code (inl (omega arith))))

three_side : (b c d : ℕ) → 0xE0 ≤ b → b ≤ 0xEF → 0x80 ≤ c → c ≤ 0xBF → 0x80 ≤ d → d ≤ 0xBF → (b ≡ 0xED → c ≤ 0x9F)
    → ((b - 224) * 4096 + (c - 128) * 64 + (d - 128) < 55296) ⊎ ((57344 ≤ (b - 224) * 4096 + (c - 128) * 64 + (d - 128)) × ((b - 224) * 4096 + (c - 128) * 64 + (d - 128) < 1114112))
three_side b c d p q r s t u low = elim (cases_lt b 0xED) [
  | inl under ↦ inl (omega arith)
  | inr over ↦ elim (cases_eq b 0xED) [
    | inl is ↦ inl (let k = low is in omega arith)
    | inr other ↦ inr (let next : 0xEE ≤ b = omega (arith, other) in (omega arith, omega arith))
  ]
]

three_utf8 : (b c d : ℕ) → 0xE0 ≤ b → b ≤ 0xEF → 0x80 ≤ c → c ≤ 0xBF → 0x80 ≤ d → d ≤ 0xBF → (b ≡ 0xE0 → 0xA0 ≤ c) → (b ≡ 0xED → c ≤ 0x9F) → IsUtf8 (b ∷ c ∷ d ∷ [])
three_utf8 b c d p q r s t u high low =
    let code = (b - 224) * 4096 + (c - 128) * 64 + (d - 128) in
    let first : 224 + code / 4096 ≡ b = omega arith in
    let second : 128 + (code / 64) % 64 ≡ c = omega arith in
    let third : 128 + code % 64 ≡ d = omega arith in
    let large : 2048 ≤ code = elim (cases_eq b 0xE0) [ inl is ↦ (let k = high is in omega arith) | inr other ↦ (let next : 0xE1 ≤ b = omega (arith, other) in omega arith) ] in
    subst IsUtf8 (three_bytes code large (omega arith) ∙ ap (λ x. x ∷ (128 + (code / 64) % 64) ∷ (128 + code % 64) ∷ []) first ∙ ap₂ (λ x y. b ∷ x ∷ y ∷ []) second third)
    (IsUtf8-encode code (scalar_of code (three_side b c d p q r s t u low)))

four_utf8 : (b c d e : ℕ) → 0xF0 ≤ b → b ≤ 0xF4 → 0x80 ≤ c → c ≤ 0xBF → 0x80 ≤ d → d ≤ 0xBF → 0x80 ≤ e → e ≤ 0xBF → (b ≡ 0xF0 → 0x90 ≤ c) → (b ≡ 0xF4 → c ≤ 0x8F) → IsUtf8 (b ∷ c ∷ d ∷ e ∷ [])
four_utf8 b c d e p q r s t u v w high low =
    let code = (b - 240) * 262144 + (c - 128) * 4096 + (d - 128) * 64 + (e - 128) in
    let first : 240 + code / 262144 ≡ b = omega arith in
    let second : 128 + (code / 4096) % 64 ≡ c = omega arith in
    let third : 128 + (code / 64) % 64 ≡ d = omega arith in
    let fourth : 128 + code % 64 ≡ e = omega arith in
    let large : 65536 ≤ code = elim (cases_eq b 0xF0) [ inl is ↦ (let k = high is in omega arith) | inr other ↦ (let next : 0xF1 ≤ b = omega (arith, other) in omega arith) ] in
    let small : code < 1114112 = elim (cases_eq b 0xF4) [ inl is ↦ (let k = low is in omega arith) | inr other ↦ (let before : b ≤ 0xF3 = omega (arith, other) in omega arith) ] in
    subst IsUtf8 (four_bytes code large ∙ ap₂ (λ x y. x ∷ y ∷ (128 + (code / 64) % 64) ∷ (128 + code % 64) ∷ []) first second ∙ ap₂ (λ x y. b ∷ c ∷ x ∷ y ∷ []) third fourth)
    (IsUtf8-encode code (scalar_of code (inr (omega arith, small))))

-- a unit that is a character, and what is plain behind it; or one that is not
abbrev Unit1 : List ℕ → Type 0
Unit1 u = (r : List ℕ) → is_plain (u ++ r) ≡ true → IsUtf8 u × (is_plain r ≡ true)

one_row : (row : Range) (u : List ℕ) → AllZip IsWithin (row ∷ []) u → row.1 < 128 → Unit1 u
one_row row [] a l r e = absurd a
one_row row (b ∷ []) a l r e =
    let small : b < 128 = omega (arith, a.0) in
    (subst IsUtf8 (one_byte b small) (IsUtf8-encode b (scalar_of b (inl (omega arith)))), sym (past b r (λ x. omega (arith, x)) (λ x. omega (arith, x))) ∙ e)
one_row row (b ∷ c ∷ bs) a l r e = absurd a.1

two_row : (u : List ℕ) → AllZip IsWithin ((0xC2, 0xDF) ∷ (0x80, 0xBF) ∷ []) u → Unit1 u
two_row [] a r e = absurd a
two_row (b ∷ []) a r e = absurd a.1
two_row (b ∷ c ∷ []) a r e =
    let rest = past b (c ∷ r) (λ x. omega (arith, x, a.0)) (λ x. omega (arith, x, a.0)) ∙ past c r (λ x. omega (arith, x, a.1.0)) (λ x. omega (arith, x, a.1.0)) in
    (two_utf8 b c a.0.0 a.0.1 a.1.0.0 a.1.0.1, sym rest ∙ e)
two_row (b ∷ c ∷ d ∷ bs) a r e = absurd a.1.1

three_row : (f s : Range) (u : List ℕ) → AllZip IsWithin (f ∷ s ∷ (0x80, 0xBF) ∷ []) u → 0xE0 ≤ f.0 → f.1 ≤ 0xEF → 0x80 ≤ s.0 → s.1 ≤ 0xBF
    → (f.0 ≤ 0xE0 → 0xA0 ≤ s.0) → (0xED ≤ f.1 → (0xED < f.0) ⊎ (s.1 ≤ 0x9F)) → Unit1 u
three_row f s [] a k l m n high low r e = absurd a
three_row f s (b ∷ []) a k l m n high low r e = absurd a.1
three_row f s (b ∷ c ∷ []) a k l m n high low r e = absurd a.1.1
three_row f s (b ∷ c ∷ d ∷ []) a k l m n high low r e =
    let under : b ≡ 0xED → c ≤ 0x9F = λ is. elim (low (omega (arith, is, a.0))) [ inl o ↦ absurd (omega (arith, is, a.0, o)) | inr o ↦ omega (arith, a.1.0, o) ] in
    let over : b ≡ 0xE0 → 0xA0 ≤ c = λ is. (let h = high (omega (arith, is, a.0)) in omega (arith, h, a.1.0)) in
    let rest : is_plain (c ∷ d ∷ r) ≡ is_plain r = past c (d ∷ r) (λ x. omega (arith, x, a.1.0)) (λ x. omega (arith, x, a.1.0)) ∙ past d r (λ x. omega (arith, x, a.1.1.0)) (λ x. omega (arith, x, a.1.1.0)) in
    let first : is_plain (b ∷ c ∷ d ∷ r) ≡ is_plain (c ∷ d ∷ r) = elim (cases_eq b 0xED) [
      | inl is ↦ past_low b c (d ∷ r) (λ x. omega (arith, x, a.0)) (let t = under is in omega arith)
      | inr other ↦ past b (c ∷ d ∷ r) (λ x. omega (arith, x, a.0)) other
    ] in
    (three_utf8 b c d (omega (arith, a.0)) (omega (arith, a.0)) (omega (arith, a.1.0)) (omega (arith, a.1.0)) a.1.1.0.0 a.1.1.0.1 over under, sym (first ∙ rest) ∙ e)
three_row f s (b ∷ c ∷ d ∷ g ∷ bs) a k l m n high low r e = absurd a.1.1.1

four_row : (f s : Range) (u : List ℕ) → AllZip IsWithin (f ∷ s ∷ (0x80, 0xBF) ∷ (0x80, 0xBF) ∷ []) u → 0xF0 ≤ f.0 → f.1 ≤ 0xF4 → 0x80 ≤ s.0 → s.1 ≤ 0xBF
    → (f.0 ≤ 0xF0 → 0x90 ≤ s.0) → (0xF4 ≤ f.1 → s.1 ≤ 0x8F) → Unit1 u
four_row f s [] a k l m n high low r e = absurd a
four_row f s (b ∷ []) a k l m n high low r e = absurd a.1
four_row f s (b ∷ c ∷ []) a k l m n high low r e = absurd a.1.1
four_row f s (b ∷ c ∷ d ∷ []) a k l m n high low r e = absurd a.1.1.1
four_row f s (b ∷ c ∷ d ∷ g ∷ []) a k l m n high low r e =
    let under : b ≡ 0xF4 → c ≤ 0x8F = λ is. (let h = low (omega (arith, is, a.0)) in omega (arith, h, a.1.0)) in
    let over : b ≡ 0xF0 → 0x90 ≤ c = λ is. (let h = high (omega (arith, is, a.0)) in omega (arith, h, a.1.0)) in
    let rest : is_plain (b ∷ c ∷ d ∷ g ∷ r) ≡ is_plain r =
    past b (c ∷ d ∷ g ∷ r) (λ x. omega (arith, x, a.0)) (λ x. omega (arith, x, a.0))
    ∙ past c (d ∷ g ∷ r) (λ x. omega (arith, x, a.1.0)) (λ x. omega (arith, x, a.1.0))
    ∙ past d (g ∷ r) (λ x. omega (arith, x, a.1.1.0)) (λ x. omega (arith, x, a.1.1.0))
    ∙ past g r (λ x. omega (arith, x, a.1.1.1.0)) (λ x. omega (arith, x, a.1.1.1.0)) in
    (four_utf8 b c d g (omega (arith, a.0)) (omega (arith, a.0)) (omega (arith, a.1.0)) (omega (arith, a.1.0)) a.1.1.0.0 a.1.1.0.1 a.1.1.1.0.0 a.1.1.1.0.1 over under, sym rest ∙ e)
four_row f s (b ∷ c ∷ d ∷ g ∷ h ∷ bs) a k l m n high low r e = absurd a.1.1.1.1

surrogate_row : (u : List ℕ) → AllZip IsWithin ((0xED, 0xED) ∷ (0xA0, 0xBF) ∷ (0x80, 0xBF) ∷ []) u → Unit1 u
surrogate_row [] a r e = absurd a
surrogate_row (b ∷ []) a r e = absurd a.1
surrogate_row (b ∷ c ∷ bs) a r e =
    let is : b ≡ 0xED = omega (arith, a.0) in
    let ends : is_plain (b ∷ c ∷ (bs ++ r)) ≡ false = rw (eq_false b 0xC0 (λ x. omega (arith, x, is)), eq_true b 0xED is, le_true 0xA0 c (omega (arith, a.1.0))) refl in
    let no : false ≡ true = sym ends ∙ e in cc

zero_row : (u : List ℕ) → AllZip IsWithin ((0xC0, 0xC0) ∷ (0x80, 0x80) ∷ []) u → Unit1 u
zero_row [] a r e = absurd a
zero_row (b ∷ []) a r e = absurd a.1
zero_row (b ∷ c ∷ bs) a r e =
    let ends : is_plain (b ∷ c ∷ (bs ++ r)) ≡ false = rw (eq_true b 0xC0 (omega (arith, a.0))) refl in
    let no : false ≡ true = sym ends ∙ e in cc

-- a unit, by its row
unit : (k : ℕ) (row : List Range) (u : List ℕ) → slice_get rows k ≡ Some row → AllZip IsWithin row u → Unit1 u
unit zero row u e a = one_row (0x00, 0x7F) u (subst (λ r. AllZip IsWithin r u) (sym (same_Some _ row e)) a) (lit< tt)
unit (suc zero) row u e a = two_row u (subst (λ r. AllZip IsWithin r u) (sym (same_Some _ row e)) a)
unit (suc (suc zero)) row u e a = three_row (0xE0, 0xE0) (0xA0, 0xBF) u (subst (λ r. AllZip IsWithin r u) (sym (same_Some _ row e)) a) (lit≤ tt) (lit≤ tt) (lit≤ tt) (lit≤ tt) (λ h. lit≤ tt) (λ h. absurd (omega (arith, h)))
unit (suc (suc (suc zero))) row u e a = three_row (0xE1, 0xEC) (0x80, 0xBF) u (subst (λ r. AllZip IsWithin r u) (sym (same_Some _ row e)) a) (lit≤ tt) (lit≤ tt) (lit≤ tt) (lit≤ tt) (λ h. absurd (omega (arith, h))) (λ h. absurd (omega (arith, h)))
unit (suc (suc (suc (suc zero)))) row u e a = three_row (0xED, 0xED) (0x80, 0x9F) u (subst (λ r. AllZip IsWithin r u) (sym (same_Some _ row e)) a) (lit≤ tt) (lit≤ tt) (lit≤ tt) (lit≤ tt) (λ h. absurd (omega (arith, h))) (λ h. inr (lit≤ tt))
unit (suc (suc (suc (suc (suc zero))))) row u e a = three_row (0xEE, 0xEF) (0x80, 0xBF) u (subst (λ r. AllZip IsWithin r u) (sym (same_Some _ row e)) a) (lit≤ tt) (lit≤ tt) (lit≤ tt) (lit≤ tt) (λ h. absurd (omega (arith, h))) (λ h. inl (lit< tt))
unit (suc (suc (suc (suc (suc (suc zero)))))) row u e a = four_row (0xF0, 0xF0) (0x90, 0xBF) u (subst (λ r. AllZip IsWithin r u) (sym (same_Some _ row e)) a) (lit≤ tt) (lit≤ tt) (lit≤ tt) (lit≤ tt) (λ h. lit≤ tt) (λ h. absurd (omega (arith, h)))
unit (suc (suc (suc (suc (suc (suc (suc zero))))))) row u e a = four_row (0xF1, 0xF3) (0x80, 0xBF) u (subst (λ r. AllZip IsWithin r u) (sym (same_Some _ row e)) a) (lit≤ tt) (lit≤ tt) (lit≤ tt) (lit≤ tt) (λ h. absurd (omega (arith, h))) (λ h. absurd (omega (arith, h)))
unit (suc (suc (suc (suc (suc (suc (suc (suc zero)))))))) row u e a = four_row (0xF4, 0xF4) (0x80, 0x8F) u (subst (λ r. AllZip IsWithin r u) (sym (same_Some _ row e)) a) (lit≤ tt) (lit≤ tt) (lit≤ tt) (lit≤ tt) (λ h. absurd (omega (arith, h))) (λ h. lit≤ tt)
unit (suc (suc (suc (suc (suc (suc (suc (suc (suc zero))))))))) row u e a = surrogate_row u (subst (λ r. AllZip IsWithin r u) (sym (same_Some _ row e)) a)
unit (suc (suc (suc (suc (suc (suc (suc (suc (suc (suc zero)))))))))) row u e a = zero_row u (subst (λ r. AllZip IsWithin r u) (sym (same_Some _ row e)) a)
unit (suc (suc (suc (suc (suc (suc (suc (suc (suc (suc (suc k))))))))))) row u e a = let no : ◌≡◌ {A = Option (List Range)} None (Some row) = e in cc

units_utf8 : (us : List (List ℕ)) → AllByRecursion IsUnit us → is_plain (concat us) ≡ true → IsUtf8 (concat us)
units_utf8 [] all e = IsUtf8-nil
units_utf8 (u ∷ us) all e =
    let one = unit all.0.0 all.0.1 u all.0.2 all.0.3 (concat us) e in
    IsUtf8-append u (concat us) one.0 (units_utf8 us all.1 one.1)

pub plain_is_utf8 : (bytes : List ℕ) → IsText bytes → is_plain bytes ≡ true → IsUtf8 bytes
plain_is_utf8 bytes text e = subst IsUtf8 (sym text.2) (units_utf8 text.0 text.1 (ap is_plain (sym text.2) ∙ e))

-- and what is not UTF-8 is not plain
pub not_plain : (bytes : List ℕ) → IsText bytes → (IsUtf8 bytes → ⊥) → is_plain bytes ≡ false
not_plain bytes text never = go (is_plain bytes) refl
  where
    go : (t : Bool) → is_plain bytes ≡ t → t ≡ false
    go true e = absurd (never (plain_is_utf8 bytes text e))
    go false e = refl
