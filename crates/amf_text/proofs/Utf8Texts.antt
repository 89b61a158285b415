-- UTF-8 is a text: the bytes of a character are one unit.
use Rattle.std.proofs.Common.{◌≡◌, ℕ, ◌+◌, ◌/◌, ◌%◌, ◌≤◌, ◌<◌, ◌⊎◌, inl, inr, true, List, [], ◌∷◌, ◌++◌, refl, sym, ap, subst, arith}
use Rattle.std.specs.Str.{IsUtf8}
use Rattle.std.proofs.lemmas.Bool.{and_parts, cases_lt}
use Rattle.std.proofs.Math.Utf8.{scalars, encode, encodes, scalar_cases}
use Rattle.amf_wire.specs.Text.{IsUnit, IsText}
use Rattle.amf_text.proofs.PlainTexts.{one_byte, two_bytes, three_bytes, four_bytes}

-- the second, third and fourth byte of a unit
rest : (n : ℕ) → (0x80 ≤ 128 + n % 64) × (128 + n % 64 ≤ 0xBF)
rest n = (omega arith, omega arith)

unit_of_two : (c : ℕ) → 128 ≤ c → c < 2048 → IsUnit ((192 + c / 64) ∷ (128 + c % 64) ∷ [])
unit_of_two c above below = (1, _, refl, ((omega arith, omega arith), (rest c, tt)))

unit_of_three : (c : ℕ) → 2048 ≤ c → (c < 55296) ⊎ (57344 ≤ c) → c < 65536 → IsUnit ((224 + c / 4096) ∷ (128 + (c / 64) % 64) ∷ (128 + c % 64) ∷ [])
unit_of_three c above (inr high) below = (5, _, refl, ((omega arith, omega arith), (rest (c / 64), (rest c, tt))))
unit_of_three c above (inl low) below = elim (cases_lt c 4096) [
  | inl first ↦ (2, _, refl, ((omega arith, omega arith), ((omega arith, omega arith), (rest c, tt))))
  | inr next ↦ elim (cases_lt c 53248) [
    | inl middle ↦ (3, _, refl, ((omega arith, omega arith), (rest (c / 64), (rest c, tt))))
    | inr last ↦ (4, _, refl, ((omega arith, omega arith), ((omega arith, omega arith), (rest c, tt))))
  ]
]

unit_of_four : (c : ℕ) → 65536 ≤ c → c < 1114112 → IsUnit ((240 + c / 262144) ∷ (128 + (c / 4096) % 64) ∷ (128 + (c / 64) % 64) ∷ (128 + c % 64) ∷ [])
unit_of_four c above below = elim (cases_lt c 262144) [
  | inl first ↦ (6, _, refl, ((omega arith, omega arith), ((omega arith, omega arith), (rest (c / 64), (rest c, tt)))))
  | inr next ↦ elim (cases_lt c 1048576) [
    | inl middle ↦ (7, _, refl, ((omega arith, omega arith), (rest (c / 4096), (rest (c / 64), (rest c, tt)))))
    | inr last ↦ (8, _, refl, ((omega arith, omega arith), ((omega arith, omega arith), (rest (c / 64), (rest c, tt)))))
  ]
]

-- a character is no surrogate
pub sides : (c : ℕ) → (c < 55296) ⊎ ((57344 ≤ c) × (c < 1114112)) → ((c < 55296) ⊎ (57344 ≤ c)) × (c < 1114112)
sides c (inl low) = (inl low, omega arith)
sides c (inr high) = (inr high.0, high.1)

pub unit_of : (c : ℕ) → ((c < 55296) ⊎ (57344 ≤ c)) × (c < 1114112) → IsUnit (encode c)
unit_of c is = elim (cases_lt c 128) [
  | inl one ↦ subst IsUnit (sym (one_byte c one)) (0, _, refl, ((omega arith, omega arith), tt))
  | inr more ↦ elim (cases_lt c 2048) [
    | inl two ↦ subst IsUnit (sym (two_bytes c more two)) (unit_of_two c more two)
    | inr more ↦ elim (cases_lt c 65536) [
      | inl three ↦ subst IsUnit (sym (three_bytes c more three)) (unit_of_three c more is.0 three)
      | inr four ↦ subst IsUnit (sym (four_bytes c four)) (unit_of_four c four is.1)
    ]
  ]
]

text_of : (cs : List ℕ) → scalars cs ≡ true → IsText (encodes cs)
text_of [] e = ([], tt, refl)
text_of (c ∷ cs) e =
    let parts = and_parts _ _ e in
    let more : IsText (encodes cs) = text_of cs parts.1 in
    (encode c ∷ more.0, (unit_of c (sides c (scalar_cases c parts.0)), more.1), ap (λ (l : List ℕ). encode c ++ l) more.2)

-- what is UTF-8 is a text
pub utf8_is_text : (bytes : List ℕ) → IsUtf8 bytes → IsText bytes
utf8_is_text bytes (cs, (are, is)) = subst IsText is (text_of cs are)
