-- Words that are UTF-8: what they give an option is so too, and each is a text of AMF.
use Rattle.std.proofs.Common.{◌≡◌, inl, inr, ◌++◌, ◌+◌, ◌/◌, ◌%◌, ◌<◌, ◌≤◌, ℕ, Bool, true, false, cond, refl, sym, ap, subst, List, [], ◌∷◌, length, get_or, Some, Option, arith, length-append}
use Rattle.std.specs.Prelude.{find, option_map}
use Rattle.std.specs.List.{AllByRecursion}
use Rattle.std.specs.Str.{bytes_eq, IsUtf8}
use Rattle.std.proofs.Math.Seq.{drop-append-add, get_or-append_seam}
use Rattle.std.proofs.lemmas.Bool.{and_parts, cases_lt, le-ltb, lt-ltb}
use Rattle.std.proofs.lemmas.Option.{same_Some}
use Rattle.std.proofs.lemmas.Str.{IsUtf8-drop, IsCharBoundary-after_ascii, encode_ascii}
use lib.Utf8.{scalar, scalars, scalar_cases, encode, encodes}
use Rattle.amf_wire.specs.Text.{IsUnit, IsText}
use Rattle.amf_options.specs.Words.{Text, Given, Gives, value_of}

-- ---- the bytes of a character are a unit

two : (c : ℕ) → 128 ≤ c → c < 2048 → encode c ≡ (192 + c / 64) ∷ (128 + c % 64) ∷ []
unfolding encode
two c a b = rw (le-ltb c 128 a, lt-ltb c 2048 b) refl

three : (c : ℕ) → 2048 ≤ c → c < 65536 → encode c ≡ (224 + c / 4096) ∷ (128 + c / 64 % 64) ∷ (128 + c % 64) ∷ []
unfolding encode
three c a b = rw (le-ltb c 128 (omega arith), le-ltb c 2048 a, lt-ltb c 65536 b) refl

four : (c : ℕ) → 65536 ≤ c → encode c ≡ (240 + c / 262144) ∷ (128 + c / 4096 % 64) ∷ (128 + c / 64 % 64) ∷ (128 + c % 64) ∷ []
unfolding encode
four c a = rw (le-ltb c 128 (omega arith), le-ltb c 2048 (omega arith), le-ltb c 65536 a) refl

unit_two : (c : ℕ) → 128 ≤ c → c < 2048 → IsUnit ((192 + c / 64) ∷ (128 + c % 64) ∷ [])
unit_two c a b = (1, _, refl, ((omega arith, omega arith), ((omega arith, omega arith), tt)))

unit_low : (c : ℕ) → 2048 ≤ c → c < 4096 → IsUnit ((224 + c / 4096) ∷ (128 + c / 64 % 64) ∷ (128 + c % 64) ∷ [])
unit_low c a b = (2, _, refl, ((omega arith, omega arith), ((omega arith, omega arith), ((omega arith, omega arith), tt))))

unit_middle : (c : ℕ) → 4096 ≤ c → c < 53248 → IsUnit ((224 + c / 4096) ∷ (128 + c / 64 % 64) ∷ (128 + c % 64) ∷ [])
unit_middle c a b = (3, _, refl, ((omega arith, omega arith), ((omega arith, omega arith), ((omega arith, omega arith), tt))))

unit_before : (c : ℕ) → 53248 ≤ c → c < 55296 → IsUnit ((224 + c / 4096) ∷ (128 + c / 64 % 64) ∷ (128 + c % 64) ∷ [])
unit_before c a b = (4, _, refl, ((omega arith, omega arith), ((omega arith, omega arith), ((omega arith, omega arith), tt))))

unit_behind : (c : ℕ) → 57344 ≤ c → c < 65536 → IsUnit ((224 + c / 4096) ∷ (128 + c / 64 % 64) ∷ (128 + c % 64) ∷ [])
unit_behind c a b = (5, _, refl, ((omega arith, omega arith), ((omega arith, omega arith), ((omega arith, omega arith), tt))))

unit_four : (c : ℕ) → 65536 ≤ c → c < 262144 → IsUnit ((240 + c / 262144) ∷ (128 + c / 4096 % 64) ∷ (128 + c / 64 % 64) ∷ (128 + c % 64) ∷ [])
unit_four c a b = (6, _, refl, ((omega arith, omega arith), ((omega arith, omega arith), ((omega arith, omega arith), ((omega arith, omega arith), tt)))))

unit_high : (c : ℕ) → 262144 ≤ c → c < 1048576 → IsUnit ((240 + c / 262144) ∷ (128 + c / 4096 % 64) ∷ (128 + c / 64 % 64) ∷ (128 + c % 64) ∷ [])
unit_high c a b = (7, _, refl, ((omega arith, omega arith), ((omega arith, omega arith), ((omega arith, omega arith), ((omega arith, omega arith), tt)))))

unit_last : (c : ℕ) → 1048576 ≤ c → c < 1114112 → IsUnit ((240 + c / 262144) ∷ (128 + c / 4096 % 64) ∷ (128 + c / 64 % 64) ∷ (128 + c % 64) ∷ [])
unit_last c a b = (8, _, refl, ((omega arith, omega arith), ((omega arith, omega arith), ((omega arith, omega arith), ((omega arith, omega arith), tt)))))

unit_one : (c : ℕ) → c < 128 → IsUnit (c ∷ [])
unit_one c a = (0, _, refl, ((omega arith, omega arith), tt))

-- below the surrogates
unit_three : (c : ℕ) → 2048 ≤ c → c < 55296 → IsUnit ((224 + c / 4096) ∷ (128 + c / 64 % 64) ∷ (128 + c % 64) ∷ [])
unit_three c a b = elim (cases_lt c 4096) [
  | inl low ↦ unit_low c a low
  | inr more ↦ elim (cases_lt c 53248) [ inl low ↦ unit_middle c more low | inr last ↦ unit_before c last b ]
]

below_surrogates : (c : ℕ) → c < 55296 → IsUnit (encode c)
below_surrogates c h = elim (cases_lt c 128) [
  | inl low ↦ subst IsUnit (sym (encode_ascii c low)) (unit_one c low)
  | inr more ↦ elim (cases_lt c 2048) [
    | inl low ↦ subst IsUnit (sym (two c more low)) (unit_two c more low)
    | inr last ↦ subst IsUnit (sym (three c last (omega arith))) (unit_three c last h)
  ]
]

behind_surrogates : (c : ℕ) → 57344 ≤ c → c < 1114112 → IsUnit (encode c)
behind_surrogates c h l = elim (cases_lt c 65536) [
  | inl low ↦ subst IsUnit (sym (three c (omega arith) low)) (unit_behind c h low)
  | inr more ↦ subst IsUnit (sym (four c more)) (elim (cases_lt c 262144) [
    | inl low ↦ unit_four c more low
    | inr much ↦ elim (cases_lt c 1048576) [ inl low ↦ unit_high c much low | inr last ↦ unit_last c last l ]
  ])
]

character_is_unit : (c : ℕ) → scalar c ≡ true → IsUnit (encode c)
character_is_unit c e = elim (scalar_cases c e) [ inl low ↦ below_surrogates c low | inr high ↦ behind_surrogates c high.0 high.1 ]

characters_are_text : (cs : List ℕ) → scalars cs ≡ true → IsText (encodes cs)
characters_are_text [] e = ([], tt, refl)
characters_are_text (c ∷ cs) e =
    let p : (scalar c ≡ true) × (scalars cs ≡ true) = and_parts (scalar c) (scalars cs) e in
    let t : IsText (encodes cs) = characters_are_text cs p.1 in
    (encode c ∷ t.0, (character_is_unit c p.0, t.1), ap (λ (xs : List ℕ). encode c ++ xs) t.2)

-- what is UTF-8 is a text
pub utf8_is_text : (b : List ℕ) → IsUtf8 b → IsText b
utf8_is_text b u = subst IsText u.1.1 (characters_are_text u.0 u.1.0)

-- ---- what words give an option

-- behind `=` (61) a text goes on as one
behind_equals : (x v : Text) → IsUtf8 (x ++ 61 ∷ v) → IsUtf8 v
behind_equals x v u =
    let some : length x < length (x ++ 61 ∷ v) = omega (arith, length-append x (61 ∷ v)) in
    let small : get_or (x ++ 61 ∷ v) (length x) 0 < 128 = subst (λ n. n < 128) (sym (get_or-append_seam x 61 v 0)) (omega arith) in
    subst IsUtf8 (drop-append-add x (61 ∷ v) 1) (IsUtf8-drop (x ++ 61 ∷ v) (length x + 1) u (IsCharBoundary-after_ascii (x ++ 61 ∷ v) (length x) u some small))

values_utf8 : (words : List Text) (given : Given) → AllByRecursion IsUtf8 words → Gives words given → AllByRecursion (λ (o : Text × Text). IsUtf8 o.1) given
values_utf8 words [] utf8 gives = tt
values_utf8 words (o ∷ given) utf8 (rest, more, inl joined) =
    let all : AllByRecursion IsUtf8 ((45 ∷ 45 ∷ (o.0 ++ 61 ∷ o.1)) ∷ rest) = subst (AllByRecursion IsUtf8) joined utf8 in
    (behind_equals (45 ∷ 45 ∷ o.0) o.1 all.0, values_utf8 rest given all.1 more)
values_utf8 words (o ∷ given) utf8 (rest, more, inr apart) =
    let all : AllByRecursion IsUtf8 ((45 ∷ 45 ∷ o.0) ∷ o.1 ∷ rest) = subst (AllByRecursion IsUtf8) apart.0 utf8 in
    (all.1.0, values_utf8 rest given all.1.1 more)

found_first : (b : Bool) (o : Text × Text) (rest : Option (Text × Text)) (v : Text) → IsUtf8 o.1 → (option_map (λ (p : Text × Text). p.1) rest ≡ Some v → IsUtf8 v) → option_map (λ (p : Text × Text). p.1) (cond b (Some o) rest) ≡ Some v → IsUtf8 v
found_first true o rest v first others e = subst IsUtf8 (same_Some o.1 v e) first
found_first false o rest v first others e = others e

found_utf8 : (given : Given) (x v : Text) → AllByRecursion (λ (o : Text × Text). IsUtf8 o.1) given → value_of given x ≡ Some v → IsUtf8 v
found_utf8 [] x v utf8 e = cc
found_utf8 (o ∷ given) x v utf8 e = found_first (bytes_eq o.0 x) o (find (λ p. bytes_eq p.0 x) given) v utf8.0 (found_utf8 given x v utf8.1) e

-- what words give an option is UTF-8 where they are
pub value_utf8 : (words : List Text) (given : Given) → AllByRecursion IsUtf8 words → Gives words given → (x v : Text) → value_of given x ≡ Some v → IsUtf8 v
value_utf8 words given utf8 gives x v e = found_utf8 given x v (values_utf8 words given utf8 gives) e
