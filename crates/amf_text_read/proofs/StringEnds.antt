-- With which bytes the content of a string can go on: some of these end it, where any do.
use Rattle.std.proofs.Common.{◌≡◌, ℕ, ◌+◌, ◌*◌, ◌<◌, ◌≤◌, ◌==◌, Bool, true, false, cond, ◌&&◌, List, [], ◌∷◌, ◌++◌, Option, Some, None, refl, sym, ap, subst, ◌∙◌, arith, inl, inr, nat_lt, nat_le, ltb-true, leb-true, lt-ltb, le-leb}
use Rattle.std.specs.Prelude.{is_some, option_and_then, ◌⊎◌}
use Rattle.std.proofs.lemmas.Bool.{false≢true}
use Rattle.std.specs.Char.{digit_value, is_digit, encode_utf8}
use Rattle.json.specs.Text.{Within, plain, after_backslash, after_u, after_high, content, prepend, code_unit, short_escape, is_high_surrogate, is_low_surrogate, surrogate_pair}
use Rattle.amf_text_read.specs.FrontEnds.{StringEnd, quote_end, letter_end, four_end, three_end, two_end, one_end, two_low_end, one_low_end, low_end, u_end, d_end, c_end}

abbrev pub Is : Option (List ℕ) → Type 0
Is o = is_some o ≡ true

-- one of them ends it
abbrev pub Ended : Within → List ℕ → Type 0
Ended w xs = (e : List ℕ) × StringEnd e × (is_some (content w (xs ++ e)) ≡ true)

pub none_not : {X : Type 0} → Is None → X
none_not h = absurd (false≢true h)

pub prepended : (bs : List ℕ) (o : Option (List ℕ)) → is_some (prepend bs o) ≡ is_some o
prepended bs None = refl
prepended bs (Some s) = refl

-- Code units.

pub record Digits (a b c d v : ℕ) : Type 0 where
  pub a_is : is_digit a 16 ≡ true
  pub b_is : is_digit b 16 ≡ true
  pub c_is : is_digit c 16 ≡ true
  pub d_is : is_digit d 16 ≡ true
  pub sum : v ≡ digit_value a * 4096 + digit_value b * 256 + digit_value c * 16 + digit_value d

digits_by : (a b c d v : ℕ) (p q r s : Bool) → is_digit a 16 ≡ p → is_digit b 16 ≡ q → is_digit c 16 ≡ r → is_digit d 16 ≡ s
    → cond (p && q && r && s) (Some (digit_value a * 4096 + digit_value b * 256 + digit_value c * 16 + digit_value d)) None ≡ Some v → Digits a b c d v
digits_by a b c d v true true true true e f g h x = record { a_is = e; b_is = f; c_is = g; d_is = h; sum = cc }
digits_by a b c d v false q r s e f g h x = absurd cc
digits_by a b c d v true false r s e f g h x = absurd cc
digits_by a b c d v true true false s e f g h x = absurd cc
digits_by a b c d v true true true false e f g h x = absurd cc

pub digits : (a b c d v : ℕ) → code_unit a b c d ≡ Some v → Digits a b c d v
unfolding code_unit
digits a b c d v x = digits_by a b c d v (is_digit a 16) (is_digit b 16) (is_digit c 16) (is_digit d 16) refl refl refl refl x

made : (a b c d : ℕ) → is_digit a 16 ≡ true → is_digit b 16 ≡ true → is_digit c 16 ≡ true → is_digit d 16 ≡ true
    → code_unit a b c d ≡ Some (digit_value a * 4096 + digit_value b * 256 + digit_value c * 16 + digit_value d)
unfolding code_unit
made a b c d e f g h = rw e (rw f (rw g (rw h refl)))

small : (a : ℕ) → is_digit a 16 ≡ true → digit_value a < 16
small a h = ltb-true (digit_value a) 16 h

low_both : (p q : Bool) → (p && q) ≡ true → (p ≡ true) × (q ≡ true)
low_both true true h = (refl, refl)
low_both true false h = absurd (false≢true h)
low_both false q h = absurd (false≢true h)

is_low : (v : ℕ) → is_low_surrogate v ≡ true → (0xdc00 ≤ v) × (v < 0xe000)
is_low v h = let b = low_both (nat_le 0xdc00 v) (nat_lt v 0xe000) h in (leb-true 0xdc00 v b.0, ltb-true v 0xe000 b.1)

low_made : (v : ℕ) → 0xdc00 ≤ v → v < 0xe000 → is_low_surrogate v ≡ true
low_made v a b = rw (le-leb 0xdc00 v a) (rw (lt-ltb v 0xe000 b) refl)

-- behind the letter of the first

abbrev pub behind_unit : Option ℕ → List ℕ → Option (List ℕ)
behind_unit o ys = option_and_then (λ u. cond (is_high_surrogate u) (content (after_high u) ys) (cond (is_low_surrogate u) None (prepend (encode_utf8 u) (content plain ys)))) o

pub unit_is : (a b c d : ℕ) (ys : List ℕ) → content after_u (a ∷ b ∷ c ∷ d ∷ ys) ≡ behind_unit (code_unit a b c d) ys
unfolding content
unit_is a b c d ys = refl

-- a unit that goes on behind it
pub data Unit2 (a b c d : ℕ) (ys : List ℕ) : Type 0 where
  high : (v : ℕ) → code_unit a b c d ≡ Some v → is_high_surrogate v ≡ true → Is (content (after_high v) ys) → Unit2 a b c d ys
  other : (v : ℕ) → code_unit a b c d ≡ Some v → is_high_surrogate v ≡ false → is_low_surrogate v ≡ false → Is (content plain ys) → Unit2 a b c d ys

unit_cases : (a b c d : ℕ) (ys : List ℕ) (o : Option ℕ) → code_unit a b c d ≡ o → Is (behind_unit o ys) → Unit2 a b c d ys
unit_cases a b c d ys None e h = none_not h
unit_cases a b c d ys (Some v) e h = by (is_high_surrogate v) (is_low_surrogate v) refl refl h
  where
    by : (p q : Bool) → is_high_surrogate v ≡ p → is_low_surrogate v ≡ q → Is (cond p (content (after_high v) ys) (cond q None (prepend (encode_utf8 v) (content plain ys)))) → Unit2 a b c d ys
    by true q f g h = high v e f h
    by false true f g h = none_not h
    by false false f g h = other v e f g (sym (prepended (encode_utf8 v) (content plain ys)) ∙ h)

pub unit : (a b c d : ℕ) (ys : List ℕ) → Is (content after_u (a ∷ b ∷ c ∷ d ∷ ys)) → Unit2 a b c d ys
unit a b c d ys h = unit_cases a b c d ys (code_unit a b c d) refl (sym (ap is_some (unit_is a b c d ys)) ∙ h)

-- four digits are there
pub record Four (zs : List ℕ) : Type 0 where
  pub a : ℕ
  pub b : ℕ
  pub c : ℕ
  pub d : ℕ
  pub rest : List ℕ
  pub is : zs ≡ a ∷ b ∷ c ∷ d ∷ rest
  pub goes : Unit2 a b c d rest

pub four : (zs : List ℕ) → Is (content after_u zs) → Four zs
unfolding content
four [] h = none_not h
four (a ∷ []) h = none_not h
four (a ∷ b ∷ []) h = none_not h
four (a ∷ b ∷ c ∷ []) h = none_not h
four (a ∷ b ∷ c ∷ d ∷ rest) h = record { a = a; b = b; c = c; d = d; rest = rest; is = refl; goes = unit a b c d rest h }

-- the value of the unit, which is no low surrogate
pub record Value (a b c d : ℕ) : Type 0 where
  pub v : ℕ
  pub digits_are : Digits a b c d v
  pub no_low : is_low_surrogate v ≡ false

high_low : (v : ℕ) → is_high_surrogate v ≡ true → is_low_surrogate v ≡ false
high_low v h = let b = low_both (nat_le 0xd800 v) (nat_lt v 0xdc00) h in by (nat_le 0xdc00 v) refl (ltb-true v 0xdc00 b.1)
  where
    by : (p : Bool) → nat_le 0xdc00 v ≡ p → v < 0xdc00 → (p && nat_lt v 0xe000) ≡ false
    by true e less = absurd (let m = leb-true 0xdc00 v e in omega (arith, m, less))
    by false e less = refl

pub value : (a b c d : ℕ) (ys : List ℕ) → Unit2 a b c d ys → Value a b c d
value a b c d ys (high v e h s) = record { v = v; digits_are = digits a b c d v e; no_low = high_low v h }
value a b c d ys (other v e h l s) = record { v = v; digits_are = digits a b c d v e; no_low = l }

-- a unit that is made ends by a quote, or by the second of a pair

pub quote_plain : Is (content plain (34 ∷ []))
unfolding content
quote_plain = refl

low_unit : code_unit 100 99 48 48 ≡ Some 0xdc00
unfolding code_unit
low_unit = refl

low_high : (h : ℕ) → Is (content (after_high h) (92 ∷ 117 ∷ 100 ∷ 99 ∷ 48 ∷ 48 ∷ 34 ∷ []))
unfolding content code_unit
low_high h = refl

-- with digits to fill it up
made_ends : (a b c d v : ℕ) → code_unit a b c d ≡ Some v → is_low_surrogate v ≡ false
    → Is (content after_u (a ∷ b ∷ c ∷ d ∷ 34 ∷ [])) ⊎ Is (content after_u (a ∷ b ∷ c ∷ d ∷ 92 ∷ 117 ∷ 100 ∷ 99 ∷ 48 ∷ 48 ∷ 34 ∷ []))
made_ends a b c d v e l = by (is_high_surrogate v) refl
  where
    by : (p : Bool) → is_high_surrogate v ≡ p → Is (content after_u (a ∷ b ∷ c ∷ d ∷ 34 ∷ [])) ⊎ Is (content after_u (a ∷ b ∷ c ∷ d ∷ 92 ∷ 117 ∷ 100 ∷ 99 ∷ 48 ∷ 48 ∷ 34 ∷ []))
    by true h = inr (ap is_some (unit_is a b c d (92 ∷ 117 ∷ 100 ∷ 99 ∷ 48 ∷ 48 ∷ 34 ∷ []) ∙ ap (λ o. behind_unit o (92 ∷ 117 ∷ 100 ∷ 99 ∷ 48 ∷ 48 ∷ 34 ∷ [])) e) ∙ (rw h (low_high v)))
    by false h = inl (ap is_some (unit_is a b c d (34 ∷ []) ∙ ap (λ o. behind_unit o (34 ∷ [])) e) ∙ (rw (h, l) (prepended (encode_utf8 v) (content plain (34 ∷ [])) ∙ quote_plain)))

not_low : (v : ℕ) → (0xdc00 ≤ v → v < 0xe000 → ⊥) → is_low_surrogate v ≡ false
not_low v f = by (is_low_surrogate v) refl
  where
    by : (p : Bool) → is_low_surrogate v ≡ p → p ≡ false
    by true e = absurd (let b = is_low v e in f b.0 b.1)
    by false e = refl

not_high : (v : ℕ) → (0xd800 ≤ v → v < 0xdc00 → ⊥) → is_high_surrogate v ≡ false
not_high v f = by (is_high_surrogate v) refl
  where
    by : (p : Bool) → is_high_surrogate v ≡ p → p ≡ false
    by true e = absurd (let b = low_both (nat_le 0xd800 v) (nat_lt v 0xdc00) e in f (leb-true 0xd800 v b.0) (ltb-true v 0xdc00 b.1))
    by false e = refl

plain_ends : (a b c d v : ℕ) → code_unit a b c d ≡ Some v → is_high_surrogate v ≡ false → is_low_surrogate v ≡ false → Is (content after_u (a ∷ b ∷ c ∷ d ∷ 34 ∷ []))
plain_ends a b c d v e h l = ap is_some (unit_is a b c d (34 ∷ []) ∙ ap (λ o. behind_unit o (34 ∷ [])) e) ∙ (rw (h, l) (prepended (encode_utf8 v) (content plain (34 ∷ [])) ∙ quote_plain))

zero_unit : Is (content after_u (48 ∷ 48 ∷ 48 ∷ 48 ∷ 34 ∷ []))
unfolding content code_unit
zero_unit = refl

one_digit : (a : ℕ) → is_digit a 16 ≡ true → Is (content after_u (a ∷ 48 ∷ 48 ∷ 48 ∷ 34 ∷ []))
one_digit a h =
    let v = digit_value a * 4096 + digit_value 48 * 256 + digit_value 48 * 16 + digit_value 48 in
    let s = small a h in
    let same : v ≡ digit_value a * 4096 = omega arith in
    plain_ends a 48 48 48 v (made a 48 48 48 h refl refl refl) (not_high v (λ p q. omega (arith, p, q, s, same))) (not_low v (λ p q. omega (arith, p, q, s, same)))

two_digits : (a b c d : ℕ) → Value a b c d
    → Is (content after_u (a ∷ b ∷ 48 ∷ 48 ∷ 34 ∷ [])) ⊎ Is (content after_u (a ∷ b ∷ 48 ∷ 48 ∷ 92 ∷ 117 ∷ 100 ∷ 99 ∷ 48 ∷ 48 ∷ 34 ∷ []))
two_digits a b c d w =
    let n = w.digits_are in
    let v = digit_value a * 4096 + digit_value b * 256 + digit_value 48 * 16 + digit_value 48 in
    let sc = small c n.c_is in
    let sd = small d n.d_is in
    let sum = n.sum in
    let same : v ≡ digit_value a * 4096 + digit_value b * 256 = omega arith in
    made_ends a b 48 48 v (made a b 48 48 n.a_is n.b_is refl refl)
    (not_low v (λ p q. false≢true (sym w.no_low ∙ low_made w.v (omega (arith, p, same, sum)) (omega (arith, q, same, sum, sc, sd)))))

three_digits : (a b c d : ℕ) → Value a b c d
    → Is (content after_u (a ∷ b ∷ c ∷ 48 ∷ 34 ∷ [])) ⊎ Is (content after_u (a ∷ b ∷ c ∷ 48 ∷ 92 ∷ 117 ∷ 100 ∷ 99 ∷ 48 ∷ 48 ∷ 34 ∷ []))
three_digits a b c d w =
    let n = w.digits_are in
    let v = digit_value a * 4096 + digit_value b * 256 + digit_value c * 16 + digit_value 48 in
    let sd = small d n.d_is in
    let sum = n.sum in
    let same : v ≡ digit_value a * 4096 + digit_value b * 256 + digit_value c * 16 = omega arith in
    made_ends a b c 48 v (made a b c 48 n.a_is n.b_is n.c_is refl)
    (not_low v (λ p q. false≢true (sym w.no_low ∙ low_made w.v (omega (arith, p, same, sum)) (omega (arith, q, same, sum, sd)))))

-- The second of a pair.

abbrev second_is : ℕ → ℕ → ℕ → Option ℕ → List ℕ → Option (List ℕ)
second_is h s u o ys = cond ((s == 92) && (u == 117)) (option_and_then (λ l. cond (is_low_surrogate l) (prepend (encode_utf8 (surrogate_pair h l)) (content plain ys)) None) o) None

pair_is : (h s u a b c d : ℕ) (ys : List ℕ) → content (after_high h) (s ∷ u ∷ a ∷ b ∷ c ∷ d ∷ ys) ≡ second_is h s u (code_unit a b c d) ys
unfolding content
pair_is h s u a b c d ys = refl

pub record Second (s u a b c d : ℕ) (ys : List ℕ) : Type 0 where
  pub s_is : (s == 92) ≡ true
  pub u_is : (u == 117) ≡ true
  pub v : ℕ
  pub unit_value : code_unit a b c d ≡ Some v
  pub low : is_low_surrogate v ≡ true
  pub goes : Is (content plain ys)

second_by : (h s u a b c d : ℕ) (ys : List ℕ) (p q : Bool) (o : Option ℕ) → (s == 92) ≡ p → (u == 117) ≡ q → code_unit a b c d ≡ o
    → Is (cond (p && q) (option_and_then (λ l. cond (is_low_surrogate l) (prepend (encode_utf8 (surrogate_pair h l)) (content plain ys)) None) o) None) → Second s u a b c d ys
second_by h s u a b c d ys false q o e f g i = none_not i
second_by h s u a b c d ys true false o e f g i = none_not i
second_by h s u a b c d ys true true None e f g i = none_not i
second_by h s u a b c d ys true true (Some v) e f g i = by (is_low_surrogate v) refl i
  where
    by : (r : Bool) → is_low_surrogate v ≡ r → Is (cond r (prepend (encode_utf8 (surrogate_pair h v)) (content plain ys)) None) → Second s u a b c d ys
    by true l k = record { s_is = e; u_is = f; v = v; unit_value = g; low = l; goes = sym (prepended (encode_utf8 (surrogate_pair h v)) (content plain ys)) ∙ k }
    by false l k = none_not k

pub second : (h s u a b c d : ℕ) (ys : List ℕ) → Is (content (after_high h) (s ∷ u ∷ a ∷ b ∷ c ∷ d ∷ ys)) → Second s u a b c d ys
second h s u a b c d ys i = second_by h s u a b c d ys (s == 92) (u == 117) (code_unit a b c d) refl refl refl (sym (ap is_some (pair_is h s u a b c d ys)) ∙ i)

pub record Six (zs : List ℕ) : Type 0 where
  pub s : ℕ
  pub u : ℕ
  pub a : ℕ
  pub b : ℕ
  pub c : ℕ
  pub d : ℕ
  pub rest : List ℕ
  pub is : zs ≡ s ∷ u ∷ a ∷ b ∷ c ∷ d ∷ rest
  pub goes : Second s u a b c d rest

pub six : (h : ℕ) (zs : List ℕ) → Is (content (after_high h) zs) → Six zs
unfolding content
six h [] i = none_not i
six h (s ∷ []) i = none_not i
six h (s ∷ u ∷ []) i = none_not i
six h (s ∷ u ∷ a ∷ []) i = none_not i
six h (s ∷ u ∷ a ∷ b ∷ []) i = none_not i
six h (s ∷ u ∷ a ∷ b ∷ c ∷ []) i = none_not i
six h (s ∷ u ∷ a ∷ b ∷ c ∷ d ∷ rest) i = record { s = s; u = u; a = a; b = b; c = c; d = d; rest = rest; is = refl; goes = second h s u a b c d rest i }

pub second_ends : (h s u a b c d v : ℕ) (ys : List ℕ) → (s == 92) ≡ true → (u == 117) ≡ true → code_unit a b c d ≡ Some v → is_low_surrogate v ≡ true → Is (content plain ys)
    → Is (content (after_high h) (s ∷ u ∷ a ∷ b ∷ c ∷ d ∷ ys))
second_ends h s u a b c d v ys e f g l i =
    ap is_some (pair_is h s u a b c d ys ∙ ap (λ o. second_is h s u o ys) g) ∙ (rw (e, f, l) (prepended (encode_utf8 (surrogate_pair h v)) (content plain ys) ∙ i))

low_d : (h s u a b c d : ℕ) (ys : List ℕ) → Second s u a b c d ys → Is (content (after_high h) (s ∷ u ∷ a ∷ 99 ∷ 48 ∷ 48 ∷ 34 ∷ []))
low_d h s u a b c d ys n =
    let m = digits a b c d n.v n.unit_value in
    let l = is_low n.v n.low in
    let sb = small b m.b_is in
    let sc = small c m.c_is in
    let sd = small d m.d_is in
    let sum = m.sum in
    let v = digit_value a * 4096 + digit_value 99 * 256 + digit_value 48 * 16 + digit_value 48 in
    let same : v ≡ digit_value a * 4096 + 3072 = omega arith in
    second_ends h s u a 99 48 48 v (34 ∷ []) n.s_is n.u_is (made a 99 48 48 m.a_is refl refl refl)
    (low_made v (omega (arith, l, same, sum, sb, sc, sd)) (omega (arith, l, same, sum, sb, sc, sd))) quote_plain

low_two : (h s u a b c d : ℕ) (ys : List ℕ) → Second s u a b c d ys → Is (content (after_high h) (s ∷ u ∷ a ∷ b ∷ 48 ∷ 48 ∷ 34 ∷ []))
low_two h s u a b c d ys n =
    let m = digits a b c d n.v n.unit_value in
    let l = is_low n.v n.low in
    let sc = small c m.c_is in
    let sd = small d m.d_is in
    let sum = m.sum in
    let v = digit_value a * 4096 + digit_value b * 256 + digit_value 48 * 16 + digit_value 48 in
    let same : v ≡ digit_value a * 4096 + digit_value b * 256 = omega arith in
    second_ends h s u a b 48 48 v (34 ∷ []) n.s_is n.u_is (made a b 48 48 m.a_is m.b_is refl refl)
    (low_made v (omega (arith, l, same, sum, sc, sd)) (omega (arith, l, same, sum, sc, sd))) quote_plain

low_one : (h s u a b c d : ℕ) (ys : List ℕ) → Second s u a b c d ys → Is (content (after_high h) (s ∷ u ∷ a ∷ b ∷ c ∷ 48 ∷ 34 ∷ []))
low_one h s u a b c d ys n =
    let m = digits a b c d n.v n.unit_value in
    let l = is_low n.v n.low in
    let sd = small d m.d_is in
    let sum = m.sum in
    let v = digit_value a * 4096 + digit_value b * 256 + digit_value c * 16 + digit_value 48 in
    let same : v ≡ digit_value a * 4096 + digit_value b * 256 + digit_value c * 16 = omega arith in
    second_ends h s u a b c 48 v (34 ∷ []) n.s_is n.u_is (made a b c 48 m.a_is m.b_is m.c_is refl)
    (low_made v (omega (arith, l, same, sum, sd)) (omega (arith, l, same, sum, sd))) quote_plain

-- One byte of a string, and the letter of an escape.

plain_is : (x : ℕ) (xs : List ℕ) → content plain (x ∷ xs) ≡ cond (x == 34) (Some []) (cond (x == 92) (content after_backslash xs) (cond (nat_lt x 32) None (prepend (x ∷ []) (content plain xs))))
unfolding content
plain_is x xs = refl

escape_is : (x : ℕ) (xs : List ℕ) → content after_backslash (x ∷ xs) ≡ cond (x == 117) (content after_u xs) (option_and_then (λ c. prepend (c ∷ []) (content plain xs)) (short_escape x))
unfolding content
escape_is x xs = refl

n_is : Is (content after_backslash (110 ∷ 34 ∷ []))
unfolding content short_escape
n_is = refl

pub plain_quote : (x : ℕ) (ys : List ℕ) → (x == 34) ≡ true → Is (content plain (x ∷ ys))
plain_quote x ys e = ap is_some (plain_is x ys) ∙ (rw e refl)

pub plain_slash : (x : ℕ) (ys : List ℕ) → (x == 34) ≡ false → (x == 92) ≡ true → is_some (content plain (x ∷ ys)) ≡ is_some (content after_backslash ys)
plain_slash x ys e f = ap is_some (plain_is x ys) ∙ (rw e (rw f refl))

pub plain_low : (x : ℕ) (ys : List ℕ) → (x == 34) ≡ false → (x == 92) ≡ false → nat_lt x 32 ≡ true → is_some (content plain (x ∷ ys)) ≡ false
plain_low x ys e f g = ap is_some (plain_is x ys) ∙ (rw e (rw f (rw g refl)))

pub plain_other : (x : ℕ) (ys : List ℕ) → (x == 34) ≡ false → (x == 92) ≡ false → nat_lt x 32 ≡ false → is_some (content plain (x ∷ ys)) ≡ is_some (content plain ys)
plain_other x ys e f g = ap is_some (plain_is x ys) ∙ (rw e (rw f (rw g (prepended (x ∷ []) (content plain ys)))))

plain_step : (x : ℕ) (xs more : List ℕ) (p q r : Bool) → (x == 34) ≡ p → (x == 92) ≡ q → nat_lt x 32 ≡ r → (Is (content after_backslash (xs ++ more)) → Ended after_backslash xs) → (Is (content plain (xs ++ more)) → Ended plain xs)
    → Is (content plain (x ∷ (xs ++ more))) → Ended plain (x ∷ xs)
plain_step x xs more true q r e f g b k i = (34 ∷ [], quote_end, plain_quote x (xs ++ 34 ∷ []) e)
plain_step x xs more false true r e f g b k i = let n = b (sym (plain_slash x (xs ++ more) e f) ∙ i) in (n.0, n.1, plain_slash x (xs ++ n.0) e f ∙ n.2)
plain_step x xs more false false true e f g b k i = absurd (false≢true (sym (plain_low x (xs ++ more) e f g) ∙ i))
plain_step x xs more false false false e f g b k i = let n = k (sym (plain_other x (xs ++ more) e f g) ∙ i) in (n.0, n.1, plain_other x (xs ++ n.0) e f g ∙ n.2)

pub escape_u : (x : ℕ) (ys : List ℕ) → (x == 117) ≡ true → is_some (content after_backslash (x ∷ ys)) ≡ is_some (content after_u ys)
escape_u x ys e = ap is_some (escape_is x ys) ∙ (rw e refl)

pub escape_none : (x : ℕ) (ys : List ℕ) → (x == 117) ≡ false → short_escape x ≡ None → is_some (content after_backslash (x ∷ ys)) ≡ false
escape_none x ys e f = ap is_some (escape_is x ys) ∙ (rw e (rw f refl))

pub escape_some : (x c : ℕ) (ys : List ℕ) → (x == 117) ≡ false → short_escape x ≡ Some c → is_some (content after_backslash (x ∷ ys)) ≡ is_some (content plain ys)
escape_some x c ys e f = ap is_some (escape_is x ys) ∙ (rw e (rw f (prepended (c ∷ []) (content plain ys))))

escape_step : (x : ℕ) (xs more : List ℕ) (p : Bool) (o : Option ℕ) → (x == 117) ≡ p → short_escape x ≡ o → (Is (content after_u (xs ++ more)) → Ended after_u xs) → (Is (content plain (xs ++ more)) → Ended plain xs)
    → Is (content after_backslash (x ∷ (xs ++ more))) → Ended after_backslash (x ∷ xs)
escape_step x xs more true o e f b k i = let n = b (sym (escape_u x (xs ++ more) e) ∙ i) in (n.0, n.1, escape_u x (xs ++ n.0) e ∙ n.2)
escape_step x xs more false None e f b k i = absurd (false≢true (sym (escape_none x (xs ++ more) e f) ∙ i))
escape_step x xs more false (Some c) e f b k i = let n = k (sym (escape_some x c (xs ++ more) e f) ∙ i) in (n.0, n.1, escape_some x c (xs ++ n.0) e f ∙ n.2)

unit_step : (a b c d : ℕ) (xs more : List ℕ) → ((h : ℕ) → Is (content (after_high h) (xs ++ more)) → Ended (after_high h) xs) → (Is (content plain (xs ++ more)) → Ended plain xs)
    → Unit2 a b c d (xs ++ more) → Ended after_u (a ∷ b ∷ c ∷ d ∷ xs)
unit_step a b c d xs more f k (high v e h i) =
    let n = f v i in
    (n.0, n.1, ap is_some (unit_is a b c d (xs ++ n.0) ∙ ap (λ o. behind_unit o (xs ++ n.0)) e) ∙ (rw h n.2))
unit_step a b c d xs more f k (other v e h l i) =
    let n = k i in
    (n.0, n.1, ap is_some (unit_is a b c d (xs ++ n.0) ∙ ap (λ o. behind_unit o (xs ++ n.0)) e) ∙ (rw (h, l) (prepended (encode_utf8 v) (content plain (xs ++ n.0)) ∙ n.2)))

-- Where some bytes end it, one of these does.

pub ended : (w : Within) (xs more : List ℕ) → Is (content w (xs ++ more)) → Ended w xs
ended plain [] more i = (34 ∷ [], quote_end, quote_plain)
ended plain (x ∷ xs) more i = plain_step x xs more (x == 34) (x == 92) (nat_lt x 32) refl refl refl (ended after_backslash xs more) (ended plain xs more) i
ended after_backslash [] more i = (110 ∷ 34 ∷ [], letter_end, n_is)
ended after_backslash (x ∷ xs) more i = escape_step x xs more (x == 117) (short_escape x) refl refl (ended after_u xs more) (ended plain xs more) i
ended after_u [] more i = (48 ∷ 48 ∷ 48 ∷ 48 ∷ 34 ∷ [], four_end, zero_unit)
ended after_u (a ∷ []) more i =
    let f = four (a ∷ more) i in
    let w = value f.a f.b f.c f.d f.rest f.goes in
    let same : a ≡ f.a = cc f.is in
    (48 ∷ 48 ∷ 48 ∷ 34 ∷ [], three_end, one_digit a (ap (λ n. is_digit n 16) same ∙ w.digits_are.a_is))
ended after_u (a ∷ b ∷ []) more i =
    let f = four (a ∷ b ∷ more) i in
    let same_a : a ≡ f.a = cc f.is in
    let same_b : b ≡ f.b = cc f.is in
    let w = subst (λ z. Value a z f.c f.d) (sym same_b) (subst (λ z. Value z f.b f.c f.d) (sym same_a) (value f.a f.b f.c f.d f.rest f.goes)) in
    (elim (two_digits a b f.c f.d w) [ inl k ↦ (48 ∷ 48 ∷ 34 ∷ [], two_end, k) | inr k ↦ (48 ∷ 48 ∷ 92 ∷ 117 ∷ 100 ∷ 99 ∷ 48 ∷ 48 ∷ 34 ∷ [], two_low_end, k) ])
ended after_u (a ∷ b ∷ c ∷ []) more i =
    let f = four (a ∷ b ∷ c ∷ more) i in
    let same_a : a ≡ f.a = cc f.is in
    let same_b : b ≡ f.b = cc f.is in
    let same_c : c ≡ f.c = cc f.is in
    let w = subst (λ z. Value a b z f.d) (sym same_c) (subst (λ z. Value a z f.c f.d) (sym same_b) (subst (λ z. Value z f.b f.c f.d) (sym same_a) (value f.a f.b f.c f.d f.rest f.goes))) in
    (elim (three_digits a b c f.d w) [ inl k ↦ (48 ∷ 34 ∷ [], one_end, k) | inr k ↦ (48 ∷ 92 ∷ 117 ∷ 100 ∷ 99 ∷ 48 ∷ 48 ∷ 34 ∷ [], one_low_end, k) ])
ended after_u (a ∷ b ∷ c ∷ d ∷ xs) more i = unit_step a b c d xs more (λ h. ended (after_high h) xs more) (ended plain xs more) (unit a b c d (xs ++ more) i)
ended (after_high h) [] more i = (92 ∷ 117 ∷ 100 ∷ 99 ∷ 48 ∷ 48 ∷ 34 ∷ [], low_end, low_high h)
ended (after_high h) (s ∷ []) more i =
    let f = six h (s ∷ more) i in
    let same : s ≡ f.s = cc f.is in
    (117 ∷ 100 ∷ 99 ∷ 48 ∷ 48 ∷ 34 ∷ [], u_end, second_ends h s 117 100 99 48 48 0xdc00 (34 ∷ []) (ap (λ n. n == 92) same ∙ f.goes.s_is) refl low_unit refl quote_plain)
ended (after_high h) (s ∷ u ∷ []) more i =
    let f = six h (s ∷ u ∷ more) i in
    let same_s : s ≡ f.s = cc f.is in
    let same_u : u ≡ f.u = cc f.is in
    (100 ∷ 99 ∷ 48 ∷ 48 ∷ 34 ∷ [], d_end, second_ends h s u 100 99 48 48 0xdc00 (34 ∷ []) (ap (λ n. n == 92) same_s ∙ f.goes.s_is) (ap (λ n. n == 117) same_u ∙ f.goes.u_is) low_unit refl quote_plain)
ended (after_high h) (s ∷ u ∷ a ∷ []) more i =
    let f = six h (s ∷ u ∷ a ∷ more) i in
    let same_s : s ≡ f.s = cc f.is in
    let same_u : u ≡ f.u = cc f.is in
    let same_a : a ≡ f.a = cc f.is in
    let n = subst (λ z. Second s u z f.b f.c f.d f.rest) (sym same_a) (subst (λ z. Second s z f.a f.b f.c f.d f.rest) (sym same_u) (subst (λ z. Second z f.u f.a f.b f.c f.d f.rest) (sym same_s) f.goes)) in
    (99 ∷ 48 ∷ 48 ∷ 34 ∷ [], c_end, low_d h s u a f.b f.c f.d f.rest n)
ended (after_high h) (s ∷ u ∷ a ∷ b ∷ []) more i =
    let f = six h (s ∷ u ∷ a ∷ b ∷ more) i in
    let same_s : s ≡ f.s = cc f.is in
    let same_u : u ≡ f.u = cc f.is in
    let same_a : a ≡ f.a = cc f.is in
    let same_b : b ≡ f.b = cc f.is in
    let n = subst (λ z. Second s u a z f.c f.d f.rest) (sym same_b) (subst (λ z. Second s u z f.b f.c f.d f.rest) (sym same_a) (subst (λ z. Second s z f.a f.b f.c f.d f.rest) (sym same_u) (subst (λ z. Second z f.u f.a f.b f.c f.d f.rest) (sym same_s) f.goes))) in
    (48 ∷ 48 ∷ 34 ∷ [], two_end, low_two h s u a b f.c f.d f.rest n)
ended (after_high h) (s ∷ u ∷ a ∷ b ∷ c ∷ []) more i =
    let f = six h (s ∷ u ∷ a ∷ b ∷ c ∷ more) i in
    let same_s : s ≡ f.s = cc f.is in
    let same_u : u ≡ f.u = cc f.is in
    let same_a : a ≡ f.a = cc f.is in
    let same_b : b ≡ f.b = cc f.is in
    let same_c : c ≡ f.c = cc f.is in
    let n = subst (λ z. Second s u a b z f.d f.rest) (sym same_c) (subst (λ z. Second s u a z f.c f.d f.rest) (sym same_b) (subst (λ z. Second s u z f.b f.c f.d f.rest) (sym same_a) (subst (λ z. Second s z f.a f.b f.c f.d f.rest) (sym same_u) (subst (λ z. Second z f.u f.a f.b f.c f.d f.rest) (sym same_s) f.goes)))) in
    (48 ∷ 34 ∷ [], one_end, low_one h s u a b c f.d f.rest n)
ended (after_high h) (s ∷ u ∷ a ∷ b ∷ c ∷ d ∷ xs) more i =
    let n = second h s u a b c d (xs ++ more) i in
    let k = ended plain xs more n.goes in
    (k.0, k.1, second_ends h s u a b c d n.v (xs ++ k.0) n.s_is n.u_is n.unit_value n.low k.2)
