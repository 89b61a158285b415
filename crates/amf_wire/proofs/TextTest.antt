-- The test for a text agrees with the definition.
use Rattle.std.proofs.Common.{◌≡◌, ◌⊎◌, ◌↔◌, ℕ, zero, suc, ◌≤◌, ◌<◌, Bool, true, false, ◌&&◌, List, [], ◌∷◌, ◌++◌, slice_get, Option, Some, None, refl, ap, sym, ◌∙◌, subst, arith, nat_le, inl, inr, IsTrue}
use Rattle.std.specs.List.{concat, AllByRecursion, AllZip}
use Rattle.std.proofs.lemmas.Bool.{leb-true, le-leb}
use Rattle.std.proofs.lemmas.Bool.Decides.{leb_tells}
use Rattle.amf_wire.specs.Text.{Range, rest_byte, rows, IsWithin, IsUnit, IsText, following, is_text_after, is_text}

below : (b m : ℕ) → (b ≤ m) ⊎ (m < b)
below b m = elim (leb_tells b m) [ inl p ↦ inl p.1 | inr p ↦ inr p.1 ]

pub some_is : {X : Type 0} (x y : X) → Some x ≡ Some y → x ≡ y
some_is x y e = cc

none_some : {X : Type 0} (x : X) (P : Type 0) → None ≡ Some x → P
none_some x P e = cc

-- the ranges that follow the first byte of a unit
ranges : (b : ℕ) (known rs : List Range) (front : List ℕ) → following b ≡ Some known → following b ≡ Some rs → AllZip IsWithin rs front → AllZip IsWithin known front
ranges b known rs front k e h = subst (λ r. AllZip IsWithin r front) (some_is rs known (sym e ∙ k)) h

no_ranges : (b : ℕ) (rs : List Range) (P : Type 0) → following b ≡ None → following b ≡ Some rs → P
no_ranges b rs P k e = none_some rs P (sym k ∙ e)

-- behind ED the second byte is of one of two rows
surrogate : (front : List ℕ) → AllZip IsWithin (rest_byte ∷ rest_byte ∷ []) front → IsUnit (0xED ∷ front)
surrogate [] h = absurd h
surrogate (c ∷ cs) h = elim (below c 0x9F) [ inl p ↦ (4, _, refl, ((omega arith, omega arith), ((h.0.0, p), h.1))) | inr p ↦ (9, _, refl, ((omega arith, omega arith), ((p, h.0.1), h.1))) ]

pub unit_of : (b : ℕ) (rs : List Range) (front : List ℕ) → following b ≡ Some rs → AllZip IsWithin rs front → IsUnit (b ∷ front)
unit_of b rs front e h =
    elim (below b 0x7F) [
      | inl p ↦ (0, _, refl, ((omega arith, p), ranges b [] rs front (grind arith) e h))
      | inr p1 ↦ elim (below b 0xBF) [
        | inl p ↦ no_ranges b rs (IsUnit (b ∷ front)) (grind arith) e
        | inr p2 ↦ elim (below b 0xC0) [
          | inl p ↦ (10, _, refl, ((p2, p), ranges b ((0x80, 0x80) ∷ []) rs front (grind arith) e h))
          | inr p3 ↦ elim (below b 0xC1) [
            | inl p ↦ no_ranges b rs (IsUnit (b ∷ front)) (grind arith) e
            | inr p4 ↦ elim (below b 0xDF) [
              | inl p ↦ (1, _, refl, ((p4, p), ranges b (rest_byte ∷ []) rs front (grind arith) e h))
              | inr p5 ↦ elim (below b 0xE0) [
                | inl p ↦ (2, _, refl, ((p5, p), ranges b ((0xA0, 0xBF) ∷ rest_byte ∷ []) rs front (grind arith) e h))
                | inr p6 ↦ elim (below b 0xEC) [
                  | inl p ↦ (3, _, refl, ((p6, p), ranges b (rest_byte ∷ rest_byte ∷ []) rs front (grind arith) e h))
                  | inr p7 ↦ elim (below b 0xED) [
                    | inl p ↦ subst (λ c. IsUnit (c ∷ front)) (ed_is b p7 p) (surrogate front (ranges b (rest_byte ∷ rest_byte ∷ []) rs front (grind arith) e h))
                    | inr p8 ↦ elim (below b 0xEF) [
                      | inl p ↦ (5, _, refl, ((p8, p), ranges b (rest_byte ∷ rest_byte ∷ []) rs front (grind arith) e h))
                      | inr p9 ↦ elim (below b 0xF0) [
                        | inl p ↦ (6, _, refl, ((p9, p), ranges b ((0x90, 0xBF) ∷ rest_byte ∷ rest_byte ∷ []) rs front (grind arith) e h))
                        | inr p10 ↦ elim (below b 0xF3) [
                          | inl p ↦ (7, _, refl, ((p10, p), ranges b (rest_byte ∷ rest_byte ∷ rest_byte ∷ []) rs front (grind arith) e h))
                          | inr p11 ↦ elim (below b 0xF4) [
                            | inl p ↦ (8, _, refl, ((p11, p), ranges b ((0x80, 0x8F) ∷ rest_byte ∷ rest_byte ∷ []) rs front (grind arith) e h))
                            | inr p12 ↦ no_ranges b rs (IsUnit (b ∷ front)) (grind arith) e
                          ]
                        ]
                      ]
                    ]
                  ]
                ]
              ]
            ]
          ]
        ]
      ]
    ]
  where
    ed_is : (b : ℕ) → 0xEC < b → b ≤ 0xED → 0xED ≡ b
    ed_is b p q = omega arith

both : (a b : Bool) → (a && b) ≡ true → (a ≡ true) × (b ≡ true)
both true b e = (refl, e)
both false b e = cc

-- what passes ends a unit, and goes on with a text
pub passes : (o : Option (List Range)) (bytes : List ℕ) → is_text_after o bytes ≡ true → (rs : List Range) × (front : List ℕ) × (rest : List ℕ) × (o ≡ Some rs) × AllZip IsWithin rs front × IsText rest × (bytes ≡ front ++ rest)
passes None bytes e = absurd cc
passes (Some []) [] e = ([], [], [], refl, tt, ([], tt, refl), refl)
passes (Some (r ∷ rs)) [] e = absurd cc
passes (Some []) (b ∷ bytes) e =
    let z : (rs : List Range) × (front : List ℕ) × (rest : List ℕ) × (following b ≡ Some rs) × AllZip IsWithin rs front × IsText rest × (bytes ≡ front ++ rest) = passes (following b) bytes e in
    ([], [], b ∷ bytes, refl, tt, ((b ∷ z.1) ∷ z.5.0, (unit_of b z.0 z.1 z.3 z.4, z.5.1), ap (λ xs. b ∷ xs) (z.6 ∙ ap (λ xs. z.1 ++ xs) z.5.2)), refl)
passes (Some (r ∷ rs)) (b ∷ bytes) e =
    let h : ((nat_le r.0 b && nat_le b r.1) ≡ true) × (is_text_after (Some rs) bytes ≡ true) = both (nat_le r.0 b && nat_le b r.1) (is_text_after (Some rs) bytes) e in
    let k : (nat_le r.0 b ≡ true) × (nat_le b r.1 ≡ true) = both (nat_le r.0 b) (nat_le b r.1) h.0 in
    let z : (qs : List Range) × (front : List ℕ) × (rest : List ℕ) × (Some rs ≡ Some qs) × AllZip IsWithin qs front × IsText rest × (bytes ≡ front ++ rest) = passes (Some rs) bytes h.1 in
    (r ∷ rs, b ∷ z.1, z.2, refl, ((leb-true r.0 b k.0, leb-true b r.1 k.1), subst (λ q. AllZip IsWithin q z.1) (sym (some_is rs z.0 z.3)) z.4), z.5, ap (λ xs. b ∷ xs) z.6)

-- bytes of a unit lead to the next one
within : (rs : List Range) (front rest : List ℕ) → AllZip IsWithin rs front → is_text_after (Some rs) (front ++ rest) ≡ is_text_after (Some []) rest
within [] [] rest h = refl
within [] (c ∷ front) rest h = absurd h
within (r ∷ rs) [] rest h = absurd h
within (r ∷ rs) (c ∷ front) rest h =
    ap (λ b. (b && nat_le c r.1) && is_text_after (Some rs) (front ++ rest)) (le-leb r.0 c h.0.0)
    ∙ ap (λ b. b && is_text_after (Some rs) (front ++ rest)) (le-leb c r.1 h.0.1)
    ∙ within rs front rest h.1

starts : (b : ℕ) (rs : List Range) (front rest : List ℕ) → following b ≡ Some rs → AllZip IsWithin rs front → is_text_after (Some []) ((b ∷ front) ++ rest) ≡ is_text_after (Some []) rest
starts b rs front rest e h = ap (λ o. is_text_after o (front ++ rest)) e ∙ within rs front rest h

narrower : (r q : Range) (rs : List Range) (front : List ℕ) → q.0 ≤ r.0 → r.1 ≤ q.1 → AllZip IsWithin (r ∷ rs) front → AllZip IsWithin (q ∷ rs) front
narrower r q rs [] l m h = h
narrower r q rs (c ∷ front) l m h = ((omega (arith, l, h.0.0), omega (arith, m, h.0.1)), h.1)

row_is : (r row : List Range) (bytes : List ℕ) → Some r ≡ Some row → AllZip IsWithin row bytes → AllZip IsWithin r bytes
row_is r row bytes e h = subst (λ q. AllZip IsWithin q bytes) (sym (some_is r row e)) h

-- a first byte from low to high after which these ranges follow
first_passes : (low high : ℕ) (rs : List Range) (row : List Range) (unit rest : List ℕ) → Some ((low, high) ∷ rs) ≡ Some row → AllZip IsWithin row unit
    → (qs : List Range) → ((b : ℕ) → low ≤ b → b ≤ high → following b ≡ Some qs) → ((front : List ℕ) → AllZip IsWithin rs front → AllZip IsWithin qs front)
    → is_text_after (Some []) (unit ++ rest) ≡ is_text_after (Some []) rest
first_passes low high rs row [] rest e h qs f g = absurd (row_is ((low, high) ∷ rs) row [] e h)
first_passes low high rs row (b ∷ front) rest e h qs f g =
    let k : IsWithin (low, high) b × AllZip IsWithin rs front = row_is ((low, high) ∷ rs) row (b ∷ front) e h in
    starts b qs front rest (f b k.0.0 k.0.1) (g front k.1)

pub unit_passes : (k : ℕ) (row : List Range) (unit rest : List ℕ) → slice_get rows k ≡ Some row → AllZip IsWithin row unit → is_text_after (Some []) (unit ++ rest) ≡ is_text_after (Some []) rest
unit_passes zero row unit rest e h = first_passes 0x00 0x7F [] row unit rest e h [] (λ b l m. grind arith) (λ front z. z)
unit_passes (suc zero) row unit rest e h = first_passes 0xC2 0xDF (rest_byte ∷ []) row unit rest e h (rest_byte ∷ []) (λ b l m. grind arith) (λ front z. z)
unit_passes (suc (suc zero)) row unit rest e h = first_passes 0xE0 0xE0 ((0xA0, 0xBF) ∷ rest_byte ∷ []) row unit rest e h ((0xA0, 0xBF) ∷ rest_byte ∷ []) (λ b l m. grind arith) (λ front z. z)
unit_passes (suc (suc (suc zero))) row unit rest e h = first_passes 0xE1 0xEC (rest_byte ∷ rest_byte ∷ []) row unit rest e h (rest_byte ∷ rest_byte ∷ []) (λ b l m. grind arith) (λ front z. z)
unit_passes (suc (suc (suc (suc zero)))) row unit rest e h = first_passes 0xED 0xED ((0x80, 0x9F) ∷ rest_byte ∷ []) row unit rest e h (rest_byte ∷ rest_byte ∷ []) (λ b l m. grind arith) (λ front z. narrower (0x80, 0x9F) rest_byte (rest_byte ∷ []) front (omega arith) (omega arith) z)
unit_passes (suc (suc (suc (suc (suc zero))))) row unit rest e h = first_passes 0xEE 0xEF (rest_byte ∷ rest_byte ∷ []) row unit rest e h (rest_byte ∷ rest_byte ∷ []) (λ b l m. grind arith) (λ front z. z)
unit_passes (suc (suc (suc (suc (suc (suc zero)))))) row unit rest e h = first_passes 0xF0 0xF0 ((0x90, 0xBF) ∷ rest_byte ∷ rest_byte ∷ []) row unit rest e h ((0x90, 0xBF) ∷ rest_byte ∷ rest_byte ∷ []) (λ b l m. grind arith) (λ front z. z)
unit_passes (suc (suc (suc (suc (suc (suc (suc zero))))))) row unit rest e h = first_passes 0xF1 0xF3 (rest_byte ∷ rest_byte ∷ rest_byte ∷ []) row unit rest e h (rest_byte ∷ rest_byte ∷ rest_byte ∷ []) (λ b l m. grind arith) (λ front z. z)
unit_passes (suc (suc (suc (suc (suc (suc (suc (suc zero)))))))) row unit rest e h = first_passes 0xF4 0xF4 ((0x80, 0x8F) ∷ rest_byte ∷ rest_byte ∷ []) row unit rest e h ((0x80, 0x8F) ∷ rest_byte ∷ rest_byte ∷ []) (λ b l m. grind arith) (λ front z. z)
unit_passes (suc (suc (suc (suc (suc (suc (suc (suc (suc zero))))))))) row unit rest e h = first_passes 0xED 0xED ((0xA0, 0xBF) ∷ rest_byte ∷ []) row unit rest e h (rest_byte ∷ rest_byte ∷ []) (λ b l m. grind arith) (λ front z. narrower (0xA0, 0xBF) rest_byte (rest_byte ∷ []) front (omega arith) (omega arith) z)
unit_passes (suc (suc (suc (suc (suc (suc (suc (suc (suc (suc zero)))))))))) row unit rest e h = first_passes 0xC0 0xC0 ((0x80, 0x80) ∷ []) row unit rest e h ((0x80, 0x80) ∷ []) (λ b l m. grind arith) (λ front z. z)
unit_passes (suc (suc (suc (suc (suc (suc (suc (suc (suc (suc (suc k))))))))))) row unit rest e h = none_some row (is_text_after (Some []) (unit ++ rest) ≡ is_text_after (Some []) rest) e

units_pass : (units : List (List ℕ)) → AllByRecursion IsUnit units → is_text (concat units) ≡ true
units_pass [] h = refl
units_pass (unit ∷ units) (u, h) = unit_passes u.0 u.1 unit (concat units) u.2 u.3 ∙ units_pass units h

nil_front : (rs : List Range) (front : List ℕ) → Some [] ≡ Some rs → AllZip IsWithin rs front → front ≡ []
nil_front rs front e h = nothing front (subst (λ r. AllZip IsWithin r front) (sym (some_is [] rs e)) h)
  where
    nothing : (front : List ℕ) → AllZip IsWithin [] front → front ≡ []
    nothing [] h = refl
    nothing (c ∷ front) h = absurd h

passed : (bytes : List ℕ) → IsTrue (is_text bytes) → IsText bytes
passed bytes e =
    let z : (rs : List Range) × (front : List ℕ) × (rest : List ℕ) × (Some [] ≡ Some rs) × AllZip IsWithin rs front × IsText rest × (bytes ≡ front ++ rest) = passes (Some []) bytes e in
    (z.5.0, z.5.1, z.6 ∙ ap (λ front. front ++ z.2) (nil_front z.0 z.1 z.3 z.4) ∙ z.5.2)

pub is_text-is : (bytes : List ℕ) → IsTrue (is_text bytes) ↔ IsText bytes
is_text-is bytes = (passed bytes, λ t. ap is_text t.2 ∙ units_pass t.0 t.1)
