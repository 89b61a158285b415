-- A unit at the front of bytes, and the longest front that is a text.
use Rattle.std.proofs.Common.{◌≡◌, ℕ, zero, suc, ◌+◌, ◌-◌, ◌≤◌, ◌<◌, ◌↔◌, Bool, true, false, IsTrue, List, [], ◌∷◌, ◌++◌, length, take, drop, get_or, slice_get, replicate, Option, Some, None, IfSome, refl, ap, sym, ◌∙◌, subst, arith, append_assoc, append-nil, length-append, length-drop, inl, inr}
use Rattle.std.proofs.lemmas.List.{length-take, take_all, take-append-drop}
use Rattle.std.proofs.lemmas.List.Folds.{concat-append}
use Rattle.std.specs.List.{concat, AllByRecursion, AllZip}
use Rattle.std.specs.Str.{IsAscii}
use Rattle.amf_wire.specs.Text.{Range, rest_byte, rows, IsWithin, IsUnit, IsText, EndsText, following, is_text_after, is_text}
use Rattle.amf_wire.specs.Front.{IsFrontUnit, IsFrontText, ranges_of}
use Rattle.amf_wire.proofs.TextTest.{unit_of, unit_passes, passes, some_is, is_text-is}
use Rattle.amf_wire.proofs.Digits.{below}

pub as_many : (rs : List Range) (front : List ℕ) → AllZip IsWithin rs front → length rs ≡ length front
as_many [] [] h = refl
as_many [] (c ∷ front) h = absurd h
as_many (r ∷ rs) [] h = absurd h
as_many (r ∷ rs) (c ∷ front) h = omega (arith, as_many rs front h.1)

length-rests : (n : ℕ) → length (replicate n rest_byte) ≡ n
length-rests zero = refl
length-rests (suc n) = omega (arith, length-rests n)

pub length-ranges_of : (count low high : ℕ) → length (ranges_of count low high) ≡ count
length-ranges_of zero low high = refl
length-ranges_of (suc count) low high = omega (arith, length-rests count)

-- too few bytes
pub too_few : (count low high : ℕ) (bytes : List ℕ) → length bytes < count → AllZip IsWithin (ranges_of count low high) (take count bytes) → ⊥
too_few count low high bytes l h = omega (arith, as_many (ranges_of count low high) (take count bytes) h, length-ranges_of count low high, length-take count bytes)

unit_is_text : (unit : List ℕ) → IsUnit unit → is_text unit ≡ true
unit_is_text unit u = subst (λ bs. is_text bs ≡ true) (append-nil unit) (unit_passes u.0 u.1 unit [] u.2 u.3)

none_passes : (b : ℕ) (front : List ℕ) (P : Type 0) → following b ≡ None → is_text (b ∷ front) ≡ true → P
none_passes b front P e h = not_so (subst (λ o. is_text_after o front ≡ true) e h)
  where
    not_so : false ≡ true → P
    not_so p = cc

-- no unit begins with such a byte
pub none_begins : (bytes : List ℕ) → 0 < length bytes → following (get_or bytes 0 0) ≡ None → (n : ℕ) → IsFrontUnit bytes n → ⊥
none_begins [] l e n u = omega arith
none_begins (b ∷ tail) l e zero u = let h : 1 ≤ 0 = u.some in omega arith
none_begins (b ∷ tail) l e (suc m) u = none_passes b (take m tail) ⊥ e (unit_is_text (b ∷ take m tail) u.unit)

-- a unit stands at the front
first_and : (b : ℕ) (tail : List ℕ) (count low high : ℕ) → following b ≡ Some (ranges_of count low high)
    → AllZip IsWithin (ranges_of count low high) (take count tail) → IsFrontUnit (b ∷ tail) (suc count)
first_and b tail count low high e h = record {
  some = omega arith;
  there = omega (arith, as_many (ranges_of count low high) (take count tail) h, length-ranges_of count low high, length-take count tail);
  unit = unit_of b (ranges_of count low high) (take count tail) e h;
}

pub begins : (bytes : List ℕ) (count low high : ℕ) → 0 < length bytes → following (get_or bytes 0 0) ≡ Some (ranges_of count low high)
    → AllZip IsWithin (ranges_of count low high) (take count (drop 1 bytes)) → IsFrontUnit bytes (1 + count)
begins [] count low high l e h = absurd (omega arith)
begins (b ∷ tail) count low high l e h = let k : suc count ≡ 1 + count = omega arith in subst (λ n. IsFrontUnit (b ∷ tail) n) k (first_and b tail count low high e h)

front_is : (front rest : List ℕ) → take (length front) (front ++ rest) ≡ front
front_is [] rest = refl
front_is (c ∷ front) rest = ap (λ xs. c ∷ xs) (front_is front rest)

-- no unit stands at the front
pub ends : (bytes : List ℕ) (count low high : ℕ) → 0 < length bytes → following (get_or bytes 0 0) ≡ Some (ranges_of count low high)
    → (AllZip IsWithin (ranges_of count low high) (take count (drop 1 bytes)) → ⊥) → (n : ℕ) → IsFrontUnit bytes n → ⊥
ends [] count low high l e h n u = omega arith
ends (b ∷ tail) count low high l e h zero u = let k : 1 ≤ 0 = u.some in omega arith
ends (b ∷ tail) count low high l e h (suc m) u =
    let z : (rs : List Range) × (front : List ℕ) × (rest : List ℕ) × (following b ≡ Some rs) × AllZip IsWithin rs front × IsText rest × (take m tail ≡ front ++ rest)
    = passes (following b) (take m tail) (unit_is_text (b ∷ take m tail) u.unit) in
    let w : AllZip IsWithin (ranges_of count low high) z.1 = subst (λ rs. AllZip IsWithin rs z.1) (some_is z.0 (ranges_of count low high) (sym z.3 ∙ e)) z.4 in
    let l : length z.1 ≡ count = sym (as_many (ranges_of count low high) z.1 w) ∙ length-ranges_of count low high in
    let t : tail ≡ z.1 ++ (z.2 ++ drop m tail) = sym (take-append-drop m tail) ∙ ap (λ xs. xs ++ drop m tail) z.6 ∙ append_assoc z.1 z.2 (drop m tail) in
    let f : take count tail ≡ z.1 = ap (λ k. take k tail) (sym l) ∙ ap (take (length z.1)) t ∙ front_is z.1 (z.2 ++ drop m tail) in
    h (subst (λ xs. AllZip IsWithin (ranges_of count low high) xs) (sym f) w)

-- no row is empty
all_some : (rs : List (List Range)) → AllByRecursion (λ r. 1 ≤ length r) rs → (k : ℕ) (row : List Range) → slice_get rs k ≡ Some row → 1 ≤ length row
all_some [] h k row e = absurd cc
all_some (r ∷ rs) h zero row e = subst (λ q. 1 ≤ length q) (some_is r row e) h.0
all_some (r ∷ rs) h (suc k) row e = all_some rs h.1 k row e

row_some : (k : ℕ) (row : List Range) → slice_get rows k ≡ Some row → 1 ≤ length row
row_some k row e = all_some rows (omega arith, (omega arith, (omega arith, (omega arith, (omega arith, (omega arith, (omega arith, (omega arith, (omega arith, (omega arith, (omega arith, tt))))))))))) k row e

unit_some : (unit : List ℕ) → IsUnit unit → 1 ≤ length unit
unit_some unit u = omega (arith, as_many u.1 unit u.3, row_some u.0 u.1 u.2)

-- two texts are a text
text_and_text : (text more : List ℕ) → IsText text → IsText more → IsText (text ++ more)
text_and_text text more t u = (t.0 ++ u.0, all t.0 t.1, ap (λ xs. xs ++ more) t.2 ∙ ap (λ xs. concat t.0 ++ xs) u.2 ∙ sym (concat-append t.0 u.0))
  where
    all : (units : List (List ℕ)) → AllByRecursion IsUnit units → AllByRecursion IsUnit (units ++ u.0)
    all [] h = u.1
    all (x ∷ units) (p, h) = (p, all units h)

take_nothing : (k : ℕ) → ◌≡◌ {A = List ℕ} [] (take k [])
take_nothing zero = refl
take_nothing (suc k) = refl

take_parts : (at m : ℕ) (bytes : List ℕ) → at ≤ m → take m bytes ≡ take at bytes ++ take (m - at) (drop at bytes)
take_parts zero m bytes h = ap (λ k. take k bytes) (omega arith)
take_parts (suc at) zero bytes h = absurd (omega arith)
take_parts (suc at) (suc m) [] h = take_nothing (suc m - suc at)
take_parts (suc at) (suc m) (b ∷ bytes) h = ap (λ xs. b ∷ xs) (take_parts at m bytes (omega arith) ∙ ap (λ k. take at bytes ++ take k (drop at bytes)) (omega arith))

-- what is behind a text is judged as if nothing stood before it
units_lead : (units : List (List ℕ)) (rest : List ℕ) → AllByRecursion IsUnit units → is_text (concat units ++ rest) ≡ is_text rest
units_lead [] rest h = refl
units_lead (unit ∷ units) rest (u, h) = ap is_text (append_assoc unit (concat units) rest) ∙ unit_passes u.0 u.1 unit (concat units ++ rest) u.2 u.3 ∙ units_lead units rest h

pub behind_text : (text rest : List ℕ) → IsText text → IsText (text ++ rest) → IsText rest
behind_text text rest t w = (is_text-is rest).0 (sym (ap (λ xs. is_text (xs ++ rest)) t.2 ∙ units_lead t.0 rest t.1) ∙ (is_text-is (text ++ rest)).1 w)

-- a text begins with a unit
pub first_unit : (text rest : List ℕ) → 0 < length text → IsText text → (n : ℕ) × IsFrontUnit (text ++ rest) n
first_unit text rest l ([], h, e) = absurd (omega (arith, ap length e))
first_unit text rest l (unit ∷ units, h, e) =
    let t : text ++ rest ≡ unit ++ (concat units ++ rest) = ap (λ xs. xs ++ rest) e ∙ append_assoc unit (concat units) rest in (
      length unit,
      subst (λ xs. IsFrontUnit xs (length unit)) (sym t) (record {
        some = unit_some unit h.0;
        there = omega (arith, length-append unit (concat units ++ rest));
        unit = subst IsUnit (sym (front_is unit (concat units ++ rest))) h.0;
      }),
    )

-- where a text ends and no unit follows, the longest front that is a text ends
pub ends_text : (bytes : List ℕ) (at : ℕ) → at ≤ length bytes → IsText (take at bytes) → ((n : ℕ) → IsFrontUnit (drop at bytes) n → ⊥) → EndsText bytes at
ends_text bytes at l t none = record { within = l; front = t; longest = λ m h w. elim (below at m) [ inl p ↦ absurd (longer m p h w) | inr p ↦ p ] }
  where
    longer : (m : ℕ) → at < m → m ≤ length bytes → IsText (take m bytes) → ⊥
    longer m p h w =
        let s : take m bytes ≡ take at bytes ++ take (m - at) (drop at bytes) = take_parts at m bytes (omega arith) in
        let v : IsText (take (m - at) (drop at bytes)) = behind_text (take at bytes) (take (m - at) (drop at bytes)) t (subst IsText s w) in
        let u : (n : ℕ) × IsFrontUnit (take (m - at) (drop at bytes) ++ drop (m - at) (drop at bytes)) n
        = first_unit (take (m - at) (drop at bytes)) (drop (m - at) (drop at bytes)) (omega (arith, length-take (m - at) (drop at bytes), length-drop at bytes)) v in
        none u.0 (subst (λ xs. IsFrontUnit xs u.0) (take-append-drop (m - at) (drop at bytes)) u.1)

-- more of it
pub more_text : (bytes : List ℕ) (at n : ℕ) → IsText (take at bytes) → IsFrontText (drop at bytes) n → IsText (take (at + n) bytes)
more_text bytes at n t u = subst IsText (sym (take_parts at (at + n) bytes (omega arith) ∙ ap (λ k. take at bytes ++ take k (drop at bytes)) (omega arith))) (text_and_text (take at bytes) (take n (drop at bytes)) t u.text)

-- a unit is a text
unit_front : (bytes : List ℕ) (n : ℕ) → IsFrontUnit bytes n → IsFrontText bytes n
unit_front bytes n u = record { some = u.some; there = u.there; text = (take n bytes ∷ [], (u.unit, tt), sym (append-nil (take n bytes))) }

pub some_front : (bytes : List ℕ) (o : Option ℕ) → IfSome o (λ n. IsFrontUnit bytes n) → IfSome o (IsFrontText bytes)
some_front bytes None h = tt
some_front bytes (Some n) h = unit_front bytes n h

-- a byte below 80 is a unit
pub byte_front : (bytes : List ℕ) → 0 < length bytes → get_or bytes 0 0 < 128 → IsFrontText bytes 1
byte_front [] some small = absurd (omega arith)
byte_front (b ∷ bytes) some small = unit_front (b ∷ bytes) 1 (record { some = omega arith; there = omega arith; unit = (0, _, refl, ((omega arith, omega arith), tt)) })

-- bytes below 80 are units
ascii_text : (bytes : List ℕ) → IsAscii bytes → IsText bytes
ascii_text [] h = ([], tt, refl)
ascii_text (b ∷ bytes) h =
    let t : IsText bytes = ascii_text bytes (λ i. h (suc i)) in
    let small : b < 128 = h 0 in
    ((b ∷ []) ∷ t.0, ((0, _, refl, ((omega arith, omega arith), tt)), t.1), ap (λ xs. b ∷ xs) t.2)

pub ascii_front : (bytes : List ℕ) (n : ℕ) → 1 ≤ n → n ≤ length bytes → IsAscii (take n bytes) → IsFrontText bytes n
ascii_front bytes n some there h = record { some = some; there = there; text = ascii_text (take n bytes) h }

pub empty_text : IsText []
empty_text = ([], tt, refl)

pub whole_text : (bytes : List ℕ) (at : ℕ) → length bytes ≤ at → IsText (take at bytes) → IsText bytes
whole_text bytes at l t = subst IsText (take_all at bytes l) t

-- a text has no earlier end
pub no_end : (bytes : List ℕ) (at : ℕ) → EndsText bytes at → at < length bytes → IsText bytes → ⊥
no_end bytes at e l t = omega (arith, e.longest (length bytes) (omega arith) (subst IsText (sym (take_all (length bytes) bytes (omega arith))) t))

-- the rest of bytes, as a range of them
pub rest_is : (at : ℕ) (bytes : List ℕ) → take (length bytes - at) (drop at bytes) ≡ drop at bytes
rest_is at bytes = take_all (length bytes - at) (drop at bytes) (omega (arith, length-drop at bytes))

pub one_end : (bytes : List ℕ) (m n : ℕ) → EndsText bytes m → EndsText bytes n → m ≡ n
one_end bytes m n e f = omega (arith, e.longest n f.within f.front, f.longest m e.within e.front)

same_bool : (a b : Bool) → (IsTrue a → IsTrue b) → (IsTrue b → IsTrue a) → a ≡ b
same_bool true b f g = sym (f refl)
same_bool false true f g = absurd (none (g refl))
  where
    none : ◌≡◌ {A = Bool} false true → ⊥
    none e = cc
same_bool false false f g = refl

pub same_test : (b : Bool) (bytes : List ℕ) → (IsTrue b ↔ IsText bytes) → b ≡ is_text bytes
same_test b bytes h = same_bool b (is_text bytes) (λ t. (is_text-is bytes).1 (h.0 t)) (λ t. h.1 ((is_text-is bytes).0 t))
