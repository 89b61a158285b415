-- A field as its bytes come, one at a time.
use Rattle.std.proofs.Common.{◌≡◌, ◌↔◌, IsTrue, Bool, cond, nat_le, ℕ, suc, ◌≤◌, ◌<◌, true, false, List, [], ◌∷◌, ◌++◌, length, take, Some, None, Option, refl, sym, ap, ◌∙◌, arith, length-append, nat_lt, IsSome, inl, inr, ◌⊎◌}
use Rattle.std.proofs.lemmas.Bool.Decides.{leb_tells}
use Rattle.std.proofs.lemmas.List.{take-append-le, take_all}
use Rattle.amf_wire.specs.U29.{IsShortU29, one_more}
use Rattle.amf_io.specs.Field.{Size, u29, whole, AreBytes}
use Rattle.amf_io.proofs.Whole.{whole_le, whole_alone}
use Rattle.amf_io.proofs.Bytes.{bytes_append}
use Rattle.amf_wire_fields.specs.declared.field.FieldSize.{FieldSize}
use Rattle.amf_wire_fields.specs.declared.field.FieldSize.TheVariants.{Byte, U29, Two, Four, Eight}
use Rattle.amf_wire_fields.specs.FieldSize.{size_of}

-- no front of the bytes but all of them is whole
pub record Grows (size : Size) (bytes : List ℕ) : Type 0 where
  pub short : (n : ℕ) → n < length bytes → whole size (take n bytes) ≡ None
  pub are_bytes : AreBytes bytes

goes_on : (a : ℕ) → 128 ≤ a → nat_lt a 128 ≡ false
goes_on a le = grind arith

-- bytes that announce others are no whole U29
pub short_number : (bytes : List ℕ) → IsShortU29 bytes → whole u29 bytes ≡ None
short_number [] s = refl
short_number (a ∷ []) s = rw (goes_on a (s.announce 0 (omega arith))) refl
short_number (a ∷ b ∷ []) s = rw (goes_on a (s.announce 0 (omega arith)), goes_on b (s.announce 1 (omega arith))) refl
short_number (a ∷ b ∷ c ∷ []) s = rw (goes_on a (s.announce 0 (omega arith)), goes_on b (s.announce 1 (omega arith)), goes_on c (s.announce 2 (omega arith))) refl
short_number (a ∷ b ∷ c ∷ d ∷ bytes) s = let h : suc (suc (suc (suc (length bytes)))) < 4 = s.few in absurd (omega arith)

fixed_below : (n : ℕ) (t : Bool) (bytes : List ℕ) → nat_le n (length bytes) ≡ t → cond t (Some n) None ≡ None → length bytes < n
fixed_below n true bytes h e = absurd cc
fixed_below n false bytes h e = grind arith

-- eight bytes are whole, and four where they are a U29
pub short_below : (k : FieldSize) (bytes : List ℕ) → whole (size_of k) bytes ≡ None → length bytes < 8
short_below Byte bytes e = let h : length bytes < 1 = fixed_below 1 (nat_le 1 (length bytes)) bytes refl e in omega arith
short_below U29 [] e = omega arith
short_below U29 (a ∷ []) e = omega arith
short_below U29 (a ∷ b ∷ []) e = omega arith
short_below U29 (a ∷ b ∷ c ∷ []) e = omega arith
short_below U29 (a ∷ b ∷ c ∷ d ∷ bytes) e = absurd (whole_by_four (nat_lt a 128) (nat_lt b 128) (nat_lt c 128) e)
  where
    whole_by_four : (p q r : Bool) → cond p (Some 1) (one_more (cond q (Some 1) (one_more (cond r (Some 1) (one_more (Some 1)))))) ≡ None → ⊥
    whole_by_four true q r e = cc
    whole_by_four false true r e = cc
    whole_by_four false false true e = cc
    whole_by_four false false false e = cc
short_below Two bytes e = let h : length bytes < 2 = fixed_below 2 (nat_le 2 (length bytes)) bytes refl e in omega arith
short_below Four bytes e = let h : length bytes < 4 = fixed_below 4 (nat_le 4 (length bytes)) bytes refl e in omega arith
short_below Eight bytes e = fixed_below 8 (nat_le 8 (length bytes)) bytes refl e

pub grows_none : (size : Size) → Grows size []
grows_none size = record { short = λ n lt. absurd (omega arith); are_bytes = tt }

at_end : (n m : ℕ) → n ≤ m → (n < m) ⊎ (n ≡ m)
at_end n m le = elim (leb_tells m n) [ inl p ↦ inr (equal p.1) | inr p ↦ inl p.1 ]
  where
    equal : m ≤ n → n ≡ m
    equal h = omega arith

-- one more byte
pub grows_more : (size : Size) (bytes : List ℕ) (b : ℕ) → Grows size bytes → whole size bytes ≡ None → b < 256 → Grows size (bytes ++ b ∷ [])
grows_more size bytes b g e lt = record { short = short; are_bytes = bytes_append bytes (b ∷ []) g.are_bytes (lt, tt) }
  where
    same : (n : ℕ) → n ≤ length bytes → take n (bytes ++ b ∷ []) ≡ take n bytes
    same n le = take-append-le n bytes (b ∷ []) le

    short : (n : ℕ) → n < length (bytes ++ b ∷ []) → whole size (take n (bytes ++ b ∷ [])) ≡ None
    short n lt = elim (at_end n (length bytes) (omega (arith, length-append bytes (b ∷ [])))) [
      | inl h ↦ ap (whole size) (same n (omega arith)) ∙ g.short n h
      | inr h ↦ ap (whole size) (same n (omega arith)) ∙ ap (λ m. whole size (take m bytes)) h ∙ ap (whole size) (take_all (length bytes) bytes (omega arith)) ∙ e
    ]

-- where the field is whole it ends with its last byte
pub grown : (size : Size) (bytes : List ℕ) (n : ℕ) → Grows size bytes → whole size bytes ≡ Some n → whole size bytes ≡ Some (length bytes)
grown size bytes n g e = elim (at_end n (length bytes) (whole_le size bytes n e)) [
  | inl h ↦ let f : None ≡ Some (length (take n bytes)) = sym (g.short n h) ∙ whole_alone size bytes n e in absurd cc
  | inr h ↦ e ∙ ap Some h
]

-- what a test of it says
pub none_of : (o : Option ℕ) (b : Bool) → (IsTrue b ↔ IsSome o) → b ≡ false → o ≡ None
none_of None b h e = refl
none_of (Some n) b h e = let k : b ≡ true = h.1 refl in absurd cc

pub some_of : (o : Option ℕ) (b : Bool) → (IsTrue b ↔ IsSome o) → b ≡ true → (n : ℕ) × (o ≡ Some n)
some_of None b h e = let k : false ≡ true = h.0 e in absurd cc
some_of (Some n) b h e = (n, refl)

pub not_whole : (o : Option ℕ) → o ≡ None → (IsTrue false → IsSome o) × (IsSome o → IsTrue false)
not_whole None e = (λ h. h, λ h. h)
not_whole (Some n) e = absurd cc

-- what the loop's test says of the bytes so far
pub not_yet : (size : Size) (seen bytes : List ℕ) (b : Bool) → (IsTrue b ↔ IsSome (whole size seen)) → seen ≡ bytes → b ≡ false → whole size bytes ≡ None
not_yet size seen bytes b h same e = ap (whole size) (sym same) ∙ none_of (whole size seen) b h e

pub ended : (size : Size) (seen bytes : List ℕ) (b : Bool) → (IsTrue b ↔ IsSome (whole size seen)) → seen ≡ bytes → b ≡ true → (n : ℕ) × (whole size bytes ≡ Some n)
ended size seen bytes b h same e = let s = some_of (whole size seen) b h e in (s.0, ap (whole size) (sym same) ∙ s.1)
