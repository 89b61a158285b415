-- Where a spelling ends and which number it is, as related and as computed.
use Rattle.std.proofs.Common.{◌≡◌, ℕ, ◌+◌, ◌*◌, ◌-◌, ◌<◌, ◌≤◌, Bool, true, false, IsTrue, List, [], ◌∷◌, length, take, get_or, Option, Some, None, refl, sym, ◌∙◌, subst, arith, nat_lt, inl, inr}
use Rattle.std.proofs.lemmas.List.{take_all}
use Rattle.amf_wire.specs.U29.{SpellsU29, one, two, three, four, u29_length, u29_value}
use Rattle.amf_wire.specs.U29Answer.{IsWholeU29}
use Rattle.amf_wire.proofs.Digits.{below}

pub record IsOneField (n : ℕ) (bytes : List ℕ) : Type 0 where
  pub is_whole : u29_length 4 bytes ≡ Some (length bytes)
  pub value : u29_value bytes ≡ n

last : (a : ℕ) → a < 128 → nat_lt a 128 ≡ true
last a h = grind arith

more : (a : ℕ) → 128 ≤ a → nat_lt a 128 ≡ false
more a h = grind arith

above : (a : ℕ) → nat_lt (128 + a) 128 ≡ false
above a = grind arith

low : (a : ℕ) → 128 + a - 128 ≡ a
low a = omega arith

-- a spelling is one whole field, and its bytes are judged as that number
pub one_field : {n : ℕ} {bytes : List ℕ} → SpellsU29 n bytes → IsOneField n bytes
one_field {n} (one a h e b) = subst (λ bs. IsOneField n bs) (sym b) (subst (λ m. IsOneField m (a ∷ [])) (sym e) (record { is_whole = rw (last a h) refl; value = rw (last a h) (omega arith) }))
one_field {n} (two a b h k e q) = subst (λ bs. IsOneField n bs) (sym q) (record { is_whole = rw (above a, last b k) refl; value = rw (above a, last b k, low a) (omega arith) })
one_field {n} (three a b c h k l e q) = subst (λ bs. IsOneField n bs) (sym q) (record { is_whole = rw (above a, above b, last c l) refl; value = rw (above a, above b, last c l, low a, low b) (omega arith) })
one_field {n} (four a b c d h k l m e q) = subst (λ bs. IsOneField n bs) (sym q) (record { is_whole = rw (above a, above b, above c) refl; value = rw (above a, above b, above c, low a, low b, low c) (omega arith) })

two_are : (a b c : ℕ) → a ≡ c → (a ∷ b ∷ []) ≡ (c ∷ b ∷ [])
two_are a b c e = cc

three_are : (a b c d e : ℕ) → a ≡ d → b ≡ e → (a ∷ b ∷ c ∷ []) ≡ (d ∷ e ∷ c ∷ [])
three_are a b c d e p q = cc

four_are : (a b c d e f g : ℕ) → a ≡ e → b ≡ f → c ≡ g → (a ∷ b ∷ c ∷ d ∷ []) ≡ (e ∷ f ∷ g ∷ d ∷ [])
four_are a b c d e f g p q r = cc

-- what stands at the front, by how many bytes announce another

pub whole_one : (a : ℕ) (rest : List ℕ) (n : ℕ) → a < 128 → n ≡ a → IsWholeU29 (a ∷ rest) n 1
whole_one a rest n h e = record { there = omega arith; spelled = one a h e refl; ends = rw (last a h) refl; is_value = rw (last a h) (omega arith) }

pub whole_two : (a b : ℕ) (rest : List ℕ) (n : ℕ) → 128 ≤ a → a < 256 → b < 128 → n ≡ (a - 128) * 128 + b → IsWholeU29 (a ∷ b ∷ rest) n 2
whole_two a b rest n h p k e = record {
  there = omega arith;
  spelled = two (a - 128) b (omega arith) k (omega arith) (two_are a b (128 + (a - 128)) (omega arith));
  ends = rw (more a h, last b k) refl;
  is_value = rw (more a h, last b k) (omega arith);
}

pub whole_three : (a b c : ℕ) (rest : List ℕ) (n : ℕ) → 128 ≤ a → a < 256 → 128 ≤ b → b < 256 → c < 128 → n ≡ ((a - 128) * 128 + (b - 128)) * 128 + c → IsWholeU29 (a ∷ b ∷ c ∷ rest) n 3
whole_three a b c rest n h p k q l e = record {
  there = omega arith;
  spelled = three (a - 128) (b - 128) c (omega arith) (omega arith) l (omega arith) (three_are a b c (128 + (a - 128)) (128 + (b - 128)) (omega arith) (omega arith));
  ends = rw (more a h, more b k, last c l) refl;
  is_value = rw (more a h, more b k, last c l) (omega arith);
}

pub whole_four : (a b c d : ℕ) (rest : List ℕ) (n : ℕ) → 128 ≤ a → a < 256 → 128 ≤ b → b < 256 → 128 ≤ c → c < 256 → d < 256 → n ≡ (((a - 128) * 128 + (b - 128)) * 128 + (c - 128)) * 256 + d → IsWholeU29 (a ∷ b ∷ c ∷ d ∷ rest) n 4
whole_four a b c d rest n h p k q l r m e = record {
  there = omega arith;
  spelled = four (a - 128) (b - 128) (c - 128) d (omega arith) (omega arith) (omega arith) m (omega arith) (four_are a b c d (128 + (a - 128)) (128 + (b - 128)) (128 + (c - 128)) (omega arith) (omega arith) (omega arith));
  ends = rw (more a h, more b k, more c l) refl;
  is_value = rw (more a h, more b k, more c l) (omega arith);
}

-- The same of bytes by their places.

pub front_one : (bytes : List ℕ) (n : ℕ) → 0 < length bytes → get_or bytes 0 0 < 128 → n ≡ get_or bytes 0 0 → IsWholeU29 bytes n 1
front_one [] n l h e = absurd (omega arith)
front_one (a ∷ rest) n l h e = whole_one a rest n h e

pub front_two : (bytes : List ℕ) (n : ℕ) → 1 < length bytes → 128 ≤ get_or bytes 0 0 → get_or bytes 0 0 < 256 → get_or bytes 1 0 < 128
    → n ≡ (get_or bytes 0 0 - 128) * 128 + get_or bytes 1 0 → IsWholeU29 bytes n 2
front_two [] n l h p k e = absurd (omega arith)
front_two (a ∷ []) n l h p k e = absurd (omega arith)
front_two (a ∷ b ∷ rest) n l h p k e = whole_two a b rest n h p k e

pub front_three : (bytes : List ℕ) (n : ℕ) → 2 < length bytes → 128 ≤ get_or bytes 0 0 → get_or bytes 0 0 < 256 → 128 ≤ get_or bytes 1 0 → get_or bytes 1 0 < 256 → get_or bytes 2 0 < 128
    → n ≡ ((get_or bytes 0 0 - 128) * 128 + (get_or bytes 1 0 - 128)) * 128 + get_or bytes 2 0 → IsWholeU29 bytes n 3
front_three [] n l h p k q m e = absurd (omega arith)
front_three (a ∷ []) n l h p k q m e = absurd (omega arith)
front_three (a ∷ b ∷ []) n l h p k q m e = absurd (omega arith)
front_three (a ∷ b ∷ c ∷ rest) n l h p k q m e = whole_three a b c rest n h p k q m e

pub front_four : (bytes : List ℕ) (n : ℕ) → 3 < length bytes → 128 ≤ get_or bytes 0 0 → get_or bytes 0 0 < 256 → 128 ≤ get_or bytes 1 0 → get_or bytes 1 0 < 256 → 128 ≤ get_or bytes 2 0 → get_or bytes 2 0 < 256 → get_or bytes 3 0 < 256
    → n ≡ (((get_or bytes 0 0 - 128) * 128 + (get_or bytes 1 0 - 128)) * 128 + (get_or bytes 2 0 - 128)) * 256 + get_or bytes 3 0 → IsWholeU29 bytes n 4
front_four [] n l h p k q m r s e = absurd (omega arith)
front_four (a ∷ []) n l h p k q m r s e = absurd (omega arith)
front_four (a ∷ b ∷ []) n l h p k q m r s e = absurd (omega arith)
front_four (a ∷ b ∷ c ∷ []) n l h p k q m r s e = absurd (omega arith)
front_four (a ∷ b ∷ c ∷ d ∷ rest) n l h p k q m r s e = whole_four a b c d rest n h p k q m r s e

-- the top bit of a byte is set where the test for a last one fails
pub announces : (b : Bool) (n : ℕ) → (n < 128 → IsTrue b) → b ≡ false → 128 ≤ n
announces b n f e = elim (below n 128) [ inl p ↦ true_false b (128 ≤ n) (f p) e | inr p ↦ p ]
  where
    true_false : (b : Bool) (P : Type 0) → b ≡ true → b ≡ false → P
    true_false b P p q = cc

same_number : (a b : ℕ) → Some a ≡ Some b → a ≡ b
same_number a b e = cc

-- one whole field of bytes spells the number that they are judged as
from_whole : (bytes : List ℕ) (n used : ℕ) → IsWholeU29 bytes n used → u29_length 4 bytes ≡ Some (length bytes) → SpellsU29 (u29_value bytes) bytes
from_whole bytes n used w e =
    let k : used ≡ length bytes = same_number used (length bytes) (sym w.ends ∙ e) in
    let t : take used bytes ≡ bytes = take_all used bytes (omega arith) in
    let s : SpellsU29 n bytes = subst (λ bs. SpellsU29 n bs) t w.spelled in
    let v : u29_value bytes ≡ n = subst (λ bs. u29_value bs ≡ n) t w.is_value in
    subst (λ m. SpellsU29 m bytes) (sym v) s

no_field : (o : Option ℕ) (n : ℕ) (P : Type 0) → o ≡ None → o ≡ Some n → P
no_field o n P e f = cc

behind_three : (a b c : ℕ) (rest : List ℕ) → 128 ≤ a → a < 256 → 128 ≤ b → b < 256 → 128 ≤ c → ((i : ℕ) → get_or (a ∷ b ∷ c ∷ rest) i 0 < 256)
    → u29_length 4 (a ∷ b ∷ c ∷ rest) ≡ Some (length (a ∷ b ∷ c ∷ rest)) → SpellsU29 (u29_value (a ∷ b ∷ c ∷ rest)) (a ∷ b ∷ c ∷ rest)
behind_three a b c [] h p k q l r e = no_field (u29_length 4 (a ∷ b ∷ c ∷ [])) 3 _ (rw (more a h, more b k, more c l) refl) e
behind_three a b c (d ∷ rest) h p k q l r e = from_whole (a ∷ b ∷ c ∷ d ∷ rest) _ 4 (whole_four a b c d rest _ h p k q l (r 2) (r 3) refl) e

behind_two : (a b : ℕ) (rest : List ℕ) → 128 ≤ a → a < 256 → 128 ≤ b → ((i : ℕ) → get_or (a ∷ b ∷ rest) i 0 < 256)
    → u29_length 4 (a ∷ b ∷ rest) ≡ Some (length (a ∷ b ∷ rest)) → SpellsU29 (u29_value (a ∷ b ∷ rest)) (a ∷ b ∷ rest)
behind_two a b [] h p k r e = no_field (u29_length 4 (a ∷ b ∷ [])) 2 _ (rw (more a h, more b k) refl) e
behind_two a b (c ∷ rest) h p k r e = elim (below c 128) [
  | inl l ↦ from_whole (a ∷ b ∷ c ∷ rest) _ 3 (whole_three a b c rest _ h p k (r 1) l refl) e
  | inr l ↦ behind_three a b c rest h p k (r 1) l r e
]

behind_one : (a : ℕ) (rest : List ℕ) → 128 ≤ a → ((i : ℕ) → get_or (a ∷ rest) i 0 < 256)
    → u29_length 4 (a ∷ rest) ≡ Some (length (a ∷ rest)) → SpellsU29 (u29_value (a ∷ rest)) (a ∷ rest)
behind_one a [] h r e = no_field (u29_length 4 (a ∷ [])) 1 _ (rw (more a h) refl) e
behind_one a (b ∷ rest) h r e = elim (below b 128) [
  | inl k ↦ from_whole (a ∷ b ∷ rest) _ 2 (whole_two a b rest _ h (r 0) k refl) e
  | inr k ↦ behind_two a b rest h (r 0) k r e
]

pub one_field_spells : (bytes : List ℕ) → ((i : ℕ) → get_or bytes i 0 < 256) → u29_length 4 bytes ≡ Some (length bytes) → SpellsU29 (u29_value bytes) bytes
one_field_spells [] r e = no_field (u29_length 4 []) 0 _ refl e
one_field_spells (a ∷ rest) r e = elim (below a 128) [
  | inl h ↦ from_whole (a ∷ rest) a 1 (whole_one a rest a h refl) e
  | inr h ↦ behind_one a rest h r e
]

-- what is spelled has at most 29 bits
pub spelled_below : {n : ℕ} {bytes : List ℕ} → SpellsU29 n bytes → n < 536870912
spelled_below (one a h e b) = omega arith
spelled_below (two a b h k e q) = omega arith
spelled_below (three a b c h k l e q) = omega arith
spelled_below (four a b c d h k l m e q) = omega arith
