-- Unsigned integers of 29 bits in one to four bytes (AMF 3, 1.3.1).
use Rattle.std.specs.Prelude.{◌≡◌, ℕ, zero, suc, ◌+◌, ◌-◌, ◌*◌, ◌^◌, ◌<◌, ◌≤◌, List, [], ◌∷◌, length, Option, Some, None, nat_lt, if◌then◌else◌, slice_index}
use Rattle.amf_wire.specs.Style.{Style, Only}

-- the numbers of 29 bits are below it
abbrev pub u29_end : ℕ
u29_end = 2 ^ 29

-- seven bits in each byte, the top bit set where another byte follows; a fourth byte has eight bits
pub data SpellsU29 (n : ℕ) (bytes : List ℕ) : Type 0 where
  one : (a : ℕ) → a < 128 → n ≡ a → bytes ≡ a ∷ [] → SpellsU29 n bytes
  two : (a b : ℕ) → a < 128 → b < 128 → n ≡ 128 * a + b → bytes ≡ (128 + a) ∷ b ∷ [] → SpellsU29 n bytes
  three : (a b c : ℕ) → a < 128 → b < 128 → c < 128 → n ≡ 16384 * a + 128 * b + c → bytes ≡ (128 + a) ∷ (128 + b) ∷ c ∷ [] → SpellsU29 n bytes
  four : (a b c d : ℕ) → a < 128 → b < 128 → c < 128 → d < 256 → n ≡ 4194304 * a + 32768 * b + 256 * c + d → bytes ≡ (128 + a) ∷ (128 + b) ∷ (128 + c) ∷ d ∷ [] → SpellsU29 n bytes

-- no spelling of the number has fewer bytes
abbrev pub IsShortest : ℕ → List ℕ → Type 0
IsShortest n bytes = (other : List ℕ) → SpellsU29 n other → length bytes ≤ length other

-- any spelling of a number, or the shortest one
pub record IsU29 (s : Style) (n : ℕ) (bytes : List ℕ) : Type 0 where
  pub spelled : SpellsU29 n bytes
  pub shortest : Only s (IsShortest n bytes)

-- Where one ends and which number it is, for a field that has to be cut off and judged.

abbrev pub one_more : Option ℕ → Option ℕ
one_more None = None
one_more (Some n) = Some (suc n)

-- the length of the one at the front, of at most so many bytes; none where the bytes end first
abbrev pub u29_length : ℕ → List ℕ → Option ℕ
u29_length most [] = None
u29_length zero (a ∷ bytes) = None
u29_length (suc zero) (a ∷ bytes) = Some 1
u29_length (suc (suc most)) (a ∷ bytes) = if nat_lt a 128 then Some 1 else one_more (u29_length (suc most) bytes)

-- the number of the one at the front, behind the higher digits
abbrev pub u29_from : ℕ → ℕ → List ℕ → ℕ
u29_from most high [] = high
u29_from zero high (a ∷ bytes) = high
u29_from (suc zero) high (a ∷ bytes) = high * 256 + a
u29_from (suc (suc most)) high (a ∷ bytes) = if nat_lt a 128 then high * 128 + a else u29_from (suc most) (high * 128 + (a - 128)) bytes

abbrev pub u29_value : List ℕ → ℕ
u29_value bytes = u29_from 4 0 bytes

-- the bytes end before a spelling does: no four of them are there, and each announces another
pub record IsShortU29 (bytes : List ℕ) : Type 0 where
  pub few : length bytes < 4
  pub announce : (i : ℕ) → i < length bytes → 128 ≤ slice_index bytes i
