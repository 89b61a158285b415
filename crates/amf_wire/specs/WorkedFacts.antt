-- Worked facts of this crate's definitions.
use Rattle.std.specs.Prelude.{◌≡◌, ℕ, false, ◌↔◌, IsTrue, List, [], ◌∷◌, pos, negsuc}
use Rattle.amf_wire.specs.Style.{free, canonical}
use Rattle.amf_wire.specs.U29.{IsU29}
use Rattle.amf_wire.specs.Integer.{integer_bits}
use Rattle.amf_wire.specs.Text.{IsText, is_text}

pub record WorkedFacts : Type 0 where
  -- 5 is 05, and also 80 05
  pub five : IsU29 canonical 5 (5 ∷ [])
  pub five_longer : IsU29 free 5 (0x80 ∷ 5 ∷ [])
  pub longer_is_not_canonical : IsU29 canonical 5 (0x80 ∷ 5 ∷ []) → ⊥
  -- -2^28, 2^28-1 and -1
  pub least : IsU29 canonical (integer_bits (negsuc 268435455)) (0xC0 ∷ 0x80 ∷ 0x80 ∷ 0 ∷ [])
  pub greatest : IsU29 canonical (integer_bits (pos 268435455)) (0xBF ∷ 0xFF ∷ 0xFF ∷ 0xFF ∷ [])
  pub minus_one : IsU29 canonical (integer_bits (negsuc 0)) (0xFF ∷ 0xFF ∷ 0xFF ∷ 0xFF ∷ [])
  -- C0 80 is a text, and FF is none
  pub zero_text : IsText (0xC0 ∷ 0x80 ∷ [])
  pub no_text : is_text (0xFF ∷ []) ≡ false
  -- the test agrees with the definition
  pub test : (bytes : List ℕ) → IsTrue (is_text bytes) ↔ IsText bytes
