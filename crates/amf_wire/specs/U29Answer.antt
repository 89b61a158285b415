-- What reading a spelling at the front of bytes answers.
use Rattle.std.specs.Prelude.{◌≡◌, ℕ, ◌≤◌, List, length, take, Some}
use Rattle.amf_wire.specs.U29.{SpellsU29, u29_length, u29_value, IsShortU29}
use Rattle.amf_wire.specs.declared.u29_read.U29Read.{U29Read}
use Rattle.amf_wire.specs.declared.u29_read.U29Read.TheVariants.{Whole, Short}

-- the first bytes, so many, spell the value
pub record IsWholeU29 (bytes : List ℕ) (value used : ℕ) : Type 0 where
  pub there : used ≤ length bytes
  pub spelled : SpellsU29 value (take used bytes)
  -- the same as computed, for a field that is judged
  pub ends : u29_length 4 bytes ≡ Some used
  pub is_value : u29_value (take used bytes) ≡ value

abbrev pub IsU29Read : List ℕ → U29Read → Type 0
IsU29Read bytes (Whole value used) = IsWholeU29 bytes value used
IsU29Read bytes Short = IsShortU29 bytes
