-- A unit at the front of bytes. A device of proofs.
use Rattle.std.specs.Prelude.{ℕ, zero, suc, ◌≤◌, List, [], ◌∷◌, length, take, replicate}
use Rattle.amf_wire.specs.Text.{IsUnit, IsText, Range, rest_byte}

-- the first n bytes are a unit
pub record IsFrontUnit (bytes : List ℕ) (n : ℕ) : Type 0 where
  pub some : 1 ≤ n
  pub there : n ≤ length bytes
  pub unit : IsUnit (take n bytes)

-- the first n bytes, at least one, are a text
pub record IsFrontText (bytes : List ℕ) (n : ℕ) : Type 0 where
  pub some : 1 ≤ n
  pub there : n ≤ length bytes
  pub text : IsText (take n bytes)

-- so many ranges, all but the first for any byte behind the second
abbrev pub ranges_of : ℕ → ℕ → ℕ → List Range
ranges_of zero low high = []
ranges_of (suc count) low high = (low, high) ∷ replicate count rest_byte
