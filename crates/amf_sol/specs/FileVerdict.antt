-- The verdict on a shared object file. Base is the offset of the first byte, limit the offset past which nothing is read.
use Rattle.std.specs.Prelude.{◌≡◌, ℕ, ◌+◌, List, [], drop, length, take}
use Rattle.std.specs.Int.{from_be_bytes, w32}
use Rattle.amf_io.specs.declared.reason.Reason.{Reason}
use Rattle.amf_io.specs.declared.reason.Reason.TheVariants.{BadLength}
use Rattle.amf_io.specs.Verdict.{IsAccepted, IsRefused}
use Rattle.amf_sol.specs.SharedObject.{IsFileReading}

-- the length field, behind two bytes, says how many bytes follow it
abbrev pub HasItsLength : List ℕ → Type 0
HasItsLength input = from_be_bytes w32 (take 4 (drop 2 input)) ≡ length (drop 6 input)

-- the whole input is a file, with any length
abbrev pub IsWholeFile : ℕ → ℕ → List ℕ → Type 0
IsWholeFile base limit input = IsAccepted IsFileReading base limit input (base + length input) []

-- the whole input is a file of the length that it gives
abbrev pub IsFileAccepted : ℕ → ℕ → List ℕ → Type 0
IsFileAccepted base limit input = IsWholeFile base limit input × HasItsLength input

-- a wrong length is looked at last: it is named only where nothing else is wrong
pub data IsFileRefused (base limit : ℕ) (input : List ℕ) (reason : Reason) (at : ℕ) : Type 0 where
  refused : IsRefused IsFileReading base limit input reason at → IsFileRefused base limit input reason at
  bad_length : reason ≡ BadLength → at ≡ base + 2 → IsWholeFile base limit input → (HasItsLength input → ⊥) → IsFileRefused base limit input reason at
