-- What has been written to a sink, and what waits to be written.
use Rattle.std.specs.Prelude.{◌≡◌, ℕ, ◌≤◌, List, ◌++◌, Result, Ok, Err}
use Rattle.amf_io.specs.Outside.{Rose}
use Rattle.amf_io.specs.Written.{WritesFront}
use Rattle.amf_media.specs.declared.ending.MediaEnd.{MediaEnd}
use Rattle.amf_media.specs.declared.ending.MediaEnd.TheVariants.{WriteFault, Memory}

-- the bytes stand behind what waited: a front of this was written, and the rest waits now
pub record IsPut (held now waiting waits bytes : List ℕ) : Type 0 where
  pub front : List ℕ
  pub added : now ≡ held ++ front
  pub parts : waiting ++ bytes ≡ front ++ waits

-- the bytes were put; or a write failed, or there was no memory, and some front of all that was written
abbrev pub Puts : {T : Type 0} → List ℕ → List ℕ → List ℕ → List ℕ → List ℕ → Result T MediaEnd → Type 0
Puts held now waiting waits bytes (Ok done) = IsPut held now waiting waits bytes
Puts held now waiting waits bytes (Err WriteFault) = WritesFront held now (waiting ++ bytes)
Puts held now waiting waits bytes (Err Memory) = WritesFront held now (waiting ++ bytes)
Puts held now waiting waits bytes (Err _) = ⊥

-- putting ends by no other end
abbrev pub IsPutEnd : {T : Type 0} → Result T MediaEnd → Type 0
IsPutEnd (Ok done) = Unit {0}
IsPutEnd (Err WriteFault) = Unit {0}
IsPutEnd (Err Memory) = Unit {0}
IsPutEnd (Err _) = ⊥

-- a write fault is counted, and without one the count stays
abbrev pub CountsWrites : ℕ → ℕ → MediaEnd → Type 0
CountsWrites before now WriteFault = (before ≤ now) × Rose before now
CountsWrites before now _ = now ≡ before

abbrev pub CountsPuts : {T : Type 0} → ℕ → ℕ → Result T MediaEnd → Type 0
CountsPuts before now (Ok done) = now ≡ before
CountsPuts before now (Err e) = CountsWrites before now e
