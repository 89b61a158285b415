-- What a sink holds after bytes were written to it.
use Rattle.std.specs.Prelude.{◌≡◌, ℕ, List, ◌++◌, Result, Ok, Err}
use Rattle.amf_io.specs.declared.source.Failed.{Failed}

-- all the bytes, or some front of them
pub record WritesFront (before now bytes : List ℕ) : Type 0 where
  pub front : List ℕ
  pub rest : List ℕ
  pub parts : bytes ≡ front ++ rest
  pub added : now ≡ before ++ front

abbrev pub Writes : {T : Type 0} → List ℕ → List ℕ → List ℕ → Result T Failed → Type 0
Writes before now bytes (Ok done) = now ≡ before ++ bytes
Writes before now bytes (Err e) = WritesFront before now bytes
