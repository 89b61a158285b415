-- What a call of `write_call` did.
use Rattle.std.specs.Prelude.{◌≡◌, ℕ, ◌≤◌, List, ◌++◌, Result, Ok, Err, ⊤}
use Rattle.amf_io.specs.Outside.{Rose}
use Rattle.http_link.specs.Sent.{AddsFront}
use Rattle.amf_client.specs.declared.ends.AskEnd.{AskEnd}
use Rattle.amf_client.specs.declared.ends.AskEnd.TheVariants.{NotArgs, NoSpelling, WriteFault, Memory}

-- bytes that Is tells were written; or a front of them; or nothing
abbrev pub Writes : (List ℕ → Type 0) → List ℕ → List ℕ → Result (Unit {0}) AskEnd → Type 0
Writes Is held now (Ok done) = (bytes : List ℕ) × Is bytes × (now ≡ held ++ bytes)
Writes Is held now (Err NotArgs) = now ≡ held
Writes Is held now (Err (NoSpelling l)) = now ≡ held
Writes Is held now (Err WriteFault) = (bytes : List ℕ) × Is bytes × AddsFront held now bytes
Writes Is held now (Err Memory) = now ≡ held

-- there are bytes that Is tells, where any were written or were to be
abbrev pub HasBytes : (List ℕ → Type 0) → Result (Unit {0}) AskEnd → Type 0
HasBytes Is (Ok done) = (bytes : List ℕ) × Is bytes
HasBytes Is (Err NotArgs) = ⊤
HasBytes Is (Err (NoSpelling l)) = ⊤
HasBytes Is (Err WriteFault) = (bytes : List ℕ) × Is bytes
HasBytes Is (Err Memory) = ⊤

-- a write fault is counted, and without one the count stays
abbrev pub CountsWrites : ℕ → ℕ → Result (Unit {0}) AskEnd → Type 0
CountsWrites before now (Ok done) = now ≡ before
CountsWrites before now (Err NotArgs) = now ≡ before
CountsWrites before now (Err (NoSpelling l)) = now ≡ before
CountsWrites before now (Err WriteFault) = (before ≤ now) × Rose before now
CountsWrites before now (Err Memory) = now ≡ before

-- where nothing was written, the link is as it was
abbrev pub Spares : {L : Type 0} → L → L → Result (Unit {0}) AskEnd → Type 0
Spares link now (Ok done) = ⊤
Spares link now (Err NotArgs) = now ≡ link
Spares link now (Err (NoSpelling l)) = now ≡ link
Spares link now (Err WriteFault) = ⊤
Spares link now (Err Memory) = now ≡ link
