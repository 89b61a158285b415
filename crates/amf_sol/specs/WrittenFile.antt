-- What a writer of shared object files appends.
use Rattle.std.specs.Prelude.{◌≡◌, ℕ, List, ◌++◌}
use Rattle.amf_io.specs.Field.{Field, flat}
use Rattle.amf_wire.specs.Style.{canonical}
use Rattle.amf_sol.specs.SharedObject.{Shared, SpellsFile}

-- the bytes of the canonical file of a shared object
abbrev pub AppendsFile : Shared → List ℕ → List ℕ → Type 0
AppendsFile o old new = (fs : List Field) × SpellsFile canonical o fs × (new ≡ old ++ flat fs)
