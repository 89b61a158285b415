-- Where something stands first in a table.
use Rattle.std.specs.Prelude.{◌≡◌, ℕ, List, slice_get, Some}
use Rattle.amf3_spelling.specs.Words3.{NoPlaceBelow}

-- x stands at the place k, and at none before it
abbrev pub IsFirstPlace : {X : Type 0} → List X → X → ℕ → Type 0
IsFirstPlace xs x k = (slice_get xs k ≡ Some x) × NoPlaceBelow k xs x
