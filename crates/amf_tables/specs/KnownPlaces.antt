-- Places by number, as far as they are known.
use Rattle.std.specs.Prelude.{◌≡◌, ◌≢◌, ℕ, ◌⊎◌, List, slice_get, Some}
use Rattle.amf_tables.specs.FirstPlace.{IsFirstPlace}
use Rattle.amf_tables.specs.declared.known_places.TheConstants.{UNKNOWN}

-- each that is known is the first place of what the number names
abbrev pub AreKnown : {X : Type 0} → (ℕ → X) → List X → List ℕ → Type 0
AreKnown named entries places = (i k : ℕ) → slice_get places i ≡ Some k → k ≢ UNKNOWN → IsFirstPlace entries (named i) k

-- what is known behind was known before, or is this
abbrev pub Knows : List ℕ → ℕ → ℕ → List ℕ → Type 0
Knows old id place new = (i k : ℕ) → slice_get new i ≡ Some k → k ≢ UNKNOWN → ((i ≡ id) × (k ≡ place)) ⊎ (slice_get old i ≡ Some k)

-- the place of a number is known
abbrev pub HasPlace : List ℕ → ℕ → Type 0
HasPlace places i = (k : ℕ) × (slice_get places i ≡ Some k) × (k ≢ UNKNOWN)

-- a number whose place is known still has one
abbrev pub KeepPlaces : List ℕ → List ℕ → Type 0
KeepPlaces old new = (i : ℕ) → HasPlace old i → HasPlace new i
