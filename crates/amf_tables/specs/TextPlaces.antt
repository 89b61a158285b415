-- What a table gains when a text is looked up, and entered where it is new.
use Rattle.std.specs.Prelude.{◌≡◌, ℕ, List, [], ◌∷◌, ◌++◌}
use Rattle.amf_graph.specs.Order.{Absent}
use Rattle.amf_tables.specs.FirstPlace.{IsFirstPlace}
use Rattle.amf_tables.specs.declared.text_place.TextPlace.{TextPlace}
use Rattle.amf_tables.specs.declared.text_place.TextPlace.TheVariants.{Old, New}

-- the text stood at this place first, and nothing has changed; or it stood nowhere, and stands behind all others
abbrev pub IsEntered : List (List ℕ) → List ℕ → List (List ℕ) → TextPlace → Type 0
IsEntered old x new (Old place) = IsFirstPlace old x place × (new ≡ old)
IsEntered old x new (New place) = Absent old x × IsFirstPlace new x place × (new ≡ old ++ x ∷ [])
