-- The first places of the hashes of a table's entries, in a map. A device of proofs.
use Rattle.std.specs.Prelude.{ℕ, List, nat_eq, MatchOption}
use Rattle.indexmap.specs.IndexMap.{IndexMap, get}
use Rattle.amf_graph.specs.Order.{Absent}
use Rattle.amf_tables.specs.FirstPlace.{IsFirstPlace}

-- the map has each hash that is there, at its first place, and no other
abbrev pub AreFirstPlaces : {S : Type 0} → List ℕ → IndexMap ℕ ℕ S → Type 0
AreFirstPlaces hs m = (h : ℕ) → MatchOption (get nat_eq m h) (Absent hs h) (IsFirstPlace hs h)
