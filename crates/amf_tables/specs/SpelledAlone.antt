-- Nodes that were spelled and that no index can name (2.2), such as the dates of AMF 0.
use Rattle.std.specs.Prelude.{◌≡◌, ℕ, slice_get, Some}
use Rattle.amf_graph.specs.Order.{Absent}
use Rattle.amf3_spelling.specs.Tables.{Tables}

-- the node was spelled, and has no place
abbrev pub IsSpelledAlone : Tables → ℕ → Type 0
IsSpelledAlone t i = ((k : ℕ) × (slice_get t.done k ≡ Some i)) × Absent t.nodes i
