-- A marker as the layouts have it. A device of proofs.
use Rattle.std.specs.Prelude.{ℕ, Bool, Option, slice_index}
use Rattle.amf_io.specs.Layout.{Layout, give, want}
use Rattle.amf0_spelling.specs.declared.marker.Marker0.{Marker0}
use Rattle.amf0_spelling.specs.Markers0.{marker0_at}
use Rattle.amf0_spelling.specs.Refusals0.{marker0_kind}

-- that of a value, or of the end of pairs, with so many nodes in the table
abbrev pub marker_layout : Bool → ℕ → Layout (Option Marker0)
marker_layout may_end nodes = want (marker0_kind may_end nodes) (λ b. give (marker0_at (slice_index b 0)))
