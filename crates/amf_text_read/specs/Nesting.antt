-- A device of proofs: the lists that are held, as the code has them.
use Rattle.std.specs.Prelude.{ℕ, List, map, reverse}
use Rattle.amf_graph.specs.TextNumbers.{contents_of}
use Rattle.amf_text_read.specs.Goals.{Nested}

-- those around the innermost stand the outer ones first
abbrev pub nested : {X : Type 0} → X → List X → Nested X
nested at outer = record { at = at; outer = reverse outer }

abbrev pub mapped : {X Y : Type 0} → (X → Y) → Nested X → Nested Y
mapped f s = record { at = f s.at; outer = map f s.outer }

-- labels, the last first
abbrev pub labels_of : List (List ℕ) → List (List ℕ)
labels_of texts = reverse (contents_of texts)
