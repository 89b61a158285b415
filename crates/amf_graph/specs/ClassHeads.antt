-- Traits by their heads and their sealed names. A device of proofs.
use Rattle.std.specs.Prelude.{Bool, List, [], ◌∷◌}
use Rattle.amf_graph.specs.declared.value.TextId.{TextId}
use Rattle.amf_graph.specs.Arena.{StoredTraits}
use Rattle.amf_graph.specs.Building.{stored_traits}

abbrev pub shown_classes : List (TextId × Bool) → List (List TextId) → List StoredTraits
shown_classes (h ∷ heads) (names ∷ sealed) = stored_traits h.0 h.1 names ∷ shown_classes heads sealed
shown_classes _ _ = []
