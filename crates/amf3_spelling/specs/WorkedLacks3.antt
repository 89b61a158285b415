-- Worked lacks of AMF 3: these graphs have no spelling, and this is why.
use Rattle.std.specs.Prelude.{List, [], ◌∷◌}
use Rattle.amf_wire.specs.Style.{free}
use Rattle.amf_graph.specs.declared.lack.LackKind.TheVariants.{EmptyName}
use Rattle.amf_graph.specs.Graph.{null, leaf, Node, node, array, Graph}
use Rattle.amf_io.specs.Field.{Field}
use Rattle.amf3_spelling.specs.Spells3.{IsSpelling3}
use Rattle.amf3_spelling.specs.Lacks3.{IsLack3}
use Rattle.amf3_spelling.specs.WorkedRows3.{items}

-- an array in which null has the empty name
abbrev pub unnamed : Node
unnamed = record { head = array; names = ([], leaf null) ∷ []; values = [] }

abbrev pub nameless : Graph
nameless = record { nodes = unnamed ∷ []; root = node 0 }

-- such an array in an array
abbrev pub nested : Graph
nested = record { nodes = items (node 1 ∷ []) ∷ unnamed ∷ []; root = node 0 }

pub record Lacks : Type 0 where
  pub empty_name : IsLack3 nameless 0 EmptyName
  pub behind_the_root : IsLack3 nested 1 EmptyName
  -- there is not even a free spelling
  pub no_spelling : (fs : List Field) → IsSpelling3 free nested fs → ⊥
