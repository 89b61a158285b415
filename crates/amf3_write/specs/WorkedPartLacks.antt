-- Worked lacks of parts: which node is told, and by which number.
use Rattle.std.specs.Prelude.{[], ◌∷◌}
use Rattle.amf_graph.specs.declared.lack.LackKind.TheVariants.{EmptyName}
use Rattle.amf_graph.specs.Graph.{node, Graph}
use Rattle.amf3_spelling.specs.WorkedRows3.{items}
use Rattle.amf3_spelling.specs.WorkedLacks3.{unnamed}
use Rattle.amf3_write.specs.PartLacks.{IsPartLack3}

-- an array of two arrays in which null has the empty name, and of an array that holds them once more, the second one first
abbrev pub crossed : Graph
crossed = record { nodes = items (node 1 ∷ node 2 ∷ node 3 ∷ []) ∷ unnamed ∷ unnamed ∷ items (node 2 ∷ node 1 ∷ []) ∷ []; root = node 0 }

pub record PartsLack : Type 0 where
  -- the last array alone leads to node 2 before node 1, and the less number is told
  pub less_number : IsPartLack3 crossed (node 3) [] 1 EmptyName
  -- behind the nodes 0 and 1 it leads to node 2 beside them, whose number is that of the whole graph
  pub beside_met : IsPartLack3 crossed (node 3) (0 ∷ 1 ∷ []) 2 EmptyName
