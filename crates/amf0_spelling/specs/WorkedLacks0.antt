-- Worked lacks of AMF 0: these lowered graphs have no canonical spelling, and this is why.
use Rattle.std.specs.Prelude.{ℕ, zero, suc, ◌<◌, ◌≤◌, ◌^◌, List, [], ◌∷◌, ◌++◌, length, replicate}
use Rattle.amf_wire.specs.Style.{canonical}
use Rattle.amf_wire.specs.Text.{IsText}
use Rattle.amf_io.specs.Field.{Field}
use Rattle.amf_graph.specs.declared.lack.LackKind.TheVariants.{EmptyName, NoForm, LongName, Shared, FarReference}
use Rattle.amf_graph.specs.Graph.{null, Value, leaf, node, date, bytes, array, Graph}
use Rattle.amf3_spelling.specs.Lacks3.{IsLack3}
use Rattle.amf3_spelling.specs.WorkedRows3.{items}
use Rattle.amf0_spelling.specs.Lacks0.{IsLack0}
use Rattle.amf0_spelling.specs.Spells0.{IsSpelling0}
use Rattle.amf0_spelling.specs.WorkedRows0.{member, only}

-- [x, x], where x is a date
abbrev pub date_twice : Graph
date_twice = record { nodes = items (node 1 ∷ node 1 ∷ []) ∷ record { head = date 0; names = []; values = [] } ∷ []; root = node 0 }

-- an array with names and items
abbrev pub mixed : Graph
mixed = record { nodes = record { head = array; names = ([], leaf null) ∷ []; values = leaf null ∷ [] } ∷ []; root = node 0 }

-- the nodes from 1 on, so many
abbrev pub nodes_from : ℕ → ℕ → List Value
nodes_from start zero = []
nodes_from start (suc n) = node start ∷ nodes_from (suc start) n

-- an array of so many empty arrays, and of the last of them once more
abbrev pub far : ℕ → Graph
far n = record { nodes = items (nodes_from 1 n ++ node n ∷ []) ∷ replicate n (items []); root = node 0 }

pub record Lacks0Rows : Type 0 where
  pub empty_name : IsLack3 (member [] [] (leaf null)) 0 EmptyName
  pub a_byte_array : IsLack0 (only (bytes (0xFF ∷ []))) 0 NoForm
  pub names_and_items : IsLack0 mixed 0 NoForm
  pub shared_date : IsLack0 date_twice 1 Shared
  -- names and classes above 65,535 bytes
  pub long_name : (x : List ℕ) → 2 ^ 16 ≤ length x → IsLack0 (member [] x (leaf null)) 0 LongName
  pub long_class : (x : List ℕ) → 2 ^ 16 ≤ length x → IsLack0 (member x [] (leaf null)) 0 LongName
  pub short_name : (x : List ℕ) → IsText x → length x < 2 ^ 16 → (fs : List Field) × IsSpelling0 canonical (member [] x (leaf null)) fs
  -- the array itself has index 0, so that the last array of 65,536 has an index that is too far
  pub far_reference : (n : ℕ) → 2 ^ 16 ≤ n → IsLack0 (far n) n FarReference
  pub near_reference : (n : ℕ) → n < 2 ^ 16 → (fs : List Field) × IsSpelling0 canonical (far n) fs
