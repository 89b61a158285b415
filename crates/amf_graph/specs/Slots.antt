-- Nodes with lists of their own. A device of proofs.
use Rattle.std.specs.Prelude.{ℕ, Bool, true, false, List, [], ◌∷◌, ◌++◌, Option, Some, None}
use Rattle.std.specs.Global.{Box}
use Rattle.amf_graph.specs.declared.value.Value.{Value as Stored}
use Rattle.amf_graph.specs.declared.value.TextId.{TextId}
use Rattle.amf_graph.specs.declared.shape.Shape.{Shape}
use Rattle.amf_graph.specs.declared.shape.Shape.TheVariants as shape
use Rattle.amf_graph.specs.declared.part_lists.Lists.{Lists}
use Rattle.amf_graph.specs.declared.slot.State.{State}
use Rattle.amf_graph.specs.declared.slot.State.TheVariants as state
use Rattle.amf_graph.specs.Arena.{dictionary, StoredNode}
use Rattle.amf_graph.specs.Building.{shape_head, no_stored}
use Rattle.amf_graph.specs.Views.{named, flat}

-- values, pairs by name, and the entries of a dictionary
pub record KeptLists : Type 0 where
  pub values : List Stored
  pub names : List (TextId × Stored)
  pub entries : List (Stored × Stored)

abbrev pub no_lists : KeptLists
no_lists = record { values = []; names = []; entries = [] }

-- the lists are made with the first part
abbrev pub lists_of : Option (Box Lists) → KeptLists
lists_of None = no_lists
lists_of (Some b) = record { values = b.value.values.items; names = b.value.names.items; entries = b.value.entries.items }

abbrev pub more_values : Stored → KeptLists → KeptLists
more_values v ls = record { values = ls.values ++ v ∷ []; names = ls.names; entries = ls.entries }

abbrev pub more_names : TextId × Stored → KeptLists → KeptLists
more_names p ls = record { values = ls.values; names = ls.names ++ p ∷ []; entries = ls.entries }

abbrev pub more_entries : Stored × Stored → KeptLists → KeptLists
more_entries e ls = record { values = ls.values; names = ls.names; entries = ls.entries ++ e ∷ [] }

abbrev pub state_owner : State → Option ℕ
state_owner state.Left = None
state_owner (state.Open i) = Some i
state_owner (state.Closed i) = Some i

abbrev pub state_open : State → Bool
state_open state.Left = false
state_open (state.Open i) = true
state_open (state.Closed i) = false

-- the node that stands in a slot, if one does, and what it holds
pub record KeptSlot : Type 0 where
  pub owner : Option ℕ
  pub node : StoredNode

abbrev pub no_slot : KeptSlot
no_slot = record { owner = None; node = no_stored }

abbrev pub with_node : StoredNode → KeptSlot → KeptSlot
with_node n s = record { owner = s.owner; node = n }

-- only a dictionary has entries, and it has nothing else
abbrev pub slot_node : Bool → Shape → List Stored → List (TextId × Stored) → List (Stored × Stored) → StoredNode
slot_node is_open (shape.Dictionary weak) vs ps es = record { is_open = is_open; head = dictionary weak; names = []; values = flat es }
slot_node is_open s vs ps es = record { is_open = is_open; head = shape_head s; names = named ps; values = vs }
