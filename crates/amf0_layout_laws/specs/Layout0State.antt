-- What reading AMF 0 changes: the state of reading AMF 3, and the nodes that AMF 0 can name. A device by which verdicts are proved: no spelling needs it.
use Rattle.std.specs.Prelude.{ℕ, Bool, true, List, [], ◌∷◌, ◌++◌, length}
use Rattle.amf_graph.specs.Arena.{StoredTraits, StoredHead, object, StoredNode, Arena}
use Rattle.amf_graph.specs.Building.{kept_traits}
use Rattle.amf3_layout_laws.specs.Layout3State.{State3, state_of, with_contents, begun, with_nodes, changed}
use Rattle.amf0_spelling.specs.KeptTables0.{KeptTables0}

pub record State0 : Type 0 where
  pub amf3 : State3
  pub nodes : List ℕ
  pub switched : Bool

abbrev pub state0_of : Arena → KeptTables0 → State0
state0_of a t = record { amf3 = state_of a t.amf3; nodes = t.nodes; switched = t.switched }

abbrev pub tables0_in : State0 → KeptTables0
tables0_in s = record { amf3 = s.amf3.tables; nodes = s.nodes; switched = s.switched }

abbrev pub in_amf3 : State0 → State3 → State0
in_amf3 s z = record { amf3 = z; nodes = s.nodes; switched = s.switched }

-- behind a value of AMF 3
abbrev pub switched : State0 → State3 → State0
switched s z = record { amf3 = z; nodes = s.nodes; switched = true }

-- a text that stands in the arena alone
abbrev pub with_text0 : State0 → List ℕ → State0
with_text0 s x = in_amf3 s (with_contents s.amf3 x)

-- traits that stand in the arena alone
abbrev pub with_traits : State3 → StoredTraits → State3
with_traits s t = record { arena = kept_traits s.arena t; tables = s.tables; words = s.words; marks = s.marks }

-- a node that AMF 3 can't name
abbrev pub with_loose : State3 → StoredHead → State3
with_loose s head = with_nodes s (s.arena.nodes ++ begun head ∷ [])

abbrev pub with_done0 : State0 → StoredHead → State0
with_done0 s head = in_amf3 s (with_loose s.amf3 head)

abbrev pub with_node0 : State0 → StoredHead → State0
with_node0 s head = record { amf3 = with_loose s.amf3 head; nodes = s.nodes ++ length s.amf3.arena.nodes ∷ []; switched = s.switched }

abbrev pub changed0 : (StoredNode → StoredNode) → ℕ → State0 → State0
changed0 f i s = in_amf3 s (changed f i s.amf3)

-- the traits of a dynamic object whose class is this text, and their place
abbrev pub with_class : State0 → ℕ → State0
with_class s class = in_amf3 s (with_traits s.amf3 (record { class = class; dynamic = true; sealed = [] }))

abbrev pub class_head : State0 → StoredHead
class_head s = object (length s.amf3.arena.traits)
