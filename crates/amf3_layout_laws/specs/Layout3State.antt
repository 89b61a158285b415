-- What reading AMF 3 changes: an arena with open nodes, and the tables, by place and by content. A device by which verdicts are proved: no spelling needs it.
use Rattle.std.specs.Prelude.{ℕ, Bool, true, false, List, [], ◌∷◌, ◌++◌, length, map, set}
use Rattle.amf_graph.specs.Arena.{StoredTraits, StoredHead, array, object, wrapper, values, dictionary, StoredNode, Arena}
use Rattle.amf_graph.specs.Building.{no_arena, kept_text, kept_traits, stored_at, kind_of}
use Rattle.amf3_spelling.specs.Markers3.{node_marker}
use Rattle.amf3_spelling.specs.Tables as content
use Rattle.amf3_spelling.specs.KeptTables.{KeptEntry, KeptTables, no_kept_tables, tables_of}

abbrev pub stored_marker : StoredHead → ℕ
stored_marker h = node_marker (kind_of h)

-- parts are added to it after its header
abbrev pub takes_parts : StoredHead → Bool
takes_parts array = true
takes_parts (object t) = true
takes_parts (wrapper c) = true
takes_parts (values f x) = true
takes_parts (dictionary f) = true
takes_parts _ = false

-- the arena; the tables by place; their texts and traits by content; and the markers of their nodes
pub record State3 : Type 0 where
  pub arena : Arena
  pub tables : KeptTables
  pub words : content.Words
  pub marks : List ℕ

abbrev pub state_of : Arena → KeptTables → State3
state_of a t = record { arena = a; tables = t; words = (tables_of a t).words; marks = map (λ i. stored_marker (stored_at a i).head) t.nodes }

abbrev pub no_state : State3
no_state = state_of no_arena no_kept_tables

-- Texts: the empty one enters no table.

abbrev pub text_word : content.Words → List ℕ → content.Words
text_word w [] = w
text_word w (b ∷ x) = content.add_text w (b ∷ x)

abbrev pub text_place : List ℕ → ℕ → List ℕ → List ℕ
text_place places i [] = places
text_place places i (b ∷ x) = places ++ i ∷ []

abbrev pub with_text : State3 → List ℕ → State3
with_text s x = record {
  arena = kept_text s.arena x;
  tables = record { texts = text_place s.tables.texts (length s.arena.texts) x; traits = s.tables.traits; nodes = s.tables.nodes };
  words = text_word s.words x;
  marks = s.marks;
}

-- a text that stands in the arena alone
abbrev pub with_contents : State3 → List ℕ → State3
with_contents s x = record { arena = kept_text s.arena x; tables = s.tables; words = s.words; marks = s.marks }

-- Traits.

abbrev pub with_entry : State3 → StoredTraits → KeptEntry → content.Entry → State3
with_entry s t kept entry = record {
  arena = kept_traits s.arena t;
  tables = record { texts = s.tables.texts; traits = s.tables.traits ++ kept ∷ []; nodes = s.tables.nodes };
  words = content.add_entry s.words entry;
  marks = s.marks;
}

-- Nodes: a new one enters the table, and parts are added while it is open.

abbrev pub with_nodes : State3 → List StoredNode → State3
with_nodes s nodes = record { arena = record { texts = s.arena.texts; traits = s.arena.traits; nodes = nodes }; tables = s.tables; words = s.words; marks = s.marks }

abbrev pub begun : StoredHead → StoredNode
begun head = record { is_open = takes_parts head; head = head; names = []; values = [] }

abbrev pub with_node : State3 → StoredHead → State3
with_node s head = record {
  arena = record { texts = s.arena.texts; traits = s.arena.traits; nodes = s.arena.nodes ++ begun head ∷ [] };
  tables = record { texts = s.tables.texts; traits = s.tables.traits; nodes = s.tables.nodes ++ length s.arena.nodes ∷ [] };
  words = s.words;
  marks = s.marks ++ stored_marker head ∷ [];
}

abbrev pub changed : (StoredNode → StoredNode) → ℕ → State3 → State3
changed f i s = with_nodes s (set s.arena.nodes i (f (stored_at s.arena i)))
