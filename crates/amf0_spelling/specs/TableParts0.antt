-- What the tables of a reader of AMF 0 are made of.
use Rattle.std.specs.Prelude.{ℕ, true, [], ◌∷◌, ◌++◌, map}
use Rattle.amf_tables.specs.TableParts.{node_number}
use Rattle.amf0_spelling.specs.declared.tables0.Tables0.{Tables0}
use Rattle.amf0_spelling.specs.KeptTables0.{KeptTables0}

-- the tables by place
abbrev pub shown_tables : Tables0 → KeptTables0
shown_tables t = record { amf3 = t.amf3; nodes = map node_number t.nodes.items; switched = t.switched }

abbrev pub kept_node0 : KeptTables0 → ℕ → KeptTables0
kept_node0 t i = record { amf3 = t.amf3; nodes = t.nodes ++ i ∷ []; switched = t.switched }

abbrev pub kept_switch : KeptTables0 → KeptTables0
kept_switch t = record { amf3 = t.amf3; nodes = t.nodes; switched = true }
