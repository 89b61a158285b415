-- What the tables of readers and writers are made of.
use Rattle.std.specs.Prelude.{ℕ, Option, Some, None, List, map}
use Rattle.amf_graph.specs.declared.value.TextId.{TextId}
use Rattle.amf_graph.specs.declared.value.NodeId.{NodeId}
use Rattle.amf_graph.specs.declared.value.TraitsId.{TraitsId}
use Rattle.amf_graph.specs.declared.wrapped.Wrapped.{Wrapped}
use Rattle.amf3_spelling.specs.Tables.{Tables}
use Rattle.amf_tables.specs.SpelledNodes.{Spelled}
use Rattle.amf_tables.specs.WrittenParts.{Written, entry_of}
use Rattle.amf3_spelling.specs.KeptTables.{KeptEntry, plain, external, KeptTables}

-- Ids as numbers.

abbrev pub text_number : TextId → ℕ
text_number t = t.0

abbrev pub node_number : NodeId → ℕ
node_number n = n.0

abbrev pub traits_number : TraitsId → ℕ
traits_number t = t.0

-- that of an externalizable class, if there is one
abbrev pub kept_entry_of : TraitsId → Option Wrapped → KeptEntry
kept_entry_of t None = plain t.0
kept_entry_of t (Some c) = external t.0 c

-- a reader's tables
abbrev pub kept_tables : List TextId → List KeptEntry → List ℕ → KeptTables
kept_tables texts traits nodes = record { texts = map text_number texts; traits = traits; nodes = nodes }

-- a writer's tables
abbrev pub written_tables : List (List ℕ) → List Written → Spelled → Tables
written_tables texts traits spelled = record {
  words = record { texts = texts; traits = map (entry_of texts) traits };
  nodes = spelled.nodes;
  done = spelled.done;
}
