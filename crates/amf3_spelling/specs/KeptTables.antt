-- The reference tables as a reader keeps them: places in an arena (AMF 3, 2.2).
use Rattle.std.specs.Prelude.{◌≡◌, ℕ, zero, suc, ◌<◌, false, List, [], ◌∷◌, ◌++◌, length, map, Option, Some, None}
use Rattle.std.specs.List.{AllByRecursion}
use Rattle.amf_graph.specs.declared.wrapped.Wrapped.{Wrapped}
use Rattle.amf_graph.specs.Graph.{Traits, class_name}
use Rattle.amf_graph.specs.Order.{IsDistinct}
use Rattle.amf_graph.specs.Arena.{Arena, text_at, traits_at, IsTextId}
use Rattle.amf3_spelling.specs.Tables as tables

-- an entry of the table of traits; that of an externalizable class has traits of its own in the arena
pub data KeptEntry : Type 0 where
  plain : (t : ℕ) → KeptEntry
  external : (t : ℕ) (class : Wrapped) → KeptEntry

pub record KeptTables : Type 0 where
  pub texts : List ℕ
  pub traits : List KeptEntry
  pub nodes : List ℕ

abbrev pub no_kept_tables : KeptTables
no_kept_tables = record { texts = []; traits = []; nodes = [] }

-- with one more entry at its end

abbrev pub kept_text_place : KeptTables → ℕ → KeptTables
kept_text_place t i = record { texts = t.texts ++ i ∷ []; traits = t.traits; nodes = t.nodes }

abbrev pub kept_entry : KeptTables → KeptEntry → KeptTables
kept_entry t e = record { texts = t.texts; traits = t.traits ++ e ∷ []; nodes = t.nodes }

abbrev pub kept_node_place : KeptTables → ℕ → KeptTables
kept_node_place t i = record { texts = t.texts; traits = t.traits; nodes = t.nodes ++ i ∷ [] }

-- the place of its traits in the arena
abbrev pub traits_place : KeptEntry → ℕ
traits_place (plain t) = t
traits_place (external t c) = t

-- its class, if it is externalizable
abbrev pub external_class : KeptEntry → Option Wrapped
external_class (plain t) = None
external_class (external t c) = Some c

abbrev pub entry_content : Arena → KeptEntry → tables.Entry
entry_content a (plain t) = tables.plain (traits_at a t)
entry_content a (external t c) = tables.external c

-- the numbers below n
abbrev pub below : ℕ → List ℕ
below zero = []
below (suc n) = below n ++ n ∷ []

-- by content; all nodes of the arena have been spelled
abbrev pub tables_of : Arena → KeptTables → tables.Tables
tables_of a t = record {
  words = record { texts = map (text_at a) t.texts; traits = map (entry_content a) t.traits };
  nodes = t.nodes;
  done = below (length a.nodes);
}

abbrev pub IsEntryIn : Arena → KeptEntry → Type 0
IsEntryIn a e = traits_place e < length a.traits

-- every place is one of the arena's, and no node stands twice
pub record AreTablesIn (a : Arena) (t : KeptTables) : Type 0 where
  pub texts : AllByRecursion (IsTextId a) t.texts
  pub traits : AllByRecursion (IsEntryIn a) t.traits
  pub nodes : AllByRecursion (λ i. i < length a.nodes) t.nodes
  pub distinct : IsDistinct t.nodes
