-- The laws of the layouts of AMF 0. A device of proofs.
use Rattle.std.specs.Prelude.{ℕ, false, List, ◌↔◌}
use Rattle.amf_io.specs.Field.{Field, AreBytes, flat}
use Rattle.amf_io.specs.Layout.{Runs, IsLayout}
use Rattle.amf_graph.specs.Arena.{Arena, IsBuilt}
use Rattle.amf_graph.specs.Building.{no_arena}
use Rattle.amf0_spelling.specs.KeptTables0.{KeptTables0, no_kept_tables0, AreTables0In}
use Rattle.amf0_spelling.specs.Reads0.{IsRead0, IsReading0}
use Rattle.amf0_spelling.specs.Values0.{IsValue0}
use Rattle.amf0_layout_laws.specs.Layout0State.{state0_of, tables0_in}
use Rattle.amf0_layout_laws.specs.Layout0.{ValueRead0, value0_layout}

-- what is read into a builder's arena and its tables is spelled so in each finished graph that completes it
abbrev pub Layout0Reads : Type 0
Layout0Reads = (n : ℕ) (a : Arena) (t : KeptTables0) (fs : List Field) (x : ValueRead0) → IsBuilt a → AreTables0In a t → AreBytes (flat fs) → Runs (value0_layout n false (state0_of a t)) fs x → IsRead0 a t fs x.state.amf3.arena (tables0_in x.state) x.value

-- from each builder's arena and its tables the layouts are those of what is accepted there
abbrev pub Layout0OfSpellings : Type 0
Layout0OfSpellings = (a : Arena) (t : KeptTables0) → IsBuilt a → AreTables0In a t → IsLayout (λ n. value0_layout n false (state0_of a t)) (IsReading0 a t)

-- from nothing, what is accepted is exactly what spells some graph
abbrev pub ValuesAreSpellings0 : Type 0
ValuesAreSpellings0 = (fs : List Field) → IsReading0 no_arena no_kept_tables0 fs ↔ IsValue0 fs
