-- The laws of the layouts of AMF 3. A device of proofs.
use Rattle.std.specs.Prelude.{ℕ, ◌<◌, ◌≤◌, List, length, ◌↔◌}
use Rattle.amf_io.specs.Field.{Field, AreBytes, flat}
use Rattle.amf_io.specs.Layout.{Layout, Path, Runs, Extends, Able, IsLayout}
use Rattle.amf_graph.specs.Arena.{Arena, IsBuilt}
use Rattle.amf_graph.specs.Building.{no_arena}
use Rattle.amf3_spelling.specs.KeptTables.{KeptTables, no_kept_tables, AreTablesIn}
use Rattle.amf3_spelling.specs.Reads3.{IsRead3, IsReading3}
use Rattle.amf3_spelling.specs.Values3.{IsValue3}
use Rattle.amf3_layout_laws.specs.Layout3State.{State3, state_of}
use Rattle.amf3_layout_laws.specs.Layout3.{ValueRead, value_layout}

-- more fuel changes no answer
abbrev pub Layout3Grows : Type 0
Layout3Grows = (n m : ℕ) (s : State3) → n ≤ m → Extends (value_layout n s) (value_layout m s)

-- what has been read can be completed
abbrev pub Layout3Able : Type 0
Layout3Able = (n : ℕ) (a : Arena) (t : KeptTables) (fs : List Field) (u : Layout ValueRead) → Path (value_layout n (state_of a t)) fs u → length (flat fs) < n → Able u

-- what is accepted is read, with more fuel than bytes
abbrev pub Layout3Complete : Type 0
Layout3Complete = (n : ℕ) (a : Arena) (t : KeptTables) (fs : List Field) → AreTablesIn a t → IsReading3 a t fs → length (flat fs) < n → (x : ValueRead) × Runs (value_layout n (state_of a t)) fs x

-- what is read of bytes is accepted: it spells a value of some finished graph that completes what was there
abbrev pub Layout3Accepted : Type 0
Layout3Accepted = (n : ℕ) (a : Arena) (t : KeptTables) (fs : List Field) (x : ValueRead) → IsBuilt a → AreTablesIn a t → AreBytes (flat fs) → Runs (value_layout n (state_of a t)) fs x → IsReading3 a t fs

-- what is read into a builder's arena and its tables is spelled so in each finished graph that completes it
abbrev pub Layout3Reads : Type 0
Layout3Reads = (n : ℕ) (a : Arena) (t : KeptTables) (fs : List Field) (x : ValueRead) → IsBuilt a → AreTablesIn a t → AreBytes (flat fs) → Runs (value_layout n (state_of a t)) fs x → IsRead3 a t fs x.state.arena x.state.tables x.value

-- from each builder's arena and its tables the layouts are those of what is accepted there
abbrev pub Layout3OfSpellings : Type 0
Layout3OfSpellings = (a : Arena) (t : KeptTables) → IsBuilt a → AreTablesIn a t → IsLayout (λ n. value_layout n (state_of a t)) (IsReading3 a t)

-- from nothing, what is accepted is exactly what spells some graph
abbrev pub ValuesAreSpellings3 : Type 0
ValuesAreSpellings3 = (fs : List Field) → IsReading3 no_arena no_kept_tables fs ↔ IsValue3 fs
