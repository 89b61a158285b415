-- What a reader of AMF 0 needs of its builder, its tables and its cursor, and what it leaves. A device by which verdicts are proved.
use Rattle.std.specs.Prelude.{ℕ, ◌+◌, ◌<◌, ◌≤◌, List, length, Result}
use Rattle.std.specs.List.{AllByRecursion}
use Rattle.amf_io.specs.declared.window.Window.{Window}
use Rattle.amf_io.specs.declared.cursor.Cursor.{Cursor}
use Rattle.amf_io.specs.declared.ends.ReadEnd.{ReadEnd}
use Rattle.amf_io.specs.CursorReads.{Answers}
use Rattle.amf_io.specs.Layout.{Layout}
use Rattle.amf_io.specs.ReadEnds.{IsPlaced}
use Rattle.amf_graph.specs.declared.value.TextId.{TextId}
use Rattle.amf_graph.specs.Arena.{Arena, IsBuilt, text_at}
use Rattle.amf_graph.specs.Order.{IsDistinct}
use Rattle.amf3_spelling.specs.KeptTables.{AreTablesIn}
use Rattle.amf0_spelling.specs.KeptTables0.{KeptTables0, AreTables0In}
use Rattle.amf0_layout_laws.specs.Layout0.{TextRead0}
use Rattle.amf0_layout_laws.specs.Layout0State.{State0, state0_of}
use Rattle.amf_wire_fields.specs.Room.{left_of}
use Rattle.amf3_read.specs.Ready.{Ready}

-- the tables are the builder's, and it has room for all that the bytes to come, and so many before them, may add
pub record Ready0 {S : Type 0} (spare : ℕ) (a : Arena) (t : KeptTables0) (c : Cursor S Window) : Type 0 where
  pub amf3 : Ready spare a t.amf3 c
  pub nodes : AllByRecursion (λ i. i < length a.nodes) t.nodes
  pub distinct : IsDistinct t.nodes

-- the tables are the builder's again, which grew by no more than the bytes that came, less those that are owed, and so many before them
pub record StillReady0 {S : Type 0} (owed spare : ℕ) (a b : Arena) (t : KeptTables0) (c d : Cursor S Window) : Type 0 where
  pub built : IsBuilt b
  pub tables : AreTables0In b t
  pub placed : IsPlaced d
  pub texts : length b.texts + left_of d + owed ≤ length a.texts + left_of c + spare
  pub traits : length b.traits + left_of d + owed ≤ length a.traits + left_of c + spare
  pub nodes : length b.nodes + left_of d + owed ≤ length a.nodes + left_of c + spare

-- a text of the builder, as it was read
abbrev pub text_read : Arena → KeptTables0 → TextId → TextRead0
text_read a t x = record { id = x.0; bytes = text_at a x.0; state = state0_of a t }

-- it is read by its layout, whatever the tables are, which it does not enter
abbrev pub AnswersText0 : {S : Type 0} → (S → Type 0) → (S → List ℕ) → (State0 → Layout TextRead0) → Arena → Arena → Cursor S Window → Cursor S Window → Result TextId ReadEnd → Type 0
AnswersText0 tells left layout a b c d r = (t : KeptTables0) → AreTablesIn a t.amf3 → Answers tells left (λ x. text_read b t x) (layout (state0_of a t)) c d r
