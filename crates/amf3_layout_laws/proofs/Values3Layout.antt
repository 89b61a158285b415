-- From nothing, what is accepted is what spells a graph; the layouts of values, and what is answered of one.
use Rattle.std.proofs.Common.{◌≡◌, ℕ, ◌+◌, List, [], length, Option, Some, None, Result, refl, arith}
use Rattle.amf_io.specs.declared.ends.ReadEnd.{ReadEnd}
use Rattle.amf_io.specs.Field.{Field, flat}
use Rattle.amf_io.specs.Layout.{IsLayout}
use Rattle.amf_io.specs.Stretch.{Stretch, AnswersOf}
use Rattle.amf_io.proofs.SameFormats.{answers_as}
use Rattle.amf_wire.specs.Style.{free}
use Rattle.amf_graph.specs.Arena.{IsBuilt, graph_of}
use Rattle.amf_graph.specs.Building.{no_arena}
use Rattle.amf_graph.specs.Order.{IsDistinct}
use Rattle.amf3_spelling.specs.Tables.{no_tables}
use Rattle.amf3_spelling.specs.KeptTables.{no_kept_tables, AreTablesIn}
use Rattle.amf3_spelling.specs.Reads3.{IsReading3}
use Rattle.amf3_spelling.specs.Values3.{IsValue3}
use Rattle.amf3_spelling.proofs.Lighter3.{flat_bytes, bytes3}
use Rattle.amf3_layout_laws.specs.Layout3State.{no_state}
use Rattle.amf3_layout_laws.specs.Layout3.{value_layout}
use Rattle.amf3_layout_laws.proofs.Layout3Parts.{Found}
use Rattle.amf3_layout_laws.proofs.Layout3Complete.{spelled_read}
use Rattle.amf3_layout_laws.proofs.Layout3Format.{is_layout}

pub no_arena_built : IsBuilt no_arena
no_arena_built = record { texts = tt; traits = tt; nodes = tt }

no_numbers : IsDistinct []
no_numbers j k x e f = let none : ◌≡◌ {A = Option ℕ} None (Some x) = e in absurd cc

pub no_tables_in : AreTablesIn no_arena no_kept_tables
no_tables_in = record { texts = tt; traits = tt; nodes = tt; distinct = no_numbers }

layouts_there : IsLayout (λ n. value_layout n no_state) (IsReading3 no_arena no_kept_tables)
layouts_there = is_layout no_arena no_kept_tables no_arena_built no_tables_in

pub reading_is_value : (fs : List Field) → IsReading3 no_arena no_kept_tables fs → IsValue3 fs
reading_is_value fs p = (graph_of p.graph p.value, (p.after, p.spelled))

pub value_is_reading : (fs : List Field) → IsValue3 fs → IsReading3 no_arena no_kept_tables fs
value_is_reading fs (g, (t, spelled)) =
    let n = length (flat fs) + 1 in
    let f : Found g (value_layout n) no_state fs t = spelled_read g n g.root no_tables fs t no_state (record { words = refl; marks = refl }) (omega arith) spelled in
    layouts_there.sound n fs f.result (flat_bytes fs (bytes3 free g g.root no_tables fs t spelled)) f.runs

pub values3_is_layout : IsLayout (λ n. value_layout n no_state) IsValue3
values3_is_layout = record {
  sound = λ n fs x bytes r. reading_is_value fs (layouts_there.sound n fs x bytes r);
  complete = λ n fs p lt. layouts_there.complete n fs (value_is_reading fs p) lt;
  grows = layouts_there.grows;
  able = layouts_there.able;
}

-- what is answered from nothing is told by graphs
pub answered3 : {X : Type 0} (R : X → List Field → Type 0) (s : Stretch) (r : Result X ReadEnd) → AnswersOf R (IsReading3 no_arena no_kept_tables) s r → AnswersOf R IsValue3 s r
answered3 R s r a = answers_as R (IsReading3 no_arena no_kept_tables) IsValue3 reading_is_value value_is_reading s r a
