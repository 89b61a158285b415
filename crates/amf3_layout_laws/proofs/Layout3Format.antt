-- The layouts from an arena and its tables are those of what is accepted there.
use Rattle.std.proofs.Common.{ℕ, ◌<◌, List, length, refl}
use Rattle.amf_io.specs.Field.{Field, flat}
use Rattle.amf_io.specs.Layout.{Layout, Path, Runs, Able, IsLayout}
use Rattle.amf_graph.specs.Arena.{Arena, IsBuilt, graph_of, value_content}
use Rattle.amf3_spelling.specs.KeptTables.{KeptTables, AreTablesIn, tables_of}
use Rattle.amf3_spelling.specs.Reads3.{IsReading3}
use Rattle.amf3_layout_laws.specs.Layout3State.{state_of}
use Rattle.amf3_layout_laws.specs.Layout3.{ValueRead, value_layout}
use Rattle.amf3_layout_laws.proofs.Layout3Grows.{value_grows}
use Rattle.amf3_layout_laws.proofs.Layout3Able.{value_able}
use Rattle.amf3_layout_laws.proofs.Layout3Parts.{Found}
use Rattle.amf3_layout_laws.proofs.Layout3Complete.{spelled_read}
use Rattle.amf3_layout_laws.proofs.Layout3Marks.{marks_stay}
use Rattle.amf3_layout_laws.proofs.Layout3Filled.{reading}

-- what is accepted is read
pub accepted_read : (n : ℕ) (a : Arena) (t : KeptTables) (fs : List Field) → AreTablesIn a t → IsReading3 a t fs → length (flat fs) < n → (x : ValueRead) × Runs (value_layout n (state_of a t)) fs x
accepted_read n a t fs valid p lt =
    let g = p.graph in
    let f : Found (graph_of g p.value) (value_layout n) (state_of a t) fs p.after =
    spelled_read (graph_of g p.value) n (value_content g p.value) (tables_of a t) fs p.after (state_of a t) (record { words = refl; marks = marks_stay a g p.value t.nodes p.completes.nodes valid.nodes }) lt p.spelled in
    (f.result, f.runs)

-- what has been read can be completed
pub start_able : (n : ℕ) (a : Arena) (t : KeptTables) (fs : List Field) (u : Layout ValueRead) → Path (value_layout n (state_of a t)) fs u → length (flat fs) < n → Able u
start_able n a t fs u p lt = value_able n (state_of a t) fs u p lt

pub is_layout : (a : Arena) (t : KeptTables) → IsBuilt a → AreTablesIn a t → IsLayout (λ n. value_layout n (state_of a t)) (IsReading3 a t)
is_layout a t built valid = record {
  sound = λ n fs x bytes r. reading n a t fs x built valid bytes r;
  complete = λ n fs p lt. accepted_read n a t fs valid p lt;
  grows = λ n m le. value_grows n m le (state_of a t);
  able = λ n fs u p lt. start_able n a t fs u p lt;
}
