-- The layouts from an arena and its tables are those of what is accepted there.
use Rattle.std.proofs.Common.{ℕ, ◌+◌, ◌<◌, false, List, length, Result, refl, ap, subst, arith}
use Rattle.amf_io.specs.declared.ends.ReadEnd.{ReadEnd}
use Rattle.amf_io.specs.Stretch.{Stretch, AnswersOf}
use Rattle.amf_io.proofs.SameFormats.{answers_as}
use Rattle.amf_wire.specs.Style.{free}
use Rattle.amf_io.specs.Field.{Field, AreBytes, flat}
use Rattle.amf_io.specs.Layout.{Runs, IsLayout}
use Rattle.amf_graph.specs.Arena.{Arena, IsBuilt, graph_of, value_content}
use Rattle.amf_graph.specs.Building.{no_arena}
use Rattle.amf_graph.proofs.Lists.{no_entry}
use Rattle.amf3_spelling.specs.KeptTables.{below}
use Rattle.amf3_spelling.specs.Tables.{Words}
use Rattle.amf3_layout_laws.proofs.Layout3Contents.{names_more}
use Rattle.amf3_layout_laws.proofs.Layout3Filled.{filling}
use Rattle.amf3_layout_laws.proofs.Layout3Marks.{marks_stay}
use Rattle.amf3_layout_laws.proofs.Layout3Reads.{good_start, grown_built}
use Rattle.amf3_layout_laws.proofs.Values3Layout.{no_arena_built, no_tables_in}
use Rattle.amf0_spelling.specs.Tables0.{Tables0, no_tables0}
use Rattle.amf0_spelling.specs.KeptTables0.{KeptTables0, no_kept_tables0, tables0_of, AreTables0In}
use Rattle.amf0_spelling.specs.Reads0.{IsReading0}
use Rattle.amf0_spelling.specs.Values0.{IsValue0}
use Rattle.amf0_spelling.specs.Spells0.{SpellsIn0}
use Rattle.amf0_spelling.proofs.Bytes0.{bytes0}
use Rattle.amf0_layout_laws.specs.Layout0State.{state0_of, tables0_in}
use Rattle.amf0_layout_laws.specs.Layout0.{ValueRead0, value0_layout}
use Rattle.amf0_layout_laws.specs.Layout0Laws.{Layout0Reads, Layout0OfSpellings, ValuesAreSpellings0}
use Rattle.amf0_layout_laws.proofs.Layout0Grows.{value0_grows}
use Rattle.amf0_layout_laws.proofs.Layout0Able.{value0_able}
use Rattle.amf0_layout_laws.proofs.Layout0Complete.{Found0, spelled_read0}
use Rattle.amf0_layout_laws.proofs.Layout0Contents.{Good0}
use Rattle.amf0_layout_laws.proofs.Layout0SoundParts.{ValueSound0, only_value}
use Rattle.amf0_layout_laws.proofs.Layout0SoundNodes.{spell0}
use Rattle.amf0_layout_laws.proofs.Layout0Sound.{value0_sound}

good_start0 : (a : Arena) (t : KeptTables0) → IsBuilt a → AreTables0In a t → Good0 (state0_of a t)
good_start0 a t b v = record { amf3 = good_start a t.amf3 b v.amf3; nodes = v.nodes; distinct = v.distinct }

sound : (n : ℕ) (a : Arena) (t : KeptTables0) (fs : List Field) (x : ValueRead0) → IsBuilt a → AreTables0In a t → AreBytes (flat fs) → Runs (value0_layout n false (state0_of a t)) fs x → ValueSound0 (spell0 n) false (state0_of a t) fs x
sound n a t fs x b v h r = only_value (spell0 n) (state0_of a t) fs x (value0_sound n false (state0_of a t) fs x (good_start0 a t b v) h r)

pub reads0 : Layout0Reads
reads0 n a t fs x b v h r =
    let z = sound n a t fs x b v h r in
    record {
      grows = record { more_texts = z.larger.more_texts; texts = z.larger.texts; more_traits = z.larger.more_traits; traits = z.larger.traits; more_nodes = z.more; nodes = z.nodes; closed = z.closed };
      built = λ o. grown_built a x.state.amf3.arena z.more o z.larger z.good.amf3.kept z.nodes z.closed;
      value = z.named;
      tables = record { amf3 = z.good.amf3.tables; nodes = z.good.nodes; distinct = z.good.distinct };
      spelled = λ g c. (
        n,
        subst (λ w. SpellsIn0 n free (graph_of g x.value) false (value_content g x.value) (tables0_of a t) fs w)
            (ap (λ (w : Words). let k : Tables0 = record { amf3 = record { words = w; nodes = x.state.amf3.tables.nodes; done = below (length x.state.amf3.arena.nodes) }; nodes = x.state.nodes; switched = x.state.switched } in k) z.good.amf3.words)
            (z.spelled g x.value c),
      );
    }

reading0 : (n : ℕ) (a : Arena) (t : KeptTables0) (fs : List Field) (x : ValueRead0) → IsBuilt a → AreTables0In a t → AreBytes (flat fs) → Runs (value0_layout n false (state0_of a t)) fs x → IsReading0 a t fs
reading0 n a t fs x b v h r =
    let z = sound n a t fs x b v h r in
    let c = x.state.amf3.arena in
    let w = filling a c z.more b z.good.amf3.kept z.larger z.nodes z.closed in
    record {
      graph = w.graph;
      value = x.value;
      after = tables0_of c (tables0_in x.state);
      names = names_more c w.graph w.larger x.value z.named;
      completes = w.before;
      spelled = (reads0 n a t fs x b v h r).spelled w.graph w.after;
    }

-- what is accepted is read
accepted_read0 : (n : ℕ) (a : Arena) (t : KeptTables0) (fs : List Field) → AreTables0In a t → IsReading0 a t fs → length (flat fs) < n → (x : ValueRead0) × Runs (value0_layout n false (state0_of a t)) fs x
accepted_read0 n a t fs valid p lt =
    let g = p.graph in
    let f : Found0 (graph_of g p.value) (value0_layout n false (state0_of a t)) fs p.after =
    spelled_read0 (graph_of g p.value) n (value_content g p.value) (tables0_of a t) fs p.after (state0_of a t) (record { amf3 = record { words = refl; marks = marks_stay a g p.value t.amf3.nodes p.completes.nodes valid.amf3.nodes }; size = refl }) lt p.spelled in
    (f.result, f.runs)

pub is_layout0 : Layout0OfSpellings
is_layout0 a t built valid = record {
  sound = λ n fs x bytes r. reading0 n a t fs x built valid bytes r;
  complete = λ n fs p lt. accepted_read0 n a t fs valid p lt;
  grows = λ n m le. value0_grows n m le false (state0_of a t);
  able = λ n fs u p lt. value0_able n false (state0_of a t) fs u p lt;
}

pub no_tables0_in : AreTables0In no_arena no_kept_tables0
no_tables0_in = record { amf3 = no_tables_in; nodes = tt; distinct = λ j k i e f. absurd (no_entry j i e) }

layouts_there0 : IsLayout (λ n. value0_layout n false (state0_of no_arena no_kept_tables0)) (IsReading0 no_arena no_kept_tables0)
layouts_there0 = is_layout0 no_arena no_kept_tables0 no_arena_built no_tables0_in

pub reading_is_value0 : (fs : List Field) → IsReading0 no_arena no_kept_tables0 fs → IsValue0 fs
reading_is_value0 fs p = (graph_of p.graph p.value, (p.after, p.spelled))

pub value_is_reading0 : (fs : List Field) → IsValue0 fs → IsReading0 no_arena no_kept_tables0 fs
value_is_reading0 fs (g, (t, spelled)) =
    let n = length (flat fs) + 1 in
    let s = state0_of no_arena no_kept_tables0 in
    let f : Found0 g (value0_layout n false s) fs t = spelled_read0 g n g.root no_tables0 fs t s (record { amf3 = record { words = refl; marks = refl }; size = refl }) (omega arith) spelled in
    layouts_there0.sound n fs f.result (bytes0 free g g.root no_tables0 fs t spelled) f.runs

pub values_are_spellings0 : ValuesAreSpellings0
values_are_spellings0 fs = (reading_is_value0 fs, value_is_reading0 fs)

pub values0_is_layout : IsLayout (λ n. value0_layout n false (state0_of no_arena no_kept_tables0)) IsValue0
values0_is_layout = record {
  sound = λ n fs x bytes r. reading_is_value0 fs (layouts_there0.sound n fs x bytes r);
  complete = λ n fs p lt. layouts_there0.complete n fs (value_is_reading0 fs p) lt;
  grows = layouts_there0.grows;
  able = layouts_there0.able;
}

-- what is answered from nothing is told by graphs
pub answered0 : {X : Type 0} (R : X → List Field → Type 0) (s : Stretch) (r : Result X ReadEnd) → AnswersOf R (IsReading0 no_arena no_kept_tables0) s r → AnswersOf R IsValue0 s r
answered0 R s r a = answers_as R (IsReading0 no_arena no_kept_tables0) IsValue0 reading_is_value0 value_is_reading0 s r a
