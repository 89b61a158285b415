-- The tables of a graph behind a part and behind a text.
use Rattle.std.proofs.Common.{◌≡◌, ℕ, ◌<◌, List, length, refl, sym, ap, subst, OnOk}
use Rattle.std.specs.Prelude.{Result, Ok, Err}
use Rattle.std.specs.List.{AllByRecursion}
use Rattle.amf_graph.specs.Arena.{Arena}
use Rattle.amf_graph.specs.Graph.{Value, Graph}
use Rattle.amf_tables.specs.KnownWords.{AreKnownOf}
use Rattle.amf3_spelling.specs.Tables.{Tables, no_tables}
use Rattle.amf3_spelling.specs.ByteSpelling.{word}
use Rattle.amf3_write.specs.declared.output.Output.{Output}
use Rattle.amf3_write.specs.declared.graph_tables.GraphTables.{GraphTables}
use Rattle.amf3_write.specs.PartTables.{AreTablesOf}
use Rattle.amf3_write.specs.Writes.{WritesStep, WritesValue, IsReady}
use Rattle.amf3_write.proofs.PartNodes.{value_inside}

pub on_ok_both : {T E P Q R : Type 0} (r : Result T E) → (P → Q → R) → OnOk r P → OnOk r Q → OnOk r R
on_ok_both (Ok v) f h k = f h k
on_ok_both (Err e) f h k = tt

back : (a : Arena) (n : Output) (t' : GraphTables) → t'.tables ≡ n.tables → t'.known ≡ n.known → AllByRecursion (λ i. i < length a.nodes) n.tables.nodes → IsReady a n.tables n.known → AreTablesOf a t'
back a n t' f k inside r = record {
  nodes = subst (λ (z : Tables). AllByRecursion (λ i. i < length a.nodes) z.nodes) (sym f) inside;
  placed = subst (λ (z : Tables). z.done ≡ z.nodes) (sym f) r.placed;
  known = subst (λ (z : Tables). AreKnownOf a z.words t'.known) (sym f) (subst (λ z. AreKnownOf a n.tables.words z) (sym k) r.known);
}

pub text_tables : (a : Arena) (x : List ℕ) (o n : Output) (t t' : GraphTables) → o.tables ≡ t.tables → t'.tables ≡ n.tables → t'.known ≡ n.known → AreTablesOf a t → WritesStep (word x) o n → IsReady a n.tables n.known → AreTablesOf a t'
text_tables a x o n t t' e f k h w r =
    back a n t' f k (subst (λ is. AllByRecursion (λ i. i < length a.nodes) is) (sym (ap (λ (z : Tables). z.nodes) w.spelled.2)) (subst (λ (z : Tables). AllByRecursion (λ i. i < length a.nodes) z.nodes) (sym e) h.nodes)) r

pub value_tables : (g : Graph) (v : Value) (a : Arena) (o n : Output) (t t' : GraphTables) → length g.nodes ≡ length a.nodes → o.tables ≡ t.tables → t'.tables ≡ n.tables → t'.known ≡ n.known → AreTablesOf a t → WritesValue g v o n → IsReady a n.tables n.known → AreTablesOf a t'
value_tables g v a o n t t' len e f k h w r = back a n t' f k (value_inside g v o n (length a.nodes) len w (subst (λ (z : Tables). AllByRecursion (λ i. i < length a.nodes) z.nodes) (sym e) h.nodes)) r

pub new_tables : (a : Arena) (t : GraphTables) → t.tables ≡ no_tables → AreKnownOf a t.tables.words t.known → AreTablesOf a t
new_tables a t e k = record { nodes = subst (λ (z : Tables). AllByRecursion (λ i. i < length a.nodes) z.nodes) (sym e) tt; placed = subst (λ (z : Tables). z.done ≡ z.nodes) (sym e) refl; known = k }
