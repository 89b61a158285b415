-- What a writer of AMF 0 appends, and the tables that it is given and leaves.
use Rattle.std.specs.Prelude.{◌≡◌, ℕ, true, false, List, [], ◌++◌, slice_get, Some}
use Rattle.amf_io.specs.Field.{Field, flat}
use Rattle.amf_wire.specs.Style.{canonical}
use Rattle.amf_graph.specs.declared.value.Value.{Value as Stored}
use Rattle.amf_graph.specs.Arena.{value_content}
use Rattle.amf_graph.specs.Graph.{Value, Graph, node_at}
use Rattle.amf_graph.specs.Order.{IsDistinct}
use Rattle.amf_graph.specs.Rooted.{RootedArena, content}
use Rattle.amf3_spelling.specs.Tables.{Tables}
use Rattle.amf_graph.specs.declared.lack.LackKind.{LackKind}
use Rattle.amf0_spelling.specs.Lacks0.{enters0, is_loose0, entered, IsLack0}
use Rattle.amf0_spelling.specs.Lowered.{IsLoweringOf}
use Rattle.amf0_spelling.specs.Spells0.{Spells0, IsSpelling0}
use Rattle.amf0_spelling.specs.Tables0.{Tables0}

-- the bytes of the canonical spelling of a graph
abbrev pub AppendsCanonical0 : Graph → List ℕ → List ℕ → Type 0
AppendsCanonical0 g old new = (fs : List Field) × IsSpelling0 canonical g fs × (new ≡ old ++ flat fs)

-- the tables of a writer, where nothing is behind the switch to AMF 3
abbrev pub tables0 : Tables → Tables0
tables0 t = record { amf3 = record { words = t.words; nodes = []; done = t.done }; nodes = t.nodes; switched = false }

-- the bytes of the canonical case of a value of a graph, from the tables before to those behind
abbrev pub AppendsPart0 : Graph → Value → Tables0 → Tables0 → List ℕ → List ℕ → Type 0
AppendsPart0 g v t t' old new = (fs : List Field) × Spells0 canonical g v t fs t' × (new ≡ old ++ flat fs)

-- the same of a value that a graph keeps
abbrev pub AppendsKeptPart0 : RootedArena → Stored → Tables0 → Tables0 → List ℕ → List ℕ → Type 0
AppendsKeptPart0 g v t t' old new = AppendsPart0 (content g) (value_content g.arena v) t t' old new

-- the tables behind canonical spellings of a graph: each node that was written stands there once, an array or an object with an index, and any other
-- is a date or an XML document; of the arrays and objects some first ones may be in no table
pub record AreTables0 (g : Graph) (t : Tables0) : Type 0 where
  pub once : IsDistinct t.amf3.done
  pub outside : List ℕ
  pub level : outside ++ t.nodes ≡ entered g t.amf3.done
  pub loose : (k i : ℕ) → slice_get t.amf3.done k ≡ Some i → enters0 (node_at g i).head ≡ false → is_loose0 (node_at g i).head ≡ true

-- the bytes of the canonical spelling of what the graph is when it is lowered
abbrev pub AppendsLowered0 : Graph → List ℕ → List ℕ → Type 0
AppendsLowered0 g old new = (low : Graph) × IsLoweringOf g low × AppendsCanonical0 low old new

-- the first node of the lowering that has no spelling, and why
abbrev pub IsLoweredLack0 : Graph → ℕ → LackKind → Type 0
IsLoweredLack0 g number kind = (low : Graph) × IsLoweringOf g low × IsLack0 low number kind
