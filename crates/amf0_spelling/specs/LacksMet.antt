-- Why a lowered graph has no canonical spelling in AMF 0, told from what is met again. A device of proofs.
use Rattle.std.specs.Prelude.{◌≡◌, ℕ, ◌≤◌, true, List, slice_get, Some, ◌^◌}
use Rattle.amf_graph.specs.declared.lack.LackKind.{LackKind}
use Rattle.amf_graph.specs.declared.lack.LackKind.TheVariants.{NoForm, LongName, Shared, FarReference}
use Rattle.amf_graph.specs.Graph.{Graph, node_at}
use Rattle.amf_graph.specs.Lacks.{IsFirstLack}
use Rattle.amf0_spelling.specs.Lacks0.{HasNoForm, HasShortNames, enters0, is_loose0, place0}
use Rattle.amf0_spelling.specs.Meets.{IsMet, IsAgain}

abbrev pub NodeLacksMet : Graph → ℕ → List ℕ → List ℕ → ℕ → ℕ → LackKind → Type 0
NodeLacksMet g outside order more number i NoForm = HasNoForm (node_at g i) (node_at g i).head
NodeLacksMet g outside order more number i LongName = HasShortNames (node_at g i) → ⊥
NodeLacksMet g outside order more number i Shared = (is_loose0 (node_at g i).head ≡ true) × IsAgain more number
NodeLacksMet g outside order more number i FarReference = (enters0 (node_at g i).head ≡ true) × (2 ^ 16 ≤ place0 g outside order number) × IsAgain more number
NodeLacksMet g outside order more number i _ = ⊥

abbrev pub LacksMet : Graph → ℕ → List ℕ → List ℕ → ℕ → LackKind → Type 0
LacksMet g outside order more number kind = (i : ℕ) × (slice_get order number ≡ Some i) × NodeLacksMet g outside order more number i kind

abbrev pub IsLackMet : Graph → ℕ → LackKind → Type 0
IsLackMet g number kind = (order : List ℕ) × (more : List ℕ) × IsMet g order more × IsFirstLack (LacksMet g 0 order more) number kind
