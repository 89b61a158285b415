-- Why a shared object has no file: a lack in its holder, or more bytes than the length can say.
use Rattle.std.specs.Prelude.{◌≡◌, ℕ, ◌<◌, ◌≤◌, ◌^◌, List, length}
use Rattle.amf_io.specs.Field.{Field, flat}
use Rattle.amf_wire.specs.Style.{canonical}
use Rattle.amf_graph.specs.declared.lack.LackKind.{LackKind}
use Rattle.amf_graph.specs.declared.lack.LackKind.TheVariants.{EmptyName, LongFile}
use Rattle.amf_graph.specs.Graph.{Graph}
use Rattle.amf_graph.specs.Order.{IsOrder}
use Rattle.amf_graph.specs.Lacks.{IsFirstLack}
use Rattle.amf3_spelling.specs.Lacks3.{Lacks3}
use Rattle.amf0_spelling.specs.Lacks0.{Lacks0}
use Rattle.amf0_spelling.specs.Lowered.{IsLoweringOf}
use Rattle.amf_sol.specs.declared.sol_version.SolVersion.{SolVersion}
use Rattle.amf_sol.specs.declared.sol_version.SolVersion.TheVariants.{Amf0, Amf3}
use Rattle.amf_sol.specs.SharedObject.{Shared, AfterLength}

-- an empty name is a lack, but for those of the node with number 0: the holder's may be empty
abbrev pub Unless0 : (ℕ → LackKind → Type 0) → ℕ → LackKind → Type 0
Unless0 Lacks number EmptyName = (0 < number) × Lacks number EmptyName
Unless0 Lacks number kind = Lacks number kind

-- the first lack in the holder, which keeps the canonical number 0; in AMF 0 numbers are those of the lowered graph, and the holder, the first of its
-- nodes, is in no table
abbrev pub IsHolderLack : SolVersion → Graph → ℕ → LackKind → Type 0
IsHolderLack Amf3 g number kind = (order : List ℕ) × IsOrder g order × IsFirstLack (Unless0 (Lacks3 g order)) number kind
IsHolderLack Amf0 g number kind = (h : Graph) × IsLoweringOf g h × (order : List ℕ) × IsOrder h order × IsFirstLack (Lacks0 h 1 order) number kind

-- a file has a lack in its holder, or where there is none it would be too long
pub data IsFileLack (o : Shared) (number : ℕ) (kind : LackKind) : Type 0 where
  in_holder : IsHolderLack o.version o.holder number kind → IsFileLack o number kind
  too_long : number ≡ 0 → kind ≡ LongFile → (rest : List Field) → AfterLength canonical o rest → 2 ^ 32 ≤ length (flat rest)
      → ((n : ℕ) (other : LackKind) → IsHolderLack o.version o.holder n other → ⊥) → IsFileLack o number kind
