-- The parts of a file that a writer appends one after the other. A device of proofs.
use Rattle.std.specs.Prelude.{◌≡◌, ℕ, ◌≤◌, ◌^◌, ◌⊎◌, List, [], ◌∷◌, ◌++◌, length}
use Rattle.std.specs.Int.{to_be_bytes, w32}
use Rattle.amf_io.specs.Field.{Field, flat}
use Rattle.amf_wire.specs.Style.{canonical}
use Rattle.amf_graph.specs.declared.lack.LackKind.{LackKind}
use Rattle.amf_graph.specs.declared.lack.LackKind.TheVariants.{LongName}
use Rattle.amf_graph.specs.declared.value.Value.{Value as Stored}
use Rattle.amf_graph.specs.declared.value.TextId.{TextId}
use Rattle.amf_graph.specs.Arena.{text_at, value_content}
use Rattle.amf_graph.specs.ByName.{by_name}
use Rattle.amf_graph.specs.Graph.{Value, Graph, node_at}
use Rattle.amf_graph.specs.Rooted.{RootedArena, content}
use Rattle.amf_iso.specs.Contents.{pairs_of}
use Rattle.amf3_spelling.specs.Tables.{Tables}
use Rattle.amf3_spelling.specs.Then.{Spelling, Then, Plain}
use Rattle.amf3_spelling.specs.Words3.{Text}
use Rattle.amf3_spelling.specs.Segments3.{Lifted}
use Rattle.amf3_spelling.specs.Spells3.{Spells3}
use Rattle.amf3_write.specs.PartLacks.{IsPartLack3}
use Rattle.amf0_spelling.specs.Segments0.{Short}
use Rattle.amf0_spelling.specs.Spells0.{Spells0}
use Rattle.amf0_spelling.specs.Tables0.{Tables0}
use Rattle.amf0_write.specs.PartLacks0.{IsPartLack0}
use Rattle.amf_sol.specs.declared.sol_version.SolVersion.{SolVersion}
use Rattle.amf_sol.specs.SharedObject.{second_signature, padding, version_field, pair_end}

-- the pairs of this node, in the order of their names
abbrev pub AreSortedOf : RootedArena → ℕ → List (TextId × Stored) → Type 0
AreSortedOf g h ps = pairs_of g.arena ps ≡ by_name (node_at (content g) h).names

-- bytes of fields that are so are appended
abbrev pub Appends : (List Field → Type 0) → List ℕ → List ℕ → Type 0
Appends P old new = (fs : List Field) × P fs × (new ≡ old ++ flat fs)

-- bytes that are spelled are appended, from the tables before to those behind
abbrev pub AppendsBy : {S : Type 0} → Spelling S → S → S → List ℕ → List ℕ → Type 0
AppendsBy A t t' old new = Appends (λ fs. A t fs t') old new

-- what stands behind the length, up to the first pair
pub record IsHead (name : List ℕ) (version : SolVersion) (fs : List Field) : Type 0 where
  pub spelled : List Field
  pub is_name : Short name spelled
  pub fields : fs ≡ second_signature ∷ spelled ++ padding ∷ version_field version ∷ []

-- a pair: a name, a value and a 0
abbrev pub Pair : {S : Type 0} → Spelling S → Spelling S → Spelling S
Pair N R = Then N (Then R (Plain (λ fs. fs ≡ pair_end ∷ [])))

abbrev pub Pair3 : Graph → List ℕ → Value → Spelling Tables
Pair3 g x v = Pair (Lifted (Text canonical x)) (Spells3 canonical g v)

abbrev pub Pair0 : Graph → List ℕ → Value → Spelling Tables0
Pair0 g x v = Pair (Plain (Short x)) (Spells0 canonical g v)

-- why a pair has no canonical spelling in AMF 0: its name is too long, or its value has none
abbrev pub IsPairLack0 : Graph → List ℕ → Value → Tables0 → ℕ → LackKind → Type 0
IsPairLack0 g x v t number kind = ((2 ^ 16 ≤ length x) × (number ≡ 0) × (kind ≡ LongName)) ⊎ IsPartLack0 g v t number kind

-- The same of a pair that a graph keeps.

abbrev pub KeptPair3 : RootedArena → TextId × Stored → Spelling Tables
KeptPair3 g p = Pair3 (content g) (text_at g.arena p.0.0) (value_content g.arena p.1)

abbrev pub KeptPair0 : RootedArena → TextId × Stored → Spelling Tables0
KeptPair0 g p = Pair0 (content g) (text_at g.arena p.0.0) (value_content g.arena p.1)

abbrev pub IsKeptLack0 : RootedArena → TextId × Stored → Tables0 → ℕ → LackKind → Type 0
IsKeptLack0 g p t number kind = IsPairLack0 (content g) (text_at g.arena p.0.0) (value_content g.arena p.1) t number kind

abbrev pub IsKeptLack3 : RootedArena → TextId × Stored → Tables → ℕ → LackKind → Type 0
IsKeptLack3 g p t number kind = IsPartLack3 (content g) (value_content g.arena p.1) t.done number kind

-- a file of which these bytes stand behind the length
abbrev pub file_bytes : List ℕ → List ℕ
file_bytes rest = 0x00 ∷ 0xBF ∷ (to_be_bytes w32 (length rest) ++ rest)
