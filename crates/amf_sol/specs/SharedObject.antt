-- Which fields spell a shared object file: a signature, a length, a name, a version, and pairs up to the end (the known layout of the local shared
-- objects of Flash).
use Rattle.std.specs.Prelude.{◌≡◌, ℕ, ◌<◌, ◌^◌, false, List, [], ◌∷◌, ◌++◌, length, None, Some, if◌then◌else◌, bytes_eq, codes, true}
use Rattle.std.specs.Int.{to_be_bytes, w32}
use Rattle.amf_io.specs.declared.reason.Reason.{Reason}
use Rattle.amf_io.specs.declared.reason.Reason.TheVariants.{BadSignature, BadPadding, BadVersion}
use Rattle.amf_io.specs.Field.{Kind, fixed, Field, flat, field, u32_kind, no_refusal}
use Rattle.amf_wire.specs.Style.{Style, free, canonical, Only}
use Rattle.amf_graph.specs.Graph.{Value, node, object, Head, Graph, node_at}
use Rattle.amf_graph.specs.ByName.{by_name}
use Rattle.amf_graph.specs.Reached.{Reached, Holds}
use Rattle.amf3_spelling.specs.Tables.{no_words, Tables}
use Rattle.amf3_spelling.specs.Then.{Spelling, Then, Nothing, Plain}
use Rattle.amf3_spelling.specs.Words3.{Text}
use Rattle.amf3_spelling.specs.Segments3.{Lifted}
use Rattle.amf3_spelling.specs.Spells3.{Spells3}
use Rattle.amf0_spelling.specs.Lowered.{IsLoweringOf}
use Rattle.amf0_spelling.specs.Segments0.{Short}
use Rattle.amf0_spelling.specs.Spells0.{Spells0}
use Rattle.amf0_spelling.specs.Tables0.{Tables0}
use Rattle.amf_sol.specs.declared.sol_version.SolVersion.{SolVersion}
use Rattle.amf_sol.specs.declared.sol_version.SolVersion.TheVariants.{Amf0, Amf3}

-- a shared object: its name, its version, and the graph of the object that holds its pairs
pub record Shared : Type 0 where
  pub name : List ℕ
  pub version : SolVersion
  pub holder : Graph

-- a dynamic object without class and sealed names
abbrev pub holder_head : Head
holder_head = object (record { class = []; dynamic = true; sealed = [] })

-- the root is this node, which has nothing but pairs
pub record IsPairHolder (g : Graph) (i : ℕ) : Type 0 where
  pub root : g.root ≡ node i
  pub there : i < length g.nodes
  pub head : (node_at g i).head ≡ holder_head
  pub unsealed : (node_at g i).values ≡ []

-- and nothing that it reaches holds it
pub record IsHolder (g : Graph) (i : ℕ) : Type 0 where
  pub pairs : IsPairHolder g i
  pub unheld : (j : ℕ) → Reached g j → Holds (node_at g j) (node i) → ⊥

abbrev pub HasHolder : Graph → Type 0
HasHolder g = (i : ℕ) × IsHolder g i

-- The fixed fields.

-- so many bytes that have to be just these
abbrev pub exact_kind : Reason → List ℕ → Kind
exact_kind reason bytes = record { size = fixed (length bytes); refusal = λ found. if bytes_eq bytes found then None else Some reason }

abbrev pub exactly : Reason → List ℕ → Field
exactly reason bytes = field (exact_kind reason bytes) bytes

abbrev pub signature : Field
signature = exactly BadSignature (0x00 ∷ 0xBF ∷ [])

abbrev pub second_signature : Field
second_signature = exactly BadSignature (codes "TCSO" ++ 0x00 ∷ 0x04 ∷ 0x00 ∷ 0x00 ∷ 0x00 ∷ 0x00 ∷ [])

abbrev pub padding : Field
padding = exactly BadPadding (0 ∷ 0 ∷ 0 ∷ [])

abbrev pub pair_end : Field
pair_end = exactly BadPadding (0 ∷ [])

-- the length: a number of 32 bits, in which nothing is refused
abbrev pub length_field : ℕ → Field
length_field n = field (u32_kind no_refusal) (to_be_bytes w32 n)

abbrev pub version_number : SolVersion → ℕ
version_number Amf0 = 0
version_number Amf3 = 3

abbrev pub version_kind : Kind
version_kind = record {
  size = fixed 1;
  refusal = λ found. if bytes_eq (0 ∷ []) found then None else (if bytes_eq (3 ∷ []) found then None else Some BadVersion);
}

abbrev pub version_field : SolVersion → Field
version_field v = field version_kind (version_number v ∷ [])

-- The pairs.

-- pairs one after the other: a name, which N spells, a value, which R spells, and a 0
abbrev pub PairsBy : {S : Type 0} → (List ℕ → Spelling S) → (Value → Spelling S) → List (List ℕ × Value) → Spelling S
PairsBy N R [] t fs t' = Nothing t fs t'
PairsBy N R (p ∷ pairs) t fs t' = Then (N p.0) (Then (R p.1) (Then (Plain (λ fs. fs ≡ pair_end ∷ [])) (PairsBy N R pairs))) t fs t'

-- one set of tables serves the file; the holder counts as spelled from the start, and is in no table
abbrev pub file_tables : ℕ → Tables
file_tables holder = record { words = no_words; nodes = []; done = holder ∷ [] }

abbrev pub file_tables0 : ℕ → Tables0
file_tables0 holder = record { amf3 = file_tables holder; nodes = []; switched = false }

-- the members of the holder: in AMF 3 a name is a text of the file's tables, in AMF 0 a text behind its length of 16 bits
abbrev pub MembersBy : Style → SolVersion → Graph → ℕ → List (List ℕ × Value) → List Field → Type 0
MembersBy s Amf3 g holder pairs fs = (t : Tables) × PairsBy (λ x. Lifted (Text s x)) (Spells3 s g) pairs (file_tables holder) fs t
MembersBy s Amf0 g holder pairs fs = (t : Tables0) × PairsBy (λ x. Plain (Short x)) (Spells0 s g) pairs (file_tables0 holder) fs t

-- the pairs in any order that leaves equal names in theirs; the canonical one is by name. No value leads to the holder, which is spelled and in no table
pub record PairsOf (s : Style) (version : SolVersion) (g : Graph) (fs : List Field) : Type 0 where
  pub holder : ℕ
  pub is_holder : IsPairHolder g holder
  pub pairs : List (List ℕ × Value)
  pub same_names : by_name pairs ≡ by_name (node_at g holder).names
  pub in_order : Only s (pairs ≡ by_name (node_at g holder).names)
  pub spelled : MembersBy s version g holder pairs fs

-- the holder is one; what is written in AMF 0 is its lowered graph
abbrev pub HolderBy : Style → SolVersion → Graph → List Field → Type 0
HolderBy canonical Amf0 g fs = HasHolder g × (h : Graph) × IsLoweringOf g h × PairsOf canonical Amf0 h fs
HolderBy s version g fs = PairsOf s version g fs

-- The file.

-- what stands behind the length
pub record AfterLength (s : Style) (o : Shared) (fs : List Field) : Type 0 where
  pub name : List Field
  pub pairs : List Field
  pub named : Short o.name name
  pub held : HolderBy s o.version o.holder pairs
  pub fields : fs ≡ second_signature ∷ name ++ padding ∷ version_field o.version ∷ pairs

-- the fields of a file, in which the length may be any number; the canonical one is the number of bytes behind it
pub record SpellsFile (s : Style) (o : Shared) (fs : List Field) : Type 0 where
  pub size : ℕ
  pub rest : List Field
  pub in_bits : size < 2 ^ 32
  pub right : Only s (size ≡ length (flat rest))
  pub behind : AfterLength s o rest
  pub fields : fs ≡ signature ∷ length_field size ∷ rest

-- the bytes spell the file
abbrev pub SpelledFile : Style → Shared → List ℕ → Type 0
SpelledFile s o b = (fs : List Field) × SpellsFile s o fs × (b ≡ flat fs)

-- the accepted lists of fields: a file may end only between its pairs
abbrev pub IsFileReading : List Field → Type 0
IsFileReading fs = (o : Shared) × SpellsFile free o fs
