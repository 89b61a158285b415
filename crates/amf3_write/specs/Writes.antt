-- What each part of a writer appends, by its bytes, and where it stops. A device of proofs.
use Rattle.std.specs.Prelude.{◌≡◌, ℕ, ◌+◌, ◌*◌, ◌≤◌, Bool, List, [], ◌∷◌, ◌++◌, length, slice_get, Some}
use Rattle.amf_wire.specs.Style.{canonical}
use Rattle.amf_graph.specs.declared.lack.Lack.{Lack}
use Rattle.amf_graph.specs.declared.lack.LackKind.TheVariants.{EmptyName}
use Rattle.amf_graph.specs.Graph.{Value, Graph, node_at, AllNamed}
use Rattle.amf_graph.specs.Arena.{Arena}
use Rattle.amf_graph.specs.Order.{Walks}
use Rattle.amf_tables.specs.KnownWords.{Known, AreKnownOf}
use Rattle.amf3_spelling.specs.Tables.{Tables}
use Rattle.amf3_spelling.specs.ByteSpelling.{Texts, Step, byte, number, flag, raw, StepOf, Segment, step, Lifted, Segments, Spells}
use Rattle.amf3_write.specs.declared.output.Output.{Output}
use Rattle.amf3_write.specs.Contents.{segment_values}

-- the bytes that were appended are a spelling from the tables before to those behind
pub record Writes (A : Tables → List ℕ → Tables → Type 0) (old new : Output) : Type 0 where
  pub bytes : List ℕ
  pub spelled : A old.tables bytes new.tables
  pub appended : new.bytes.items ≡ old.bytes.items ++ bytes

-- the bytes are the canonical case of a value
abbrev pub IsCanonical : Graph → Value → Tables → List ℕ → Tables → Type 0
IsCanonical g v t b t' = (height : ℕ) × Spells height canonical g v t b t'

-- a step that names no node; such steps alone; a value
abbrev pub WritesStep : Step → Output → Output → Type 0
WritesStep x = Writes (Lifted (StepOf canonical x))

abbrev pub WritesSteps : List Segment → Output → Output → Type 0
WritesSteps ps = Writes (Segments (λ v t b t'. ⊥) canonical ps)

-- a marker, and the number behind it
abbrev pub marked_steps : ℕ → ℕ → List Segment
marked_steps marker n = step (byte marker) ∷ step (number n) ∷ []

-- a vector of numbers: its count, whether its length is fixed, and the bytes of the numbers
abbrev pub vector_steps : ℕ → Bool → List ℕ → List Segment
vector_steps count fixed bytes = step (number (2 * count + 1)) ∷ step (flag fixed) ∷ step (raw bytes) ∷ []

abbrev pub WritesValue : Graph → Value → Output → Output → Type 0
WritesValue g v = Writes (IsCanonical g v)

-- texts one after another
abbrev pub WritesTexts : List (List ℕ) → Output → Output → Type 0
WritesTexts xs = Writes (Lifted (Texts canonical xs))

-- from segments that were to be written to those that are left: what spells those that are left spells all, behind the bytes that were appended, and a walk over the values of all goes on over those that are left
pub record Leads (g : Graph) (whole left : List Segment) (old new : Output) : Type 0 where
  pub bytes : List ℕ
  pub appended : new.bytes.items ≡ old.bytes.items ++ bytes
  pub completes : (more : List ℕ) (t : Tables) → Segments (IsCanonical g) canonical left new.tables more t → Segments (IsCanonical g) canonical whole old.tables (bytes ++ more) t
  pub walks : (all : List ℕ) → Walks g old.tables.done (segment_values whole) all → Walks g new.tables.done (segment_values left) all
  pub later : length old.tables.done ≤ length new.tables.done

-- a writer of these segments stops at a node that it has not met before and that has an empty name: the lack has the number of the node's place among those that are met
pub record Stops (g : Graph) (segments : List Segment) (old : Output) (lack : Lack) : Type 0 where
  pub node : ℕ
  pub unnamed : AllNamed (node_at g node).names → ⊥
  pub kind : lack.kind ≡ EmptyName
  pub later : length old.tables.done ≤ lack.node
  pub place : (all : List ℕ) → Walks g old.tables.done (segment_values segments) all → slice_get all lack.node ≡ Some node

-- the bytes begin with these
pub record BeginsWith (front bytes : List ℕ) : Type 0 where
  pub rest : List ℕ
  pub is : bytes ≡ front ++ rest

-- what stands at the front of an output: bytes, and nodes of the table
pub record Front : Type 0 where
  pub bytes : List ℕ
  pub nodes : List ℕ

pub record HasFront (front : Front) (o : Output) : Type 0 where
  pub bytes : BeginsWith front.bytes o.bytes.items
  pub nodes : BeginsWith front.nodes o.tables.nodes

-- what the output began with, it still begins with
abbrev pub Keeps : Output → Output → Type 0
Keeps old new = (front : Front) → HasFront front old → HasFront front new

-- every node that is done has a place, and what is known of the places of this graph's texts and traits is right
pub record IsReady (a : Arena) (t : Tables) (noted : Known) : Type 0 where
  pub placed : t.done ≡ t.nodes
  pub known : AreKnownOf a t.words noted
