-- What each part of a writer appends, and where it stops. A device of proofs.
use Rattle.std.specs.Prelude.{◌≡◌, ◌≢◌, ℕ, ◌<◌, ◌≤◌, ◌^◌, ◌⊎◌, Bool, true, false, cond, List, [], ◌∷◌, ◌++◌, length, slice_get, Some}
use Rattle.std.specs.Int.{to_be_bytes, w16, w32, w64}
use Rattle.amf_io.specs.Field.{Field, flat}
use Rattle.amf_wire.specs.Style.{canonical}
use Rattle.amf_wire.specs.Text.{IsText}
use Rattle.amf_graph.specs.declared.lack.LackKind.{LackKind}
use Rattle.amf_graph.specs.declared.value.NodeId.{NodeId}
use Rattle.amf_graph.specs.ByName.{by_name}
use Rattle.amf_graph.specs.Graph.{Leaf, undefined, null, boolean, integer, double, text, Value, Traits, array, object, Node, Graph, node_at}
use Rattle.amf_graph.specs.Renumbered.{numbers_of}
use Rattle.amf3_spelling.specs.ByteSpelling.{Then}
use Rattle.amf0_spelling.specs.Lacks0.{enters0, entered}
use Rattle.amf0_spelling.specs.Meets.{Meets, IsAgain}
use Rattle.amf0_spelling.specs.Spells0.{SpellsIn0, IsOpenTraits}
use Rattle.amf0_spelling.specs.Tables0.{Tables0, add_done0}
use Rattle.amf0_write.specs.declared.output.Output.{Output}
use Rattle.amf0_write.specs.PartLacks0.{outside_of, PlaceLacks0}
use Rattle.amf0_write.specs.Written0.{tables0, AreTables0}

-- the tables of an output
abbrev pub tables_of : Output → Tables0
tables_of o = tables0 o.tables

abbrev pub done_of : Output → List ℕ
done_of o = (tables_of o).amf3.done

-- the node has been written
abbrev pub IsDone : List ℕ → ℕ → Type 0
IsDone done i = (k : ℕ) × (slice_get done k ≡ Some i)

-- the bytes begin with these
pub record BeginsWith (front bytes : List ℕ) : Type 0 where
  pub rest : List ℕ
  pub is : bytes ≡ front ++ rest

-- what the bytes began with, they still begin with
abbrev pub Keeps : Output → Output → Type 0
Keeps old new = (front : List ℕ) → BeginsWith front old.bytes.items → BeginsWith front new.bytes.items

-- bytes are appended, and no table changes
pub record Adds (b : List ℕ) (old new : Output) : Type 0 where
  pub bytes : new.bytes.items ≡ old.bytes.items ++ b
  pub tables : tables_of new ≡ tables_of old
  pub loose : new.loose.items ≡ old.loose.items

-- bytes are appended, and a node is entered that no index can name
pub record AddsLoose (n : NodeId) (b : List ℕ) (old new : Output) : Type 0 where
  pub bytes : new.bytes.items ≡ old.bytes.items ++ b
  pub tables : tables_of new ≡ add_done0 (tables_of old) n.0
  pub loose : new.loose.items ≡ old.loose.items ++ n ∷ []

-- the bytes of a date, in the time zone 0, and those of an XML document (2.13, 2.17)
abbrev pub date_bytes : ℕ → List ℕ
date_bytes p = 0x0B ∷ to_be_bytes w64 p ++ 0 ∷ 0 ∷ []

abbrev pub document_bytes : List ℕ → List ℕ
document_bytes x = 0x0F ∷ to_be_bytes w32 (length x) ++ x

-- the first bytes of an object of this class: where that is empty, the object has no name (2.5, 2.18)
abbrev pub object_front : List ℕ → List ℕ
object_front [] = 0x03 ∷ []
object_front (b ∷ x) = 0x10 ∷ to_be_bytes w16 (length (b ∷ x)) ++ (b ∷ x)

-- no node is entered
abbrev pub Still : Output → Output → Type 0
Still old new = (tables_of new ≡ tables_of old) × (new.loose.items ≡ old.loose.items)

-- the nodes that no index can name, in order
abbrev pub unentered : Graph → List ℕ → List ℕ
unentered g [] = []
unentered g (i ∷ xs) = cond (enters0 (node_at g i).head) (unentered g xs) (i ∷ unentered g xs)

-- nodes are entered, those with a place and those without one
pub record Grown (g : Graph) (old new : Output) : Type 0 where
  pub more : List ℕ
  pub done : done_of new ≡ done_of old ++ more
  pub nodes : (tables_of new).nodes ≡ (tables_of old).nodes ++ entered g more
  pub loose : numbers_of new.loose.items ≡ numbers_of old.loose.items ++ unentered g more

-- bytes that are one of these spellings are appended
abbrev pub AddsBy : (List ℕ → Type 0) → Output → Output → Type 0
AddsBy P old new = (b : List ℕ) × P b × Adds b old new

-- the bytes of the canonical case of a value that is no node
abbrev pub IsLeafSpelled : Leaf → List ℕ → Type 0
IsLeafSpelled undefined b = b ≡ 0x06 ∷ []
IsLeafSpelled null b = b ≡ 0x05 ∷ []
IsLeafSpelled (boolean false) b = b ≡ 0x01 ∷ 0 ∷ []
IsLeafSpelled (boolean true) b = b ≡ 0x01 ∷ 1 ∷ []
IsLeafSpelled (integer n) b = ⊥
IsLeafSpelled (double p) b = (p < 2 ^ 64) × (b ≡ 0x00 ∷ to_be_bytes w64 p)
IsLeafSpelled (text x) b =
    IsText x
    × (((length x < 2 ^ 16) × (b ≡ 0x02 ∷ to_be_bytes w16 (length x) ++ x))
    ⊎ ((2 ^ 16 ≤ length x) × (length x < 2 ^ 32) × (b ≡ 0x0C ∷ to_be_bytes w32 (length x) ++ x)))

-- what stands behind the marker and the count of a node, or behind its class
pub data Segment : Type 0 where
  name : (x : List ℕ) → Segment
  value : (v : Value) → Segment
  ending : Segment

abbrev pub values_then : List Value → List Segment
values_then [] = []
values_then (v ∷ vs) = value v ∷ values_then vs

-- pairs, ended by the empty name and the marker of the end
abbrev pub pairs_then : List (List ℕ × Value) → List Segment
pairs_then [] = name [] ∷ ending ∷ []
pairs_then (p ∷ w) = name p.0 ∷ value p.1 ∷ pairs_then w

-- the values among the segments
abbrev pub segment_values : List Segment → List Value
segment_values [] = []
segment_values (name x ∷ ps) = segment_values ps
segment_values (value v ∷ ps) = v ∷ segment_values ps
segment_values (ending ∷ ps) = segment_values ps

-- the bytes of the canonical case of a value, also right behind an empty name
abbrev pub IsCanonical : Graph → Value → Tables0 → List ℕ → Tables0 → Type 0
IsCanonical g v t b t' = (may_end : Bool) → (height : ℕ) × (fs : List Field) × SpellsIn0 height canonical g may_end v t fs t' × (b ≡ flat fs)

abbrev pub SegmentBy : Graph → Segment → Tables0 → List ℕ → Tables0 → Type 0
SegmentBy g (name x) t b t' = IsText x × (length x < 2 ^ 16) × (b ≡ to_be_bytes w16 (length x) ++ x) × (t' ≡ t)
SegmentBy g (value v) t b t' = IsCanonical g v t b t'
SegmentBy g ending t b t' = (b ≡ 0x09 ∷ []) × (t' ≡ t)

-- segments one after the other
abbrev pub Segments : Graph → List Segment → Tables0 → List ℕ → Tables0 → Type 0
Segments g [] t b t' = (b ≡ []) × (t' ≡ t)
Segments g (p ∷ ps) t b t' = Then (SegmentBy g p) (Segments g ps) t b t'

-- from segments that were to be written to those that are left: what spells those that are left spells all, behind the bytes that were appended, and
-- what is met again over those that are left is met again over all
pub record Leads (g : Graph) (whole left : List Segment) (old new : Output) : Type 0 where
  pub bytes : List ℕ
  pub appended : new.bytes.items ≡ old.bytes.items ++ bytes
  pub completes : (more : List ℕ) (t : Tables0) → Segments g left (tables_of new) more t → Segments g whole (tables_of old) (bytes ++ more) t
  pub meets : (all again : List ℕ) → Meets g (done_of old) (segment_values whole) all again
      → (rest : List ℕ) × Meets g (done_of new) (segment_values left) all rest × ((k : ℕ) → IsAgain rest k → IsAgain again k)
  pub later : length (done_of old) ≤ length (done_of new)
  pub grown : Grown g old new
  pub sound : AreTables0 g (tables_of old) → AreTables0 g (tables_of new)

-- a writer of these segments meets something that has no canonical spelling
abbrev pub Stops : Graph → List Segment → Output → Type 0
Stops g segments old =
    (before : ℕ) → before ≤ length (done_of old) → (all again : List ℕ) → Meets g (done_of old) (segment_values segments) all again
    → (place : ℕ) × (i : ℕ) × (kind : LackKind) × (slice_get all place ≡ Some i)
    × PlaceLacks0 g (outside_of g (tables_of old)) before all again place i kind

-- the first bytes of an array or an object, and the segments behind them
pub data Opens (a : Node) : List ℕ → List Segment → Type 0 where
  plain : (c : Traits) → a.head ≡ object c → IsOpenTraits c → c.class ≡ [] → Opens a (0x03 ∷ []) (pairs_then (by_name a.names))
  typed : (c : Traits) → a.head ≡ object c → IsOpenTraits c → c.class ≢ [] → IsText c.class → length c.class < 2 ^ 16
      → Opens a (0x10 ∷ to_be_bytes w16 (length c.class) ++ c.class) (pairs_then (by_name a.names))
  ecma : a.head ≡ array → a.values ≡ [] → a.names ≢ [] → length a.names < 2 ^ 32
      → Opens a (0x08 ∷ to_be_bytes w32 (length a.names)) (pairs_then (by_name a.names))
  strict : a.head ≡ array → a.names ≡ [] → length a.values < 2 ^ 32 → Opens a (0x0A ∷ to_be_bytes w32 (length a.values)) (values_then a.values)

pub record Opened (a : Node) (before after : List Segment) (old new : Output) : Type 0 where
  pub bytes : List ℕ
  pub segments : List Segment
  pub is : Opens a bytes segments
  pub adds : Adds bytes old new
  pub left : after ≡ segments ++ before
