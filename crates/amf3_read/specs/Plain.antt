-- A value that is read from bytes that are ahead, without a builder. A device by which verdicts are proved.
use Rattle.std.specs.Prelude.{◌≡◌, ℕ, ◌/◌, ◌%◌, ◌<◌, ◌≤◌, ◌^◌, true, false, List, take, drop, slice_get, slice_index, Some, Ok}
use Rattle.std.specs.Int.{from_be_bytes, w64}
use Rattle.amf_wire.specs.Integer.{IsInteger, integer_of}
use Rattle.amf_wire.specs.U29Answer.{IsWholeU29}
use Rattle.amf_io.specs.declared.window.Window.{Window}
use Rattle.amf_io.specs.declared.cursor.Cursor.{Cursor}
use Rattle.amf_io.specs.declared.source.Source.{Ghosts as SourceMembers}
use Rattle.amf_io.specs.Cursor.{place}
use Rattle.amf_io.specs.ReadEnds.{IsPlaced, GoesBy}
use Rattle.amf_graph.specs.Arena.{Arena, Names}
use Rattle.amf_graph.specs.declared.value.TextId.{TextId}
use Rattle.amf_graph.specs.declared.value.Value.{Value}
use Rattle.amf_graph.specs.declared.value.Value.TheVariants as value
use Rattle.amf3_spelling.specs.KeptTables.{KeptTables, AreTablesIn}
use Rattle.amf3_spelling.specs.Markers3.{marker_at}
use Rattle.amf3_spelling.specs.declared.marker.Marker.{Marker}
use Rattle.amf3_spelling.specs.declared.marker.Marker.TheVariants as marker
use Rattle.amf3_layout_laws.specs.Layout3State.{state_of}
use Rattle.amf3_read.specs.declared.node.Start.TheVariants as start
use Rattle.amf3_read.specs.Frames.{Starts}
use Rattle.amf_wire_fields.specs.Room.{left_of}

-- the first bytes, so many, are those of an integer; of a double; of a header that names a text of the table

pub record IsIntegerAt (bytes : List ℕ) (v : Value) (used : ℕ) : Type 0 where
  pub number : ℕ
  pub whole : IsWholeU29 bytes number used
  pub fits : IsInteger (integer_of number)
  pub is : v ≡ value.Integer (integer_of number)

pub record IsDoubleAt (bytes : List ℕ) (v : Value) (used : ℕ) : Type 0 where
  pub eight : used ≡ 8
  pub bits : ℕ
  pub fits : bits < 2 ^ 64
  pub of_bytes : bits ≡ from_be_bytes w64 (take 8 bytes)
  pub is : v ≡ value.Double (record { 0 = bits })

pub record IsTextAt (t : KeptTables) (bytes : List ℕ) (v : Value) (used : ℕ) : Type 0 where
  pub header : ℕ
  pub whole : IsWholeU29 bytes header used
  pub even : header % 2 ≡ 0
  pub text : TextId
  pub named : Some text.0 ≡ slice_get t.texts (header / 2)
  pub is : v ≡ value.Text text

-- what a value is of which these bytes begin behind its marker, and how many of them it has
abbrev pub IsBehind : KeptTables → Marker → List ℕ → Value → ℕ → Type 0
IsBehind t marker.Undefined bytes v used = (used ≡ 0) × (v ≡ value.Undefined)
IsBehind t marker.Null bytes v used = (used ≡ 0) × (v ≡ value.Null)
IsBehind t marker.False bytes v used = (used ≡ 0) × (v ≡ value.Bool false)
IsBehind t marker.True bytes v used = (used ≡ 0) × (v ≡ value.Bool true)
IsBehind t marker.Integer bytes v used = IsIntegerAt bytes v used
IsBehind t marker.Double bytes v used = IsDoubleAt bytes v used
IsBehind t marker.Text bytes v used = IsTextAt t bytes v used
IsBehind t (marker.Node kind) bytes v used = ⊥

-- the value whose marker is the first byte, and how many bytes it has behind that
pub record IsPlainAt (t : KeptTables) (bytes : List ℕ) (v : Value) (used : ℕ) : Type 0 where
  pub marker : Marker
  pub known : slice_index bytes 0 ≤ 17
  pub marks : marker ≡ marker_at (slice_index bytes 0)
  pub behind : IsBehind t marker (drop 1 bytes) v used

-- all of the value came, whatever the arena is whose tables these are: neither it nor they change
pub record IsPlain {S : Type 0} (tells : S → Type 0) (left : S → List ℕ) (faults : S → ℕ) (t : KeptTables) (c d : Cursor S Window) (v : Value) : Type 0 where
  pub goes : GoesBy {X = Unit {0}} tells left faults c d (Ok tt)
  pub placed : IsPlaced d
  pub moves : place c < place d
  pub starts : (a : Arena) → AreTablesIn a t → (n : ℕ) → left_of c < n → Starts tells left n (state_of a t) (state_of a t) c d (Ok (start.Value v))
  pub names : (a : Arena) → AreTablesIn a t → Names a v

-- the same by the members of the source
abbrev pub IsPlainOver : {S : Type 0} → SourceMembers S → KeptTables → (c d : Cursor S Window) → Value → Type 0
IsPlainOver s t c d v = IsPlain s.tells s.left s.faults t c d v
