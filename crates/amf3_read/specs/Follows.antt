-- How the loop over the open nodes goes on by one value. A device by which verdicts are proved.
use Rattle.std.specs.Prelude.{ℕ, ◌<◌, List, Result, IfOk, IfErr}
use Rattle.amf_io.specs.declared.source.Source.{Ghosts as SourceMembers}
use Rattle.amf_io.specs.declared.window.Window.{Window}
use Rattle.amf_io.specs.declared.cursor.Cursor.{Cursor}
use Rattle.amf_io.specs.declared.ends.ReadEnd.{ReadEnd}
use Rattle.amf_io.specs.CursorReads.{Ends}
use Rattle.amf_graph.specs.Arena.{Arena}
use Rattle.amf_graph.specs.declared.value.NodeId.{NodeId}
use Rattle.amf_graph.specs.declared.value.Value.{Value}
use Rattle.amf3_spelling.specs.KeptTables.{KeptTables}
use Rattle.amf3_layout_laws.specs.Layout3State.{state_of}
use Rattle.amf3_layout_laws.specs.Layout3.{value_layout}
use Rattle.amf3_read.specs.declared.frame.Frame.{Frame}
use Rattle.amf3_read.specs.Now.{Now}
use Rattle.amf3_read.specs.Now as now
use Rattle.amf3_read.specs.declared.frame.OpenNode.{OpenNode}
use Rattle.amf3_read.specs.declared.frame.Role.TheVariants as role
use Rattle.amf3_read.specs.declared.opening.Parts.{Parts}
use Rattle.amf_wire_fields.specs.Room.{left_of}
use Rattle.amf3_read.specs.Frames.{Waits, StackSo}

-- a frame that waits, whatever stands below it
abbrev pub Anything : Arena → Type 0
Anything a = Unit {0}

abbrev pub IsWaiting : ℕ → Arena → Frame → Type 0
IsWaiting left b f = Waits Anything left b f

-- a node that waits for the value of a key
abbrev pub entry_of : NodeId → Value → Parts → Frame
entry_of i k p = record { node = i; role = role.Entry k; todo = p }

-- a node that waits for a key
abbrev pub key_frame_of : NodeId → Parts → Frame
key_frame_of i p = record { node = i; role = role.Key; todo = p }

-- a node that waits for an item
abbrev pub item_of : NodeId → Parts → Frame
item_of i p = record { node = i; role = role.Item; todo = p }

-- wherever the loop began, it goes on with an open node, or ends as the layout does
pub record Follows {S : Type 0} (tells : S → Type 0) (left : S → List ℕ) (faults : S → ℕ) (b b1 : Arena) (u u1 : KeptTables) (d e : Cursor S Window) (w : Now) (fs gs : List Frame) (result : Result OpenNode ReadEnd) : Type 0 where
  pub goes_on : (a : Arena) (t : KeptTables) (c : Cursor S Window) → StackSo tells left faults a b t u c d w fs → IfOk result (λ o. StackSo tells left faults a b1 t u1 c e (now.unfinished o.node o.todo) gs)
  pub ends : (a : Arena) (t : KeptTables) (c : Cursor S Window) → StackSo tells left faults a b t u c d w fs → (n : ℕ) → left_of c < n → IfErr result (Ends tells left (value_layout n (state_of a t)) c e)

-- the same by the members of the source
abbrev pub FollowsOver : {S : Type 0} → SourceMembers S → (b b1 : Arena) (u u1 : KeptTables) (d e : Cursor S Window) → Now → (fs gs : List Frame) → Result OpenNode ReadEnd → Type 0
FollowsOver s b b1 u u1 d e w fs gs result = Follows s.tells s.left s.faults b b1 u u1 d e w fs gs result

-- the loop began somewhere, and stands so
pub record Stands {S : Type 0} (tells : S → Type 0) (left : S → List ℕ) (faults : S → ℕ) (b : Arena) (u : KeptTables) (d : Cursor S Window) (w : Now) (fs : List Frame) : Type 0 where
  pub arena : Arena
  pub tables : KeptTables
  pub cursor : Cursor S Window
  pub so : StackSo tells left faults arena b tables u cursor d w fs

abbrev pub StandsOver : {S : Type 0} → SourceMembers S → Arena → KeptTables → Cursor S Window → Now → List Frame → Type 0
StandsOver s b u d w fs = Stands s.tells s.left s.faults b u d w fs
