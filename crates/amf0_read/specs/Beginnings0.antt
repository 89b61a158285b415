-- How a value begins, with the bytes that were read so far. A device by which verdicts are proved.
use Rattle.std.specs.Prelude.{◌≡◌, ◌≢◌, ℕ, Bool, true, false, List, [], ◌∷◌, ◌++◌, take, reverse, Result, Ok, Err, Some}
use Rattle.amf_io.specs.declared.window.Window.{Window}
use Rattle.amf_io.specs.declared.cursor.Cursor.{Cursor}
use Rattle.amf_io.specs.declared.ends.ReadEnd.{ReadEnd}
use Rattle.amf_io.specs.Field.{flat}
use Rattle.amf_io.specs.Layout.{Layout, bind}
use Rattle.amf_io.specs.CursorReads.{Ends, Leads}
use Rattle.amf0_spelling.specs.declared.form.Form.{Form}
use Rattle.amf0_spelling.specs.declared.form.Form.TheVariants as form
use Rattle.amf0_spelling.specs.Form.{call_front}
use Rattle.amf0_layout_laws.specs.Layout0State.{State0}
use Rattle.amf0_layout_laws.specs.Layout0.{ValueRead0, behind0, value0_layout}
use Rattle.amf_wire_fields.specs.Room.{left_of}
use Rattle.amf3_read.specs.Frames.{Fuel, Enough}
use Rattle.amf0_read.specs.declared.beginning.Beginning.{Beginning}
use Rattle.amf0_read.specs.declared.frame.Frame.{Frame}
use Rattle.amf0_read.specs.declared.frame.Now.{Now}
use Rattle.amf0_read.specs.Frames0.{current, rest, HaveFuel}
use Rattle.amf0_spelling.specs.declared.marker.Marker0.TheVariants as marker

-- what was read leads from one layout to another, and these are its bytes
pub record LeadsWith {S Y : Type 0} (tells : S → Type 0) (left : S → List ℕ) (t u : Layout Y) (b : List ℕ) (c d : Cursor S Window) : Type 0 where
  pub leads : Leads tells left t u c d
  pub are : flat leads.fields ≡ b

-- whatever follows these bytes, it begins as a call does, or does not
abbrev pub TellsCall : Bool → List ℕ → Type 0
TellsCall true b = (more : List ℕ) → take 6 (b ++ more) ≡ call_front
TellsCall false b = (more : List ℕ) → take 6 (b ++ more) ≢ call_front

-- behind these bytes, what was read leads to what is still to be read
pub record BeginsBy {S : Type 0} (tells : S → Type 0) (left : S → List ℕ) (t : Layout ValueRead0) (start : List ℕ) (is_call : Bool) (now : Now) (fs : List Frame) (z : State0) (c d : Cursor S Window) : Type 0 where
  pub fuel : Fuel
  pub fuels : List Fuel
  pub enough : Enough (left_of d) fuel
  pub fueled : HaveFuel (left_of d) fuels fs
  pub bytes : List ℕ
  pub leads : LeadsWith tells left t (bind (current fuel now z) (rest fuels fs)) bytes c d
  pub call : TellsCall is_call (start ++ bytes)

abbrev pub LeadsBy : {S : Type 0} → (S → Type 0) → (S → List ℕ) → Layout ValueRead0 → List ℕ → State0 → Cursor S Window → Cursor S Window → Result Beginning ReadEnd → Type 0
LeadsBy tells left t start z c d (Ok x) = BeginsBy tells left t start x.is_call x.now (reverse x.frames.items) z c d
LeadsBy tells left t start z c d (Err e) = Ends tells left t c d e

abbrev pub LeadsOn : {S : Type 0} → (S → Type 0) → (S → List ℕ) → ℕ → State0 → State0 → Cursor S Window → Cursor S Window → Result Beginning ReadEnd → Type 0
LeadsOn tells left n s z c d result = LeadsBy tells left (value0_layout n false s) [] z c d result

-- behind the marker of an array with items
abbrev pub LeadsItems : {S : Type 0} → (S → Type 0) → (S → List ℕ) → ℕ → State0 → State0 → Cursor S Window → Cursor S Window → Result Beginning ReadEnd → Type 0
LeadsItems tells left n s z c d result = LeadsBy tells left (behind0 (value0_layout n) n s (Some marker.Strict)) (0x0A ∷ []) z c d result

-- the form of a value, by its beginning and by whether a marker has switched
abbrev pub form_of : Bool → Bool → Form
form_of true switched = form.Call
form_of false true = form.Amf3
form_of false false = form.Plain
