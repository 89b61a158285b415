-- What a stack of open nodes is: what is still to be read, as a layout, and what holds of the arena. A device by which verdicts are proved.
use Rattle.std.specs.Prelude.{◌≡◌, ℕ, suc, ◌<◌, ◌≤◌, true, false, List, [], ◌∷◌, ◌++◌, length, ◌⊎◌, Result, Ok, Err, if◌then◌else◌, Some}
use Rattle.amf_io.specs.declared.window.Window.{Window}
use Rattle.amf_io.specs.declared.cursor.Cursor.{Cursor}
use Rattle.amf_io.specs.declared.ends.ReadEnd.{ReadEnd}
use Rattle.amf_io.specs.Layout.{Layout, give, stuck, bind}
use Rattle.amf_io.specs.Cursor.{place}
use Rattle.amf_io.specs.ReadEnds.{GoesBy}
use Rattle.amf_io.specs.CursorReads.{Answers, Ends, Leads}
use Rattle.amf_graph.specs.declared.value.Value.{Value}
use Rattle.amf_graph.specs.declared.value.Value.TheVariants as value
use Rattle.amf_graph.specs.declared.value.NodeId.{NodeId}
use Rattle.amf_graph.specs.declared.part.Part.{Part}
use Rattle.amf_graph.specs.declared.part.Part.TheVariants as part
use Rattle.amf_graph.specs.Graph as graph
use Rattle.amf_graph.specs.Arena.{Arena, StoredNode, IsBuilt, IsTextId, Names, head_content}
use Rattle.amf_graph.specs.Building.{kept_node, stored_at, more_value, more_name}
use Rattle.amf3_spelling.specs.Reads3.{Grows}
use Rattle.amf0_spelling.specs.declared.marker.Marker0.{Marker0}
use Rattle.amf0_spelling.specs.declared.tables0.Tables0.{Tables0}
use Rattle.amf0_spelling.specs.TableParts0.{shown_tables}
use Rattle.amf0_spelling.specs.KeptTables0.{KeptTables0}
use Rattle.amf0_layout_laws.specs.Layout0State.{State0, state0_of, changed0}
use Rattle.amf0_layout_laws.specs.Layout0.{ValueRead0, read0, Reader0, items0, pairs0, shut0, behind0, value0_layout}
use Rattle.amf3_read.specs.declared.opening.Parts.TheVariants as parts
use Rattle.amf3_read.specs.declared.frame.Role.TheVariants as role3
use Rattle.amf3_read.specs.Filling.{IsOpened}
use Rattle.amf_wire_fields.specs.Room.{left_of}
use Rattle.amf3_read.specs.Frames.{Fuel, Enough, Suits, WaitsFor}
use Rattle.amf0_read.specs.declared.frame.Todo.{Todo}
use Rattle.amf0_read.specs.declared.frame.Todo.TheVariants.{Items, Pairs}
use Rattle.amf0_read.specs.declared.frame.Role.{Role}
use Rattle.amf0_read.specs.declared.frame.Role.TheVariants.{Item, Named}
use Rattle.amf0_read.specs.declared.frame.Frame.{Frame}
use Rattle.amf0_read.specs.declared.frame.Now.{Now}
use Rattle.amf0_read.specs.declared.frame.Now.TheVariants as now
use Rattle.amf0_read.specs.declared.node.Start.{Start}
use Rattle.amf0_read.specs.declared.node.Start.TheVariants as start
use Rattle.amf0_read.specs.declared.fill.Step.{Step}
use Rattle.amf0_read.specs.declared.fill.Step.TheVariants as step
use Rattle.amf0_read.specs.declared.fill.Filled.{Filled}
use Rattle.amf0_read.specs.declared.fill.Filled.TheVariants as filled
use Rattle.amf0_read.specs.Ready0.{Ready0, StillReady0}

-- The part that a value is, and what is still to be read behind it.

abbrev pub part_of : Role → Value → Part
part_of (Item n) v = part.Item v
part_of (Named x) v = part.Named x v

abbrev pub todo_behind : Role → Todo
todo_behind (Item n) = Items n
todo_behind (Named x) = Pairs

-- Layouts.

-- the state that a builder and its tables are
abbrev pub state_in : Arena → Tables0 → State0
state_in a t = state0_of a (shown_tables t)

-- what is still to be read of an open node, and then it is closed
abbrev pub todo : Reader0 → ℕ → ℕ → Todo → State0 → Layout ValueRead0
todo v m i (Items n) s = bind (items0 v i n s) (λ u. give (shut0 i u))
todo v m i Pairs s = bind (pairs0 v m i s) (λ u. give (shut0 i u))

-- what follows the value that a frame waits for
abbrev pub resume : Reader0 → ℕ → ℕ → Role → ValueRead0 → Layout ValueRead0
resume v m i (Item n) x = todo v m i (Items n) (changed0 (more_value x.value) i x.state)
resume v m i (Named y) x = if x.ended then give (shut0 i x.state) else todo v m i Pairs (changed0 (more_name y.0 x.value) i x.state)

-- what follows a value, by the frames that wait, the innermost first
abbrev pub rest : List Fuel → List Frame → ValueRead0 → Layout ValueRead0
rest us [] x = give x
rest [] (f ∷ fs) x = stuck
rest (u ∷ us) (f ∷ fs) x = bind (resume (value0_layout u.values) u.pairs f.node.0 f.role x) (rest us fs)

-- what is read now
abbrev pub current : Fuel → Now → State0 → Layout ValueRead0
current u (now.Begun m) s = behind0 (value0_layout u.values) u.pairs s (Some m)
current u (now.Given v) s = give (read0 v s)
current u (now.Open node p) s = todo (value0_layout u.values) u.pairs node.0 p s

-- the fuel is more than the bytes that may come
abbrev pub HaveFuel : ℕ → List Fuel → List Frame → Type 0
HaveFuel left us [] = Unit {0}
HaveFuel left [] (f ∷ fs) = ⊥
HaveFuel left (u ∷ us) (f ∷ fs) = Enough left u × HaveFuel left us fs

-- What holds of the arena.

-- a node with these names and values lacks just these parts; pairs are an array's or an object's
abbrev pub Lacks : graph.Head → StoredNode → Todo → Type 0
Lacks h m (Items n) = Suits h m (parts.Items n)
Lacks h m Pairs = Suits h m (parts.Array 0) ⊎ Suits h m (parts.Object 0 true)

-- with the value that it waits for
abbrev pub LacksFor : graph.Head → StoredNode → Role → Type 0
LacksFor h m (Item n) = WaitsFor h m role3.Item (parts.Items n)
LacksFor h m (Named x) = WaitsFor h m (role3.Named x) (parts.Array 0) ⊎ WaitsFor h m (role3.Named x) (parts.Object 0 true)

abbrev pub RoleNames : Arena → Role → Type 0
RoleNames a (Item n) = Unit {0}
RoleNames a (Named x) = IsTextId a x.0

-- an open node, and what held before it was opened
pub record IsOver (Below : Arena → Type 0) (left : ℕ) (b : Arena) (i : ℕ) : Type 0 where
  pub opened : IsOpened b i left
  pub below : Below opened.before
  pub built : IsBuilt opened.before

pub record Waits (Below : Arena → Type 0) (left : ℕ) (b : Arena) (f : Frame) : Type 0 where
  pub over : IsOver Below left b f.node.0
  pub names : RoleNames b f.role
  pub lacks : LacksFor (head_content b (stored_at b f.node.0).head) (stored_at b f.node.0) f.role

-- the frames' nodes were opened one after another. Each node but the innermost has a byte to spare
abbrev pub Nested : ℕ → List Frame → Arena → Type 0
Nested left [] b = Unit {0}
Nested left (f ∷ fs) b = Waits (Nested (suc left) fs) left b f

pub record IsOpen (Below : Arena → Type 0) (left : ℕ) (b : Arena) (i : ℕ) (p : Todo) : Type 0 where
  pub over : IsOver Below left b i
  pub lacks : Lacks (head_content b (stored_at b i).head) (stored_at b i) p

-- with nothing said of what is below
abbrev pub IsOpenAlone : ℕ → Arena → ℕ → Todo → Type 0
IsOpenAlone left b i p = IsOpen (Nested (suc left) []) left b i p

-- a value's marker, which was read, is the byte to spare
abbrev pub Holds : ℕ → Now → List Frame → Arena → Type 0
Holds left (now.Begun m) fs b = Nested (suc left) fs b
Holds left (now.Given v) fs b = Nested (suc left) fs b × Names b v
Holds left (now.Open node p) fs b = IsOpen (Nested (suc left) fs) left b node.0 p

-- How a value begins.

abbrev pub now_of : Start → Now
now_of (start.Value v) = now.Given v
now_of (start.Open node p) = now.Open node p

-- a layout of a value is read as far as a value, or as the parts of an open node
abbrev pub StartsBy : {S : Type 0} → (S → Type 0) → (S → List ℕ) → Reader0 → ℕ → Layout ValueRead0 → State0 → Cursor S Window → Cursor S Window → Result Start ReadEnd → Type 0
StartsBy tells left v m t z c d (Ok (start.Value x)) = Answers tells left (λ x. read0 x z) t c d (Ok x)
StartsBy tells left v m t z c d (Ok (start.Open node p)) = Leads tells left t (todo v m node.0 p z) c d
StartsBy tells left v m t z c d (Err e) = Ends tells left t c d e

-- what stands behind a marker is read so, whatever reads the values within
abbrev pub StartsBehind : {S : Type 0} → (S → Type 0) → (S → List ℕ) → Marker0 → State0 → State0 → Cursor S Window → Cursor S Window → Result Start ReadEnd → Type 0
StartsBehind tells left m z z' c d r = (v : Reader0) (n : ℕ) → left_of c < n → StartsBy tells left v n (behind0 v n z (Some m)) z' c d r

-- an open node that was read as far as its parts
pub record OpenedFrom (a b : Arena) (left i : ℕ) (p : Todo) : Type 0 where
  pub opened : IsOpened b i left
  pub grows : Grows a opened.before
  pub built : IsBuilt a → IsBuilt opened.before
  pub lacks : Lacks (head_content b (stored_at b i).head) (stored_at b i) p

abbrev pub StartHolds : Arena → Arena → ℕ → Start → Type 0
StartHolds a b left (start.Value v) = Names b v × Grows a b
StartHolds a b left (start.Open node p) = OpenedFrom a b left node.0 p

-- How an open node goes on: up to the marker of its next value, or to its end.

pub record LeadsToValue {S : Type 0} (tells : S → Type 0) (left : S → List ℕ) (t : Layout ValueRead0) (i : ℕ) (x : Role) (now : Now) (z : State0) (c d : Cursor S Window) : Type 0 where
  pub fuel : Fuel
  pub waiting : Fuel
  pub enough : Enough (left_of d) fuel
  pub enough_waiting : Enough (left_of d) waiting
  pub leads : Leads tells left t (bind (current fuel now z) (resume (value0_layout waiting.values) waiting.pairs i x)) c d

abbrev pub GoesOn : {S : Type 0} → (S → Type 0) → (S → List ℕ) → Layout ValueRead0 → ℕ → State0 → Cursor S Window → Cursor S Window → Result Step ReadEnd → Type 0
GoesOn tells left t i z c d (Ok (step.Wait x m)) = LeadsToValue tells left t i x (now.Begun m) z c d
GoesOn tells left t i z c d (Ok step.Closed) = Leads tells left t (give (read0 (value.Node (record { 0 = i })) z)) c d
GoesOn tells left t i z c d (Err e) = Ends tells left t c d e

-- with enough fuel an open node, of which so much is still to be read, goes on so
abbrev pub GoesOnWith : {S : Type 0} → (S → Type 0) → (S → List ℕ) → ℕ → Todo → State0 → State0 → Cursor S Window → Cursor S Window → Result Step ReadEnd → Type 0
GoesOnWith tells left i p z z' c d r = (fuel : Fuel) → Enough (left_of c) fuel → GoesOn tells left (todo (value0_layout fuel.values) fuel.pairs i p z) i z' c d r

abbrev pub StepHolds : Arena → Arena → ℕ → Step → Type 0
StepHolds a b i (step.Wait x m) = Grows a b × RoleNames b x × LacksFor (head_content b (stored_at b i).head) (stored_at b i) x
StepHolds a b i step.Closed = (i < length b.nodes) × ((before : Arena) (n : StoredNode) → i ≡ length before.nodes → Grows (kept_node before n) a → Grows before b)

-- the marker of the value that is waited for adds nothing
abbrev pub owed_at : Step → ℕ
owed_at (step.Wait x m) = 1
owed_at step.Closed = 0

-- where it waits, a marker was read
abbrev pub StepMoves : ℕ → ℕ → Step → Type 0
StepMoves old new (step.Wait x m) = old < new
StepMoves old new step.Closed = old ≤ new

-- The loop.

-- the marker that was read has added nothing yet
abbrev pub owed : Now → ℕ
owed (now.Begun m) = 1
owed _ = 0

-- the measure: a byte for each value that begins, and what is done without one
abbrev pub weight_of : Now → ℕ
weight_of (now.Begun m) = 2
weight_of (now.Given v) = 0
weight_of (now.Open node p) = 1

-- what is read leads from what was to be read to what is still to be read
pub record IsAt {S : Type 0} (tells : S → Type 0) (left : S → List ℕ) (t : Layout ValueRead0) (now : Now) (fs : List Frame) (z : State0) (c d : Cursor S Window) : Type 0 where
  pub fuel : Fuel
  pub fuels : List Fuel
  pub enough : Enough (left_of d) fuel
  pub fueled : HaveFuel (left_of d) fuels fs
  pub leads : Leads tells left t (bind (current fuel now z) (rest fuels fs)) c d

-- the loop's invariant, the innermost frame first: from what was read first, with these frames
pub record StackSo {S : Type 0} (tells : S → Type 0) (left : S → List ℕ) (faults : S → ℕ) (old : Now) (es : List Frame) (a b : Arena) (t u : KeptTables0) (c d : Cursor S Window) (now : Now) (fs : List Frame) : Type 0 where
  pub goes : GoesBy {X = Unit {0}} tells left faults c d (Ok tt)
  pub ready : Ready0 (owed now) b u d
  pub still_ready : StillReady0 (owed now) (owed old) a b u c d
  pub holds : Holds (left_of d) now fs b
  pub at : (fuel : Fuel) (fuels : List Fuel) → Enough (left_of c) fuel → HaveFuel (left_of c) fuels es → IsAt tells left (bind (current fuel old (state0_of a t)) (rest fuels es)) now fs (state0_of b u) c d

-- The loop over the values of one node.

-- whatever was to be read first, and whatever is open below: where it led to this open node, it leads on to what was read last, with these frames above those below
pub record Carries {S : Type 0} (tells : S → Type 0) (left : S → List ℕ) (faults : S → ℕ) (i : NodeId) (p : Todo) (b b1 : Arena) (u u1 : KeptTables0) (d e : Cursor S Window) (last : Now) (above : List Frame) : Type 0 where
  pub on : (old : Now) (es fs : List Frame) (a : Arena) (t : KeptTables0) (c : Cursor S Window) → StackSo tells left faults old es a b t u c d (now.Open i p) fs → StackSo tells left faults old es a b1 t u1 c e last (above ++ fs)

-- or to an end
pub record CarriesEnd {S : Type 0} (tells : S → Type 0) (left : S → List ℕ) (faults : S → ℕ) (i : NodeId) (p : Todo) (b : Arena) (u : KeptTables0) (d e : Cursor S Window) (end : ReadEnd) : Type 0 where
  pub on : (old : Now) (es fs : List Frame) (a : Arena) (t : KeptTables0) (c : Cursor S Window) → StackSo tells left faults old es a b t u c d (now.Open i p) fs → (fuel : Fuel) (fuels : List Fuel) → Enough (left_of c) fuel → HaveFuel (left_of c) fuels es → Ends tells left (bind (current fuel old (state0_of a t)) (rest fuels es)) c e end

abbrev pub Fills : {S : Type 0} → (S → Type 0) → (S → List ℕ) → (S → ℕ) → NodeId → Todo → Arena → Arena → KeptTables0 → KeptTables0 → Cursor S Window → Cursor S Window → Result Filled ReadEnd → Type 0
Fills tells left faults i p b b1 u u1 d e (Ok filled.Closed) = Carries tells left faults i p b b1 u u1 d e (now.Given (value.Node i)) []
Fills tells left faults i p b b1 u u1 d e (Ok (filled.Within x j q)) = Carries tells left faults i p b b1 u u1 d e (now.Open j q) (record { node = i; role = x } ∷ [])
Fills tells left faults i p b b1 u u1 d e (Err end) = CarriesEnd tells left faults i p b u d e end

-- where a node begins within it, a marker was read
abbrev pub FilledMoves : ℕ → ℕ → Filled → Type 0
FilledMoves old new filled.Closed = old ≤ new
FilledMoves old new (filled.Within x j q) = old < new

-- the loop's invariant: by itself, and over whatever is below
pub record FilledSo {S : Type 0} (tells : S → Type 0) (left : S → List ℕ) (faults : S → ℕ) (i : NodeId) (p : Todo) (b b1 : Arena) (u u1 : KeptTables0) (d e : Cursor S Window) (q : Todo) : Type 0 where
  pub here : StackSo tells left faults (now.Open i p) [] b b1 u u1 d e (now.Open i q) []
  pub carries : Carries tells left faults i p b b1 u u1 d e (now.Open i q) []
  pub stays : place d ≤ place e

-- with fuel enough for an open node and those around it, a value is read so
abbrev pub ReadsOn : {S : Type 0} → (S → Type 0) → (S → List ℕ) → Now → List Frame → State0 → State0 → Cursor S Window → Cursor S Window → Result Value ReadEnd → Type 0
ReadsOn tells left now fs z z' c d r = (fuel : Fuel) (fuels : List Fuel) → Enough (left_of c) fuel → HaveFuel (left_of c) fuels fs → Answers tells left (λ v. read0 v z') (bind (current fuel now z) (rest fuels fs)) c d r

-- a value is read by its layout, with more fuel than bytes that are left
abbrev pub AnswersValue0 : {S : Type 0} → (S → Type 0) → (S → List ℕ) → State0 → State0 → Cursor S Window → Cursor S Window → Result Value ReadEnd → Type 0
AnswersValue0 tells left z z' c d r = (n : ℕ) → left_of c < n → Answers tells left (λ v. read0 v z') (value0_layout n false z) c d r
