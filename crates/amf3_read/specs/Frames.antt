-- What a stack of open nodes is: what is still to be read, as a layout, and what holds of the arena. A device by which verdicts are proved.
use Rattle.std.specs.Prelude.{◌≡◌, ℕ, zero, suc, ◌+◌, ◌*◌, ◌<◌, ◌≤◌, Bool, true, false, List, [], ◌∷◌, length, ◌⊎◌, Result, Ok, Err, OnOk}
use Rattle.amf_io.specs.declared.window.Window.{Window}
use Rattle.amf_io.specs.declared.cursor.Cursor.{Cursor}
use Rattle.amf_io.specs.declared.ends.ReadEnd.{ReadEnd}
use Rattle.amf_io.specs.Cursor.{place}
use Rattle.amf_io.specs.Layout.{Layout, give, stuck, bind}
use Rattle.amf_io.specs.ReadEnds.{IsPlaced, GoesBy}
use Rattle.amf_io.specs.CursorReads.{Answers, Ends, Leads}
use Rattle.amf_graph.specs.declared.kind.NodeKind.{NodeKind}
use Rattle.amf_graph.specs.declared.wrapped.Wrapped.{Wrapped}
use Rattle.amf_graph.specs.declared.value.Value.{Value}
use Rattle.amf_graph.specs.declared.value.Value.TheVariants as value
use Rattle.amf_graph.specs.Graph as graph
use Rattle.amf_graph.specs.Arena.{Arena, StoredNode, IsBuilt, IsTextId, Names, head_content}
use Rattle.amf_graph.specs.Building.{stored_at, kept_node, shut, more_value, more_name, more_entry}
use Rattle.amf3_spelling.specs.KeptTables.{KeptTables, AreTablesIn}
use Rattle.amf3_spelling.specs.Reads3.{Grows}
use Rattle.amf3_layout_laws.specs.Layout3State.{State3, state_of, changed}
use Rattle.amf3_layout_laws.specs.Layout3.{ValueRead, read, items, entries, pairs, pairs_if, value_layout, node_layout, inline_node}
use Rattle.amf3_read.specs.declared.opening.Parts.{Parts}
use Rattle.amf3_read.specs.declared.opening.Parts.TheVariants.{Array, Object, Items, Entries}
use Rattle.amf3_read.specs.declared.frame.Role.{Role}
use Rattle.amf3_read.specs.declared.frame.Role.TheVariants as role
use Rattle.amf3_read.specs.declared.frame.Frame.{Frame}
use Rattle.amf3_read.specs.Now.{Now}
use Rattle.amf3_read.specs.Now as now
use Rattle.amf3_read.specs.declared.node.Start.{Start}
use Rattle.amf3_read.specs.declared.node.Start.TheVariants as start
use Rattle.amf3_read.specs.declared.fill.Next.{Next}
use Rattle.amf3_read.specs.declared.fill.Next.TheVariants as next
use Rattle.amf3_read.specs.declared.fill.Step.{Step}
use Rattle.amf3_read.specs.declared.fill.Step.TheVariants as step
use Rattle.amf3_read.specs.Filling.{IsOpened}
use Rattle.amf_wire_fields.specs.Room.{left_of}
use Rattle.amf3_read.specs.Ready.{Ready}

-- Layouts.

abbrev pub closed_node : ℕ → State3 → ValueRead
closed_node i s = read (value.Node (record { 0 = i })) (changed shut i s)

-- what is still to be read of an open node, and then it is closed
abbrev pub todo : (State3 → Layout ValueRead) → ℕ → ℕ → Parts → State3 → Layout ValueRead
todo v m i (Array n) s = bind (pairs v m i s) (λ u. bind (items v i n u) (λ w. give (closed_node i w)))
todo v m i (Object n d) s = bind (items v i n s) (λ w. bind (pairs_if d v m i w) (λ x. give (closed_node i x)))
todo v m i (Items n) s = bind (items v i n s) (λ w. give (closed_node i w))
todo v m i (Entries n) s = bind (entries v i n s) (λ w. give (closed_node i w))

-- what follows the value that a frame waits for
abbrev pub resume : (State3 → Layout ValueRead) → ℕ → ℕ → Role → Parts → ValueRead → Layout ValueRead
resume v m i role.Item p x = todo v m i p (changed (more_value x.value) i x.state)
resume v m i (role.Named y) p x = todo v m i p (changed (more_name y.0 x.value) i x.state)
resume v m i role.Key p x = bind (v x.state) (λ y. todo v m i p (changed (more_entry x.value y.value) i y.state))
resume v m i (role.Entry k) p x = todo v m i p (changed (more_entry k x.value) i x.state)

-- the fuel of an open node: for each of its values, and for its pairs
pub record Fuel : Type 0 where
  pub values : ℕ
  pub pairs : ℕ

-- what follows a value, by the frames that wait, the innermost first
abbrev pub rest : List Fuel → List Frame → ValueRead → Layout ValueRead
rest us [] x = give x
rest [] (f ∷ fs) x = stuck
rest (u ∷ us) (f ∷ fs) x = bind (resume (value_layout u.values) u.pairs f.node.0 f.role f.todo x) (rest us fs)

-- what is read now
abbrev pub current : Fuel → Now → State3 → Layout ValueRead
current u now.wanted s = value_layout u.values s
current u (now.given v) s = give (read v s)
current u (now.unfinished node p) s = todo (value_layout u.values) u.pairs node.0 p s

-- the fuel is more than the bytes that may come
abbrev pub Enough : ℕ → Fuel → Type 0
Enough left u = (left < u.values) × (left < u.pairs)

abbrev pub HaveFuel : ℕ → List Fuel → List Frame → Type 0
HaveFuel left us [] = Unit {0}
HaveFuel left [] (f ∷ fs) = ⊥
HaveFuel left (u ∷ us) (f ∷ fs) = Enough left u × HaveFuel left us fs

-- What holds of the arena.

-- a node with these names and values lacks just these parts

abbrev pub LacksItems : graph.Head → StoredNode → ℕ → Type 0
LacksItems h m n = (h ≡ graph.array) ⊎ (((c : Wrapped) × (h ≡ graph.wrapper c) × (length m.values + n ≡ 1) × (m.names ≡ [])) ⊎ ((f : Bool) × (x : List ℕ) × (h ≡ graph.values f x) × (m.names ≡ [])))

abbrev pub Suits : graph.Head → StoredNode → Parts → Type 0
Suits h m (Array n) = h ≡ graph.array
Suits h m (Object n d) = (t : graph.Traits) × (h ≡ graph.object t) × (length m.values + n ≡ length t.sealed) × (d ≡ true → t.dynamic ≡ true) × (t.dynamic ≡ false → m.names ≡ [])
Suits h m (Items n) = LacksItems h m n
Suits h m (Entries n) = (f : Bool) × (h ≡ graph.dictionary f) × (m.names ≡ []) × (k : ℕ) × (length m.values ≡ 2 * k)

-- with the value that it waits for
abbrev pub WaitsFor : graph.Head → StoredNode → Role → Parts → Type 0
WaitsFor h m role.Item (Object n d) = Suits h m (Object (suc n) d)
WaitsFor h m role.Item (Items n) = Suits h m (Items (suc n))
WaitsFor h m (role.Named x) (Array n) = Suits h m (Array n)
WaitsFor h m (role.Named x) (Object n d) = Suits h m (Object n d) × (d ≡ true)
WaitsFor h m role.Key (Entries n) = Suits h m (Entries n)
WaitsFor h m (role.Entry k) (Entries n) = Suits h m (Entries n)
WaitsFor h m _ p = ⊥

abbrev pub RoleNames : Arena → Role → Type 0
RoleNames a (role.Named x) = IsTextId a x.0
RoleNames a (role.Entry k) = Names a k
RoleNames a _ = Unit {0}

-- a key takes its place with its value
abbrev pub spare : Role → ℕ
spare (role.Entry k) = 1
spare _ = 0

-- an open node, and what held before it was opened
pub record IsOver (Below : Arena → Type 0) (left : ℕ) (b : Arena) (i : ℕ) : Type 0 where
  pub opened : IsOpened b i left
  pub below : Below opened.before
  pub built : IsBuilt opened.before

pub record Waits (Below : Arena → Type 0) (left : ℕ) (b : Arena) (f : Frame) : Type 0 where
  pub over : IsOver Below (left + spare f.role) b f.node.0
  pub names : RoleNames b f.role
  pub suits : WaitsFor (head_content b (stored_at b f.node.0).head) (stored_at b f.node.0) f.role f.todo

-- the frames' nodes were opened one after another; what else is new is closed. Each node but the innermost has a byte to spare
abbrev pub Nested : Arena → ℕ → List Frame → Arena → Type 0
Nested a left [] b = Grows a b
Nested a left (f ∷ fs) b = Waits (Nested a (suc left) fs) left b f

pub record IsOpen (Below : Arena → Type 0) (left : ℕ) (b : Arena) (i : ℕ) (p : Parts) : Type 0 where
  pub over : IsOver Below left b i
  pub suits : Suits (head_content b (stored_at b i).head) (stored_at b i) p

abbrev pub Holds : Arena → ℕ → Now → List Frame → Arena → Type 0
Holds a left now.wanted fs b = Nested a left fs b
Holds a left (now.given v) fs b = Nested a (suc left) fs b × Names b v
Holds a left (now.unfinished node p) fs b = IsOpen (Nested a (suc left) fs) left b node.0 p

-- The loop.

-- what is read leads from the value that is wanted to what is still to be read
pub record IsAt {S : Type 0} (tells : S → Type 0) (left : S → List ℕ) (n : ℕ) (s : State3) (now : Now) (fs : List Frame) (z : State3) (c d : Cursor S Window) : Type 0 where
  pub fuel : Fuel
  pub fuels : List Fuel
  pub enough : Enough (left_of d) fuel
  pub fueled : HaveFuel (left_of d) fuels fs
  pub leads : Leads tells left (value_layout n s) (bind (current fuel now z) (rest fuels fs)) c d

-- How a value begins.

-- what Continues says but for the nodes that are open
pub record StillReady {S : Type 0} (spare : ℕ) (a b : Arena) (t : KeptTables) (c d : Cursor S Window) : Type 0 where
  pub built : IsBuilt b
  pub tables : AreTablesIn b t
  pub placed : IsPlaced d
  pub texts : length b.texts + left_of d ≤ length a.texts + left_of c + spare
  pub traits : length b.traits + left_of d ≤ length a.traits + left_of c + spare
  pub nodes : length b.nodes + left_of d ≤ length a.nodes + left_of c + spare

-- a layout of a value is read as far as a value, or as the parts of an open node
abbrev pub StartsBy : {S : Type 0} → (S → Type 0) → (S → List ℕ) → (State3 → Layout ValueRead) → ℕ → Layout ValueRead → State3 → Cursor S Window → Cursor S Window → Result Start ReadEnd → Type 0
StartsBy tells left v m t z c d (Ok (start.Value x)) = Answers tells left (λ x. read x z) t c d (Ok x)
StartsBy tells left v m t z c d (Ok (start.Open node p)) = Leads tells left t (todo v m node.0 p z) c d
StartsBy tells left v m t z c d (Err e) = Ends tells left t c d e

-- a node of this kind behind its marker is read so, whatever reads the values within
abbrev pub StartsNode : {S : Type 0} → (S → Type 0) → (S → List ℕ) → NodeKind → State3 → State3 → Cursor S Window → Cursor S Window → Result Start ReadEnd → Type 0
StartsNode tells left k z z' c d r = (v : State3 → Layout ValueRead) (n : ℕ) → StartsBy tells left v n (node_layout v n k z) z' c d r

-- and one that is given inline, behind its header
abbrev pub StartsInline : {S : Type 0} → (S → Type 0) → (S → List ℕ) → NodeKind → ℕ → State3 → State3 → Cursor S Window → Cursor S Window → Result Start ReadEnd → Type 0
StartsInline tells left k header z z' c d r = (v : State3 → Layout ValueRead) (n : ℕ) → StartsBy tells left v n (inline_node v n k header z) z' c d r

-- with some fuel that is left
pub record Starts {S : Type 0} (tells : S → Type 0) (left : S → List ℕ) (n : ℕ) (s z : State3) (c d : Cursor S Window) (result : Result Start ReadEnd) : Type 0 where
  pub fuel : ℕ
  pub enough : OnOk result (left_of d < fuel)
  pub starts : StartsBy tells left (value_layout fuel) fuel (value_layout n s) z c d result

-- an open node that was read as far as its parts
pub record OpenedFrom (a b : Arena) (left i : ℕ) (p : Parts) : Type 0 where
  pub opened : IsOpened b i left
  pub grows : Grows a opened.before
  pub built : IsBuilt a → IsBuilt opened.before
  pub suits : Suits (head_content b (stored_at b i).head) (stored_at b i) p

abbrev pub StartHolds : Arena → Arena → ℕ → Start → Type 0
StartHolds a b left (start.Value v) = Names b v × Grows a b
StartHolds a b left (start.Open node p) = OpenedFrom a b left node.0 p

-- How an open node goes on.

pub record LeadsWithFuel {S : Type 0} (tells : S → Type 0) (left : S → List ℕ) (t : Layout ValueRead) (u : ℕ → Layout ValueRead) (c d : Cursor S Window) : Type 0 where
  pub fuel : ℕ
  pub enough : left_of d < fuel
  pub leads : Leads tells left t (u fuel) c d

abbrev pub GoesOn : {S : Type 0} → (S → Type 0) → (S → List ℕ) → (State3 → Layout ValueRead) → ℕ → ℕ → Parts → State3 → State3 → Cursor S Window → Cursor S Window → Result Step ReadEnd → Type 0
GoesOn tells left v m i p s z c d (Ok (step.Wait x q)) = LeadsWithFuel tells left (todo v m i p s) (λ k. bind (v z) (resume v k i x q)) c d
GoesOn tells left v m i p s z c d (Ok (step.Open q)) = LeadsWithFuel tells left (todo v m i p s) (λ k. todo v k i q z) c d
GoesOn tells left v m i p s z c d (Ok step.Closed) = Leads tells left (todo v m i p s) (give (read (value.Node (record { 0 = i })) z)) c d
GoesOn tells left v m i p s z c d (Err e) = Ends tells left (todo v m i p s) c d e

-- with more fuel than bytes that are left an open node, of which so much is still to be read, goes on so
abbrev pub GoesOnWith : {S : Type 0} → (S → Type 0) → (S → List ℕ) → ℕ → Parts → State3 → State3 → Cursor S Window → Cursor S Window → Result Step ReadEnd → Type 0
GoesOnWith tells left i p z z' c d r = (v : State3 → Layout ValueRead) (m : ℕ) → left_of c < m → GoesOn tells left v m i p z z' c d r

abbrev pub StepHolds : Arena → Arena → ℕ → Step → Type 0
StepHolds a b i (step.Wait x q) = (spare x ≡ 0) × Grows a b × RoleNames b x × WaitsFor (head_content b (stored_at b i).head) (stored_at b i) x q
StepHolds a b i (step.Open q) = Grows a b × Suits (head_content b (stored_at b i).head) (stored_at b i) q
StepHolds a b i step.Closed = (i < length b.nodes) × ((before : Arena) (n : StoredNode) → i ≡ length before.nodes → Grows (kept_node before n) a → Grows before b)

-- where it is still open, a name was read
abbrev pub StepMoves : ℕ → ℕ → Step → Type 0
StepMoves old new (step.Open q) = old < new
StepMoves old new _ = Unit {0}

-- what comes next
abbrev pub IsNext : Parts → Next → Type 0
IsNext (Array n) x = x ≡ next.Name
IsNext (Object zero true) x = x ≡ next.Name
IsNext (Object zero false) x = x ≡ next.Nothing
IsNext (Object (suc n) d) x = x ≡ next.Value role.Item (Object n d)
IsNext (Items zero) x = x ≡ next.Nothing
IsNext (Items (suc n)) x = x ≡ next.Value role.Item (Items n)
IsNext (Entries zero) x = x ≡ next.Nothing
IsNext (Entries (suc n)) x = x ≡ next.Value role.Key (Entries n)

abbrev pub IsBehindPairs : Parts → Parts → Type 0
IsBehindPairs (Array n) p = p ≡ Items n
IsBehindPairs (Object n d) p = p ≡ Object n false
IsBehindPairs (Items n) p = p ≡ Items n
IsBehindPairs (Entries n) p = p ≡ Entries n

-- where a value has begun, its first byte came
abbrev pub Moved : Now → ℕ → ℕ → Type 0
Moved now.wanted old new = old ≤ new
Moved _ old new = old < new

-- the loop's invariant, the innermost frame first
pub record StackSo {S : Type 0} (tells : S → Type 0) (left : S → List ℕ) (faults : S → ℕ) (a b : Arena) (t u : KeptTables) (c d : Cursor S Window) (now : Now) (fs : List Frame) : Type 0 where
  pub goes : GoesBy {X = Unit {0}} tells left faults c d (Ok tt)
  pub ready : Ready 0 b u d
  pub still_ready : StillReady 0 a b u c d
  pub holds : Holds a (left_of d) now fs b
  pub at : (n : ℕ) → left_of c < n → IsAt tells left n (state_of a t) now fs (state_of b u) c d
  pub moved : Moved now (place c) (place d)

-- a value is read by its layout, with more fuel than bytes that are left
abbrev pub AnswersValue3 : {S : Type 0} → (S → Type 0) → (S → List ℕ) → State3 → State3 → Cursor S Window → Cursor S Window → Result Value ReadEnd → Type 0
AnswersValue3 tells left z z' c d r = (n : ℕ) → left_of c < n → Answers tells left (λ v. read v z') (value_layout n z) c d r
