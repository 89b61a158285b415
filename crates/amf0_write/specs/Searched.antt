-- How the first lack of a part is looked for. A device of proofs.
use Rattle.std.specs.Prelude.{◌≡◌, ℕ, ◌+◌, ◌<◌, ◌≤◌, ◌^◌, ◌⊎◌, Bool, true, false, List, [], ◌∷◌, ◌++◌, length}
use Rattle.std.specs.Prelude.{take, set, slice_get, Option, Some, None, Result, OnOk}
use Rattle.amf_graph.specs.declared.lack.Lack.{Lack}
use Rattle.amf_graph.specs.declared.lack.LackKind.{LackKind}
use Rattle.amf_graph.specs.declared.lack.LackKind.TheVariants.{NoForm, LongName, Shared, FarReference}
use Rattle.amf_graph.specs.declared.value.Value.{Value as Stored}
use Rattle.amf_graph.specs.Arena.{value_content}
use Rattle.amf_graph.specs.Graph.{Value, node, Graph, node_at}
use Rattle.amf_graph.specs.Lacks.{IsFirstLack}
use Rattle.amf_graph.specs.Order.{Absent, IsDistinct, values_met}
use Rattle.amf_graph.specs.Rooted.{RootedArena, content}
use Rattle.amf0_spelling.specs.Lacks0.{HasNoForm, HasShortNames, enters0, is_loose0, entered}
use Rattle.amf0_spelling.specs.Meets.{Meets}
use Rattle.amf0_spelling.specs.Tables0.{Tables0}
use Rattle.amf3_spelling.specs.Tables.{Tables}
use Rattle.amf0_write.specs.Written0.{tables0, AreTables0}
use Rattle.amf0_write.specs.Writes0.{unentered}
use Rattle.amf0_write.specs.declared.part_lack.Search.{Search}
use Rattle.amf_graph.specs.Renumbered.{numbers_of}
use Rattle.amf_graph.specs.declared.value.NodeId.{NodeId}
use Rattle.amf0_write.specs.declared.meeting.Meeting.{Meeting}
use Rattle.amf0_write.specs.declared.meeting.Meeting.TheVariants.{Never, Alone, At}
use Rattle.amf0_write.specs.PartLacks0.{outside_of, PlaceLacks0, PartLacks0, IsPartLack0}

-- the next index and the nodes that were never met are together no more
abbrev pub places_end : ℕ
places_end = 2 ^ 30

-- the value leads to a lack, behind what is done in these tables
abbrev pub HasPartLack0 : Graph → Value → Tables0 → Type 0
HasPartLack0 g v t =
    (all : List ℕ) (again : List ℕ) → Meets g t.amf3.done (v ∷ []) all again
    → (place : ℕ) × (i : ℕ) × (kind : LackKind) × (slice_get all place ≡ Some i)
    × PlaceLacks0 g (outside_of g t) (length t.amf3.done) all again place i kind

-- how a node was met when the tables had so many places
abbrev pub WasMet : Tables → ℕ → ℕ → Meeting → Type 0
WasMet t count i Never = ((place : ℕ) × (slice_get t.nodes place ≡ Some i) × (count ≤ place)) ⊎ (Absent t.nodes i × Absent t.done i)
WasMet t count i Alone = ((k : ℕ) × (slice_get t.done k ≡ Some i)) × Absent t.nodes i
WasMet t count i (At place) = (slice_get t.nodes place ≡ Some i) × (place < count)

-- how each node was met then, but for these, which count as never met
abbrev pub AreTold : Tables → ℕ → List ℕ → List Meeting → Type 0
AreTold t count loose meetings =
    (i : ℕ) (m : Meeting) → slice_get meetings i ≡ Some m → (WasMet t count i m × Absent loose i)
    ⊎ ((m ≡ Never) × ((k : ℕ) × (slice_get loose k ≡ Some i)))

-- tables that nodes were entered in since, with those that have no place
pub record AreGrownTables (g : Graph) (old new : Tables0) (since : List NodeId) : Type 0 where
  pub sound : AreTables0 g old
  pub once : IsDistinct new.amf3.done
  pub more : List ℕ
  pub done : new.amf3.done ≡ old.amf3.done ++ more
  pub nodes : new.nodes ≡ old.nodes ++ entered g more
  pub without : numbers_of since ≡ unentered g more

-- how a node was met, where these are all that were, of which so many that an index could name are in no table
abbrev pub IsMetAs : Graph → ℕ → List ℕ → ℕ → Meeting → Type 0
IsMetAs g outside met i Never = Absent met i
IsMetAs g outside met i Alone =
    (k : ℕ) × (slice_get met k ≡ Some i)
    × ((enters0 (node_at g i).head ≡ false) ⊎ ((enters0 (node_at g i).head ≡ true) × (length (entered g (take k met)) < outside)))
IsMetAs g outside met i (At place) =
    (k : ℕ) × (slice_get met k ≡ Some i) × (enters0 (node_at g i).head ≡ true) × (length (entered g (take k met)) ≡ outside + place)

-- how each node was met, and the next index
pub record AreMetAs (g : Graph) (outside : ℕ) (met : List ℕ) (meetings : List Meeting) (next : ℕ) : Type 0 where
  pub once : IsDistinct met
  pub told : (i : ℕ) (m : Meeting) → slice_get meetings i ≡ Some m → IsMetAs g outside met i m
  pub level : length (entered g met) ≡ outside + next
  pub all : length meetings ≡ length g.nodes

-- The same by a writer's tables.

abbrev pub HasLackBehind : RootedArena → Stored → Tables → Type 0
HasLackBehind g v t = HasPartLack0 (content g) (value_content g.arena v) (tables0 t)

abbrev pub IsLackBehind : RootedArena → Stored → Tables → Lack → Type 0
IsLackBehind g v t l = IsPartLack0 (content g) (value_content g.arena v) (tables0 t) l.node l.kind

abbrev pub HaveGrown : RootedArena → (old new : Tables) → (since : List NodeId) → Type 0
HaveGrown g old new since = AreGrownTables (content g) (tables0 old) (tables0 new) since

-- and there were so many places
abbrev pub HaveGrownFrom : RootedArena → (count : ℕ) → (old new : Tables) → (since : List NodeId) → Type 0
HaveGrownFrom g count old new since = HaveGrown g old new since × (count ≡ length old.nodes)

abbrev pub AreMetBefore : RootedArena → Tables → List Meeting → (next : ℕ) → Type 0
AreMetBefore g t meetings next = AreMetAs (content g) (outside_of (content g) (tables0 t)) t.done meetings next

-- how many were never met
abbrev pub unmet : List Meeting → ℕ
unmet [] = 0
unmet (Never ∷ ms) = 1 + unmet ms
unmet (Alone ∷ ms) = unmet ms
unmet (At place ∷ ms) = unmet ms

-- why a node that is met now, and was met so, has no spelling
abbrev pub MeetingLacks : Graph → ℕ → Meeting → LackKind → Type 0
MeetingLacks g i Never NoForm = HasNoForm (node_at g i) (node_at g i).head
MeetingLacks g i Never LongName = HasShortNames (node_at g i) → ⊥
MeetingLacks g i Alone Shared = (is_loose0 (node_at g i).head ≡ true) ⊎ (enters0 (node_at g i).head ≡ true)
MeetingLacks g i (At place) FarReference = 2 ^ 16 ≤ place
MeetingLacks g i _ _ = ⊥

-- the first lack, or that there is none
abbrev pub IsLeast : (ℕ → LackKind → Type 0) → Option Lack → Type 0
IsLeast Lacks None = (n : ℕ) (k : LackKind) → Lacks n k → ⊥
IsLeast Lacks (Some l) = IsFirstLack Lacks l.node l.kind

-- a reason at the node of a number is noted where it comes before the least so far
abbrev pub IsLesser : LackKind → ℕ → Option Lack → Option Lack → Type 0
IsLesser kind number None new = new ≡ Some (record { kind = kind; node = number })
IsLesser kind number (Some least) new =
    ((number < least.node) × (new ≡ Some (record { kind = kind; node = number }))) ⊎ ((least.node ≤ number) × (new ≡ Some least))

abbrev pub IsNoted : List ℕ → ℕ → LackKind → Option Lack → Option Lack → Type 0
IsNoted order i kind old new = ((number : ℕ) × (slice_get order number ≡ Some i) × IsLesser kind number old new) ⊎ (Absent order i × (new ≡ old))

-- what a node that is met gives: its first reason is noted, if it has one
abbrev pub Notes : List ℕ → ℕ → Option LackKind → Option Lack → Option Lack → Type 0
Notes order i None old new = new ≡ old
Notes order i (Some kind) old new = IsNoted order i kind old new

-- the number is less than that of the least so far, or there is none
abbrev pub IsBefore : ℕ → Option Lack → Type 0
IsBefore number None = Unit {0}
IsBefore number (Some least) = number < least.node

-- the node has been met, with the next index where an index can name it
abbrev pub IsEntered : Graph → ℕ → Search → Search → Type 0
IsEntered g i old new =
    ((enters0 (node_at g i).head ≡ true) × (new.meetings.items ≡ set old.meetings.items i (At old.next)) × (new.next ≡ old.next + 1))
    ⊎ ((enters0 (node_at g i).head ≡ false) × (new.meetings.items ≡ set old.meetings.items i Alone) × (new.next ≡ old.next))

-- a walk from these values, so far: what is met behind it is met behind them, with what was met again on the way
pub record Searched (g : Graph) (outside : ℕ) (before : List ℕ) (from : List Value) (order : List ℕ) (s : Search) (left : List Value) : Type 0 where
  pub met : List ℕ
  pub again : List ℕ
  pub are_met : AreMetAs g outside met s.meetings.items s.next
  pub within : (j k : ℕ) → slice_get again j ≡ Some k → k < length met
  pub walk : (all rest : List ℕ) → Meets g met left all rest → Meets g before from all (again ++ rest)
  pub later : length before ≤ length met
  pub least : IsLeast (PartLacks0 g outside (length before) order met again) s.least

-- a node is met: what is left to be met are its values, if it was not met before
abbrev pub left_of : Graph → Bool → ℕ → List Value → List Value
left_of g true i left = values_met (node_at g i) ++ left
left_of g false i left = left

-- the search goes on by a node, whatever else is left to be met
abbrev pub SearchesNode : Graph → (order : List ℕ) → (i : ℕ) → (is_new : Bool) → (old new : Search) → Type 0
SearchesNode g order i is_new old new =
    (outside : ℕ) (before : List ℕ) (from left : List Value) → Searched g outside before from order old (node i ∷ left)
    → Searched g outside before from order new (left_of g is_new i left)

-- the search goes on by a value that alone is left, and by all behind it
abbrev pub SearchesAll : {X E : Type 0} → Graph → (order : List ℕ) → Value → (old new : Search) → Result X E → Type 0
SearchesAll g order v old new result =
    (outside : ℕ) (before : List ℕ) (from : List Value) → Searched g outside before from order old (v ∷ [])
    → OnOk result (Searched g outside before from order new [])
