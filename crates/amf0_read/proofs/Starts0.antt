-- How a value begins behind its marker, as the layouts have it.
use Rattle.std.proofs.Common.{◌≡◌, ℕ, List, sym, subst, Result, Ok, Err, Some}
use Rattle.std.specs.Result.{IsErrAnd}
use Rattle.amf_io.specs.declared.window.Window.{Window}
use Rattle.amf_io.specs.declared.cursor.Cursor.{Cursor}
use Rattle.amf_io.specs.declared.ends.ReadEnd.{ReadEnd}
use Rattle.amf_io.specs.Layout.{Layout, give, bind}
use Rattle.amf_io.specs.ReadEnds.{IsPlaced, GoesBy}
use Rattle.amf_io.specs.CursorReads.{Answers, Ends, Leads}
use Rattle.amf_io.proofs.CursorReads.{gives, then_reads, end_reads, leads_behind}
use Rattle.amf_graph.specs.declared.value.Value.{Value as Stored}
use Rattle.amf0_layout_laws.specs.Layout0State.{State0}
use Rattle.amf0_layout_laws.specs.Layout0.{ValueRead0, read0, Reader0, behind0}
use Rattle.amf0_spelling.specs.declared.marker.Marker0.{Marker0}
use Rattle.amf0_read.specs.declared.node.Start.{Start}
use Rattle.amf0_read.specs.Frames0.{StartsBy}

module _ {S : Type 0} (tells : S → Type 0) (left : S → List ℕ) (faults : S → ℕ) where
  -- what was read is made a value
  pub made : {X Y : Type 0} (view : X → Y) (t : Layout Y) (make : Y → ValueRead0) (z : State0) (v : Stored) (d e : Cursor S Window) (x : X) → GoesBy tells left faults d e (Ok x) → Answers tells left view t d e (Ok x) → IsPlaced e → read0 v z ≡ make (view x) → Answers tells left (λ y. read0 y z) (bind t (λ y. give (make y))) d e (Ok v)
  made view t make z v d e x g a p q = then_reads tells left faults view (λ y. read0 y z) t (λ y. give (make y)) d e e x (Ok v) g a (gives tells left faults (λ y. read0 y z) e v (make (view x)) p q)

  -- an end that is passed on
  pub ended : {Y : Type 0} (v : Reader0) (n : ℕ) (t : Layout Y) (next : Y → Layout ValueRead0) (z : State0) (d e : Cursor S Window) (r : Result Start ReadEnd) (end : ReadEnd) → IsErrAnd r (λ x. x ≡ end) → Ends tells left t d e end → StartsBy tells left v n (bind t next) z d e r
  ended v n t next z d e (Ok x) end is h = absurd is
  ended v n t next z d e (Err x) end is h = subst (Ends tells left (bind t next) d e) (sym is) (end_reads tells left faults t next d e end h)

  -- what was read leads to the parts of a node
  pub opened : {X Y : Type 0} (view : X → Y) (t : Layout Y) (next : Y → Layout ValueRead0) (u : Layout ValueRead0) (d e : Cursor S Window) (x : X) → Answers tells left view t d e (Ok x) → next (view x) ≡ u → Leads tells left (bind t next) u d e
  opened view t next u d e x a is = subst (λ w. Leads tells left (bind t next) w d e) is (leads_behind tells left faults view t next d e x a)

-- behind a marker that is known
pub by_marker : {S : Type 0} (tells : S → Type 0) (left : S → List ℕ) (m k : Marker0) (v : Reader0) (n : ℕ) (s z : State0) (c d : Cursor S Window) (r : Result Start ReadEnd) → m ≡ k → StartsBy tells left v n (behind0 v n s (Some k)) z c d r → StartsBy tells left v n (behind0 v n s (Some m)) z c d r
by_marker tells left m k v n s z c d r is h = subst (λ m. StartsBy tells left v n (behind0 v n s (Some m)) z c d r) (sym is) h
