-- Items that are read one after the other.
use Rattle.std.proofs.Common.{◌≡◌, ℕ, suc, ◌≤◌, ◌<◌, List, ◌∷◌, refl, arith, Ok}
use Rattle.amf_io.specs.declared.window.Window.{Window}
use Rattle.amf_io.specs.declared.cursor.Cursor.{Cursor}
use Rattle.amf_io.specs.Cursor.{place}
use Rattle.amf_io.specs.ReadEnds.{GoesBy}
use Rattle.amf_io.proofs.CursorReads.{goes_nowhere, goes_then, goes_other}
use Rattle.amf_graph.specs.declared.value.Value.{Value as Stored}
use Rattle.amf_graph.specs.declared.value.NodeId.{NodeId}
use Rattle.amf_graph.specs.declared.part.Part.TheVariants as part
use Rattle.amf_graph.specs.Arena.{Arena}
use Rattle.amf_graph.specs.Building.{changed as changed_arena, more_part}
use Rattle.amf3_spelling.specs.KeptTables.{KeptTables}
use Rattle.amf3_layout_laws.specs.Layout3State.{state_of}
use Rattle.amf3_read.specs.declared.opening.Parts.{Parts}
use Rattle.amf3_read.specs.declared.frame.Role.TheVariants as role
use Rattle.amf3_read.specs.declared.frame.Frame.{Frame}
use Rattle.amf3_read.specs.declared.fill.Next.TheVariants as next
use Rattle.amf3_read.specs.declared.node.Start.TheVariants as start
use Rattle.amf3_read.specs.Now as now
use Rattle.amf_wire_fields.specs.Room.{left_of}
use Rattle.amf3_read.specs.Ready.{Ready}
use Rattle.amf3_read.specs.Frames.{Nested, IsNext, StillReady, Starts, StartHolds, StackSo}
use Rattle.amf3_read.specs.Follows.{IsWaiting, Stands, item_of}
use Rattle.amf3_read.proofs.GoesOn.{value_waits, value_holds}
use Rattle.amf3_read.proofs.Stack.{waits_any, so_value, so_put, go_wait}

-- from where an item of a node was wanted, items were read, and one is wanted again
pub record Lasts {S : Type 0} (tells : S → Type 0) (left : S → List ℕ) (faults : S → ℕ) (b b1 : Arena) (u u1 : KeptTables) (d e : Cursor S Window) (i : NodeId) (p q : Parts) (fs : List Frame) : Type 0 where
  pub goes : GoesBy {X = Unit {0}} tells left faults d e (Ok tt)
  pub less : left_of e ≤ left_of d
  pub stands : Stands tells left faults b1 u1 e now.wanted (item_of i q ∷ fs)
  pub goes_on : (a : Arena) (t : KeptTables) (c : Cursor S Window) → StackSo tells left faults a b t u c d now.wanted (item_of i p ∷ fs) → StackSo tells left faults a b1 t u1 c e now.wanted (item_of i q ∷ fs)

still : {S : Type 0} (b : Arena) (u : KeptTables) (d : Cursor S Window) → Ready 0 b u d → StillReady 0 b b u d d
still b u d r = record { built = r.built; tables = r.tables; placed = r.placed; texts = omega arith; traits = omega arith; nodes = omega arith }

module _ {S : Type 0} (tells : S → Type 0) (left : S → List ℕ) (faults : S → ℕ) where
  pub items_begin : (b : Arena) (u : KeptTables) (d : Cursor S Window) (i : NodeId) (p : Parts) (fs : List Frame) → Stands tells left faults b u d now.wanted (item_of i p ∷ fs) → Lasts tells left faults b b u u d d i p p fs
  items_begin b u d i p fs s = record { goes = goes_nowhere tells left faults d tt s.so.ready.placed; less = omega arith; stands = s; goes_on = λ a t c so. so }

  -- what is open goes on with an item
  next_item : (a b : Arena) (t u : KeptTables) (c d : Cursor S Window) (fs : List Frame) (i : NodeId) (q r : Parts) → IsNext q (next.Value role.Item r) → StackSo tells left faults a b t u c d (now.unfinished i q) fs → StackSo tells left faults a b t u c d now.wanted (item_of i r ∷ fs)
  next_item a b t u c d fs i q r is so =
      go_wait tells left faults a b t u c d fs i q so b u d (still b u d so.ready) (omega arith) (omega arith) role.Item r (goes_nowhere tells left faults d _ so.ready.placed)
      (value_waits tells left faults i.0 q b u d so.ready.placed role.Item r is) (value_holds i.0 q b role.Item r is so.holds.suits)

  module _ (b b1 : Arena) (u u1 : KeptTables) (d e : Cursor S Window) (i : NodeId) (p q : Parts) (fs : List Frame) (h : Lasts tells left faults b b1 u u1 d e i p q fs)
      (b2 : Arena) (u2 : KeptTables) (e2 : Cursor S Window) (v : Stored) (g : GoesBy tells left faults e e2 (Ok (start.Value v))) (starts : (n : ℕ) → left_of e < n → Starts tells left n (state_of b1 u1) (state_of b2 u2) e e2 (Ok (start.Value v)))
      (k : StillReady 0 b1 b2 u2 e e2) (holds : StartHolds b1 b2 (left_of e2) (start.Value v)) (moves : place e < place e2) where
    -- an item was read, and is put into the node
    pub item_given : (a : Arena) (t : KeptTables) (c : Cursor S Window) → StackSo tells left faults a b1 t u1 c e now.wanted (item_of i q ∷ fs) → StackSo tells left faults a b2 t u2 c e2 (now.given v) (item_of i q ∷ fs)
    item_given a t c so = so_value tells left faults a b1 t u1 c e (item_of i q ∷ fs) so b2 u2 e2 v g starts k holds moves

    given : StackSo tells left faults h.stands.arena b2 h.stands.tables u2 h.stands.cursor e2 (now.given v) (item_of i q ∷ fs)
    given = item_given h.stands.arena h.stands.tables h.stands.cursor h.stands.so

    -- it can be put there
    pub item_waits : IsWaiting (suc (left_of e2)) b2 (item_of i q)
    item_waits = waits_any (Nested h.stands.arena (suc (suc (left_of e2))) fs) (suc (left_of e2)) b2 (item_of i q) given.holds.0

    module _ (b3 : Arena) (was : b3 ≡ changed_arena (more_part (part.Item v)) i.0 b2) where
      item_put : (a : Arena) (t : KeptTables) (c : Cursor S Window) → StackSo tells left faults a b1 t u1 c e now.wanted (item_of i q ∷ fs) → StackSo tells left faults a b3 t u2 c e2 (now.unfinished i q) fs
      item_put a t c so = so_put tells left faults a b2 t u2 c e2 fs v (item_of i q) (item_given a t c so) (part.Item v) refl b3 was

      pub items_end : (a : Arena) (t : KeptTables) (c : Cursor S Window) → StackSo tells left faults a b t u c d now.wanted (item_of i p ∷ fs) → StackSo tells left faults a b3 t u2 c e2 (now.unfinished i q) fs
      items_end a t c so = item_put a t c (h.goes_on a t c so)

      pub items_goes : GoesBy {X = Unit {0}} tells left faults d e2 (Ok tt)
      items_goes = goes_then tells left faults d e e2 tt (Ok tt) h.goes (goes_other tells left faults e e2 (start.Value v) tt g)

      pub items_less : suc (left_of e2) ≤ left_of e
      items_less = let x = k.placed.within in let y = g.same_bound in omega arith

      pub items_last : (r : Parts) → IsNext q (next.Value role.Item r) → Lasts tells left faults b b3 u u2 d e2 i p r fs
      items_last r is =
          let s = h.stands in
          record {
            goes = items_goes;
            less = let x = items_less in let y = h.less in omega arith;
            stands = record { arena = s.arena; tables = s.tables; cursor = s.cursor; so = next_item s.arena b3 s.tables u2 s.cursor e2 fs i q r is (item_put s.arena s.tables s.cursor s.so) };
            goes_on = λ a t c so. next_item a b3 t u2 c e2 fs i q r is (items_end a t c so);
          }
