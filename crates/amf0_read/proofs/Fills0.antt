-- The loop over the values of one open node: what each of its turns carries.
use Rattle.std.proofs.Common.{◌≡◌, ℕ, suc, ◌≤◌, ◌<◌, List, [], ◌∷◌, Some, Result, Ok, Err, sym, subst, arith}
use Rattle.std.specs.Result.{IsErrAnd}
use Rattle.amf_io.specs.declared.window.Window.{Window}
use Rattle.amf_io.specs.declared.cursor.Cursor.{Cursor}
use Rattle.amf_io.specs.declared.ends.ReadEnd.{ReadEnd}
use Rattle.amf_io.specs.declared.ends.ReadEnd.TheVariants as read_end
use Rattle.amf_io.specs.Cursor.{place}
use Rattle.amf_io.specs.ReadEnds.{GoesBy}
use Rattle.amf_graph.specs.declared.value.Value.{Value as Stored}
use Rattle.amf_graph.specs.declared.value.NodeId.{NodeId}
use Rattle.amf_graph.specs.declared.value.Value.TheVariants as value
use Rattle.amf_graph.specs.Arena.{Arena}
use Rattle.amf_graph.specs.Building.{stored_at, changed as changed_arena, more_part, PartNames, HasRoom}
use Rattle.amf0_spelling.specs.KeptTables0.{KeptTables0}
use Rattle.amf0_layout_laws.specs.Layout0State.{state0_of}
use Rattle.amf0_layout_laws.specs.Layout0.{Reader0, behind0, value0_layout}
use Rattle.amf0_spelling.specs.declared.marker.Marker0.{Marker0}
use Rattle.amf_wire_fields.specs.Room.{left_of}
use Rattle.amf3_read.specs.Frames.{Fuel, Enough}
use Rattle.amf0_read.specs.declared.frame.Todo.{Todo}
use Rattle.amf0_read.specs.declared.frame.Role.{Role}
use Rattle.amf0_read.specs.declared.frame.Frame.{Frame}
use Rattle.amf0_read.specs.declared.frame.Now.{Now}
use Rattle.amf0_read.specs.declared.frame.Now.TheVariants as now
use Rattle.amf0_read.specs.declared.node.Start.{Start}
use Rattle.amf0_read.specs.declared.node.Start.TheVariants as start
use Rattle.amf0_read.specs.declared.fill.Step.TheVariants as step
use Rattle.amf0_read.specs.declared.fill.Filled.{Filled}
use Rattle.amf0_read.specs.Ready0.{Ready0, StillReady0}
use Rattle.amf0_read.specs.Frames0.{part_of, todo_behind, todo, IsOpenAlone, now_of, StartsBy, StartHolds, GoesOn, StepHolds, StackSo, Carries, CarriesEnd, Fills, FilledSo}
use Rattle.amf0_read.proofs.Stack0.{so_begin, so_end, so_start, so_put, go_end, go_wait, go_closed, put_room, put_there}

-- nothing is said of what is below
pub alone : {S : Type 0} (tells : S → Type 0) (left : S → List ℕ) (faults : S → ℕ) (old : Now) (es : List Frame) (a b : Arena) (t u : KeptTables0) (c d : Cursor S Window) (i : NodeId) (p : Todo) (fs : List Frame) → StackSo tells left faults old es a b t u c d (now.Open i p) fs → IsOpenAlone (left_of d) b i.0 p
alone tells left faults old es a b t u c d i p fs so = record {
  over = record { opened = so.holds.over.opened; below = tt; built = so.holds.over.built };
  lacks = so.holds.lacks;
}

module _ {S : Type 0} (tells : S → Type 0) (left : S → List ℕ) (faults : S → ℕ) (i : NodeId) (p : Todo) (b : Arena) (u : KeptTables0) (d : Cursor S Window) where
  -- no turn yet
  pub fills_begin : Ready0 0 b u d → IsOpenAlone (left_of d) b i.0 p → FilledSo tells left faults i p b b u u d d p
  fills_begin r h = record {
    here = so_begin tells left faults (now.Open i p) [] b u d r h;
    carries = record { on = λ old es fs a t c so. so };
    stays = omega arith;
  }

  -- an end that is passed on
  pub fills_passed : (b1 : Arena) (u1 : KeptTables0) (e : Cursor S Window) (r : Result Filled ReadEnd) (end : ReadEnd) → IsErrAnd r (λ x. x ≡ end) → CarriesEnd tells left faults i p b u d e end → Fills tells left faults i p b b1 u u1 d e r
  fills_passed b1 u1 e (Ok x) end is h = absurd is
  fills_passed b1 u1 e (Err x) end is h = subst (λ w. CarriesEnd tells left faults i p b u d e w) (sym is) h

  -- out of memory
  pub fills_memory : (e : Cursor S Window) → CarriesEnd tells left faults i p b u d e read_end.Memory
  fills_memory e = record { on = λ old es fs a t c so fuel fuels lt f. tt }

  -- so much is still to be read, and it went on
  module _ (b1 : Arena) (u1 : KeptTables0) (e : Cursor S Window) (q : Todo) (so : FilledSo tells left faults i p b b1 u u1 d e q) (b2 : Arena) (f : Cursor S Window) where
    abbrev From : (b2 : Arena) (u2 : KeptTables0) (f : Cursor S Window) (last : Now) (above : List Frame) → Type 0
    From b2 u2 f last above = Carries tells left faults i p b b2 u u2 d f last above

    pub fills_end : (end : ReadEnd) → ((z : Fuel) → Enough (left_of e) z → GoesOn tells left (todo (value0_layout z.values) z.pairs i.0 q (state0_of b1 u1)) i.0 (state0_of b2 u1) e f (Err end)) → CarriesEnd tells left faults i p b u d f end
    fills_end end h = record { on = λ old es fs a t c s. go_end tells left faults old es a t c b1 u1 e fs i q (so.carries.on old es fs a t c s) b2 f end h }

    pub fills_closed : StillReady0 0 0 b1 b2 u1 e f → left_of f ≤ left_of e → GoesBy tells left faults e f (Ok step.Closed) → ((z : Fuel) → Enough (left_of e) z → GoesOn tells left (todo (value0_layout z.values) z.pairs i.0 q (state0_of b1 u1)) i.0 (state0_of b2 u1) e f (Ok step.Closed)) → StepHolds b1 b2 i.0 step.Closed
        → From b2 u1 f (now.Given (value.Node i)) []
    fills_closed k same g h o = record { on = λ old es fs a t c s. go_closed tells left faults old es a t c b1 u1 e fs i q (so.carries.on old es fs a t c s) b2 f k same g h o }

    -- the marker of a value was read
    module _ (x : Role) (m : Marker0) (k : StillReady0 1 0 b1 b2 u1 e f) (less : suc (left_of f) ≤ left_of e) (g : GoesBy tells left faults e f (Ok (step.Wait x m)))
        (h : (z : Fuel) → Enough (left_of e) z → GoesOn tells left (todo (value0_layout z.values) z.pairs i.0 q (state0_of b1 u1)) i.0 (state0_of b2 u1) e f (Ok (step.Wait x m))) (o : StepHolds b1 b2 i.0 (step.Wait x m)) where
      abbrev frame : Frame
      frame = record { node = i; role = x }

      waits : (old : Now) (es fs : List Frame) (a : Arena) (t : KeptTables0) (c : Cursor S Window) → StackSo tells left faults old es a b1 t u1 c e (now.Open i q) fs → StackSo tells left faults old es a b2 t u1 c f (now.Begun m) (frame ∷ fs)
      waits old es fs a t c s = go_wait tells left faults old es a t c b1 u1 e fs i q s b2 f x m k less g h o

      pub fills_wait : StackSo tells left faults (now.Open i p) [] b b2 u u1 d f (now.Begun m) (frame ∷ [])
      fills_wait = waits (now.Open i p) [] [] b u d so.here

      module _ (b3 : Arena) (u3 : KeptTables0) (j : Cursor S Window) where
        pub fills_start_end : (end : ReadEnd) → ((v : Reader0) (n : ℕ) → left_of f < n → StartsBy tells left v n (behind0 v n (state0_of b2 u1) (Some m)) (state0_of b3 u3) f j (Err end)) → CarriesEnd tells left faults i p b u d j end
        fills_start_end end y = record { on = λ old es fs a t c s. so_end tells left faults old es a t c b2 u1 f (frame ∷ fs) m (waits old es fs a t c (so.carries.on old es fs a t c s)) b3 u3 j end y }

        module _ (k3 : StillReady0 0 1 b2 b3 u3 f j) (same : left_of j ≤ left_of f) where
          starts : (y : Start) → GoesBy tells left faults f j (Ok y) → ((v : Reader0) (n : ℕ) → left_of f < n → StartsBy tells left v n (behind0 v n (state0_of b2 u1) (Some m)) (state0_of b3 u3) f j (Ok y)) → StartHolds b2 b3 (left_of j) y
              → (old : Now) (es fs : List Frame) (a : Arena) (t : KeptTables0) (c : Cursor S Window) → StackSo tells left faults old es a b1 t u1 c e (now.Open i q) fs → StackSo tells left faults old es a b3 t u3 c j (now_of y) (frame ∷ fs)
          starts y g3 h3 o3 old es fs a t c s = so_start tells left faults old es a t c b2 u1 f (frame ∷ fs) m (waits old es fs a t c s) b3 u3 j k3 same y g3 h3 o3

          -- a node begins
          pub fills_within : (n : NodeId) (r : Todo) → GoesBy tells left faults f j (Ok (start.Open n r)) → ((v : Reader0) (k : ℕ) → left_of f < k → StartsBy tells left v k (behind0 v k (state0_of b2 u1) (Some m)) (state0_of b3 u3) f j (Ok (start.Open n r))) → StartHolds b2 b3 (left_of j) (start.Open n r)
              → From b3 u3 j (now.Open n r) (frame ∷ [])
          fills_within n r g3 h3 o3 = record { on = λ old es fs a t c s. starts (start.Open n r) g3 h3 o3 old es fs a t c (so.carries.on old es fs a t c s) }

          -- a value was read, and is put into the node
          module _ (v : Stored) (g3 : GoesBy tells left faults f j (Ok (start.Value v))) (h3 : (w : Reader0) (n : ℕ) → left_of f < n → StartsBy tells left w n (behind0 w n (state0_of b2 u1) (Some m)) (state0_of b3 u3) f j (Ok (start.Value v))) (o3 : StartHolds b2 b3 (left_of j) (start.Value v)) where
            given : (old : Now) (es fs : List Frame) (a : Arena) (t : KeptTables0) (c : Cursor S Window) → StackSo tells left faults old es a b1 t u1 c e (now.Open i q) fs → StackSo tells left faults old es a b3 t u3 c j (now.Given v) (frame ∷ fs)
            given = starts (start.Value v) g3 h3 o3

            pub fills_given : StackSo tells left faults (now.Open i p) [] b b3 u u3 d j (now.Given v) (frame ∷ [])
            fills_given = given (now.Open i p) [] [] b u d so.here

            pub fills_room : HasRoom b3 (stored_at b3 i.0) (part_of x v)
            fills_room = put_room tells left faults (now.Open i p) [] b u d b3 u3 j [] frame v fills_given

            pub fills_there : PartNames b3 (part_of x v)
            fills_there = put_there tells left faults (now.Open i p) [] b u d b3 u3 j [] frame v fills_given

            pub fills_put : (b4 : Arena) → b4 ≡ changed_arena (more_part (part_of x v)) i.0 b3 → place d ≤ place j → FilledSo tells left faults i p b b4 u u3 d j (todo_behind x)
            fills_put b4 is stays = record {
              here = so_put tells left faults (now.Open i p) [] b u d b3 u3 j [] frame v fills_given b4 is;
              carries = record { on = λ old es fs a t c s. so_put tells left faults old es a t c b3 u3 j fs frame v (given old es fs a t c (so.carries.on old es fs a t c s)) b4 is };
              stays = stays;
            }
