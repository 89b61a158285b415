-- How an open node goes on, as the layouts have it.
use Rattle.std.proofs.Common.{◌≡◌, ℕ, zero, suc, ◌<◌, Bool, true, false, List, length, refl, sym, ap, ◌∙◌, arith, subst, Ok, None, Option, Some}
use Rattle.std.specs.Prelude.{if◌then◌else◌}
use Rattle.amf_io.specs.declared.window.Window.{Window}
use Rattle.amf_io.specs.declared.cursor.Cursor.{Cursor}
use Rattle.amf_io.specs.declared.ends.ReadEnd.{ReadEnd}
use Rattle.amf_io.specs.Layout.{Layout, give, bind}
use Rattle.amf_io.specs.ReadEnds.{IsPlaced, GoesBy}
use Rattle.amf_io.specs.CursorReads.{Answers, Ends, Leads}
use Rattle.amf_io.proofs.CursorReads.{leads_nowhere, leads_behind, leads_on, leads_end, end_reads}
use Rattle.amf_graph.specs.declared.value.TextId.{TextId}
use Rattle.amf_graph.specs.declared.value.Value.TheVariants as value
use Rattle.amf_graph.specs.Arena.{Arena, text_at}
use Rattle.amf_graph.specs.Building.{changed as changed_arena, shut, more_value, more_name}
use Rattle.amf3_layout_laws.specs.Layout3State.{state_of}
use Rattle.amf3_layout_laws.proofs.Reader3States.{shut_state}
use Rattle.amf0_spelling.specs.KeptTables0.{KeptTables0}
use Rattle.amf0_spelling.specs.Segments0.{is_empty}
use Rattle.amf0_layout_laws.specs.Layout0State.{State0, state0_of, changed0}
use Rattle.amf0_layout_laws.specs.Layout0.{TextRead0, ValueRead0, read0, Reader0, short_layout, items0, pairs0, shut0, behind0, value0_layout}
use Rattle.amf_wire_fields.specs.Room.{left_of}
use Rattle.amf3_read.specs.Frames.{Fuel, Enough}
use Rattle.amf_wire_fields.proofs.LayoutBinds.{bind_bind, bind_same}
use Rattle.amf3_read.proofs.Stack.{leads_bound}
use Rattle.amf0_read.specs.declared.frame.Todo.TheVariants.{Items, Pairs}
use Rattle.amf0_read.specs.declared.frame.Role.TheVariants.{Item, Named}
use Rattle.amf0_read.specs.declared.frame.Now.TheVariants as now
use Rattle.amf0_spelling.specs.declared.marker.Marker0.{Marker0}
use Rattle.amf0_read.specs.declared.fill.Step.TheVariants as step
use Rattle.amf0_read.specs.Markers0.{marker_layout}
use Rattle.amf0_read.specs.Ready0.{text_read}
use Rattle.amf0_read.specs.Frames0.{todo, resume, GoesOn, LeadsToValue}
use Rattle.amf0_read.proofs.States0.{state_with}

-- an item, and what is behind it
pub todo_item : (v : Reader0) (m i n : ℕ) (s : State0) → todo v m i (Items (suc n)) s ≡ bind (v false s) (resume v m i (Item n))
todo_item v m i n s = bind_bind (v false s) (λ x. items0 v i n (changed0 (more_value x.value) i x.state)) (λ u. give (shut0 i u))

-- the end of pairs, or more of them
bind_if : {X Y : Type 0} (b : Bool) (x : X) (t : Layout X) (f : X → Layout Y) → bind (if b then give x else t) f ≡ (if b then f x else bind t f)
bind_if true x t f = refl
bind_if false x t f = refl

abbrev pair_behind : Reader0 → ℕ → ℕ → TextRead0 → Layout ValueRead0
pair_behind v q i x = bind (v (is_empty x.bytes) x.state) (resume v q i (Named (record { 0 = x.id })))

-- a name, its value, and what is behind it
todo_pair : (v : Reader0) (q i : ℕ) (s : State0) → todo v (suc q) i Pairs s ≡ bind (short_layout s) (pair_behind v q i)
todo_pair v q i s =
    bind_bind (short_layout s) (λ x. bind (v (is_empty x.bytes) x.state) (λ w. if w.ended then give w.state else pairs0 v q i (changed0 (more_name x.id w.value) i w.state))) (λ u. give (shut0 i u))
    ∙ bind_same (short_layout s) (λ x. bind (bind (v (is_empty x.bytes) x.state) (λ w. if w.ended then give w.state else pairs0 v q i (changed0 (more_name x.id w.value) i w.state))) (λ u. give (shut0 i u))) (pair_behind v q i)
    (λ x. bind_bind (v (is_empty x.bytes) x.state) (λ w. if w.ended then give w.state else pairs0 v q i (changed0 (more_name x.id w.value) i w.state)) (λ u. give (shut0 i u))
    ∙ bind_same (v (is_empty x.bytes) x.state) (λ w. bind (if w.ended then give w.state else pairs0 v q i (changed0 (more_name x.id w.value) i w.state)) (λ u. give (shut0 i u))) (resume v q i (Named (record { 0 = x.id })))
    (λ w. bind_if w.ended w.state (pairs0 v q i (changed0 (more_name x.id w.value) i w.state)) (λ u. give (shut0 i u))))

-- the node is shut
pub shut_is : (i : ℕ) (a b : Arena) (t : KeptTables0) → b ≡ changed_arena shut i a → shut0 i (state0_of a t) ≡ read0 (value.Node (record { 0 = i })) (state0_of b t)
shut_is i a b t e = ap (λ z. read0 (value.Node (record { 0 = i })) (state_with t z)) (sym (ap (λ y. state_of y t.amf3) e ∙ shut_state i a t.amf3))

module _ {S : Type 0} (tells : S → Type 0) (left : S → List ℕ) (faults : S → ℕ) where
  -- a marker was read where a value comes next
  pub marker_leads : (k : ℕ) (may_end : Bool) (s : State0) (next : ValueRead0 → Layout ValueRead0) {X : Type 0} (view : X → Option Marker0) (c d : Cursor S Window) (m : X) → Answers tells left view (marker_layout may_end (length s.nodes)) c d (Ok m)
      → Leads tells left (bind (value0_layout (suc k) may_end s) next) (bind (behind0 (value0_layout k) k s (view m)) next) c d
  marker_leads k may_end s next view c d m a =
      leads_bound tells left faults (value0_layout (suc k) may_end s) (behind0 (value0_layout k) k s (view m)) next c d
      (leads_behind tells left faults view (marker_layout may_end (length s.nodes)) (behind0 (value0_layout k) k s) c d m a)

  -- or nothing was
  pub marker_ends : (k : ℕ) (may_end : Bool) (s : State0) (next : ValueRead0 → Layout ValueRead0) (c d : Cursor S Window) (e : ReadEnd) → Ends tells left (marker_layout may_end (length s.nodes)) c d e → Ends tells left (bind (value0_layout (suc k) may_end s) next) c d e
  marker_ends k may_end s next c d e a =
      end_reads tells left faults (value0_layout (suc k) may_end s) next c d e (end_reads tells left faults (marker_layout may_end (length s.nodes)) (behind0 (value0_layout k) k s) c d e a)

  -- an item comes next
  module _ (i n : ℕ) (a : Arena) (t : KeptTables0) (c d : Cursor S Window) where
    pub item_goes : (m : Marker0) → Answers tells left (λ m. Some m) (marker_layout false (length t.nodes)) c d (Ok m) → left_of d < left_of c → (f : Fuel) → Enough (left_of c) f → GoesOn tells left (todo (value0_layout f.values) f.pairs i (Items (suc n)) (state0_of a t)) i (state0_of a t) c d (Ok (step.Wait (Item n) m))
    item_goes m h less f lt = by f.values lt.0
      where
        by : (k : ℕ) → left_of c < k → LeadsToValue tells left (todo (value0_layout k) f.pairs i (Items (suc n)) (state0_of a t)) i (Item n) (now.Begun m) (state0_of a t) c d
        by zero l = absurd (omega arith)
        by (suc k) l = record {
          fuel = record { values = k; pairs = k };
          waiting = record { values = suc k; pairs = f.pairs };
          enough = (omega arith, omega arith);
          enough_waiting = (omega arith, let x = lt.1 in omega arith);
          leads = subst (λ l. Leads tells left l (bind (behind0 (value0_layout k) k (state0_of a t) (Some m)) (resume (value0_layout (suc k)) f.pairs i (Item n))) c d) (sym (todo_item (value0_layout (suc k)) f.pairs i n (state0_of a t)))
              (marker_leads k false (state0_of a t) (resume (value0_layout (suc k)) f.pairs i (Item n)) (λ m. Some m) c d m h);
        }

    pub item_ends : (e : ReadEnd) → Ends tells left (marker_layout false (length t.nodes)) c d e → (f : Fuel) → Enough (left_of c) f → Ends tells left (todo (value0_layout f.values) f.pairs i (Items (suc n)) (state0_of a t)) c d e
    item_ends e h f lt = by f.values lt.0
      where
        by : (k : ℕ) → left_of c < k → Ends tells left (todo (value0_layout k) f.pairs i (Items (suc n)) (state0_of a t)) c d e
        by zero l = absurd (omega arith)
        by (suc k) l = subst (λ l. Ends tells left l c d e) (sym (todo_item (value0_layout (suc k)) f.pairs i n (state0_of a t))) (marker_ends k false (state0_of a t) (resume (value0_layout (suc k)) f.pairs i (Item n)) c d e h)

  -- a name comes next
  module _ (i : ℕ) (a b : Arena) (t : KeptTables0) (c d : Cursor S Window) where
    pub name_ends : (e : ReadEnd) → Ends tells left (short_layout (state0_of a t)) c d e → (f : Fuel) → Enough (left_of c) f → Ends tells left (todo (value0_layout f.values) f.pairs i Pairs (state0_of a t)) c d e
    name_ends e h f lt = by f.pairs lt.1
      where
        by : (q : ℕ) → left_of c < q → Ends tells left (todo (value0_layout f.values) q i Pairs (state0_of a t)) c d e
        by zero l = absurd (omega arith)
        by (suc q) l = subst (λ l. Ends tells left l c d e) (sym (todo_pair (value0_layout f.values) q i (state0_of a t))) (end_reads tells left faults (short_layout (state0_of a t)) (pair_behind (value0_layout f.values) q i) c d e h)

    module _ (x : TextId) (g : GoesBy tells left faults c d (Ok x)) (y : Answers tells left (text_read b t) (short_layout (state0_of a t)) c d (Ok x)) (may_end : Bool) (is : is_empty (text_at b x.0) ≡ may_end) (e : Cursor S Window) where
      named_leads : (v : Reader0) (q : ℕ) → Leads tells left (todo v (suc q) i Pairs (state0_of a t)) (bind (v may_end (state0_of b t)) (resume v q i (Named x))) c d
      named_leads v q =
          subst (λ o. Leads tells left (todo v (suc q) i Pairs (state0_of a t)) (bind (v o (state0_of b t)) (resume v q i (Named x))) c d) is
          (subst (λ l. Leads tells left l (pair_behind v q i (text_read b t x)) c d) (sym (todo_pair v q i (state0_of a t))) (leads_behind tells left faults (text_read b t) (short_layout (state0_of a t)) (pair_behind v q i) c d x y))

      pub pair_goes : left_of e < left_of c → {X : Type 0} (view : X → Option Marker0) (k : X) (m : Marker0) → view k ≡ Some m → Answers tells left view (marker_layout may_end (length t.nodes)) d e (Ok k) → (f : Fuel) → Enough (left_of c) f → GoesOn tells left (todo (value0_layout f.values) f.pairs i Pairs (state0_of a t)) i (state0_of b t) c e (Ok (step.Wait (Named x) m))
      pair_goes less view w m same h f lt = by f.values f.pairs lt.0 lt.1
        where
          by : (k q : ℕ) → left_of c < k → left_of c < q → LeadsToValue tells left (todo (value0_layout k) q i Pairs (state0_of a t)) i (Named x) (now.Begun m) (state0_of b t) c e
          by zero q l o = absurd (omega arith)
          by (suc k) zero l o = absurd (omega arith)
          by (suc k) (suc q) l o =
              let v = value0_layout (suc k) in
              let next = resume v q i (Named x) in
              record {
                fuel = record { values = k; pairs = k };
                waiting = record { values = suc k; pairs = q };
                enough = (omega arith, omega arith);
                enough_waiting = (omega arith, omega arith);
                leads = subst (λ z. Leads tells left (todo v (suc q) i Pairs (state0_of a t)) (bind (behind0 (value0_layout k) k (state0_of b t) z) next) c e) same
                    (leads_on tells left faults (todo v (suc q) i Pairs (state0_of a t)) (bind (v may_end (state0_of b t)) next) (bind (behind0 (value0_layout k) k (state0_of b t) (view w)) next) c d e x g (named_leads v q) (marker_leads k may_end (state0_of b t) next view d e w h));
              }

      pub pair_ends : (end : ReadEnd) → Ends tells left (marker_layout may_end (length t.nodes)) d e end → (f : Fuel) → Enough (left_of c) f → Ends tells left (todo (value0_layout f.values) f.pairs i Pairs (state0_of a t)) c e end
      pair_ends end h f lt = by f.values f.pairs lt.0 lt.1
        where
          by : (k q : ℕ) → left_of c < k → left_of c < q → Ends tells left (todo (value0_layout k) q i Pairs (state0_of a t)) c e end
          by zero q l o = absurd (omega arith)
          by (suc k) zero l o = absurd (omega arith)
          by (suc k) (suc q) l o =
              let v = value0_layout (suc k) in
              let next = resume v q i (Named x) in
              leads_end tells left faults (todo v (suc q) i Pairs (state0_of a t)) (bind (v may_end (state0_of b t)) next) c d e x end g (named_leads v q) (marker_ends k may_end (state0_of b t) next d e end h)

      -- the pairs end there
      pub pairs_closed : (z : Arena) → z ≡ changed_arena shut i b → may_end ≡ true → (k : Option Marker0) → k ≡ None → Answers tells left (λ m. m) (marker_layout may_end (length t.nodes)) d e (Ok k) → (f : Fuel) → Enough (left_of c) f → GoesOn tells left (todo (value0_layout f.values) f.pairs i Pairs (state0_of a t)) i (state0_of z t) c e (Ok step.Closed)
      pairs_closed z shuts can w none h f lt = by f.values f.pairs lt.0 lt.1
        where
          by : (k q : ℕ) → left_of c < k → left_of c < q → Leads tells left (todo (value0_layout k) q i Pairs (state0_of a t)) (give (read0 (value.Node (record { 0 = i })) (state0_of z t))) c e
          by zero q l o = absurd (omega arith)
          by (suc k) zero l o = absurd (omega arith)
          by (suc k) (suc q) l o =
              let v = value0_layout (suc k) in
              let next = resume v q i (Named x) in
              subst (λ r. Leads tells left (todo v (suc q) i Pairs (state0_of a t)) (give r) c e) (shut_is i b z t shuts)
              (subst (λ z. Leads tells left (todo v (suc q) i Pairs (state0_of a t)) (bind (behind0 (value0_layout k) k (state0_of b t) z) next) c e) none
              (leads_on tells left faults (todo v (suc q) i Pairs (state0_of a t)) (bind (v may_end (state0_of b t)) next) (bind (behind0 (value0_layout k) k (state0_of b t) w) next) c d e x g (named_leads v q) (marker_leads k may_end (state0_of b t) next (λ m. m) d e w h)))

  -- no item is left
  pub items_closed : (i : ℕ) (a b : Arena) (t : KeptTables0) (c : Cursor S Window) → IsPlaced c → b ≡ changed_arena shut i a → (f : Fuel) → Enough (left_of c) f → GoesOn tells left (todo (value0_layout f.values) f.pairs i (Items 0) (state0_of a t)) i (state0_of b t) c c (Ok step.Closed)
  items_closed i a b t c p e f lt = subst (λ r. Leads tells left (give (shut0 i (state0_of a t))) (give r) c c) (shut_is i a b t e) (leads_nowhere tells left faults (give (shut0 i (state0_of a t))) c p)
