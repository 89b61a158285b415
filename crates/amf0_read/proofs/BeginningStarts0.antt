-- What is read of a value before its stack of open nodes is needed leads on, with its bytes.
use Rattle.std.proofs.Common.{◌≡◌, ℕ, zero, suc, ◌≤◌, ◌<◌, Bool, true, false, List, [], ◌∷◌, ◌++◌, length, append-nil, reverse, refl, sym, subst, arith, Result, Ok, Err, Some}
use Rattle.std.specs.Result.{IsErrAnd}
use Rattle.amf_io.specs.declared.window.Window.{Window}
use Rattle.amf_io.specs.declared.cursor.Cursor.{Cursor}
use Rattle.amf_io.specs.declared.ends.ReadEnd.{ReadEnd}
use Rattle.amf_io.specs.Cursor.{place, bound}
use Rattle.amf_io.specs.Field.{flat}
use Rattle.amf_io.specs.Layout.{Layout, bind, Runs}
use Rattle.amf_io.specs.ReadEnds.{IsPlaced, GoesBy}
use Rattle.amf_io.specs.CursorReads.{Answers, Ends}
use Rattle.amf_io.proofs.CursorReads.{leads_end, end_reads}
use Rattle.amf_graph.specs.declared.value.NodeId.{NodeId}
use Rattle.amf_graph.specs.Arena.{Arena, IsBuilt, array}
use Rattle.amf0_spelling.specs.KeptTables0.{KeptTables0}
use Rattle.amf0_layout_laws.specs.Layout0State.{State0, state0_of}
use Rattle.amf0_layout_laws.specs.Layout0.{ValueRead0, Reader0, with_items, behind0, value0_layout}
use Rattle.amf_wire_fields.specs.Room.{left_of}
use Rattle.amf3_read.specs.Frames.{Fuel}
use Rattle.amf_wire_fields.proofs.LayoutBinds.{bind_give, bind_same}
use Rattle.amf3_read.proofs.Stack.{opened_less}
use Rattle.amf0_read.specs.declared.beginning.Beginning.{Beginning}
use Rattle.amf0_read.specs.declared.frame.Frame.{Frame}
use Rattle.amf0_read.specs.declared.frame.Now.{Now}
use Rattle.amf0_read.specs.declared.frame.Now.TheVariants as now
use Rattle.amf0_read.specs.declared.frame.Role.TheVariants.{Item}
use Rattle.amf0_read.specs.declared.frame.Todo.TheVariants.{Items}
use Rattle.amf0_spelling.specs.declared.marker.Marker0.{Marker0}
use Rattle.amf0_spelling.specs.declared.marker.Marker0.TheVariants as marker
use Rattle.amf0_read.specs.declared.node.Start.{Start}
use Rattle.amf0_read.specs.declared.node.Start.TheVariants as start
use Rattle.amf0_read.specs.Markers0.{marker_layout}
use Rattle.amf0_read.specs.Leaves0.{count_layout}
use Rattle.amf0_read.specs.Opens0.{Opens}
use Rattle.amf0_read.specs.Ready0.{Ready0, StillReady0}
use Rattle.amf0_read.specs.Frames0.{todo, resume, rest, current, Holds, now_of, owed, StartsBy, StartHolds, OpenedFrom}
use Rattle.amf0_read.specs.Beginnings0.{LeadsWith, TellsCall, BeginsBy, LeadsBy, LeadsOn, LeadsItems}
use Rattle.amf0_read.proofs.GoesOn0.{todo_item, marker_ends}
use Rattle.amf0_read.proofs.Beginnings0.{with_answer, with_leads, with_bound, with_on, other_call, count_call, item_call, strict_byte}
use Rattle.amf0_read.proofs.NodeStarts0.{items_are}

-- The builder and its tables behind a marker.

pub marker_ready : {S : Type 0} (a : Arena) (t : KeptTables0) (c d : Cursor S Window) → Ready0 0 a t c → IsPlaced d → bound d ≡ bound c → place c < place d → Ready0 1 a t d
marker_ready a t c d r p same lt =
    let x = r.amf3.few_texts in let y = r.amf3.few_traits in let z = r.amf3.few_nodes in
    let w = p.within in
    record {
      amf3 = record { built = r.amf3.built; tables = r.amf3.tables; placed = p; few_texts = omega arith; few_traits = omega arith; few_nodes = omega arith };
      nodes = r.nodes;
      distinct = r.distinct;
    }

pub marker_still_ready : {S : Type 0} (o : ℕ) (a b : Arena) (u : KeptTables0) (c d e : Cursor S Window) → IsPlaced d → bound d ≡ bound c → place c < place d → StillReady0 o 1 a b u d e → StillReady0 o 0 a b u c e
marker_still_ready o a b u c d e p same lt k =
    let x = k.texts in let y = k.traits in let z = k.nodes in
    let w = p.within in
    record { built = k.built; tables = k.tables; placed = k.placed; texts = omega arith; traits = omega arith; nodes = omega arith }

pub marker_owed : {S : Type 0} (o : ℕ) (a b : Arena) (u : KeptTables0) (c d e : Cursor S Window) → IsPlaced e → bound e ≡ bound d → place d < place e → StillReady0 0 o a b u c d → StillReady0 1 o a b u c e
marker_owed o a b u c d e p same lt k =
    let x = k.texts in let y = k.traits in let z = k.nodes in
    let w = p.within in
    record { built = k.built; tables = k.tables; placed = p; texts = omega arith; traits = omega arith; nodes = omega arith }

-- What holds of the arena.

pub begun_holds : (a b : Arena) (left : ℕ) (x : Start) → IsBuilt a → StartHolds a b left x → Holds left (now_of x) [] b
begun_holds a b left (start.Value v) k h = (tt, h.0)
begun_holds a b left (start.Open i p) k h = record { over = record { opened = h.opened; below = tt; built = h.built k }; lacks = h.lacks }

pub owes_nothing : (x : Start) → owed (now_of x) ≡ 0
owes_nothing (start.Value v) = refl
owes_nothing (start.Open i p) = refl

-- an array that waits for its one item
pub item_holds : (a b : Arena) (left more : ℕ) (i : NodeId) (m : Marker0) → suc left ≤ more → IsBuilt a → OpenedFrom a b more i.0 (Items 1) → Holds left (now.Begun m) (record { node = i; role = Item 0 } ∷ []) b
item_holds a b left more i m le k h = record {
  over = record { opened = opened_less b i.0 (suc left) more le h.opened; below = tt; built = h.built k };
  names = tt;
  lacks = h.lacks;
}

module _ {S : Type 0} (tells : S → Type 0) (left : S → List ℕ) (faults : S → ℕ) where
  pub beginning_ended : (t : Layout ValueRead0) (b : List ℕ) (z : State0) (c d : Cursor S Window) (r : Result Beginning ReadEnd) (e : ReadEnd) → IsErrAnd r (λ x. x ≡ e) → Ends tells left t c d e → LeadsBy tells left t b z c d r
  beginning_ended t b z c d (Ok x) e is h = absurd is
  beginning_ended t b z c d (Err x) e is h = subst (Ends tells left t c d) (sym is) h

  -- with nothing behind it
  alone : (t u : Layout ValueRead0) (b : List ℕ) (c d : Cursor S Window) → LeadsWith tells left t u b c d → LeadsWith tells left t (bind u (rest [] [])) b c d
  alone t u b c d w = subst (λ l. LeadsWith tells left t l b c d) (sym (bind_give u)) w

  pub first_ended : (n : ℕ) (s : State0) (c d : Cursor S Window) (e : ReadEnd) → left_of c < n → Ends tells left (marker_layout false (length s.nodes)) c d e → Ends tells left (value0_layout n false s) c d e
  first_ended zero s c d e lt h = absurd (omega arith)
  first_ended (suc k) s c d e lt h = end_reads tells left faults (marker_layout false (length s.nodes)) (behind0 (value0_layout k) k s) c d e h

  -- Behind the marker.
  module _ (s : State0) (c d : Cursor S Window) (m : Marker0) (g : GoesBy tells left faults c d (Ok m)) (a : Answers tells left (λ m. Some m) (marker_layout false (length s.nodes)) c d (Ok m)) (moves : place c < place d) where
    first_with : (k : ℕ) → LeadsWith tells left (value0_layout (suc k) false s) (behind0 (value0_layout k) k s (Some m)) (flat a.fields) c d
    first_with k = with_answer tells left faults (λ m. Some m) (marker_layout false (length s.nodes)) (behind0 (value0_layout k) k s) c d m a

    less : left_of d < left_of c
    less = let p = a.within in let q = g.same_bound in omega arith

    -- of an array with items
    pub beginning_items : m ≡ marker.Strict → (z : State0) (e : Cursor S Window) (r : Result Beginning ReadEnd) → ((k : ℕ) → left_of d < k → LeadsItems tells left k s z d e r) → (n : ℕ) → left_of c < n → LeadsOn tells left n s z c e r
    beginning_items is z e r h zero lt = absurd (omega arith)
    beginning_items is z e (Err end) h (suc k) lt =
        let l = less in
        leads_end tells left faults (value0_layout (suc k) false s) (behind0 (value0_layout k) k s (Some m)) c d e m end g (first_with k).leads (subst (λ w. Ends tells left (behind0 (value0_layout k) k s (Some w)) d e end) (sym is) (h k (omega arith)))
    beginning_items is z e (Ok x) h (suc k) lt =
        let l = less in
        let y = h k (omega arith) in
        let goal = bind (current y.fuel x.now z) (rest y.fuels (reverse x.frames.items)) in
        record {
          fuel = y.fuel;
          fuels = y.fuels;
          enough = y.enough;
          fueled = y.fueled;
          bytes = flat a.fields ++ y.bytes;
          leads = with_on tells left faults (value0_layout (suc k) false s) (behind0 (value0_layout k) k s (Some m)) goal (flat a.fields) y.bytes c d e m g (first_with k)
              (subst (λ w. LeadsWith tells left (behind0 (value0_layout k) k s (Some w)) goal y.bytes d e) (sym is) y.leads);
          call = subst (λ b. TellsCall x.is_call (b ++ y.bytes)) (sym (strict_byte false (length s.nodes) m a.fields a.runs is)) y.call;
        }

    -- of any other value
    pub front_not : (z : State0) (e : Cursor S Window) (end : ReadEnd) → ((v : Reader0) (k : ℕ) → left_of d < k → StartsBy tells left v k (behind0 v k s (Some m)) z d e (Err end)) → (n : ℕ) → left_of c < n → Ends tells left (value0_layout n false s) c e end
    front_not z e end h zero lt = absurd (omega arith)
    front_not z e end h (suc k) lt =
        let l = less in
        leads_end tells left faults (value0_layout (suc k) false s) (behind0 (value0_layout k) k s (Some m)) c d e m end g (first_with k).leads (h (value0_layout k) k (omega arith))

    module _ (other : m ≡ marker.Strict → ⊥) (z : State0) (e : Cursor S Window) (stays : left_of e ≤ left_of d) where
      begins : (k : ℕ) (n : Now) (b : List ℕ) → left_of c < suc k → LeadsWith tells left (behind0 (value0_layout k) k s (Some m)) (bind (current (record { values = k; pairs = k }) n z) (rest [] [])) b d e → BeginsBy tells left (value0_layout (suc k) false s) [] false n [] z c e
      begins k n b lt w =
          let l = less in
          record {
            fuel = record { values = k; pairs = k };
            fuels = [];
            enough = (omega arith, omega arith);
            fueled = tt;
            bytes = flat a.fields ++ b;
            leads = with_on tells left faults (value0_layout (suc k) false s) (behind0 (value0_layout k) k s (Some m)) (bind (current (record { values = k; pairs = k }) n z) (rest [] [])) (flat a.fields) b c d e m g (first_with k) w;
            call = other_call false (length s.nodes) m a.fields b a.runs other;
          }

      pub front_other : (x : Start) → ((v : Reader0) (k : ℕ) → left_of d < k → StartsBy tells left v k (behind0 v k s (Some m)) z d e (Ok x)) → (n : ℕ) → left_of c < n → BeginsBy tells left (value0_layout n false s) [] false (now_of x) [] z c e
      front_other x h zero lt = absurd (omega arith)
      front_other (start.Value v) h (suc k) lt =
          let l = less in
          let y = h (value0_layout k) k (omega arith) in
          begins k (now.Given v) (flat y.fields) lt (record { leads = record { fields = y.fields; path = y.runs; bytes = y.bytes; taken = y.taken; within = y.within; parts = y.parts }; are = refl })
      front_other (start.Open i p) h (suc k) lt =
          let l = less in
          let y = h (value0_layout k) k (omega arith) in
          let t = behind0 (value0_layout k) k s (Some m) in
          let u = todo (value0_layout k) k i.0 p z in
          begins k (now.Open i p) (flat y.fields) lt (alone t u (flat y.fields) d e (with_leads tells left faults t u d e y))

  -- Behind the count of an array with items.
  module _ (a b : Arena) (t u : KeptTables0) (c d : Cursor S Window) (i : NodeId) (r : Ready0 1 a t c) (o : Opens a b t u array i.0) (count : ℕ) (g : GoesBy tells left faults c d (Ok count)) (h : Answers tells left (λ (k : ℕ). k) count_layout c d (Ok count)) where
    abbrev items : ℕ → Layout ValueRead0
    items n = behind0 (value0_layout n) n (state0_of a t) (Some marker.Strict)

    items_with : (n : ℕ) → LeadsWith tells left (items n) (todo (value0_layout n) n i.0 (Items count) (state0_of b u)) (flat h.fields) c d
    items_with n =
        subst (λ l. LeadsWith tells left (items n) l (flat h.fields) c d) (items_are a b t u c d i.0 r o (value0_layout n) n count)
        (with_answer tells left faults (λ (k : ℕ). k) count_layout (λ k. with_items (value0_layout n) k (state0_of a t) array) c d count h)

    stays : left_of d ≤ left_of c
    stays = let p = h.taken in let q = g.same_bound in omega arith

    pub items_open : (count ≡ 1 → ⊥) → (n : ℕ) → left_of c < n → BeginsBy tells left (items n) (0x0A ∷ []) false (now.Open i (Items count)) [] (state0_of b u) c d
    items_open other n lt =
        let l = stays in
        record {
          fuel = record { values = n; pairs = n };
          fuels = [];
          enough = (omega arith, omega arith);
          fueled = tt;
          bytes = flat h.fields;
          leads = alone (items n) (todo (value0_layout n) n i.0 (Items count) (state0_of b u)) (flat h.fields) c d (items_with n);
          call = subst (λ x. TellsCall false ((0x0A ∷ []) ++ x)) (append-nil (flat h.fields)) (count_call h.fields count [] h.runs other);
        }

    module _ (one : count ≡ 1) (e : Cursor S Window) where
      one_with : (n : ℕ) → LeadsWith tells left (items n) (todo (value0_layout n) n i.0 (Items 1) (state0_of b u)) (flat h.fields) c d
      one_with n = subst (λ k. LeadsWith tells left (items n) (todo (value0_layout n) n i.0 (Items k) (state0_of b u)) (flat h.fields) c d) one (items_with n)

      pub item_not : (end : ReadEnd) → Ends tells left (marker_layout false (length u.nodes)) d e end → (n : ℕ) → left_of c < n → Ends tells left (items n) c e end
      item_not end k zero lt = absurd (omega arith)
      item_not end k (suc n) lt =
          let v = value0_layout (suc n) in
          leads_end tells left faults (items (suc n)) (todo v (suc n) i.0 (Items 1) (state0_of b u)) c d e count end g (one_with (suc n)).leads
          (subst (λ l. Ends tells left l d e end) (sym (todo_item v (suc n) i.0 0 (state0_of b u))) (marker_ends tells left faults n false (state0_of b u) (resume v (suc n) i.0 (Item 0)) d e end k))

      module _ (m : Marker0) (k : Answers tells left (λ m. Some m) (marker_layout false (length u.nodes)) d e (Ok m)) (less : left_of e < left_of d) (is_call : Bool) (so : is_call ≡ true → m ≡ marker.Switch) (not_so : is_call ≡ false → m ≡ marker.Switch → ⊥) where
        abbrev frame : Frame
        frame = record { node = i; role = Item 0 }

        pub item_begins : (n : ℕ) → left_of c < n → BeginsBy tells left (items n) (0x0A ∷ []) is_call (now.Begun m) (frame ∷ []) (state0_of b u) c e
        item_begins zero lt = absurd (omega arith)
        item_begins (suc n) lt =
            let l = stays in
            let v = value0_layout (suc n) in
            let z = state0_of b u in
            let next = resume v (suc n) i.0 (Item 0) in
            let cur = behind0 (value0_layout n) n z (Some m) in
            let waits : Fuel = record { values = suc n; pairs = suc n } in
            let item = subst (λ t. LeadsWith tells left t (bind cur next) (flat k.fields) d e) (sym (todo_item v (suc n) i.0 0 z))
            (with_bound tells left faults (value0_layout (suc n) false z) cur next (flat k.fields) d e (with_answer tells left faults (λ m. Some m) (marker_layout false (length u.nodes)) (behind0 (value0_layout n) n z) d e m k)) in
            record {
              fuel = record { values = n; pairs = n };
              fuels = waits ∷ [];
              enough = (omega arith, omega arith);
              fueled = ((omega arith, omega arith), tt);
              bytes = flat h.fields ++ flat k.fields;
              leads = with_on tells left faults (items (suc n)) (todo v (suc n) i.0 (Items 1) z) (bind cur (rest (waits ∷ []) (frame ∷ []))) (flat h.fields) (flat k.fields) c d e count g (one_with (suc n))
                  (subst (λ t. LeadsWith tells left (todo v (suc n) i.0 (Items 1) z) t (flat k.fields) d e) (bind_same cur next (rest (waits ∷ []) (frame ∷ [])) (λ x. sym (bind_give (next x)))) item);
              call = item_call (length u.nodes) m h.fields k.fields h.bytes (subst (λ j. Runs count_layout h.fields j) one h.runs) k.runs is_call so not_so;
            }
