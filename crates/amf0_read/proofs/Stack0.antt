-- A stack of open nodes: what each step of its loop keeps.
use Rattle.std.proofs.Common.{◌≡◌, ℕ, zero, suc, ◌+◌, ◌-◌, ◌≤◌, ◌<◌, true, inl, inr, List, [], ◌∷◌, ◌++◌, length, Option, Some, None, refl, sym, ap, ◌∙◌, arith, subst, Result, Ok, Err, IsSome, ◌↔◌, is_ok, if◌then◌else◌, take, option_to_list, reverse}
use Rattle.std.proofs.lemmas.List.{append-nil, reverse-append}
use Rattle.std.specs.List.{AllByRecursion}
use Rattle.amf_io.specs.declared.window.Window.{Window}
use Rattle.amf_io.specs.declared.cursor.Cursor.{Cursor}
use Rattle.amf_io.specs.declared.ends.ReadEnd.{ReadEnd}
use Rattle.amf_io.specs.Layout.{Layout, give, bind}
use Rattle.amf_io.specs.ReadEnds.{GoesBy}
use Rattle.amf_io.specs.CursorReads.{Answers, Ends, Leads}
use Rattle.amf_io.proofs.CursorReads.{goes_nowhere, goes_then, goes_other, leads_nowhere, leads_answers, leads_behind, leads_on, leads_end, end_reads}
use Rattle.amf_graph.specs.declared.value.Value.{Value as Stored}
use Rattle.amf_graph.specs.declared.value.NodeId.{NodeId}
use Rattle.amf_graph.specs.declared.value.Value.TheVariants as value
use Rattle.amf_graph.specs.declared.part.Part.TheVariants as part
use Rattle.amf_graph.specs.Graph as graph
use Rattle.amf_graph.specs.Arena.{Arena, StoredNode, IsBuilt, Names, head_content}
use Rattle.amf_graph.specs.Building.{stored_at, changed as changed_arena, more_part, PartNames, Takes, HasRoom, size_of}
use Rattle.amf3_spelling.specs.Reads3.{Grows}
use Rattle.amf3_layout_laws.specs.Layout3State.{State3, state_of}
use Rattle.amf3_layout_laws.proofs.Reader3Tables.{grows_itself, text_id_after_growth}
use Rattle.amf3_layout_laws.proofs.Reader3States.{more_value_state, more_name_state}
use Rattle.amf0_spelling.specs.KeptTables0.{KeptTables0, AreTables0In}
use Rattle.amf0_layout_laws.specs.Layout0State.{State0, state0_of}
use Rattle.amf0_layout_laws.specs.Layout0.{ValueRead0, read0, Reader0, behind0, value0_layout}
use Rattle.amf3_read.specs.declared.opening.Parts.TheVariants as parts
use Rattle.amf3_read.specs.declared.frame.Role.TheVariants as role3
use Rattle.amf3_read.specs.Filling.{with_more, IsOpened}
use Rattle.amf_wire_fields.specs.Room.{left_of}
use Rattle.amf3_read.specs.Frames.{Fuel, Enough}
use Rattle.amf_wire_fields.proofs.LayoutBinds.{bind_bind}
use Rattle.amf3_read.proofs.PartPut.{part_names, part_values, more_size, stays, same_head, put_node, put_built, put_tables, put_opened, put_head, put_nodes}
use Rattle.amf3_read.proofs.Stack.{opened_less, opened_grown, suits_more, takes, enough_less, leads_bound}
use Rattle.amf0_read.specs.declared.frame.Todo.{Todo}
use Rattle.amf0_read.specs.declared.frame.Role.{Role}
use Rattle.amf0_read.specs.declared.frame.Role.TheVariants.{Item, Named}
use Rattle.amf0_read.specs.declared.frame.Frame.{Frame}
use Rattle.amf0_read.specs.declared.frame.Now.{Now}
use Rattle.amf0_read.specs.declared.frame.Now.TheVariants as now
use Rattle.amf0_spelling.specs.declared.marker.Marker0.{Marker0}
use Rattle.amf0_read.specs.declared.node.Start.{Start}
use Rattle.amf0_read.specs.declared.node.Start.TheVariants as start
use Rattle.amf0_read.specs.declared.fill.Step.TheVariants as step
use Rattle.amf0_read.specs.Ready0.{Ready0, StillReady0}
use Rattle.amf0_read.specs.Frames0.{part_of, todo_behind, todo, resume, rest, current, HaveFuel, Lacks, LacksFor, RoleNames, Nested, Holds, now_of, StartsBy, StartHolds, GoesOn, StepHolds, owed, IsAt, StackSo}

-- The frames below are left alone.

pub nested_less : (left more : ℕ) (fs : List Frame) (b : Arena) → left ≤ more → Nested more fs b → Nested left fs b
nested_less left more [] b le h = tt
nested_less left more (f ∷ fs) b le h = record {
  over = record {
    opened = opened_less b f.node.0 left more le h.over.opened;
    below = nested_less (suc left) (suc more) fs h.over.opened.before (omega arith) h.over.below;
    built = h.over.built;
  };
  names = h.names;
  lacks = h.lacks;
}

role_names : (a b : Arena) → Grows a b → (x : Role) → RoleNames a x → RoleNames b x
role_names a b g (Item n) h = tt
role_names a b g (Named x) h = text_id_after_growth a b g x.0 h

-- what is closed and new behind the innermost node leaves all of them
pub nested_grows : (left : ℕ) (fs : List Frame) (b b1 : Arena) → IsBuilt b → Grows b b1 → Nested left fs b → Nested left fs b1
nested_grows left [] b b1 k g h = tt
nested_grows left (f ∷ fs) b b1 k g h =
    let i = f.node.0 in
    let o = h.over.opened in
    record {
      over = record { opened = opened_grown b b1 i left g o; below = h.over.below; built = h.over.built };
      names = role_names b b1 g f.role h.names;
      lacks = subst (λ x. LacksFor x (stored_at b1 i) f.role) (sym (same_head i left b b1 o g k)) (subst (λ m. LacksFor (head_content b (stored_at b i).head) m f.role) (sym (stays i left b b1 o g)) h.lacks);
    }

fueled_less : (left more : ℕ) (us : List Fuel) (fs : List Frame) → left ≤ more → HaveFuel more us fs → HaveFuel left us fs
fueled_less left more us [] le h = tt
fueled_less left more [] (f ∷ fs) le h = h
fueled_less left more (u ∷ us) (f ∷ fs) le h = (enough_less left more u le h.0, fueled_less left more us fs le h.1)

-- A value is put into its node.

-- what the node lacks then
lacks_more : (h : graph.Head) (m : StoredNode) (x : Role) (v : Stored) → LacksFor h m x → Lacks h (with_more m (part_names (part_of x v)) (part_values (part_of x v))) (todo_behind x)
lacks_more h m (Item n) v w = suits_more h m role3.Item (parts.Items n) v (part.Item v) refl w
lacks_more h m (Named y) v (inl w) = inl (suits_more h m (role3.Named y) (parts.Array 0) v (part.Named y v) refl w)
lacks_more h m (Named y) v (inr w) = inr (suits_more h m (role3.Named y) (parts.Object 0 true) v (part.Named y v) refl w)

-- its kind takes the part
takes_part : (h : graph.Head) (m : StoredNode) (x : Role) (v : Stored) → LacksFor h m x → Takes h (length m.values) (part_of x v)
takes_part h m (Item n) v w = takes h m role3.Item (parts.Items n) v (part.Item v) refl w
takes_part h m (Named y) v (inl w) = takes h m (role3.Named y) (parts.Array 0) v (part.Named y v) refl w
takes_part h m (Named y) v (inr w) = takes h m (role3.Named y) (parts.Object 0 true) v (part.Named y v) refl w

-- which is no more than a byte
part_small : (x : Role) (v : Stored) → length (part_names (part_of x v)) + length (part_values (part_of x v)) ≡ 1
part_small (Item n) v = refl
part_small (Named y) v = refl

-- with the tables as they are
abbrev state_with : KeptTables0 → State3 → State0
state_with u z = record { amf3 = z; nodes = u.nodes; switched = u.switched }

-- what follows the value is what follows the part
resumed : (b : Arena) (u : KeptTables0) (v : Stored) (b2 : Arena) (i : ℕ) (x : Role) → b2 ≡ changed_arena (more_part (part_of x v)) i b → (w : Reader0) (m : ℕ) → resume w m i x (read0 v (state0_of b u)) ≡ todo w m i (todo_behind x) (state0_of b2 u)
resumed b u v b2 i (Item n) e w m = ap (λ z. todo w m i (todo_behind (Item n)) (state_with u z)) (sym (ap (λ z. state_of z u.amf3) e ∙ more_value_state v i b u.amf3))
resumed b u v b2 i (Named y) e w m = ap (λ z. todo w m i (todo_behind (Named y)) (state_with u z)) (sym (ap (λ z. state_of z u.amf3) e ∙ more_name_state y.0 v i b u.amf3))

part_names_there : (b : Arena) (x : Role) (v : Stored) → RoleNames b x → Names b v → PartNames b (part_of x v)
part_names_there b (Item n) v h k = k
part_names_there b (Named y) v h k = (h, k)

-- The stack as a vector keeps the innermost frame last.

pub popped : (xs ys : List Frame) (o : Option Frame) (f : Frame) → o ≡ Some f → xs ≡ ys ++ option_to_list o → reverse xs ≡ f ∷ reverse ys
popped xs ys o f e h = ap reverse (h ∙ ap (λ z. ys ++ option_to_list z) e) ∙ reverse-append ys (f ∷ [])

pub popped_none : (xs ys : List Frame) (o : Option Frame) (n : ℕ) → o ≡ None → (IsSome o ↔ (0 < n)) → xs ≡ ys ++ option_to_list o → ys ≡ take (n - 1) xs → reverse xs ≡ []
popped_none xs ys o zero e h p q = ap reverse (p ∙ ap (λ z. ys ++ option_to_list z) e ∙ append-nil ys ∙ q)
popped_none xs ys o (suc n) e h p q = let s = subst IsSome e (h.1 (omega arith)) in absurd cc

pub pushed : {T E : Type 0} (xs ys : List Frame) (r : Result T E) (x : T) (f : Frame) → r ≡ Ok x → xs ≡ (if is_ok r then ys ++ f ∷ [] else ys) → reverse xs ≡ f ∷ reverse ys
pushed xs ys (Ok y) x f e h = ap reverse h ∙ reverse-append ys (f ∷ [])
pushed xs ys (Err y) x f e h = absurd cc

-- The steps of the loop.

pub ready_on : {S : Type 0} (o p : ℕ) (b b1 : Arena) (u u1 : KeptTables0) (d e : Cursor S Window) → Ready0 o b u d → StillReady0 p o b b1 u1 d e → Ready0 p b1 u1 e
ready_on o p b b1 u u1 d e r k = record {
  amf3 = record {
    built = k.built;
    tables = k.tables.amf3;
    placed = k.placed;
    few_texts = let x = r.amf3.few_texts in let y = k.texts in omega arith;
    few_traits = let x = r.amf3.few_traits in let y = k.traits in omega arith;
    few_nodes = let x = r.amf3.few_nodes in let y = k.nodes in omega arith;
  };
  nodes = k.tables.nodes;
  distinct = k.tables.distinct;
}

pub ready_twice : {S : Type 0} (o p q : ℕ) (a b b1 : Arena) (u u1 : KeptTables0) (c d e : Cursor S Window) → StillReady0 p o a b u c d → StillReady0 q p b b1 u1 d e → StillReady0 q o a b1 u1 c e
ready_twice o p q a b b1 u u1 c d e h k = record {
  built = k.built;
  tables = k.tables;
  placed = k.placed;
  texts = let x = h.texts in let y = k.texts in omega arith;
  traits = let x = h.traits in let y = k.traits in omega arith;
  nodes = let x = h.nodes in let y = k.nodes in omega arith;
}

pub are_tables : {S : Type 0} (o : ℕ) (a : Arena) (t : KeptTables0) (c : Cursor S Window) → Ready0 o a t c → AreTables0In a t
are_tables o a t c r = record { amf3 = r.amf3.tables; nodes = r.nodes; distinct = r.distinct }

module _ {S : Type 0} (tells : S → Type 0) (left : S → List ℕ) (faults : S → ℕ) (old : Now) (es : List Frame) (a : Arena) (t : KeptTables0) (c : Cursor S Window) where
  -- what was to be read first
  abbrev first : Fuel → List Fuel → Layout ValueRead0
  first fuel fuels = bind (current fuel old (state0_of a t)) (rest fuels es)

  pub so_begin : Ready0 (owed old) a t c → Holds (left_of c) old es a → StackSo tells left faults old es a a t t c c old es
  so_begin r h = record {
    goes = goes_nowhere tells left faults c tt r.amf3.placed;
    ready = r;
    still_ready = record { built = r.amf3.built; tables = are_tables (owed old) a t c r; placed = r.amf3.placed; texts = omega arith; traits = omega arith; nodes = omega arith };
    holds = h;
    at = λ fuel fuels lt f. record { fuel = fuel; fuels = fuels; enough = lt; fueled = f; leads = leads_nowhere tells left faults (first fuel fuels) c r.amf3.placed };
  }

  module _ (b : Arena) (u : KeptTables0) (d : Cursor S Window) (fs : List Frame) where
    -- the marker of a value was read
    module _ (m : Marker0) (so : StackSo tells left faults old es a b t u c d (now.Begun m) fs) (b1 : Arena) (u1 : KeptTables0) (e : Cursor S Window) where
      pub so_end : (end : ReadEnd) → ((v : Reader0) (n : ℕ) → left_of d < n → StartsBy tells left v n (behind0 v n (state0_of b u) (Some m)) (state0_of b1 u1) d e (Err end)) → (fuel : Fuel) (fuels : List Fuel) → Enough (left_of c) fuel → HaveFuel (left_of c) fuels es → Ends tells left (first fuel fuels) c e end
      so_end end h fuel fuels lt f =
          let y = so.at fuel fuels lt f in
          let w = current y.fuel (now.Begun m) (state0_of b u) in
          leads_end tells left faults (first fuel fuels) (bind w (rest y.fuels fs)) c d e tt end so.goes y.leads
          (end_reads tells left faults w (rest y.fuels fs) d e end (h (value0_layout y.fuel.values) y.fuel.pairs y.enough.1))

      module _ (k : StillReady0 0 1 b b1 u1 d e) (same : left_of e ≤ left_of d) where
        so_value : (v : Stored) → GoesBy tells left faults d e (Ok (start.Value v)) → ((w : Reader0) (n : ℕ) → left_of d < n → StartsBy tells left w n (behind0 w n (state0_of b u) (Some m)) (state0_of b1 u1) d e (Ok (start.Value v))) → StartHolds b b1 (left_of e) (start.Value v)
            → StackSo tells left faults old es a b1 t u1 c e (now.Given v) fs
        so_value v g h (names, grows) = record {
          goes = goes_then tells left faults c d e tt (Ok tt) so.goes (goes_other tells left faults d e (start.Value v) tt g);
          ready = ready_on 1 0 b b1 u u1 d e so.ready k;
          still_ready = ready_twice (owed old) 1 0 a b b1 u u1 c d e so.still_ready k;
          holds = (nested_less (suc (left_of e)) (suc (left_of d)) fs b1 (omega arith) (nested_grows (suc (left_of d)) fs b b1 so.ready.amf3.built grows so.holds), names);
          at = λ fuel fuels lt f.
              let y = so.at fuel fuels lt f in
              let w = current y.fuel (now.Begun m) (state0_of b u) in
              record {
                fuel = y.fuel;
                fuels = y.fuels;
                enough = enough_less (left_of e) (left_of d) y.fuel same y.enough;
                fueled = fueled_less (left_of e) (left_of d) y.fuels fs same y.fueled;
                leads = leads_on tells left faults (first fuel fuels) (bind w (rest y.fuels fs)) (rest y.fuels fs (read0 v (state0_of b1 u1))) c d e tt so.goes y.leads
                    (leads_behind tells left faults (λ x. read0 x (state0_of b1 u1)) w (rest y.fuels fs) d e v (h (value0_layout y.fuel.values) y.fuel.pairs y.enough.1));
              };
        }

        so_open : (i : NodeId) (p : Todo) → GoesBy tells left faults d e (Ok (start.Open i p)) → ((w : Reader0) (n : ℕ) → left_of d < n → StartsBy tells left w n (behind0 w n (state0_of b u) (Some m)) (state0_of b1 u1) d e (Ok (start.Open i p))) → StartHolds b b1 (left_of e) (start.Open i p)
            → StackSo tells left faults old es a b1 t u1 c e (now.Open i p) fs
        so_open i p g h o = record {
          goes = goes_then tells left faults c d e tt (Ok tt) so.goes (goes_other tells left faults d e (start.Open i p) tt g);
          ready = ready_on 1 0 b b1 u u1 d e so.ready k;
          still_ready = ready_twice (owed old) 1 0 a b b1 u u1 c d e so.still_ready k;
          holds = record {
            over = record {
              opened = o.opened;
              below = nested_less (suc (left_of e)) (suc (left_of d)) fs o.opened.before (omega arith) (nested_grows (suc (left_of d)) fs b o.opened.before so.ready.amf3.built o.grows so.holds);
              built = o.built so.ready.amf3.built;
            };
            lacks = o.lacks;
          };
          at = λ fuel fuels lt f.
              let y = so.at fuel fuels lt f in
              let w = current y.fuel (now.Begun m) (state0_of b u) in
              let next = current y.fuel (now.Open i p) (state0_of b1 u1) in
              record {
                fuel = y.fuel;
                fuels = y.fuels;
                enough = enough_less (left_of e) (left_of d) y.fuel same y.enough;
                fueled = fueled_less (left_of e) (left_of d) y.fuels fs same y.fueled;
                leads = leads_on tells left faults (first fuel fuels) (bind w (rest y.fuels fs)) (bind next (rest y.fuels fs)) c d e tt so.goes y.leads
                    (leads_bound tells left faults w next (rest y.fuels fs) d e (h (value0_layout y.fuel.values) y.fuel.pairs y.enough.1));
              };
        }

        pub so_start : (x : Start) → GoesBy tells left faults d e (Ok x) → ((w : Reader0) (n : ℕ) → left_of d < n → StartsBy tells left w n (behind0 w n (state0_of b u) (Some m)) (state0_of b1 u1) d e (Ok x)) → StartHolds b b1 (left_of e) x
            → StackSo tells left faults old es a b1 t u1 c e (now_of x) fs
        so_start (start.Value v) g h o = so_value v g h o
        so_start (start.Open i p) g h o = so_open i p g h o

    -- a node is open
    module _ (i : NodeId) (p : Todo) (so : StackSo tells left faults old es a b t u c d (now.Open i p) fs) (b1 : Arena) (e : Cursor S Window) where
      abbrev still : Fuel → Layout ValueRead0
      still f = todo (value0_layout f.values) f.pairs i.0 p (state0_of b u)

      pub go_end : (end : ReadEnd) → ((f : Fuel) → Enough (left_of d) f → GoesOn tells left (still f) i.0 (state0_of b1 u) d e (Err end)) → (fuel : Fuel) (fuels : List Fuel) → Enough (left_of c) fuel → HaveFuel (left_of c) fuels es → Ends tells left (first fuel fuels) c e end
      go_end end h fuel fuels lt f =
          let y = so.at fuel fuels lt f in
          leads_end tells left faults (first fuel fuels) (bind (still y.fuel) (rest y.fuels fs)) c d e tt end so.goes y.leads
          (end_reads tells left faults (still y.fuel) (rest y.fuels fs) d e end (h y.fuel y.enough))

      pub go_wait : (x : Role) (m : Marker0) → StillReady0 1 0 b b1 u d e → suc (left_of e) ≤ left_of d → GoesBy tells left faults d e (Ok (step.Wait x m)) → ((f : Fuel) → Enough (left_of d) f → GoesOn tells left (still f) i.0 (state0_of b1 u) d e (Ok (step.Wait x m))) → StepHolds b b1 i.0 (step.Wait x m)
          → StackSo tells left faults old es a b1 t u c e (now.Begun m) (record { node = i; role = x } ∷ fs)
      go_wait x m k less g h (grows, names, lacks) = record {
        goes = goes_then tells left faults c d e tt (Ok tt) so.goes (goes_other tells left faults d e (step.Wait x m) tt g);
        ready = ready_on 0 1 b b1 u u d e so.ready k;
        still_ready = ready_twice (owed old) 0 1 a b b1 u u c d e so.still_ready k;
        holds = record {
          over = record {
            opened = opened_less b1 i.0 (suc (left_of e)) (left_of d) less (opened_grown b b1 i.0 (left_of d) grows so.holds.over.opened);
            below = nested_less (suc (suc (left_of e))) (suc (left_of d)) fs so.holds.over.opened.before (omega arith) so.holds.over.below;
            built = so.holds.over.built;
          };
          names = names;
          lacks = lacks;
        };
        at = λ fuel fuels lt f.
            let y = so.at fuel fuels lt f in
            let z = h y.fuel y.enough in
            let now = current z.fuel (now.Begun m) (state0_of b1 u) in
            let next = resume (value0_layout z.waiting.values) z.waiting.pairs i.0 x in
            record {
              fuel = z.fuel;
              fuels = z.waiting ∷ y.fuels;
              enough = z.enough;
              fueled = (z.enough_waiting, fueled_less (left_of e) (left_of d) y.fuels fs (omega arith) y.fueled);
              leads = subst (λ l. Leads tells left (first fuel fuels) l c e) (bind_bind now next (rest y.fuels fs))
                  (leads_on tells left faults (first fuel fuels) (bind (still y.fuel) (rest y.fuels fs)) (bind (bind now next) (rest y.fuels fs)) c d e tt so.goes y.leads (leads_bound tells left faults (still y.fuel) (bind now next) (rest y.fuels fs) d e z.leads));
            };
      }

      pub go_closed : StillReady0 0 0 b b1 u d e → left_of e ≤ left_of d → GoesBy tells left faults d e (Ok step.Closed) → ((f : Fuel) → Enough (left_of d) f → GoesOn tells left (still f) i.0 (state0_of b1 u) d e (Ok step.Closed)) → StepHolds b b1 i.0 step.Closed
          → StackSo tells left faults old es a b1 t u c e (now.Given (value.Node i)) fs
      go_closed k same g h (there, closes) =
          let o = so.holds.over in
          record {
            goes = goes_then tells left faults c d e tt (Ok tt) so.goes (goes_other tells left faults d e step.Closed tt g);
            ready = ready_on 0 0 b b1 u u d e so.ready k;
            still_ready = ready_twice (owed old) 0 0 a b b1 u u c d e so.still_ready k;
            holds = (nested_grows (suc (left_of e)) fs o.opened.before b1 o.built (closes o.opened.before (stored_at b i.0) o.opened.place o.opened.within) (nested_less (suc (left_of e)) (suc (left_of d)) fs o.opened.before (omega arith) o.below), there);
            at = λ fuel fuels lt f.
                let y = so.at fuel fuels lt f in
                let next : Layout ValueRead0 = give (read0 (value.Node (record { 0 = i.0 })) (state0_of b1 u)) in
                record {
                  fuel = y.fuel;
                  fuels = y.fuels;
                  enough = enough_less (left_of e) (left_of d) y.fuel same y.enough;
                  fueled = fueled_less (left_of e) (left_of d) y.fuels fs same y.fueled;
                  leads = leads_on tells left faults (first fuel fuels) (bind (still y.fuel) (rest y.fuels fs)) (bind next (rest y.fuels fs)) c d e tt so.goes y.leads (leads_bound tells left faults (still y.fuel) next (rest y.fuels fs) d e (h y.fuel y.enough));
                };
          }

    -- a value was read, and it is a part of the innermost node
    module _ (f : Frame) (v : Stored) (so : StackSo tells left faults old es a b t u c d (now.Given v) (f ∷ fs)) where
      abbrev o : IsOpened b f.node.0 (suc (left_of d))
      o = so.holds.0.over.opened

      pub put_room : HasRoom b (stored_at b f.node.0) (part_of f.role v)
      put_room = takes_part (head_content b (stored_at b f.node.0).head) (stored_at b f.node.0) f.role v so.holds.0.lacks

      pub put_there : PartNames b (part_of f.role v)
      put_there = part_names_there b f.role v so.holds.0.names so.holds.1

      pub so_put : (b2 : Arena) → b2 ≡ changed_arena (more_part (part_of f.role v)) f.node.0 b → StackSo tells left faults old es a b2 t u c d (now.Open f.node (todo_behind f.role)) fs
      so_put b2 e =
          let i = f.node.0 in
          let p = part_of f.role v in
          let l = suc (left_of d) in
          let g = grows_itself b in
          let node = put_node i l b b o g p b2 e in
          let same_texts : length b2.texts ≡ length b.texts = ap (λ z. length z.texts) e in
          let same_traits : length b2.traits ≡ length b.traits = ap (λ z. length z.traits) e in
          let same_nodes : length b2.nodes ≡ length b.nodes = put_nodes i l b b o g p b2 e in
          let built = put_built i l b b o g p b2 e so.ready.amf3.built put_room put_there in
          let tables = put_tables i l b b o g p b2 e u.amf3 so.ready.amf3.built so.ready.amf3.tables in
          let nodes = subst (λ n. AllByRecursion (λ j. j < n) u.nodes) (sym same_nodes) so.ready.nodes in
          let whole : AreTables0In b2 u = record { amf3 = tables; nodes = nodes; distinct = so.ready.distinct } in
          record {
            goes = so.goes;
            ready = record {
              amf3 = record { built = built; tables = tables; placed = so.ready.amf3.placed; few_texts = let x = so.ready.amf3.few_texts in omega arith; few_traits = let x = so.ready.amf3.few_traits in omega arith; few_nodes = let x = so.ready.amf3.few_nodes in omega arith };
              nodes = nodes;
              distinct = so.ready.distinct;
            };
            still_ready = record { built = built; tables = whole; placed = so.ready.amf3.placed; texts = let x = so.still_ready.texts in omega arith; traits = let x = so.still_ready.traits in omega arith; nodes = let x = so.still_ready.nodes in omega arith };
            holds = record {
              over = record {
                opened = put_opened i l b b o g p b2 e (left_of d) (let s = more_size (stored_at b i) (part_names p) (part_values p) in let n = ap size_of node in let k = part_small f.role v in omega arith);
                below = nested_less (suc (left_of d)) (suc (suc (left_of d))) fs o.before (omega arith) so.holds.0.over.below;
                built = so.holds.0.over.built;
              };
              lacks = subst (λ h. Lacks h (stored_at b2 i) (todo_behind f.role)) (sym (put_head i l b b o g p b2 e so.ready.amf3.built)) (subst (λ m. Lacks (head_content b (stored_at b i).head) m (todo_behind f.role)) (sym node) (lacks_more (head_content b (stored_at b i).head) (stored_at b i) f.role v so.holds.0.lacks));
            };
            at = λ fuel fuels lt h. let y = so.at fuel fuels lt h in by fuel fuels y.fuels y.fueled y.leads;
          }
        where
          by : (fuel : Fuel) (fuels us : List Fuel) → HaveFuel (left_of d) us (f ∷ fs) → Leads tells left (first fuel fuels) (rest us (f ∷ fs) (read0 v (state0_of b u))) c d → IsAt tells left (first fuel fuels) (now.Open f.node (todo_behind f.role)) fs (state0_of b2 u) c d
          by fuel fuels [] h l = absurd h
          by fuel fuels (z ∷ us) h l = record {
            fuel = z;
            fuels = us;
            enough = h.0;
            fueled = h.1;
            leads = subst (λ w. Leads tells left (first fuel fuels) (bind w (rest us fs)) c d) (resumed b u v b2 f.node.0 f.role e (value0_layout z.values) z.pairs) l;
          }

  -- a value was read, and no node is open
  pub so_done : (b : Arena) (u : KeptTables0) (d : Cursor S Window) (v : Stored) → StackSo tells left faults old es a b t u c d (now.Given v) [] → (fuel : Fuel) (fuels : List Fuel) → Enough (left_of c) fuel → HaveFuel (left_of c) fuels es
      → Answers tells left (λ x. read0 x (state0_of b u)) (first fuel fuels) c d (Ok v)
  so_done b u d v so fuel fuels lt f = leads_answers tells left faults (λ x. read0 x (state0_of b u)) (first fuel fuels) (read0 v (state0_of b u)) c d v refl (so.at fuel fuels lt f).leads
