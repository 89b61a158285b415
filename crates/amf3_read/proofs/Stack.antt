-- A stack of open nodes: what each step of its loop keeps.
use Rattle.std.proofs.Common.{◌≡◌, ℕ, suc, ◌+◌, ◌≤◌, ◌<◌, true, false, inl, inr, List, [], ◌∷◌, length, Option, Some, None, refl, sym, ap, ◌∙◌, arith, subst, Result, Ok, Err, OnOk}
use Rattle.std.specs.Result.{IsErrAnd}
use Rattle.std.proofs.lemmas.List.{append-nil}
use Rattle.std.proofs.Common.{length-append}
use Rattle.amf_io.specs.declared.window.Window.{Window}
use Rattle.amf_io.specs.declared.cursor.Cursor.{Cursor}
use Rattle.amf_io.specs.declared.ends.ReadEnd.{ReadEnd}
use Rattle.amf_io.specs.Cursor.{place}
use Rattle.amf_io.specs.Layout.{Layout, give, bind}
use Rattle.amf_io.specs.ReadEnds.{GoesBy}
use Rattle.amf_io.specs.CursorReads.{Answers, Ends, Leads}
use Rattle.amf_io.proofs.Paths.{path_bind}
use Rattle.amf_io.proofs.CursorReads.{goes_nowhere, goes_then, goes_other, leads_nowhere, leads_answers, leads_behind, leads_on, leads_end, end_reads}
use Rattle.amf_graph.specs.declared.value.Value.{Value as Stored}
use Rattle.amf_graph.specs.declared.value.NodeId.{NodeId}
use Rattle.amf_graph.specs.declared.value.TextId.{TextId}
use Rattle.amf_graph.specs.declared.value.Value.TheVariants as value
use Rattle.amf_graph.specs.declared.part.Part.{Part}
use Rattle.amf_graph.specs.declared.part.Part.TheVariants as part
use Rattle.amf_graph.specs.Graph as graph
use Rattle.amf_graph.specs.Arena.{Arena, StoredNode, IsBuilt, Names, head_content}
use Rattle.amf_graph.specs.Building.{kept_node, stored_at, changed as changed_arena, more_part, PartNames, Takes, HasRoom, size_of}
use Rattle.amf3_spelling.specs.KeptTables.{KeptTables}
use Rattle.amf3_spelling.specs.Reads3.{Grows}
use Rattle.amf3_layout_laws.specs.Layout3State.{State3, state_of}
use Rattle.amf3_layout_laws.specs.Layout3.{ValueRead, read, value_layout}
use Rattle.amf3_layout_laws.proofs.Reader3Tables.{grows_itself, grows_twice, names_after_growth, text_id_after_growth}
use Rattle.amf3_layout_laws.proofs.Reader3States.{more_value_state, more_name_state, more_entry_state}
use Rattle.amf3_read.specs.declared.opening.Parts.{Parts}
use Rattle.amf3_read.specs.declared.opening.Parts.TheVariants.{Array, Object, Items, Entries}
use Rattle.amf3_read.specs.declared.frame.Role.{Role}
use Rattle.amf3_read.specs.declared.frame.Role.TheVariants as role
use Rattle.amf3_read.specs.declared.frame.Frame.{Frame}
use Rattle.amf3_read.specs.Now.{Now}
use Rattle.amf3_read.specs.declared.frame.OpenNode.{OpenNode}
use Rattle.amf3_read.specs.Now as now
use Rattle.amf3_read.specs.declared.node.Start.TheVariants as start
use Rattle.amf3_read.specs.declared.fill.Step.TheVariants as step
use Rattle.amf3_read.specs.Roles.{IsPart}
use Rattle.amf3_read.specs.Filling.{with_more, IsOpened}
use Rattle.amf_wire_fields.specs.Room.{left_of}
use Rattle.amf3_read.specs.Ready.{Ready, Continues}
use Rattle.amf3_read.specs.Frames.{todo, resume, Fuel, rest, Enough, HaveFuel, LacksItems, Suits, WaitsFor, RoleNames, spare, Waits, Nested, IsAt, StillReady, Starts, StartHolds, GoesOn, StepHolds, StackSo}
use Rattle.amf3_read.specs.Follows.{Follows, IsWaiting, entry_of}
use Rattle.amf_wire_fields.proofs.LayoutBinds.{bind_give, bind_bind}
use Rattle.amf3_read.proofs.PartPut.{part_names, part_values, more_size, there, stays, still_open, same_head, put_node, put_built, put_tables, put_opened, put_head, put_nodes}

-- The frames below are left alone.

abbrev pub opened_less : (b : Arena) (i left more : ℕ) → left ≤ more → IsOpened b i more → IsOpened b i left
opened_less b i left more le o = record { before = o.before; within = o.within; place = o.place; opened = o.opened; room = let r = o.room in omega arith }

pub nested_less : (a : Arena) (left more : ℕ) (fs : List Frame) (b : Arena) → left ≤ more → Nested a more fs b → Nested a left fs b
nested_less a left more [] b le h = h
nested_less a left more (f ∷ fs) b le h = record {
  over = record {
    opened = opened_less b f.node.0 (left + spare f.role) (more + spare f.role) (omega arith) h.over.opened;
    below = nested_less a (suc left) (suc more) fs h.over.opened.before (omega arith) h.over.below;
    built = h.over.built;
  };
  names = h.names;
  suits = h.suits;
}

role_names : (a b : Arena) → Grows a b → (x : Role) → RoleNames a x → RoleNames b x
role_names a b g role.Item h = tt
role_names a b g (role.Named x) h = text_id_after_growth a b g x.0 h
role_names a b g role.Key h = tt
role_names a b g (role.Entry k) h = names_after_growth a b g k h

abbrev pub opened_grown : (b b1 : Arena) (i left : ℕ) → Grows b b1 → IsOpened b i left → IsOpened b1 i left
opened_grown b b1 i left g o = record {
  before = o.before;
  within = subst (λ n. Grows (kept_node o.before n) b1) (sym (stays i left b b1 o g)) (grows_twice (kept_node o.before (stored_at b i)) b b1 o.within g);
  place = o.place;
  opened = still_open i left b b1 o g;
  room = subst (λ n. size_of n + left < 268435455) (sym (stays i left b b1 o g)) o.room;
}

-- what is closed and new behind the innermost node leaves all of them
pub nested_grows : (a : Arena) (left : ℕ) (fs : List Frame) (b b1 : Arena) → IsBuilt b → Grows b b1 → Nested a left fs b → Nested a left fs b1
nested_grows a left [] b b1 k g h = grows_twice a b b1 h g
nested_grows a left (f ∷ fs) b b1 k g h =
    let i = f.node.0 in
    let l = left + spare f.role in
    let o = h.over.opened in
    record {
      over = record { opened = opened_grown b b1 i l g o; below = h.over.below; built = h.over.built };
      names = role_names b b1 g f.role h.names;
      suits = subst (λ x. WaitsFor x (stored_at b1 i) f.role f.todo) (sym (same_head i l b b1 o g k)) (subst (λ m. WaitsFor (head_content b (stored_at b i).head) m f.role f.todo) (sym (stays i l b b1 o g)) h.suits);
    }

fueled_less : (left more : ℕ) (us : List Fuel) (fs : List Frame) → left ≤ more → HaveFuel more us fs → HaveFuel left us fs
fueled_less left more us [] le h = tt
fueled_less left more [] (f ∷ fs) le h = h
fueled_less left more (u ∷ us) (f ∷ fs) le h = ((let x = h.0.0 in omega arith, let y = h.0.1 in omega arith), fueled_less left more us fs le h.1)

-- A value is put into its node.

lacks_more : (h : graph.Head) (m : StoredNode) (n : ℕ) (v : Stored) → LacksItems h m (suc n) → LacksItems h (with_more m [] (v ∷ [])) n
lacks_more h m n v (inl e) = inl e
lacks_more h m n v (inr (inl (c, e, k, z))) = inr (inl (c, e, omega (arith, length-append m.values (v ∷ [])), append-nil m.names ∙ z))
lacks_more h m n v (inr (inr (f, x, e, z))) = inr (inr (f, x, e, append-nil m.names ∙ z))

some_part : (p r : Part) → Some p ≡ Some r → p ≡ r
some_part p r e = cc

-- and what it lacks then
pub suits_more : (h : graph.Head) (m : StoredNode) (x : Role) (q : Parts) (v : Stored) (p : Part) → IsPart x v (Some p) → WaitsFor h m x q → Suits h (with_more m (part_names p) (part_values p)) q
suits_more h m x q v p is w = by p x q is w
  where
    item : (p : Part) (q : Parts) → p ≡ part.Item v → WaitsFor h m role.Item q → Suits h (with_more m (part_names p) (part_values p)) q
    item p (Object n d) e (t, is, k, dy, z) = subst (λ p. Suits h (with_more m (part_names p) (part_values p)) (Object n d)) (sym e) (t, is, omega (arith, length-append m.values (v ∷ [])), dy, λ f. append-nil m.names ∙ z f)
    item p (Items n) e w = subst (λ p. Suits h (with_more m (part_names p) (part_values p)) (Items n)) (sym e) (lacks_more h m n v w)
    item p (Array n) e w = absurd w
    item p (Entries n) e w = absurd w

    named : (y : TextId) (p : Part) (q : Parts) → p ≡ part.Named y v → WaitsFor h m (role.Named y) q → Suits h (with_more m (part_names p) (part_values p)) q
    named y p (Array n) e w = w
    named y p (Object n d) e ((t, is, k, dy, z), on) = subst (λ p. Suits h (with_more m (part_names p) (part_values p)) (Object n d)) (sym e) (t, is, omega (arith, length-append m.values []), dy, λ f. absurd (no f (dy on)))
      where
        no : t.dynamic ≡ false → t.dynamic ≡ true → ⊥
        no f g = cc
    named y p (Items n) e w = absurd w
    named y p (Entries n) e w = absurd w

    entry : (k : Stored) (p : Part) (q : Parts) → p ≡ part.Entry k v → WaitsFor h m (role.Entry k) q → Suits h (with_more m (part_names p) (part_values p)) q
    entry k p (Entries n) e (f, is, z, j, l) = subst (λ p. Suits h (with_more m (part_names p) (part_values p)) (Entries n)) (sym e) (f, is, append-nil m.names ∙ z, suc j, omega (arith, length-append m.values (k ∷ v ∷ [])))
    entry k p (Array n) e w = absurd w
    entry k p (Object n d) e w = absurd w
    entry k p (Items n) e w = absurd w

    by : (p : Part) (x : Role) (q : Parts) → IsPart x v (Some p) → WaitsFor h m x q → Suits h (with_more m (part_names p) (part_values p)) q
    by p role.Item q is w = item p q (some_part p _ is) w
    by p (role.Named y) q is w = named y p q (some_part p _ is) w
    by p role.Key q is w = absurd cc
    by p (role.Entry k) q is w = entry k p q (some_part p _ is) w

-- the node's kind takes it
pub takes : (h : graph.Head) (m : StoredNode) (x : Role) (q : Parts) (v : Stored) (p : Part) → IsPart x v (Some p) → WaitsFor h m x q → Takes h (length m.values) p
takes h m x q v p is w = by x q is w
  where
    lacks : (n : ℕ) → LacksItems h m (suc n) → Takes h (length m.values) (part.Item v)
    lacks n (inl e) = subst (λ h. Takes h (length m.values) (part.Item v)) (sym e) tt
    lacks n (inr (inl (c, e, k, z))) = subst (λ h. Takes h (length m.values) (part.Item v)) (sym e) (omega arith)
    lacks n (inr (inr (f, x, e, z))) = subst (λ h. Takes h (length m.values) (part.Item v)) (sym e) tt

    item : (q : Parts) → WaitsFor h m role.Item q → Takes h (length m.values) (part.Item v)
    item (Object n d) (t, e, k, dy, z) = subst (λ h. Takes h (length m.values) (part.Item v)) (sym e) (omega arith)
    item (Items n) w = lacks n w
    item (Array n) w = absurd w
    item (Entries n) w = absurd w

    named : (y : TextId) (q : Parts) → WaitsFor h m (role.Named y) q → Takes h (length m.values) (part.Named y v)
    named y (Array n) e = subst (λ h. Takes h (length m.values) (part.Named y v)) (sym e) tt
    named y (Object n d) ((t, e, k, dy, z), on) = subst (λ h. Takes h (length m.values) (part.Named y v)) (sym e) (dy on)
    named y (Items n) w = absurd w
    named y (Entries n) w = absurd w

    entry : (k : Stored) (q : Parts) → WaitsFor h m (role.Entry k) q → Takes h (length m.values) (part.Entry k v)
    entry k (Entries n) (f, e, z, j, l) = subst (λ h. Takes h (length m.values) (part.Entry k v)) (sym e) tt
    entry k (Array n) w = absurd w
    entry k (Object n d) w = absurd w
    entry k (Items n) w = absurd w

    by : (x : Role) (q : Parts) → IsPart x v (Some p) → WaitsFor h m x q → Takes h (length m.values) p
    by role.Item q is w = subst (Takes h (length m.values)) (sym (some_part p (part.Item v) is)) (item q w)
    by (role.Named y) q is w = subst (Takes h (length m.values)) (sym (some_part p (part.Named y v) is)) (named y q w)
    by role.Key q is w = absurd cc
    by (role.Entry k) q is w = subst (Takes h (length m.values)) (sym (some_part p (part.Entry k v) is)) (entry k q w)

-- and it is no more than the bytes that came
part_small : (x : Role) (v : Stored) (p : Part) → IsPart x v (Some p) → length (part_names p) + length (part_values p) ≤ suc (spare x)
part_small role.Item v p is = let e = ap (λ p. length (part_names p) + length (part_values p)) (some_part p (part.Item v) is) in omega arith
part_small (role.Named y) v p is = let e = ap (λ p. length (part_names p) + length (part_values p)) (some_part p (part.Named y v) is) in omega arith
part_small role.Key v p is = absurd cc
part_small (role.Entry k) v p is = let e = ap (λ p. length (part_names p) + length (part_values p)) (some_part p (part.Entry k v) is) in omega arith

-- what follows the value is what follows the part
resumed : (b : Arena) (u : KeptTables) (v : Stored) (p : Part) (b2 : Arena) (i : ℕ) (q : Parts) → b2 ≡ changed_arena (more_part p) i b → (x : Role) → IsPart x v (Some p) → (w : State3 → Layout ValueRead) (m : ℕ) → resume w m i x q (read v (state_of b u)) ≡ todo w m i q (state_of b2 u)
resumed b u v p b2 i q e role.Item h w m = ap (todo w m i q) (sym (ap (λ z. state_of z u) (e ∙ ap (λ p. changed_arena (more_part p) i b) (some_part p (part.Item v) h)) ∙ more_value_state v i b u))
resumed b u v p b2 i q e (role.Named y) h w m = ap (todo w m i q) (sym (ap (λ z. state_of z u) (e ∙ ap (λ p. changed_arena (more_part p) i b) (some_part p (part.Named y v) h)) ∙ more_name_state y.0 v i b u))
resumed b u v p b2 i q e role.Key h w m = absurd cc
resumed b u v p b2 i q e (role.Entry k) h w m = ap (todo w m i q) (sym (ap (λ z. state_of z u) (e ∙ ap (λ p. changed_arena (more_part p) i b) (some_part p (part.Entry k v) h)) ∙ more_entry_state k v i b u))

pub key_of : (x : Role) (v : Stored) (o : Option Part) → o ≡ None → IsPart x v o → x ≡ role.Key
key_of role.Item v o e h = absurd cc
key_of (role.Named y) v o e h = absurd cc
key_of role.Key v o e h = refl
key_of (role.Entry k) v o e h = absurd cc

pub done : {T E : Type 0} (P : Type 0) (r : Result T E) (x : T) → r ≡ Ok x → OnOk r P → P
done P (Ok y) x e h = h
done P (Err y) x e h = absurd cc

-- A frame waits, whatever stands below it.

pub waits_any : (B : Arena → Type 0) (left : ℕ) (b : Arena) (f : Frame) → Waits B left b f → IsWaiting left b f
waits_any B left b f h = record { over = record { opened = h.over.opened; below = tt; built = h.over.built }; names = h.names; suits = h.suits }

-- and still waits where what is closed and new stands behind it
pub waits_grown : (left more : ℕ) (b b1 : Arena) (f : Frame) → left ≤ more → IsBuilt b → Grows b b1 → IsWaiting more b f → IsWaiting left b1 f
waits_grown left more b b1 f le k g h =
    let i = f.node.0 in
    let l = more + spare f.role in
    let o = h.over.opened in
    record {
      over = record { opened = opened_less b1 i (left + spare f.role) l (omega arith) (opened_grown b b1 i l g o); below = tt; built = h.over.built };
      names = role_names b b1 g f.role h.names;
      suits = subst (λ x. WaitsFor x (stored_at b1 i) f.role f.todo) (sym (same_head i l b b1 o g k)) (subst (λ m. WaitsFor (head_content b (stored_at b i).head) m f.role f.todo) (sym (stays i l b b1 o g)) h.suits);
    }

-- a key that was given waits for its value
pub key_waits : (left : ℕ) (b : Arena) (f : Frame) (v : Stored) → f.role ≡ role.Key → Names b v → IsWaiting (suc left) b f → IsWaiting left b (entry_of f.node v f.todo)
key_waits left b f v is names h = record {
  over = record { opened = opened_less b f.node.0 (left + 1) (suc left + spare f.role) (omega arith) h.over.opened; below = tt; built = h.over.built };
  names = names;
  suits = entry_waits (head_content b (stored_at b f.node.0).head) (stored_at b f.node.0) v f.todo (subst (λ x. WaitsFor (head_content b (stored_at b f.node.0).head) (stored_at b f.node.0) x f.todo) is h.suits);
}
  where
    entry_waits : (h : graph.Head) (m : StoredNode) (v : Stored) (q : Parts) → WaitsFor h m role.Key q → WaitsFor h m (role.Entry v) q
    entry_waits h m v (Entries n) w = w
    entry_waits h m v (Array n) w = absurd w
    entry_waits h m v (Object n x) w = absurd w
    entry_waits h m v (Items n) w = absurd w

-- the part that its value is can be put into its node
module _ (left : ℕ) (b : Arena) (f : Frame) (h : IsWaiting left b f) where
  pub part_there : f.node.0 < length b.nodes
  part_there = there f.node.0 (left + spare f.role) b b h.over.opened (grows_itself b)

  module _ (v : Stored) (p : Part) (is : IsPart f.role v (Some p)) where
    pub part_room : HasRoom b (stored_at b f.node.0) p
    part_room = takes (head_content b (stored_at b f.node.0).head) (stored_at b f.node.0) f.role f.todo v p is h.suits

    pub part_named : Names b v → PartNames b p
    part_named n = by f.role h.names is
      where
        by : (x : Role) → RoleNames b x → IsPart x v (Some p) → PartNames b p
        by role.Item s e = subst (PartNames b) (sym (some_part p _ e)) n
        by (role.Named y) s e = subst (PartNames b) (sym (some_part p _ e)) (s, n)
        by role.Key s e = absurd cc
        by (role.Entry k) s e = subst (PartNames b) (sym (some_part p _ e)) (s, n)

-- The steps of the loop.

pub ready_on : {S : Type 0} (b b1 : Arena) (u u1 : KeptTables) (d e : Cursor S Window) → Ready 0 b u d → StillReady 0 b b1 u1 d e → Ready 0 b1 u1 e
ready_on b b1 u u1 d e r k = record {
  built = k.built;
  tables = k.tables;
  placed = k.placed;
  few_texts = let x = r.few_texts in let y = k.texts in omega arith;
  few_traits = let x = r.few_traits in let y = k.traits in omega arith;
  few_nodes = let x = r.few_nodes in let y = k.nodes in omega arith;
}

ready_twice : {S : Type 0} (a b b1 : Arena) (u u1 : KeptTables) (c d e : Cursor S Window) → StillReady 0 a b u c d → StillReady 0 b b1 u1 d e → StillReady 0 a b1 u1 c e
ready_twice a b b1 u u1 c d e h k = record {
  built = k.built;
  tables = k.tables;
  placed = k.placed;
  texts = let x = h.texts in let y = k.texts in omega arith;
  traits = let x = h.traits in let y = k.traits in omega arith;
  nodes = let x = h.nodes in let y = k.nodes in omega arith;
}

pub enough_less : (left more : ℕ) (u : Fuel) → left ≤ more → Enough more u → Enough left u
enough_less left more u le h = (let x = h.0 in omega arith, let y = h.1 in omega arith)

module _ {S : Type 0} (tells : S → Type 0) (left : S → List ℕ) (faults : S → ℕ) where
  -- what leads on does so with more behind it
  pub leads_bound : {X Y : Type 0} (t u : Layout X) (f : X → Layout Y) (c d : Cursor S Window) → Leads tells left t u c d → Leads tells left (bind t f) (bind u f) c d
  leads_bound t u f c d l = record { fields = l.fields; path = path_bind t u f l.fields l.path; bytes = l.bytes; taken = l.taken; within = l.within; parts = l.parts }

  pub so_begin : (a : Arena) (t : KeptTables) (c : Cursor S Window) → Ready 0 a t c → StackSo tells left faults a a t t c c now.wanted []
  so_begin a t c r = record {
    goes = goes_nowhere tells left faults c tt r.placed;
    ready = r;
    still_ready = record { built = r.built; tables = r.tables; placed = r.placed; texts = omega arith; traits = omega arith; nodes = omega arith };
    holds = grows_itself a;
    at = λ n lt. record {
      fuel = record { values = n; pairs = n };
      fuels = [];
      enough = (lt, lt);
      fueled = tt;
      leads = subst (λ l. Leads tells left (value_layout n (state_of a t)) l c c) (sym (bind_give (value_layout n (state_of a t)))) (leads_nowhere tells left faults (value_layout n (state_of a t)) c r.placed);
    };
    moved = omega arith;
  }

  module _ (a b : Arena) (t u : KeptTables) (c d : Cursor S Window) (fs : List Frame) where
    -- a value is wanted
    module _ (so : StackSo tells left faults a b t u c d now.wanted fs) (b1 : Arena) (u1 : KeptTables) (e : Cursor S Window) where
      pub so_end : (end : ReadEnd) → ((n : ℕ) → left_of d < n → Starts tells left n (state_of b u) (state_of b1 u1) d e (Err end)) → (n : ℕ) → left_of c < n → Ends tells left (value_layout n (state_of a t)) c e end
      so_end end h n lt =
          let y = so.at n lt in
          leads_end tells left faults (value_layout n (state_of a t)) (bind (value_layout y.fuel.values (state_of b u)) (rest y.fuels fs)) c d e tt end so.goes y.leads
          (end_reads tells left faults (value_layout y.fuel.values (state_of b u)) (rest y.fuels fs) d e end (h y.fuel.values y.enough.0).starts)

      pub so_value : (v : Stored) → GoesBy tells left faults d e (Ok (start.Value v)) → ((n : ℕ) → left_of d < n → Starts tells left n (state_of b u) (state_of b1 u1) d e (Ok (start.Value v))) → StillReady 0 b b1 u1 d e → StartHolds b b1 (left_of e) (start.Value v) → place d < place e
          → StackSo tells left faults a b1 t u1 c e (now.given v) fs
      so_value v g h k (names, grows) lt1 =
          let less : suc (left_of e) ≤ left_of d = let p = k.placed.within in let q = g.same_bound in omega arith in
          record {
            goes = goes_then tells left faults c d e tt (Ok tt) so.goes (goes_other tells left faults d e (start.Value v) tt g);
            ready = ready_on b b1 u u1 d e so.ready k;
            still_ready = ready_twice a b b1 u u1 c d e so.still_ready k;
            holds = (nested_less a (suc (left_of e)) (left_of d) fs b1 less (nested_grows a (left_of d) fs b b1 so.ready.built grows so.holds), names);
            at = λ n lt.
                let y = so.at n lt in
                record {
                  fuel = y.fuel;
                  fuels = y.fuels;
                  enough = enough_less (left_of e) (left_of d) y.fuel (omega arith) y.enough;
                  fueled = fueled_less (left_of e) (left_of d) y.fuels fs (omega arith) y.fueled;
                  leads = leads_on tells left faults (value_layout n (state_of a t)) (bind (value_layout y.fuel.values (state_of b u)) (rest y.fuels fs)) (rest y.fuels fs (read v (state_of b1 u1))) c d e tt so.goes y.leads
                      (leads_behind tells left faults (λ x. read x (state_of b1 u1)) (value_layout y.fuel.values (state_of b u)) (rest y.fuels fs) d e v (h y.fuel.values y.enough.0).starts);
                };
            moved = let m = so.moved in omega arith;
          }

      pub so_open : (i : NodeId) (p : Parts) → GoesBy tells left faults d e (Ok (start.Open i p)) → ((n : ℕ) → left_of d < n → Starts tells left n (state_of b u) (state_of b1 u1) d e (Ok (start.Open i p))) → StillReady 0 b b1 u1 d e → StartHolds b b1 (left_of e) (start.Open i p) → place d < place e
          → StackSo tells left faults a b1 t u1 c e (now.unfinished i p) fs
      so_open i p g h k o lt1 =
          let less : suc (left_of e) ≤ left_of d = let p = k.placed.within in let q = g.same_bound in omega arith in
          record {
            goes = goes_then tells left faults c d e tt (Ok tt) so.goes (goes_other tells left faults d e (start.Open i p) tt g);
            ready = ready_on b b1 u u1 d e so.ready k;
            still_ready = ready_twice a b b1 u u1 c d e so.still_ready k;
            holds = record {
              over = record {
                opened = o.opened;
                below = nested_less a (suc (left_of e)) (left_of d) fs o.opened.before less (nested_grows a (left_of d) fs b o.opened.before so.ready.built o.grows so.holds);
                built = o.built so.ready.built;
              };
              suits = o.suits;
            };
            at = λ n lt.
                let y = so.at n lt in
                let z = h y.fuel.values y.enough.0 in
                record {
                  fuel = record { values = z.fuel; pairs = z.fuel };
                  fuels = y.fuels;
                  enough = (z.enough, z.enough);
                  fueled = fueled_less (left_of e) (left_of d) y.fuels fs (omega arith) y.fueled;
                  leads = leads_on tells left faults (value_layout n (state_of a t)) (bind (value_layout y.fuel.values (state_of b u)) (rest y.fuels fs)) (bind (todo (value_layout z.fuel) z.fuel i.0 p (state_of b1 u1)) (rest y.fuels fs)) c d e tt so.goes y.leads
                      (leads_bound (value_layout y.fuel.values (state_of b u)) (todo (value_layout z.fuel) z.fuel i.0 p (state_of b1 u1)) (rest y.fuels fs) d e z.starts);
                };
            moved = let m = so.moved in omega arith;
          }

    -- a node is open
    module _ (i : NodeId) (p : Parts) (so : StackSo tells left faults a b t u c d (now.unfinished i p) fs) (b1 : Arena) (u1 : KeptTables) (e : Cursor S Window) where
      pub go_end : (end : ReadEnd) → ((v : State3 → Layout ValueRead) (m : ℕ) → left_of d < m → GoesOn tells left v m i.0 p (state_of b u) (state_of b1 u1) d e (Err end)) → (n : ℕ) → left_of c < n → Ends tells left (value_layout n (state_of a t)) c e end
      go_end end h n lt =
          let y = so.at n lt in
          let w = todo (value_layout y.fuel.values) y.fuel.pairs i.0 p (state_of b u) in
          leads_end tells left faults (value_layout n (state_of a t)) (bind w (rest y.fuels fs)) c d e tt end so.goes y.leads
          (end_reads tells left faults w (rest y.fuels fs) d e end (h (value_layout y.fuel.values) y.fuel.pairs y.enough.1))

      module _ (k : StillReady 0 b b1 u1 d e) (stays : place d ≤ place e) (same : left_of e ≤ left_of d) where
        pub go_wait : (x : Role) (q : Parts) → GoesBy tells left faults d e (Ok (step.Wait x q)) → ((v : State3 → Layout ValueRead) (m : ℕ) → left_of d < m → GoesOn tells left v m i.0 p (state_of b u) (state_of b1 u1) d e (Ok (step.Wait x q))) → StepHolds b b1 i.0 (step.Wait x q)
            → StackSo tells left faults a b1 t u1 c e now.wanted (record { node = i; role = x; todo = q } ∷ fs)
        go_wait x q g h (none, grows, names, suits) =
            record {
              goes = goes_then tells left faults c d e tt (Ok tt) so.goes (goes_other tells left faults d e (step.Wait x q) tt g);
              ready = ready_on b b1 u u1 d e so.ready k;
              still_ready = ready_twice a b b1 u u1 c d e so.still_ready k;
              holds = record {
                over = record {
                  opened = opened_less b1 i.0 (left_of e + spare x) (left_of d) (omega arith) (opened_grown b b1 i.0 (left_of d) grows so.holds.over.opened);
                  below = nested_less a (suc (left_of e)) (suc (left_of d)) fs so.holds.over.opened.before (omega arith) so.holds.over.below;
                  built = so.holds.over.built;
                };
                names = names;
                suits = suits;
              };
              at = λ n lt.
                  let y = so.at n lt in
                  let v = value_layout y.fuel.values in
                  let z = h v y.fuel.pairs y.enough.1 in
                  let f : Fuel = record { values = y.fuel.values; pairs = z.fuel } in
                  let few : left_of e < y.fuel.values = let l = y.enough.0 in omega arith in
                  let w = todo v y.fuel.pairs i.0 p (state_of b u) in
                  let next = bind (v (state_of b1 u1)) (resume v z.fuel i.0 x q) in
                  record {
                    fuel = f;
                    fuels = f ∷ y.fuels;
                    enough = (few, z.enough);
                    fueled = ((few, z.enough), fueled_less (left_of e) (left_of d) y.fuels fs same y.fueled);
                    leads = subst (λ l. Leads tells left (value_layout n (state_of a t)) l c e) (bind_bind (v (state_of b1 u1)) (resume v z.fuel i.0 x q) (rest y.fuels fs))
                        (leads_on tells left faults (value_layout n (state_of a t)) (bind w (rest y.fuels fs)) (bind next (rest y.fuels fs)) c d e tt so.goes y.leads (leads_bound w next (rest y.fuels fs) d e z.leads));
                  };
              moved = let m = so.moved in omega arith;
            }

        pub go_open : (q : Parts) → GoesBy tells left faults d e (Ok (step.Open q)) → ((v : State3 → Layout ValueRead) (m : ℕ) → left_of d < m → GoesOn tells left v m i.0 p (state_of b u) (state_of b1 u1) d e (Ok (step.Open q))) → StepHolds b b1 i.0 (step.Open q)
            → StackSo tells left faults a b1 t u1 c e (now.unfinished i q) fs
        go_open q g h (grows, suits) =
            record {
              goes = goes_then tells left faults c d e tt (Ok tt) so.goes (goes_other tells left faults d e (step.Open q) tt g);
              ready = ready_on b b1 u u1 d e so.ready k;
              still_ready = ready_twice a b b1 u u1 c d e so.still_ready k;
              holds = record {
                over = record {
                  opened = opened_less b1 i.0 (left_of e) (left_of d) same (opened_grown b b1 i.0 (left_of d) grows so.holds.over.opened);
                  below = nested_less a (suc (left_of e)) (suc (left_of d)) fs so.holds.over.opened.before (omega arith) so.holds.over.below;
                  built = so.holds.over.built;
                };
                suits = suits;
              };
              at = λ n lt.
                  let y = so.at n lt in
                  let v = value_layout y.fuel.values in
                  let z = h v y.fuel.pairs y.enough.1 in
                  let w = todo v y.fuel.pairs i.0 p (state_of b u) in
                  let next = todo v z.fuel i.0 q (state_of b1 u1) in
                  record {
                    fuel = record { values = y.fuel.values; pairs = z.fuel };
                    fuels = y.fuels;
                    enough = (let l = y.enough.0 in omega arith, z.enough);
                    fueled = fueled_less (left_of e) (left_of d) y.fuels fs same y.fueled;
                    leads = leads_on tells left faults (value_layout n (state_of a t)) (bind w (rest y.fuels fs)) (bind next (rest y.fuels fs)) c d e tt so.goes y.leads (leads_bound w next (rest y.fuels fs) d e z.leads);
                  };
              moved = let m = so.moved in omega arith;
            }

        pub go_closed : GoesBy tells left faults d e (Ok step.Closed) → ((v : State3 → Layout ValueRead) (m : ℕ) → left_of d < m → GoesOn tells left v m i.0 p (state_of b u) (state_of b1 u1) d e (Ok step.Closed)) → StepHolds b b1 i.0 step.Closed
            → StackSo tells left faults a b1 t u1 c e (now.given (value.Node i)) fs
        go_closed g h (there, closes) =
            let o = so.holds.over in
            record {
              goes = goes_then tells left faults c d e tt (Ok tt) so.goes (goes_other tells left faults d e step.Closed tt g);
              ready = ready_on b b1 u u1 d e so.ready k;
              still_ready = ready_twice a b b1 u u1 c d e so.still_ready k;
              holds = (nested_grows a (suc (left_of e)) fs o.opened.before b1 o.built (closes o.opened.before (stored_at b i.0) o.opened.place o.opened.within) (nested_less a (suc (left_of e)) (suc (left_of d)) fs o.opened.before (omega arith) o.below), there);
              at = λ n lt.
                  let y = so.at n lt in
                  let v = value_layout y.fuel.values in
                  let w = todo v y.fuel.pairs i.0 p (state_of b u) in
                  let next : Layout ValueRead = give (read (value.Node (record { 0 = i.0 })) (state_of b1 u1)) in
                  record {
                    fuel = y.fuel;
                    fuels = y.fuels;
                    enough = enough_less (left_of e) (left_of d) y.fuel same y.enough;
                    fueled = fueled_less (left_of e) (left_of d) y.fuels fs same y.fueled;
                    leads = leads_on tells left faults (value_layout n (state_of a t)) (bind w (rest y.fuels fs)) (bind next (rest y.fuels fs)) c d e tt so.goes y.leads (leads_bound w next (rest y.fuels fs) d e (h v y.fuel.pairs y.enough.1));
                  };
              moved = let m = so.moved in omega arith;
            }

  -- A value was read.

  pub so_done : (a b : Arena) (t u : KeptTables) (c d : Cursor S Window) (v : Stored) → StackSo tells left faults a b t u c d (now.given v) [] → (n : ℕ) → left_of c < n → Answers tells left (λ x. read x (state_of b u)) (value_layout n (state_of a t)) c d (Ok v)
  so_done a b t u c d v so n lt = leads_answers tells left faults (λ x. read x (state_of b u)) (value_layout n (state_of a t)) (read v (state_of b u)) c d v refl (so.at n lt).leads

  pub so_continues : (a b : Arena) (t u : KeptTables) (c d : Cursor S Window) (v : Stored) → StackSo tells left faults a b t u c d (now.given v) [] → Continues 0 a b u c d
  so_continues a b t u c d v so = let k = so.still_ready in record { built = k.built; tables = k.tables; placed = k.placed; grows = so.holds.0; texts = k.texts; traits = k.traits; nodes = k.nodes }

  module _ (a b : Arena) (t u : KeptTables) (c d : Cursor S Window) (fs : List Frame) (v : Stored) where
    -- it is a key, and its value is wanted
    pub so_key : (i : NodeId) (q : Parts) → StackSo tells left faults a b t u c d (now.given v) (record { node = i; role = role.Key; todo = q } ∷ fs) → StackSo tells left faults a b t u c d now.wanted (record { node = i; role = role.Entry v; todo = q } ∷ fs)
    so_key i q so = record {
      goes = so.goes;
      ready = so.ready;
      still_ready = so.still_ready;
      holds = record {
        over = record {
          opened = opened_less b i.0 (left_of d + 1) (suc (left_of d) + 0) (omega arith) so.holds.0.over.opened;
          below = nested_less a (suc (left_of d)) (suc (suc (left_of d))) fs so.holds.0.over.opened.before (omega arith) so.holds.0.over.below;
          built = so.holds.0.over.built;
        };
        names = so.holds.1;
        suits = waits q so.holds.0.suits;
      };
      at = λ n lt. let y = so.at n lt in by n y.fuels y.fueled y.leads;
      moved = let m = so.moved in omega arith;
    }
      where
        waits : (q : Parts) → WaitsFor (head_content b (stored_at b i.0).head) (stored_at b i.0) role.Key q → WaitsFor (head_content b (stored_at b i.0).head) (stored_at b i.0) (role.Entry v) q
        waits (Entries n) h = h
        waits (Array n) h = absurd h
        waits (Object n x) h = absurd h
        waits (Items n) h = absurd h

        by : (n : ℕ) (us : List Fuel) → HaveFuel (left_of d) us (record { node = i; role = role.Key; todo = q } ∷ fs) → Leads tells left (value_layout n (state_of a t)) (rest us (record { node = i; role = role.Key; todo = q } ∷ fs) (read v (state_of b u))) c d
            → IsAt tells left n (state_of a t) now.wanted (record { node = i; role = role.Entry v; todo = q } ∷ fs) (state_of b u) c d
        by n [] h l = absurd h
        by n (f ∷ us) h l = record {
          fuel = f;
          fuels = f ∷ us;
          enough = h.0;
          fueled = h;
          leads = subst (λ w. Leads tells left (value_layout n (state_of a t)) w c d) (bind_bind (value_layout f.values (state_of b u)) (resume (value_layout f.values) f.pairs i.0 (role.Entry v) q) (rest us fs)) l;
        }

    -- it is a part of the innermost node
    module _ (f : Frame) (so : StackSo tells left faults a b t u c d (now.given v) (f ∷ fs)) (p : Part) (is : IsPart f.role v (Some p)) where
      abbrev o : IsOpened b f.node.0 (suc (left_of d) + spare f.role)
      o = so.holds.0.over.opened

      pub put_names : PartNames b p
      put_names = by f.role so.holds.0.names is
        where
          some : (p r : Part) → Some p ≡ Some r → p ≡ r
          some p r e = cc

          by : (x : Role) → RoleNames b x → IsPart x v (Some p) → PartNames b p
          by role.Item h e = subst (PartNames b) (sym (some p _ e)) so.holds.1
          by (role.Named y) h e = subst (PartNames b) (sym (some p _ e)) (h, so.holds.1)
          by role.Key h e = absurd cc
          by (role.Entry k) h e = subst (PartNames b) (sym (some p _ e)) (h, so.holds.1)

      pub put_room : HasRoom b (stored_at b f.node.0) p
      put_room = takes (head_content b (stored_at b f.node.0).head) (stored_at b f.node.0) f.role f.todo v p is so.holds.0.suits

      pub so_put : (b2 : Arena) → b2 ≡ changed_arena (more_part p) f.node.0 b → StackSo tells left faults a b2 t u c d (now.unfinished f.node f.todo) fs
      so_put b2 e =
          let i = f.node.0 in
          let l = suc (left_of d) + spare f.role in
          let g = grows_itself b in
          let node = put_node i l b b o g p b2 e in
          let same_texts : length b2.texts ≡ length b.texts = ap (λ z. length z.texts) e in
          let same_traits : length b2.traits ≡ length b.traits = ap (λ z. length z.traits) e in
          let same_nodes : length b2.nodes ≡ length b.nodes = put_nodes i l b b o g p b2 e in
          let built = put_built i l b b o g p b2 e so.ready.built put_room put_names in
          let tables = put_tables i l b b o g p b2 e u so.ready.built so.ready.tables in
          record {
            goes = so.goes;
            ready = record { built = built; tables = tables; placed = so.ready.placed; few_texts = let x = so.ready.few_texts in omega arith; few_traits = let x = so.ready.few_traits in omega arith; few_nodes = let x = so.ready.few_nodes in omega arith };
            still_ready = record { built = built; tables = tables; placed = so.ready.placed; texts = let x = so.still_ready.texts in omega arith; traits = let x = so.still_ready.traits in omega arith; nodes = let x = so.still_ready.nodes in omega arith };
            holds = record {
              over = record {
                opened = put_opened i l b b o g p b2 e (left_of d) (let s = more_size (stored_at b i) (part_names p) (part_values p) in let n = ap size_of node in let k = part_small f.role v p is in omega arith);
                below = nested_less a (suc (left_of d)) (suc (suc (left_of d))) fs o.before (omega arith) so.holds.0.over.below;
                built = so.holds.0.over.built;
              };
              suits = subst (λ h. Suits h (stored_at b2 i) f.todo) (sym (put_head i l b b o g p b2 e so.ready.built)) (subst (λ m. Suits (head_content b (stored_at b i).head) m f.todo) (sym node) (suits_more (head_content b (stored_at b i).head) (stored_at b i) f.role f.todo v p is so.holds.0.suits));
            };
            at = λ n lt. let y = so.at n lt in by n y.fuels y.fueled y.leads;
            moved = so.moved;
          }
        where
          state_is : (x : Role) → IsPart x v (Some p) → (w : State3 → Layout ValueRead) (m : ℕ) → resume w m f.node.0 x f.todo (read v (state_of b u)) ≡ todo w m f.node.0 f.todo (state_of b2 u)
          state_is x h w m = resumed b u v p b2 f.node.0 f.todo e x h w m

          by : (n : ℕ) (us : List Fuel) → HaveFuel (left_of d) us (f ∷ fs) → Leads tells left (value_layout n (state_of a t)) (rest us (f ∷ fs) (read v (state_of b u))) c d → IsAt tells left n (state_of a t) (now.unfinished f.node f.todo) fs (state_of b2 u) c d
          by n [] h l = absurd h
          by n (z ∷ us) h l = record {
            fuel = z;
            fuels = us;
            enough = h.0;
            fueled = h.1;
            leads = subst (λ w. Leads tells left (value_layout n (state_of a t)) (bind w (rest us fs)) c d) (state_is f.role is (value_layout z.values) z.pairs) l;
          }

  -- An end is passed on.
  pub follows_end : (b b1 : Arena) (u u1 : KeptTables) (d e : Cursor S Window) (w : Now) (fs gs : List Frame) (r : Result OpenNode ReadEnd) (end : ReadEnd) → IsErrAnd r (λ x. x ≡ end)
      → ((a : Arena) (t : KeptTables) (c : Cursor S Window) → StackSo tells left faults a b t u c d w fs → (n : ℕ) → left_of c < n → Ends tells left (value_layout n (state_of a t)) c e end) → Follows tells left faults b b1 u u1 d e w fs gs r
  follows_end b b1 u u1 d e w fs gs (Ok x) end i h = absurd i
  follows_end b b1 u u1 d e w fs gs (Err x) end i h = record { goes_on = λ a t c so. tt; ends = λ a t c so n lt. subst (Ends tells left (value_layout n (state_of a t)) c e) (sym i) (h a t c so n lt) }

  pub goes_passed : {X Z : Type 0} (c d e : Cursor S Window) (r : Result Z ReadEnd) (end : ReadEnd) → IsErrAnd r (λ x. x ≡ end) → GoesBy {X = Unit {0}} tells left faults c d (Ok tt) → GoesBy {X = X} tells left faults d e (Err end) → GoesBy {X = Z} tells left faults c e r
  goes_passed c d e (Ok x) end i g h = absurd i
  goes_passed {X} {Z} c d e (Err x) end i g h = goes_then tells left faults c d e tt (Err x) g (subst (λ y. GoesBy {X = Z} tells left faults d e (Err y)) (sym i) (record { told = h.told; same_source = h.same_source; same_bound = h.same_bound; one_past = h.one_past; cause = h.cause; none_ahead = h.none_ahead; total = h.total }))
