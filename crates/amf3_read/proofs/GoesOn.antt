-- How an open node goes on, as the layouts have it.
use Rattle.std.proofs.Common.{◌≡◌, ℕ, zero, suc, ◌≤◌, ◌<◌, Bool, true, false, inl, inr, List, [], length, map, cond, Option, Some, None, refl, sym, ap, ◌∙◌, arith, subst, Ok}
use Rattle.std.proofs.lemmas.List.{length-map, length-set}
use Rattle.amf_io.specs.declared.window.Window.{Window}
use Rattle.amf_io.specs.declared.cursor.Cursor.{Cursor}
use Rattle.amf_io.specs.declared.ends.ReadEnd.{ReadEnd}
use Rattle.amf_io.specs.Cursor.{place}
use Rattle.amf_io.specs.Layout.{Layout, give, bind}
use Rattle.amf_io.specs.ReadEnds.{IsPlaced, GoesBy}
use Rattle.amf_io.specs.CursorReads.{Answers, Ends, Leads}
use Rattle.amf_io.proofs.CursorReads.{leads_nowhere, leads_behind, end_reads}
use Rattle.amf_graph.specs.declared.value.TextId.{TextId}
use Rattle.amf_graph.specs.declared.value.Value.TheVariants as value
use Rattle.amf_graph.specs.Graph as graph
use Rattle.amf_graph.specs.Graph.{Fits, AreMembers}
use Rattle.amf_graph.specs.Arena.{Arena, StoredNode, IsBuilt, IsTextId, head_content, node_content, text_at, value_content}
use Rattle.amf_graph.specs.Building.{stored_at, changed as changed_arena, shut, more_value, more_name, more_entry, FitsNow}
use Rattle.amf_graph.proofs.Built.{built_changed, stands}
use Rattle.amf_graph.proofs.Begun.{shut_in}
use Rattle.amf3_spelling.specs.KeptTables.{KeptTables, AreTablesIn}
use Rattle.amf3_layout_laws.specs.Layout3State.{State3, state_of, changed}
use Rattle.amf3_layout_laws.specs.Layout3Words.{TextRead, text_layout}
use Rattle.amf3_layout_laws.specs.Layout3.{ValueRead, read, is_empty, pairs, items, entries}
use Rattle.amf3_layout_laws.proofs.Reader3Tables.{grows_itself, tables_after_change}
use Rattle.amf3_layout_laws.proofs.Reader3Calls.{node_closed}
use Rattle.amf3_layout_laws.proofs.Reader3States.{shut_state}
use Rattle.amf3_read.specs.declared.opening.Parts.{Parts}
use Rattle.amf3_read.specs.declared.opening.Parts.TheVariants.{Array, Object, Items, Entries}
use Rattle.amf3_read.specs.declared.frame.Role.{Role}
use Rattle.amf3_read.specs.declared.frame.Role.TheVariants as role
use Rattle.amf3_read.specs.declared.fill.Next.{Next}
use Rattle.amf3_read.specs.declared.fill.Next.TheVariants as next
use Rattle.amf3_read.specs.declared.fill.Step.TheVariants as step
use Rattle.amf3_read.specs.Filling.{IsOpened}
use Rattle.amf_wire_fields.specs.Room.{left_of}
use Rattle.amf3_read.specs.Ready.{Ready, Continues}
use Rattle.amf3_read.specs.Names.{NameRead, no_name, some_name, name_of, name_layout, name_read}
use Rattle.amf3_read.specs.Frames.{todo, resume, closed_node, LacksItems, Suits, WaitsFor, RoleNames, spare, StillReady, GoesOn, StepHolds, IsNext, IsBehindPairs}
use Rattle.amf_wire_fields.proofs.LayoutBinds.{bind_bind, bind_same}
use Rattle.amf3_read.proofs.PartPut.{there, stays, same_head}

-- Where a name comes next, pairs stand before what is behind them.
todo_named : (v : State3 → Layout ValueRead) (m k i : ℕ) (p q : Parts) → IsNext p next.Name → IsBehindPairs p q → (s : State3) → todo v m i p s ≡ bind (pairs v m i s) (todo v k i q)
todo_named v m k i (Array n) q is e s = ap (λ q. bind (pairs v m i s) (todo v k i q)) (sym e)
todo_named v m k i (Object zero true) q is e s = ap (λ q. bind (pairs v m i s) (todo v k i q)) (sym e)
todo_named v m k i (Object zero false) q is e s = absurd cc
todo_named v m k i (Object (suc n) d) q is e s = absurd cc
todo_named v m k i (Items zero) q is e s = absurd cc
todo_named v m k i (Items (suc n)) q is e s = absurd cc
todo_named v m k i (Entries zero) q is e s = absurd cc
todo_named v m k i (Entries (suc n)) q is e s = absurd cc

-- what is behind them
abbrev pub behind : Parts → Parts
behind (Array n) = Items n
behind (Object n d) = Object n false
behind (Items n) = Items n
behind (Entries n) = Entries n

behind_is : (p : Parts) → IsBehindPairs p (behind p)
behind_is (Array n) = refl
behind_is (Object n d) = refl
behind_is (Items n) = refl
behind_is (Entries n) = refl

-- Where a value comes next, it is followed by the rest.
todo_value : (v : State3 → Layout ValueRead) (m i : ℕ) (p : Parts) (x : Role) (q : Parts) → IsNext p (next.Value x q) → (s : State3) → todo v m i p s ≡ bind (v s) (resume v m i x q)
todo_value v m i (Array n) x q is s = absurd cc
todo_value v m i (Object zero true) x q is s = absurd cc
todo_value v m i (Object zero false) x q is s = absurd cc
todo_value v m i (Object (suc n) d) x q is s = bind_bind (v s) (λ y. items v i n (changed (more_value y.value) i y.state)) _ ∙ ap (λ z. bind (v s) (next_resume v m i z)) (sym is)
  where
    next_resume : (State3 → Layout ValueRead) → ℕ → ℕ → Next → ValueRead → Layout ValueRead
    next_resume v m i (next.Value x q) y = resume v m i x q y
    next_resume v m i next.Name y = give y
    next_resume v m i next.Nothing y = give y
todo_value v m i (Items zero) x q is s = absurd cc
todo_value v m i (Items (suc n)) x q is s = bind_bind (v s) (λ y. items v i n (changed (more_value y.value) i y.state)) (λ w. give (closed_node i w)) ∙ ap (λ z. bind (v s) (next_resume v m i z)) (sym is)
  where
    next_resume : (State3 → Layout ValueRead) → ℕ → ℕ → Next → ValueRead → Layout ValueRead
    next_resume v m i (next.Value x q) y = resume v m i x q y
    next_resume v m i next.Name y = give y
    next_resume v m i next.Nothing y = give y
todo_value v m i (Entries zero) x q is s = absurd cc
todo_value v m i (Entries (suc n)) x q is s =
    bind_bind (v s) (λ k. bind (v k.state) (λ y. entries v i n (changed (more_entry k.value y.value) i y.state))) (λ w. give (closed_node i w))
    ∙ bind_same (v s) (λ k. bind (bind (v k.state) (λ y. entries v i n (changed (more_entry k.value y.value) i y.state))) (λ w. give (closed_node i w))) (λ k. resume v m i role.Key (Entries n) k)
    (λ k. bind_bind (v k.state) (λ y. entries v i n (changed (more_entry k.value y.value) i y.state)) (λ w. give (closed_node i w)))
    ∙ ap (λ z. bind (v s) (next_resume v m i z)) (sym is)
  where
    next_resume : (State3 → Layout ValueRead) → ℕ → ℕ → Next → ValueRead → Layout ValueRead
    next_resume v m i (next.Value x q) y = resume v m i x q y
    next_resume v m i next.Name y = give y
    next_resume v m i next.Nothing y = give y

-- Where nothing comes next, the node is closed.
todo_nothing : (v : State3 → Layout ValueRead) (m i : ℕ) (p : Parts) → IsNext p next.Nothing → (s : State3) → todo v m i p s ≡ give (closed_node i s)
todo_nothing v m i (Array n) is s = absurd cc
todo_nothing v m i (Object zero true) is s = absurd cc
todo_nothing v m i (Object zero false) is s = refl
todo_nothing v m i (Object (suc n) d) is s = absurd cc
todo_nothing v m i (Items zero) is s = refl
todo_nothing v m i (Items (suc n)) is s = absurd cc
todo_nothing v m i (Entries zero) is s = refl
todo_nothing v m i (Entries (suc n)) is s = absurd cc

-- What the node lacks.

pub suits_name : (h : graph.Head) (n : StoredNode) (p : Parts) (x : TextId) → IsNext p next.Name → Suits h n p → WaitsFor h n (role.Named x) p
suits_name h n (Array k) x is s = s
suits_name h n (Object zero true) x is s = (s, refl)
suits_name h n (Object zero false) x is s = absurd cc
suits_name h n (Object (suc k) d) x is s = absurd cc
suits_name h n (Items zero) x is s = absurd cc
suits_name h n (Items (suc k)) x is s = absurd cc
suits_name h n (Entries zero) x is s = absurd cc
suits_name h n (Entries (suc k)) x is s = absurd cc

pub suits_behind : (h : graph.Head) (n : StoredNode) (p q : Parts) → IsNext p next.Name → IsBehindPairs p q → Suits h n p → Suits h n q
suits_behind h n (Array k) q is e s = subst (Suits h n) (sym e) (inl s)
suits_behind h n (Object zero true) q is e (t, eq, k, d, z) = subst (Suits h n) (sym e) (t, eq, k, (λ f. absurd cc), z)
suits_behind h n (Object zero false) q is e s = absurd cc
suits_behind h n (Object (suc k) d) q is e s = absurd cc
suits_behind h n (Items zero) q is e s = absurd cc
suits_behind h n (Items (suc k)) q is e s = absurd cc
suits_behind h n (Entries zero) q is e s = absurd cc
suits_behind h n (Entries (suc k)) q is e s = absurd cc

-- a role and what follows it, of what comes next
abbrev NextWaits : Arena → graph.Head → StoredNode → Next → Type 0
NextWaits a h n (next.Value x q) = (spare x ≡ 0) × RoleNames a x × WaitsFor h n x q
NextWaits a h n _ = Unit {0}

suits_value : (a : Arena) (h : graph.Head) (n : StoredNode) (p : Parts) (x : Next) → IsNext p x → Suits h n p → NextWaits a h n x
suits_value a h n (Array k) x is s = subst (NextWaits a h n) (sym is) tt
suits_value a h n (Object zero true) x is s = subst (NextWaits a h n) (sym is) tt
suits_value a h n (Object zero false) x is s = subst (NextWaits a h n) (sym is) tt
suits_value a h n (Object (suc k) d) x is s = subst (NextWaits a h n) (sym is) (refl, tt, s)
suits_value a h n (Items zero) x is s = subst (NextWaits a h n) (sym is) tt
suits_value a h n (Items (suc k)) x is s = subst (NextWaits a h n) (sym is) (refl, tt, s)
suits_value a h n (Entries zero) x is s = subst (NextWaits a h n) (sym is) tt
suits_value a h n (Entries (suc k)) x is s = subst (NextWaits a h n) (sym is) (refl, tt, s)

-- a node of this kind would fit
abbrev NodeFits : Arena → StoredNode → graph.Head → Type 0
NodeFits a n h = Fits h (node_content a n).names (node_content a n).values

-- and where it lacks nothing it fits
pub suits_nothing : (a : Arena) (n : StoredNode) (p : Parts) → IsNext p next.Nothing → Suits (head_content a n.head) n p → FitsNow a n
suits_nothing a n p is s = by p is s
  where
    none : n.names ≡ [] → (node_content a n).names ≡ []
    none e = ap (λ l. map {B = List ℕ × graph.Value} (λ p. (text_at a p.0, value_content a p.1)) l) e

    count : length (node_content a n).values ≡ length n.values
    count = length-map n.values (value_content a)

    members : (d : Bool) → (d ≡ false → n.names ≡ []) → AreMembers d (node_content a n).names
    members true h = tt
    members false h = none (h refl)

    lacks : LacksItems (head_content a n.head) n 0 → NodeFits a n (head_content a n.head)
    lacks (inl e) = subst (NodeFits a n) (sym e) tt
    lacks (inr (inl (c, e, k, z))) = subst (NodeFits a n) (sym e) (none z, omega (arith, count))
    lacks (inr (inr (f, x, e, z))) = subst (NodeFits a n) (sym e) (none z)

    by : (p : Parts) → IsNext p next.Nothing → Suits (head_content a n.head) n p → NodeFits a n (head_content a n.head)
    by (Object zero false) is (t, e, k, d, z) = subst (NodeFits a n) (sym e) (omega (arith, count), members t.dynamic z)
    by (Items zero) is s = lacks s
    by (Entries zero) is (f, e, z, k, l) = subst (NodeFits a n) (sym e) (none z, k, count ∙ l)
    by (Array k) is s = absurd cc
    by (Object zero true) is s = absurd cc
    by (Object (suc k) d) is s = absurd cc
    by (Items (suc k)) is s = absurd cc
    by (Entries (suc k)) is s = absurd cc

-- What follows a name: values by their names go on, and the empty name ends them.
abbrev follows : (State3 → Layout ValueRead) → ℕ → ℕ → Option TextId → State3 → Layout State3
follows v m i None s = give s
follows v m i (Some x) s = bind (v s) (λ y. pairs v m i (changed (more_name x.0 y.value) i y.state))

abbrev behind_name : (State3 → Layout ValueRead) → ℕ → ℕ → NameRead → Layout State3
behind_name v m i z = follows v m i z.name z.state

pairs_named : (v : State3 → Layout ValueRead) (m i : ℕ) (s : State3) → pairs v (suc m) i s ≡ bind (name_layout s) (behind_name v m i)
pairs_named v m i s =
    bind_same (text_layout s) (λ x. cond (is_empty x.bytes) (give s) (bind (v x.state) (λ y. pairs v m i (changed (more_name x.id y.value) i y.state)))) (λ x. behind_name v m i (name_of s x)) (λ x. by x (is_empty x.bytes))
    ∙ sym (bind_bind (text_layout s) (λ x. give (name_of s x)) (behind_name v m i))
  where
    by : (x : TextRead) (b : Bool) → cond b (give s) (bind (v x.state) (λ y. pairs v m i (changed (more_name x.id y.value) i y.state))) ≡ behind_name v m i (cond b (no_name s) (some_name x))
    by x true = refl
    by x false = refl

-- The contract's clauses.

module _ {S : Type 0} (tells : S → Type 0) (left : S → List ℕ) (faults : S → ℕ) (i : ℕ) (p : Parts) (a b : Arena) (t u : KeptTables) (c d : Cursor S Window) (is : IsNext p next.Name) where
  todo_by_name : (v : State3 → Layout ValueRead) (m : ℕ) (s : State3) → todo v (suc m) i p s ≡ bind (name_layout s) (λ z. bind (behind_name v m i z) (todo v m i (behind p)))
  todo_by_name v m s =
      todo_named v (suc m) m i p (behind p) is (behind_is p) s ∙ ap (λ l. bind l (todo v m i (behind p))) (pairs_named v m i s) ∙ bind_bind (name_layout s) (behind_name v m i) (todo v m i (behind p))

  pub name_ended : (v : State3 → Layout ValueRead) (m : ℕ) → left_of c < m → (e : ReadEnd) → Ends tells left (name_layout (state_of a t)) c d e → Ends tells left (todo v m i p (state_of a t)) c d e
  name_ended v zero lt e h = absurd (omega arith)
  name_ended v (suc m) lt e h =
      subst (λ l. Ends tells left l c d e) (sym (todo_by_name v m (state_of a t))) (end_reads tells left faults (name_layout (state_of a t)) (λ z. bind (behind_name v m i z) (todo v m i (behind p))) c d e h)

  module _ (name : Option TextId) (g : GoesBy tells left faults c d (Ok name)) (y : Answers tells left (λ n. name_read b u n) (name_layout (state_of a t)) c d (Ok name)) (w : Continues 0 a b u c d) (moves : place c < place d) where
    less : suc (left_of d) ≤ left_of c
    less = let p = w.placed.within in let q = g.same_bound in omega arith

    name_leads : (v : State3 → Layout ValueRead) (m : ℕ) → Leads tells left (todo v (suc m) i p (state_of a t)) (bind (follows v m i name (state_of b u)) (todo v m i (behind p))) c d
    name_leads v m =
        subst (λ l. Leads tells left l (bind (follows v m i name (state_of b u)) (todo v m i (behind p))) c d) (sym (todo_by_name v m (state_of a t)))
        (leads_behind tells left faults (λ n. name_read b u n) (name_layout (state_of a t)) (λ z. bind (behind_name v m i z) (todo v m i (behind p))) c d name y)

    pub name_empty : (q : Parts) → IsBehindPairs p q → name ≡ None → (v : State3 → Layout ValueRead) (m : ℕ) → left_of c < m → GoesOn tells left v m i p (state_of a t) (state_of b u) c d (Ok (step.Open q))
    name_empty q e none v zero lt = absurd (omega arith)
    name_empty q e none v (suc m) lt =
        let same : q ≡ behind p = by p q e in
        let l = less in
        record {
          fuel = m;
          enough = omega arith;
          leads = subst (λ q. Leads tells left (todo v (suc m) i p (state_of a t)) (todo v m i q (state_of b u)) c d) (sym same)
              (subst (λ o. Leads tells left (todo v (suc m) i p (state_of a t)) (bind (follows v m i o (state_of b u)) (todo v m i (behind p))) c d) none (name_leads v m));
        }
      where
        by : (p q : Parts) → IsBehindPairs p q → q ≡ behind p
        by (Array n) q e = e
        by (Object n d) q e = e
        by (Items n) q e = e
        by (Entries n) q e = e

    pub name_some : (x : TextId) → name ≡ Some x → (v : State3 → Layout ValueRead) (m : ℕ) → left_of c < m → GoesOn tells left v m i p (state_of a t) (state_of b u) c d (Ok (step.Wait (role.Named x) p))
    name_some x some v zero lt = absurd (omega arith)
    name_some x some v (suc m) lt =
        let l = less in
        let z = state_of b u in
        record {
          fuel = m;
          enough = omega arith;
          leads = subst (λ l. Leads tells left (todo v (suc m) i p (state_of a t)) l c d)
              (bind_bind (v z) (λ y. pairs v m i (changed (more_name x.0 y.value) i y.state)) (todo v m i (behind p))
              ∙ bind_same (v z) (λ y. bind (pairs v m i (changed (more_name x.0 y.value) i y.state)) (todo v m i (behind p))) (resume v m i (role.Named x) p) (λ y. sym (todo_named v m m i p (behind p) is (behind_is p) (changed (more_name x.0 y.value) i y.state))))
              (subst (λ o. Leads tells left (todo v (suc m) i p (state_of a t)) (bind (follows v m i o z) (todo v m i (behind p))) c d) some (name_leads v m));
        }

    module _ (o : IsOpened a i (left_of c)) (built : IsBuilt a) (s : Suits (head_content a (stored_at a i).head) (stored_at a i) p) where
      still : Suits (head_content b (stored_at b i).head) (stored_at b i) p
      still = subst (λ h. Suits h (stored_at b i) p) (sym (same_head i (left_of c) a b o w.grows built)) (subst (λ n. Suits (head_content a (stored_at a i).head) n p) (sym (stays i (left_of c) a b o w.grows)) s)

      pub name_waits : (x : TextId) → IsTextId b x.0 → StepHolds a b i (step.Wait (role.Named x) p)
      name_waits x id = (refl, w.grows, id, suits_name (head_content b (stored_at b i).head) (stored_at b i) p x is still)

      pub name_opens : (q : Parts) → IsBehindPairs p q → StepHolds a b i (step.Open q)
      name_opens q e = (w.grows, suits_behind (head_content b (stored_at b i).head) (stored_at b i) p q is e still)

-- A value comes next, and nothing was read.
module _ {S : Type 0} (tells : S → Type 0) (left : S → List ℕ) (faults : S → ℕ) (i : ℕ) (p : Parts) (a : Arena) (t : KeptTables) (c : Cursor S Window) (placed : IsPlaced c) where
  pub value_waits : (x : Role) (q : Parts) → IsNext p (next.Value x q) → (v : State3 → Layout ValueRead) (m : ℕ) → left_of c < m → GoesOn tells left v m i p (state_of a t) (state_of a t) c c (Ok (step.Wait x q))
  value_waits x q is v m lt = record {
    fuel = m;
    enough = lt;
    leads = subst (λ l. Leads tells left (todo v m i p (state_of a t)) l c c) (todo_value v m i p x q is (state_of a t)) (leads_nowhere tells left faults (todo v m i p (state_of a t)) c placed);
  }

  pub closed_goes : (b : Arena) → b ≡ changed_arena shut i a → IsNext p next.Nothing → (v : State3 → Layout ValueRead) (m : ℕ) → left_of c < m → GoesOn tells left v m i p (state_of a t) (state_of b t) c c (Ok step.Closed)
  closed_goes b e is v m lt =
      subst (λ l. Leads tells left (todo v m i p (state_of a t)) l c c) (todo_nothing v m i p is (state_of a t) ∙ ap (λ s. give (read (value.Node (record { 0 = i })) s)) (sym (ap (λ z. state_of z t) e ∙ shut_state i a t)))
      (leads_nowhere tells left faults (todo v m i p (state_of a t)) c placed)

pub value_holds : (i : ℕ) (p : Parts) (a : Arena) (x : Role) (q : Parts) → IsNext p (next.Value x q) → Suits (head_content a (stored_at a i).head) (stored_at a i) p → StepHolds a a i (step.Wait x q)
value_holds i p a x q is s = let h = suits_value a (head_content a (stored_at a i).head) (stored_at a i) p (next.Value x q) is s in (h.0, grows_itself a, h.1, h.2)

-- The node is closed.
module _ {S : Type 0} (i : ℕ) (p : Parts) (a b : Arena) (t : KeptTables) (c : Cursor S Window) (r : Ready 0 a t c) (o : IsOpened a i (left_of c)) (s : Suits (head_content a (stored_at a i).head) (stored_at a i) p) (is : IsNext p next.Nothing) where
  pub closed_there : i < length a.nodes
  closed_there = there i (left_of c) a a o (grows_itself a)

  pub closed_fits : FitsNow a (stored_at a i)
  closed_fits = suits_nothing a (stored_at a i) p is s

  module _ (e : b ≡ changed_arena shut i a) where
    same_nodes : length b.nodes ≡ length a.nodes
    same_nodes = ap (λ z. length z.nodes) e ∙ length-set a.nodes i (shut (stored_at a i))

    pub closed_still_ready : StillReady 0 a b t c c
    closed_still_ready = record {
      built = subst IsBuilt (sym e) (built_changed a shut i r.built (shut_in a (stored_at a i) (stands a i r.built closed_there) closed_fits));
      tables = subst (λ z. AreTablesIn z t) (sym e) (tables_after_change a t i (shut (stored_at a i)) r.built r.tables);
      placed = r.placed;
      texts = let y = ap (λ z. length z.texts) e in omega arith;
      traits = let y = ap (λ z. length z.traits) e in omega arith;
      nodes = let y = same_nodes in omega arith;
    }

    pub closed_holds : StepHolds a b i step.Closed
    closed_holds = (let y = same_nodes in let z = closed_there in omega arith, λ before n q w. node_closed before a b n i w q e)
