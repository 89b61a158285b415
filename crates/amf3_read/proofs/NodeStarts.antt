-- How a value begins: all of it is read, or a node up to its parts.
use Rattle.std.proofs.Common.{◌≡◌, ℕ, zero, suc, ◌/◌, ◌%◌, ◌≤◌, ◌<◌, inl, inr, List, length, cond, eqb, Some, None, refl, sym, ap, ◌∙◌, arith, subst, Result, Ok, Err, OnOk}
use Rattle.amf_wire.specs.U29.{u29_value}
use Rattle.amf_io.specs.declared.window.Window.{Window}
use Rattle.amf_io.specs.declared.cursor.Cursor.{Cursor}
use Rattle.amf_io.specs.declared.ends.ReadEnd.{ReadEnd}
use Rattle.std.specs.Result.{IsErrAnd}
use Rattle.amf_io.specs.Cursor.{place, bound}
use Rattle.amf_io.specs.Field.{u29}
use Rattle.amf_io.specs.Layout.{Layout, give, want, bind}
use Rattle.amf_io.specs.ReadEnds.{IsPlaced, GoesBy}
use Rattle.amf_io.specs.CursorReads.{Answers, AnswersField, Ends, Leads}
use Rattle.amf_io.proofs.CursorReads.{gives, leads_behind, leads_on, leads_end, leads_answers, end_reads, then_reads, field_reads}
use Rattle.amf_graph.specs.declared.value.Value.{Value as Stored}
use Rattle.amf_graph.specs.declared.value.Value.TheVariants as value
use Rattle.amf_graph.specs.Graph as graph
use Rattle.amf_graph.specs.Arena.{Arena, StoredNode, head_content}
use Rattle.amf_graph.specs.Building.{kept_node, stored_at}
use Rattle.amf_graph.specs.declared.kind.NodeKind.{NodeKind}
use Rattle.amf3_spelling.specs.Markers3.{node_marker}
use Rattle.amf3_spelling.specs.KeptTables.{KeptTables}
use Rattle.amf3_spelling.specs.Reads3.{Grows}
use Rattle.amf3_spelling.specs.Refusals3.{header_refusal, header_kind}
use Rattle.amf3_spelling.specs.declared.marker.Marker.{Marker}
use Rattle.amf3_layout_laws.specs.Layout3State.{State3, state_of, begun}
use Rattle.amf3_layout_laws.specs.Layout3Words as layout
use Rattle.amf3_layout_laws.specs.Layout3.{ValueRead, read, known_node, opening, parts, inline_node, node_layout, behind_marker, value_layout}
use Rattle.amf3_layout_laws.proofs.Reader3Tables.{grows_itself, open_there, open_place}
use Rattle.amf3_read.specs.declared.opening.Parts.{Parts}
use Rattle.amf3_read.specs.declared.opening.Parts.TheVariants.{Array, Object, Items, Entries}
use Rattle.amf3_read.specs.declared.node.Entered.{Entered}
use Rattle.amf3_read.specs.declared.node.Start.{Start}
use Rattle.amf3_read.specs.declared.node.Start.TheVariants as start
use Rattle.amf3_read.specs.Steps.{marker_layout}
use Rattle.amf3_read.specs.Filling.{IsEmptyNode}
use Rattle.amf_wire_fields.specs.Room.{left_of}
use Rattle.amf3_read.specs.Ready.{Ready}
use Rattle.amf3_read.specs.Begins.{Begins, has_parts, IsShaped, IsBegun}
use Rattle.amf3_read.specs.Frames.{todo, Suits, StillReady, Starts, StartsBy, StartHolds}
use Rattle.amf_wire_fields.proofs.LayoutBinds.{bind_give}
use Rattle.amf3_read.proofs.InlineReads.{parts_at, whole_continues, parts_are}
use Rattle.amf3_read.proofs.TextReads.{odd_test}

-- what leads on gives what it leads to
pub answers_on : {S X Y Z : Type 0} (tells : S → Type 0) (left : S → List ℕ) (faults : S → ℕ) (view : Z → Y) (t u : Layout Y) (c d e : Cursor S Window) (x : X) (z : Z) → GoesBy tells left faults c d (Ok x) → Leads tells left t u c d → Answers tells left view u d e (Ok z) → Answers tells left view t c e (Ok z)
answers_on tells left faults view t u c d e x z g l a =
    leads_answers tells left faults view t (view z) c e z refl
    (leads_on tells left faults t u (give (view z)) c d e x g l (subst (λ w. Leads tells left w (give (view z)) d e) (bind_give u) (leads_behind tells left faults view u (λ y. give y) d e z a)))

-- What an empty node lacks.
pub shaped_suits : (h : graph.Head) (n : StoredNode) (p : Parts) → IsEmptyNode n → IsShaped h p → Suits h n p
shaped_suits graph.array n (Array k) z s = refl
shaped_suits graph.array n (Object k d) z s = absurd s
shaped_suits graph.array n (Items k) z s = absurd s
shaped_suits graph.array n (Entries k) z s = absurd s
shaped_suits (graph.object t) n (Object k d) z s = (t, refl, (let e = ap length z.values in omega (arith, s.0)), (λ e. s.1 ∙ e), λ e. z.names)
shaped_suits (graph.object t) n (Array k) z s = absurd s
shaped_suits (graph.object t) n (Items k) z s = absurd s
shaped_suits (graph.object t) n (Entries k) z s = absurd s
shaped_suits (graph.wrapper c) n (Items k) z s = inr (inl (c, refl, (let e = ap length z.values in omega arith), z.names))
shaped_suits (graph.wrapper c) n (Array k) z s = absurd s
shaped_suits (graph.wrapper c) n (Object k d) z s = absurd s
shaped_suits (graph.wrapper c) n (Entries k) z s = absurd s
shaped_suits (graph.values f x) n (Items k) z s = inr (inr (f, x, refl, z.names))
shaped_suits (graph.values f x) n (Array k) z s = absurd s
shaped_suits (graph.values f x) n (Object k d) z s = absurd s
shaped_suits (graph.values f x) n (Entries k) z s = absurd s
shaped_suits (graph.dictionary f) n (Entries k) z s = (f, refl, z.names, 0, ap length z.values)
shaped_suits (graph.dictionary f) n (Array k) z s = absurd s
shaped_suits (graph.dictionary f) n (Object k d) z s = absurd s
shaped_suits (graph.dictionary f) n (Items k) z s = absurd s
shaped_suits (graph.xml_document x) n p z s = absurd s
shaped_suits (graph.date x) n p z s = absurd s
shaped_suits (graph.xml x) n p z s = absurd s
shaped_suits (graph.bytes x) n p z s = absurd s
shaped_suits (graph.ints f x) n p z s = absurd s
shaped_suits (graph.uints f x) n p z s = absurd s
shaped_suits (graph.doubles f x) n p z s = absurd s

-- the parts of an opening are what is still to be read
todo_is : (v : State3 → Layout ValueRead) (m i : ℕ) (o : layout.Outline) (p : Parts) (s : State3) → has_parts o (Some p) → parts_at v m i o s ≡ todo v m i p s
todo_is v m i o (Array n) s e = ap (λ o. parts_at v m i o s) e
todo_is v m i o (Object n d) s e = ap (λ o. parts_at v m i o s) e
todo_is v m i o (Items n) s e = ap (λ o. parts_at v m i o s) e
todo_is v m i o (Entries n) s e = ap (λ o. parts_at v m i o s) e

module _ {S : Type 0} (tells : S → Type 0) (left : S → List ℕ) (faults : S → ℕ) (f : NodeKind) (h : ℕ) (a b : Arena) (t u : KeptTables) (c d : Cursor S Window) (x : Entered) (is : Begins tells left f h a b t u c d x) (r : Ready 0 b u d) where
  pub inline_still_ready : StillReady 1 a b u c d
  inline_still_ready = record { built = r.built; tables = r.tables; placed = r.placed; texts = is.texts; traits = is.traits; nodes = is.nodes }

  pub inline_leads : (p : Parts) → x.parts ≡ Some p → (v : State3 → Layout ValueRead) (n : ℕ) → GoesBy tells left faults c d (Ok x) → Leads tells left (inline_node v n f h (state_of a t)) (todo v n x.node.0 p (state_of b u)) c d
  inline_leads p e v n g =
      subst (λ l. Leads tells left (inline_node v n f h (state_of a t)) l c d) (sym (parts_are tells left faults f h a b t u c d x is v n g) ∙ todo_is v n x.node.0 is.opened p (state_of b u) (subst (has_parts is.opened) e is.parts))
      (leads_behind tells left faults (λ (y : Entered). is.opened) (opening f h (state_of a t)) (parts v n) c d x is.done)

  pub inline_holds : (p : Parts) → x.parts ≡ Some p → StartHolds a b (left_of d) (start.Open x.node p)
  inline_holds p e =
      let q = subst (λ o. IsBegun b x.node.0 (left_of d) o) e is.is_begun in
      let o = is.opened in
      let within : Grows (kept_node o.state.arena (begun o.head)) b = subst (λ (s : State3). Grows (kept_node o.state.arena (begun o.head)) s.arena) (sym is.state) (grows_itself (kept_node o.state.arena (begun o.head))) in
      let there : stored_at b x.node.0 ≡ begun o.head = ap (stored_at b) is.place ∙ open_there o.state.arena (begun o.head) b within in
      record {
        opened = record { before = o.state.arena; within = subst (λ m. Grows (kept_node o.state.arena m) b) (sym there) within; place = is.place; opened = q.0.opened; room = q.0.room };
        grows = is.grows;
        built = λ z. is.built;
        suits = shaped_suits (head_content b (stored_at b x.node.0).head) (stored_at b x.node.0) p q.1 q.2;
      }

  -- a node that is read whole
  pub inline_whole : x.parts ≡ None → x.node.0 < length b.nodes → StartHolds a b (left_of d) (start.Value (value.Node x.node))
  inline_whole none there = (there, (whole_continues tells left faults f h a b t u c d x is none r).grows)

  pub whole_there : x.node.0 < length b.nodes
  whole_there =
      let o = is.opened in
      let within : Grows (kept_node o.state.arena (begun o.head)) b = subst (λ (s : State3). Grows (kept_node o.state.arena (begun o.head)) s.arena) (sym is.state) (grows_itself (kept_node o.state.arena (begun o.head))) in
      subst (λ j. j < length b.nodes) (sym is.place) (open_place o.state.arena (begun o.head) b within)

-- Behind a header.
module _ {S : Type 0} (tells : S → Type 0) (left : S → List ℕ) (faults : S → ℕ) (v : State3 → Layout ValueRead) (n : ℕ) (f : NodeKind) (s : State3) (c d : Cursor S Window) (b : List ℕ) (h : ℕ) (fd : AnswersField {X = List ℕ} tells left (λ x. x) u29 c d (Ok b)) (is : h ≡ u29_value b)
    (g : GoesBy {X = List ℕ} tells left faults c d (Ok b)) (placed : IsPlaced d) (clean : header_refusal s.marks (length s.words.traits) (node_marker f) h ≡ None) (odd : h % 2 ≡ 1) where
  abbrev behind_header : ℕ → Layout ValueRead
  behind_header k = cond (eqb (k % 2) 0) (give (known_node s (k / 2))) (inline_node v n f k s)

  header_leads : Leads tells left (node_layout v n f s) (inline_node v n f h s) c d
  header_leads =
      subst (λ o. Leads tells left (node_layout v n f s) (cond o (give (known_node s (h / 2))) (inline_node v n f h s)) c d) (odd_test h odd)
      (subst (λ k. Leads tells left (node_layout v n f s) (behind_header k) c d) (sym is)
      (leads_behind tells left faults (λ (x : List ℕ). x) (want (header_kind s.marks (length s.words.traits) (node_marker f)) (λ x. give x)) (λ x. behind_header (u29_value x)) c d b
      (field_reads tells left faults (λ (x : List ℕ). x) (λ (x : List ℕ). x) (header_kind s.marks (length s.words.traits) (node_marker f)) (λ x. give x) c d d b (Ok b) g fd
      (subst (λ k. header_refusal s.marks (length s.words.traits) (node_marker f) k ≡ None) is clean) (gives tells left faults (λ (x : List ℕ). x) d b b placed refl))))

  pub node_starts : (z : State3) (e : Cursor S Window) (r : Result Start ReadEnd) → StartsBy tells left v n (inline_node v n f h s) z d e r → StartsBy tells left v n (node_layout v n f s) z c e r
  node_starts z e (Ok (start.Value x)) a = leads_done_on x a
    where
      leads_done_on : (x : Stored) → Answers tells left (λ y. read y z) (inline_node v n f h s) d e (Ok x) → Answers tells left (λ y. read y z) (node_layout v n f s) c e (Ok x)
      leads_done_on x a = answers_on tells left faults (λ y. read y z) (node_layout v n f s) (inline_node v n f h s) c d e b x g header_leads a
  node_starts z e (Ok (start.Open i p)) a = leads_on tells left faults (node_layout v n f s) (inline_node v n f h s) (todo v n i.0 p z) c d e b g header_leads a
  node_starts z e (Err end) a = leads_end tells left faults (node_layout v n f s) (inline_node v n f h s) c d e b end g header_leads a

-- Behind a marker.
module _ {S : Type 0} (tells : S → Type 0) (left : S → List ℕ) (faults : S → ℕ) where
  pub marker_starts_not : (n : ℕ) (s z : State3) (c d : Cursor S Window) (r : Result Start ReadEnd) (e : ReadEnd) → left_of c < n → IsErrAnd r (λ x. x ≡ e) → Ends tells left marker_layout c d e → Starts tells left n s z c d r
  marker_starts_not zero s z c d r e lt i a = absurd (omega arith)
  marker_starts_not (suc k) s z c d (Ok x) e lt i a = absurd i
  marker_starts_not (suc k) s z c d (Err x) e lt i a = record {
    fuel = k;
    enough = tt;
    starts = subst (Ends tells left (value_layout (suc k) s) c d) (sym i) (end_reads tells left faults marker_layout (λ f. behind_marker (value_layout k) k s f) c d e a);
  }

  module _ (s : State3) (c d : Cursor S Window) (m f : Marker) (is : m ≡ f) (g : GoesBy tells left faults c d (Ok m)) (a : Answers tells left (λ (m : Marker). m) marker_layout c d (Ok m)) (moves : place c < place d) where
    marker_leads : (k : ℕ) → Leads tells left (value_layout (suc k) s) (behind_marker (value_layout k) k s f) c d
    marker_leads k = subst (λ f. Leads tells left (value_layout (suc k) s) (behind_marker (value_layout k) k s f) c d) is (leads_behind tells left faults (λ (m : Marker). m) marker_layout (λ f. behind_marker (value_layout k) k s f) c d m a)

    pub value_starts : (z : State3) (e : Cursor S Window) (r : Result Start ReadEnd) → OnOk r (place d ≤ place e) → OnOk r (place e ≤ bound e) → bound e ≡ bound d → ((k : ℕ) → StartsBy tells left (value_layout k) k (behind_marker (value_layout k) k s f) z d e r) → (n : ℕ) → left_of c < n → Starts tells left n s z c e r
    value_starts z e r stays within same h zero lt = absurd (omega arith)
    value_starts z e (Ok (start.Value x)) stays within same h (suc k) lt = record {
      fuel = k;
      enough = let w = a.within in let q = g.same_bound in omega arith;
      starts = answers_on tells left faults (λ y. read y z) (value_layout (suc k) s) (behind_marker (value_layout k) k s f) c d e m x g (marker_leads k) (h k);
    }
    value_starts z e (Ok (start.Open i p)) stays within same h (suc k) lt = record {
      fuel = k;
      enough = let w = a.within in let q = g.same_bound in omega arith;
      starts = leads_on tells left faults (value_layout (suc k) s) (behind_marker (value_layout k) k s f) (todo (value_layout k) k i.0 p z) c d e m g (marker_leads k) (h k);
    }
    value_starts z e (Err end) stays within same h (suc k) lt = record { fuel = k; enough = tt; starts = leads_end tells left faults (value_layout (suc k) s) (behind_marker (value_layout k) k s f) c d e m end g (marker_leads k) (h k) }

  pub made : {X Y : Type 0} (view : X → Y) (t : Layout Y) (make : Y → ValueRead) (z : State3) (v : Stored) (d e : Cursor S Window) (x : X) → GoesBy tells left faults d e (Ok x) → Answers tells left view t d e (Ok x) → IsPlaced e → read v z ≡ make (view x) → Answers tells left (λ y. read y z) (bind t (λ y. give (make y))) d e (Ok v)
  made view t make z v d e x g a p q = then_reads tells left faults view (λ y. read y z) t (λ y. give (make y)) d e e x (Ok v) g a (gives tells left faults (λ y. read y z) e v (make (view x)) p q)

  pub unmade : {Y : Type 0} (n : ℕ) (s z : State3) (c d e : Cursor S Window) (m f : Marker) → m ≡ f → GoesBy tells left faults c d (Ok m) → Answers tells left (λ (m : Marker). m) marker_layout c d (Ok m) → place c < place d → bound e ≡ bound d → (t : Layout Y) (make : Y → ValueRead) → ((k : ℕ) → behind_marker (value_layout k) k s f ≡ bind t (λ y. give (make y)))
      → left_of c < n → (r : Result Start ReadEnd) (end : ReadEnd) → IsErrAnd r (λ x. x ≡ end) → Ends tells left t d e end → Starts tells left n s z c e r
  unmade n s z c d e m f is g a moves same t make eq lt (Ok x) end i h = absurd i
  unmade n s z c d e m f is g a moves same t make eq lt (Err x) end i h =
      value_starts s c d m f is g a moves z e (Err x) tt tt same (λ k. subst (Ends tells left (behind_marker (value_layout k) k s f) d e) (sym i) (subst (λ l. Ends tells left l d e end) (sym (eq k)) (end_reads tells left faults t (λ y. give (make y)) d e end h))) n lt
