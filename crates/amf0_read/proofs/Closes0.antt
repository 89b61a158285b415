-- An open node that lacks nothing is closed.
use Rattle.std.proofs.Common.{◌≡◌, ℕ, suc, ◌+◌, ◌≤◌, ◌<◌, Bool, true, false, List, [], ◌∷◌, eqb, inl, inr, length, Result, Ok, Err, refl, sym, ap, ◌∙◌, subst, arith}
use Rattle.std.specs.List.{AllByRecursion}
use Rattle.std.proofs.lemmas.List.{length-set}
use Rattle.amf_io.specs.declared.window.Window.{Window}
use Rattle.amf_io.specs.declared.cursor.Cursor.{Cursor}
use Rattle.amf_io.specs.Cursor.{place, bound}
use Rattle.std.specs.Result.{IsErrAnd}
use Rattle.amf_io.specs.declared.ends.ReadEnd.{ReadEnd}
use Rattle.amf_io.specs.Layout.{Layout}
use Rattle.amf_io.specs.ReadEnds.{IsPlaced}
use Rattle.amf_io.specs.CursorReads.{Ends}
use Rattle.amf0_spelling.specs.Segments0.{is_empty}
use Rattle.amf0_layout_laws.specs.Layout0State.{State0}
use Rattle.amf0_layout_laws.specs.Layout0.{ValueRead0}
use Rattle.amf0_read.specs.declared.fill.Step.{Step}
use Rattle.amf_graph.specs.Graph as graph
use Rattle.amf_graph.specs.Arena.{Arena, StoredNode, IsBuilt, head_content}
use Rattle.amf_graph.specs.Building.{changed as changed_arena, shut, stored_at, kept_node, FitsNow}
use Rattle.amf3_layout_laws.proofs.Reader3Tables.{grows_itself, grows_twice}
use Rattle.amf0_spelling.specs.KeptTables0.{KeptTables0}
use Rattle.amf3_read.specs.declared.opening.Parts.{Parts}
use Rattle.amf3_read.specs.declared.opening.Parts.TheVariants as parts
use Rattle.amf3_read.specs.declared.fill.Next.TheVariants as next
use Rattle.amf3_read.specs.Filling.{IsOpened}
use Rattle.amf_wire_fields.specs.KeptText.{KeptText}
use Rattle.amf_wire_fields.specs.Room.{left_of}
use Rattle.amf3_read.specs.Frames.{Suits, IsNext}
use Rattle.amf3_read.proofs.PartPut.{stays, same_head}
use Rattle.amf3_read.proofs.Stack.{opened_less, opened_grown}
use Rattle.amf3_read.proofs.GoesOn.{suits_behind, closed_there, closed_fits, closed_still_ready, closed_holds}
use Rattle.amf0_read.specs.declared.frame.Todo.TheVariants.{Items, Pairs}
use Rattle.amf0_read.specs.declared.frame.Role.TheVariants.{Item}
use Rattle.amf0_spelling.specs.declared.marker.Marker0.{Marker0}
use Rattle.amf0_read.specs.declared.fill.Step.TheVariants as step
use Rattle.amf0_read.specs.Ready0.{Ready0, StillReady0}
use Rattle.amf0_read.specs.Frames0.{Lacks, GoesOn, StepHolds}
use Rattle.amf0_read.proofs.Stack0.{are_tables, ready_on, ready_twice}
use Rattle.amf0_read.proofs.TextReads0.{text_grows, name_still_ready}

-- the parts of AMF 3 that it lacks then
pub record Nothing (h : graph.Head) (n : StoredNode) : Type 0 where
  pub todo : Parts
  pub none : IsNext todo next.Nothing
  pub suits : Suits h n todo

pub no_items : (h : graph.Head) (n : StoredNode) → Lacks h n (Items 0) → Nothing h n
no_items h n s = record { todo = parts.Items 0; none = refl; suits = s }

pub no_pairs : (h : graph.Head) (n : StoredNode) → Lacks h n Pairs → Nothing h n
no_pairs h n (inl s) = record { todo = parts.Items 0; none = refl; suits = suits_behind h n (parts.Array 0) (parts.Items 0) refl refl s }
no_pairs h n (inr s) = record { todo = parts.Object 0 false; none = refl; suits = suits_behind h n (parts.Object 0 true) (parts.Object 0 false) refl refl s }

module _ {S : Type 0} (i : ℕ) (y : Arena) (t : KeptTables0) (e : Cursor S Window) (r : Ready0 0 y t e) (o : IsOpened y i (left_of e)) (n : Nothing (head_content y (stored_at y i).head) (stored_at y i)) where
  pub shut_there : i < length y.nodes
  shut_there = closed_there i n.todo y y t.amf3 e r.amf3 o n.suits n.none

  pub shut_fits : FitsNow y (stored_at y i)
  shut_fits = closed_fits i n.todo y y t.amf3 e r.amf3 o n.suits n.none

  module _ (b : Arena) (eq : b ≡ changed_arena shut i y) where
    same : length b.nodes ≡ length y.nodes
    same = ap (λ (z : Arena). length z.nodes) eq ∙ length-set y.nodes i (shut (stored_at y i))

    pub shut_still_ready : StillReady0 0 0 y b t e e
    shut_still_ready =
        let k = closed_still_ready i n.todo y b t.amf3 e r.amf3 o n.suits n.none eq in
        let p = k.texts in let q = k.traits in let s = k.nodes in
        record {
          built = k.built;
          tables = record { amf3 = k.tables; nodes = subst (λ m. AllByRecursion (λ j. j < m) t.nodes) (sym same) r.nodes; distinct = r.distinct };
          placed = k.placed;
          texts = omega arith;
          traits = omega arith;
          nodes = omega arith;
        }

    pub shut_holds : StepHolds y b i step.Closed
    shut_holds = closed_holds i n.todo y b t.amf3 e r.amf3 o n.suits n.none eq

-- an item comes next, and its marker was read
pub item_waits : (a : Arena) (i n : ℕ) (m : Marker0) → Lacks (head_content a (stored_at a i).head) (stored_at a i) (Items (suc n)) → StepHolds a a i (step.Wait (Item n) m)
item_waits a i n m s = (grows_itself a, tt, s)

pub item_still_ready : {S : Type 0} (a : Arena) (t : KeptTables0) (c d : Cursor S Window) → Ready0 0 a t c → IsPlaced d → bound d ≡ bound c → place c < place d → StillReady0 1 0 a a t c d
item_still_ready a t c d r p same lt =
    let w = p.within in
    record { built = r.amf3.built; tables = are_tables 0 a t c r; placed = p; texts = omega arith; traits = omega arith; nodes = omega arith }

-- Behind an empty name and the end of pairs.
module _ {S : Type 0} (a y : Arena) (t : KeptTables0) (x i : ℕ) (c d e : Cursor S Window) (r : Ready0 0 a t c) (built : IsBuilt y) (k : KeptText a y x) (two : place c + 2 ≤ place d) (more : place d < place e) (same : bound e ≡ bound c) (p : IsPlaced e) where
  end_still_ready : StillReady0 0 0 a y t c e
  end_still_ready =
      let n = name_still_ready a y t x c d e r built k two more same p in
      let u = n.texts in let v = n.traits in let w = n.nodes in
      record { built = n.built; tables = n.tables; placed = n.placed; texts = omega arith; traits = omega arith; nodes = omega arith }

  pub end_ready : Ready0 0 y t e
  end_ready = ready_on 0 0 a y t t c e r end_still_ready

  less : left_of e ≤ left_of c
  less = let w = p.within in omega arith

  module _ (o : IsOpened a i (left_of c)) (l : Lacks (head_content a (stored_at a i).head) (stored_at a i) Pairs) where
    pub end_opened : IsOpened y i (left_of e)
    end_opened = opened_less y i (left_of e) (left_of c) less (opened_grown a y i (left_of c) (text_grows a y x k) o)

    pub end_lacks : Nothing (head_content y (stored_at y i).head) (stored_at y i)
    end_lacks =
        let g = text_grows a y x k in
        no_pairs (head_content y (stored_at y i).head) (stored_at y i)
        (subst (λ h. Lacks h (stored_at y i) Pairs) (sym (same_head i (left_of c) a y o g r.amf3.built)) (subst (λ n. Lacks (head_content a (stored_at a i).head) n Pairs) (sym (stays i (left_of c) a y o g)) l))

    module _ (b : Arena) (eq : b ≡ changed_arena shut i y) where
      pub end_shut : StillReady0 0 0 a b t c e
      end_shut = ready_twice 0 0 0 a y b t t c e e end_still_ready (shut_still_ready i y t e end_ready end_opened end_lacks b eq)

      pub end_holds : StepHolds a b i step.Closed
      end_holds =
          let h = shut_holds i y t e end_ready end_opened end_lacks b eq in
          (h.0, λ before n q w. h.1 before n q (grows_twice (kept_node before n) a y w (text_grows a y x k)))

-- An end that is passed on, and an empty text.

pub step_ended : {S : Type 0} (tells : S → Type 0) (left : S → List ℕ) (t : Layout ValueRead0) (i : ℕ) (z : State0) (c d : Cursor S Window) (r : Result Step ReadEnd) (e : ReadEnd) → IsErrAnd r (λ x. x ≡ e) → Ends tells left t c d e → GoesOn tells left t i z c d r
step_ended tells left t i z c d (Ok x) e is h = absurd is
step_ended tells left t i z c d (Err x) e is h = subst (Ends tells left t c d) (sym is) h

pub empty_tells : (x y : List ℕ) (t : Bool) → x ≡ y → eqb (length y) 0 ≡ t → is_empty x ≡ t
empty_tells x y t e h = by x (ap (λ l. eqb (length l) 0) e ∙ h)
  where
    no_zero : (n : ℕ) → eqb (suc n) 0 ≡ false
    no_zero n = grind arith

    by : (l : List ℕ) → eqb (length l) 0 ≡ t → is_empty l ≡ t
    by [] k = k
    by (z ∷ l) k = sym (no_zero (length l)) ∙ k
