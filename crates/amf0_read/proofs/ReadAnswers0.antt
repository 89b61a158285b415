-- What the reader of a value answers, from what its layout gives.
use Rattle.std.proofs.Common.{◌≡◌, ℕ, ◌-◌, ◌≤◌, ◌<◌, Bool, true, false, List, [], ◌++◌, take, Result, Ok, Err, refl, sym, ap, ◌∙◌, subst, arith}
use Rattle.amf_io.specs.declared.window.Window.{Window}
use Rattle.amf_io.specs.declared.cursor.Cursor.{Cursor}
use Rattle.amf_io.specs.declared.ends.ReadEnd.{ReadEnd}
use Rattle.amf_io.specs.Cursor.{source_of, place, bound, unread}
use Rattle.amf_io.specs.ReadEnds.{GoesBy}
use Rattle.amf_io.specs.CursorReads.{Answers, Ends}
use Rattle.amf_io.specs.Field.{flat}
use Rattle.amf_io.specs.Layout.{Layout, IsLayout, bind}
use Rattle.amf_graph.specs.declared.value.Value.{Value}
use Rattle.amf_graph.specs.Arena.{Arena, IsBuilt}
use Rattle.amf0_spelling.specs.declared.form.Form.{Form}
use Rattle.amf0_spelling.specs.KeptTables0.{KeptTables0, AreTables0In}
use Rattle.amf0_spelling.specs.Reads0.{IsReading0}
use Rattle.amf0_spelling.specs.Form.{IsForm}
use Rattle.amf0_layout_laws.specs.Layout0State.{state0_of}
use Rattle.amf0_layout_laws.specs.Layout0.{ValueRead0, read0, value0_layout}
use Rattle.amf0_layout_laws.proofs.Layout0Format.{reads0, is_layout0}
use Rattle.amf_io.specs.Stretch.{between}
use Rattle.amf_wire_fields.specs.Room.{Raises, left_of}
use Rattle.amf_wire_fields.proofs.LayoutVerdicts.{answers_taken, answers_ended}
use Rattle.std.specs.Result.{IsErrAnd}
use Rattle.amf0_read.specs.declared.frame.Frame.{Frame}
use Rattle.amf0_read.specs.declared.frame.Now.{Now}
use Rattle.amf0_read.specs.declared.formed.Read0.{Read0 as Formed}
use Rattle.amf0_read.specs.Answer0.{Answers0, IsReadWith}
use Rattle.amf0_read.specs.Ready0.{StillReady0}
use Rattle.amf0_read.specs.Beginnings0.{TellsCall, BeginsBy, form_of}
use Rattle.amf0_read.specs.Frames0.{current, rest}
use Rattle.amf_io.proofs.CursorReads.{leads_end}
use Rattle.amf0_read.proofs.Beginnings0.{with_done}
use Rattle.amf0_read.proofs.Costs0.{value0_costs}

is_form : (is_call switched : Bool) (b more : List ℕ) → TellsCall is_call b → (x : List ℕ) → x ≡ b ++ more → IsForm (form_of is_call switched) switched x
is_form true switched b more h x e = ap (take 6) e ∙ h more
is_form false true b more h x e = (refl, λ y. h more (sym (ap (take 6) e) ∙ y))
is_form false false b more h x e = refl

module _ {S : Type 0} (tells : S → Type 0) (left : S → List ℕ) (faults : S → ℕ) (a b : Arena) (t u : KeptTables0) (built : IsBuilt a) (v : AreTables0In a t) (c d : Cursor S Window) where
  abbrev first : ℕ → Layout ValueRead0
  first n = value0_layout n false (state0_of a t)

  layouts : IsLayout first (IsReading0 a t)
  layouts = is_layout0 a t built v

  -- an end
  pub ended : place c ≤ bound c → (n : ℕ) → left_of c < n → (e : ReadEnd) → Ends tells left (first n) c d e → Answers0 a b t u (between tells left c d) (Err e)
  ended le n lt e h = answers_ended {X = Formed} first (IsReading0 a t) layouts (λ x fs. IsReadWith a t fs b u x) (tells (source_of c).now) (unread left c) (unread left d) (place c) (place d) (bound c) n le lt e h

  -- a value, with its form
  module _ (n : ℕ) (x : Value) (y : Answers tells left (λ w. read0 w (state0_of b u)) (first n) c d (Ok x)) (is_call : Bool) (bytes more : List ℕ) (is : flat y.fields ≡ bytes ++ more) (call : TellsCall is_call bytes) where
    pub answered : (f : Form) → f ≡ form_of is_call u.switched → Answers0 a b t u (between tells left c d) (Ok (record { value = x; form = f }))
    answered f e =
        let z : Formed = record { value = x; form = f } in
        answers_taken {X = Formed} first (IsReading0 a t) layouts (λ x fs. IsReadWith a t fs b u x) (tells (source_of c).now) (unread left c) (unread left d) (place c) (place d) (bound c) n z (read0 x (state0_of b u)) y
        (record {
          read = reads0 n a t y.fields (read0 x (state0_of b u)) built v y.bytes y.runs;
          form = subst (λ k. IsForm k u.switched (flat y.fields)) (sym e) (is_form is_call u.switched bytes more call (flat y.fields) is);
        })

    -- what it weighs, and how many there are
    pub raised : place c ≤ bound c → bound d ≡ bound c → StillReady0 0 0 a b u c d → Raises a b (place d - place c)
    raised le same k =
        let costs = value0_costs n false (state0_of a t) y.fields (read0 x (state0_of b u)) y.runs in
        let p = y.taken in
        let r = k.placed.within in
        record { heavier = omega arith; texts = let z = k.texts in omega arith; traits = let z = k.traits in omega arith; nodes = let z = k.nodes in omega arith }

  pub passed : (r : Result Formed ReadEnd) (e : ReadEnd) → IsErrAnd r (λ x. x ≡ e) → Answers0 a b t u (between tells left c d) (Err e) → Answers0 a b t u (between tells left c d) r
  passed (Ok x) e is h = absurd is
  passed (Err x) e is h = subst (λ w. Answers0 a b t u (between tells left c d) (Err w)) (sym is) h

  -- what was read first, and then the rest
  module _ {X : Type 0} (b1 : Arena) (u1 : KeptTables0) (x : X) (is_call : Bool) (now : Now) (fs : List Frame) (m : Cursor S Window) (n : ℕ) (g : GoesBy tells left faults c m (Ok x)) (y : BeginsBy tells left (first n) [] is_call now fs (state0_of b1 u1) c m) where
    abbrev behind : Layout ValueRead0
    behind = bind (current y.fuel now (state0_of b1 u1)) (rest y.fuels fs)

    pub whole_ended : place c ≤ bound c → left_of c < n → (e : ReadEnd) → Ends tells left behind m d e → Answers0 a b t u (between tells left c d) (Err e)
    whole_ended le lt e h = ended le n lt e (leads_end tells left faults (first n) behind c m d x e g y.leads.leads h)

    module _ (got : Value) (h : Answers tells left (λ w. read0 w (state0_of b u)) behind m d (Ok got)) where
      pub whole_answered : (f : Form) → f ≡ form_of is_call u.switched → Answers0 a b t u (between tells left c d) (Ok (record { value = got; form = f }))
      whole_answered f e =
          let w = with_done tells left faults (λ (z : Value). read0 z (state0_of b u)) (first n) behind y.bytes c m d x got g y.leads h in
          answered n got w.0 is_call y.bytes w.1 w.2 y.call f e

      pub whole_raised : place c ≤ bound c → bound d ≡ bound c → StillReady0 0 0 a b u c d → Raises a b (place d - place c)
      whole_raised le same k =
          let w = with_done tells left faults (λ (z : Value). read0 z (state0_of b u)) (first n) behind y.bytes c m d x got g y.leads h in
          raised n got w.0 is_call y.bytes w.1 w.2 y.call le same k
