-- Pairs one after the other, up to the end of the input.
use Rattle.std.proofs.Common.{◌≡◌, ◌↔◌, ℕ, zero, suc, ◌+◌, ◌-◌, ◌^◌, ◌≤◌, ◌<◌, Bool, true, false, IsTrue, List, [], ◌∷◌, ◌++◌, length, take, refl, sym, ap, ◌∙◌, subst, arith, Result, Ok, Err}
use Rattle.std.specs.Result.{IsErrAnd}
use Rattle.amf_io.specs.declared.window.Window.{Window}
use Rattle.amf_io.specs.declared.cursor.Cursor.{Cursor}
use Rattle.amf_io.specs.declared.ends.ReadEnd.{ReadEnd}
use Rattle.amf_io.specs.declared.ends.ReadEnd.TheVariants.{Refused, ReadFault, Memory}
use Rattle.amf_io.specs.Cursor.{source_of, place, bound, unread}
use Rattle.amf_io.specs.ReadEnds.{IsPlaced, GoesBy}
use Rattle.amf_io.specs.CursorReads.{Answers, Ends, Leads}
use Rattle.amf_io.specs.Field.{Kind, Field, AreBytes, flat}
use Rattle.amf_io.specs.Layout.{Layout, give, want, bind, Path, Runs}
use Rattle.amf_io.specs.Outcomes.{Short, after, field_whole, run}
use Rattle.amf_io.proofs.CursorReads.{goes_then, goes_nowhere, then_reads, end_reads, gives, leads_end}
use Rattle.amf_io.proofs.Paths.{bind_runs, runs_bind}
use Rattle.amf_graph.specs.Arena.{Arena}
use Rattle.amf_graph.specs.Rooted.{RootedArena}
use Rattle.amf3_layout_laws.proofs.Layout3SoundTexts.{give_is}
use Rattle.amf_wire_fields.specs.Room.{left_of}
use Rattle.amf3_read.specs.Ready.{Ready}
use Rattle.amf0_read.specs.Ready0.{Ready0}
use Rattle.amf3_spelling.specs.KeptTables.{KeptTables, no_kept_tables}
use Rattle.amf_graph.proofs.Lists.{no_entry}
use Rattle.amf0_spelling.specs.KeptTables0.{KeptTables0, no_kept_tables0}
use Rattle.amf0_layout_laws.specs.Layout0State.{State0, state0_of}
use Rattle.amf0_read.proofs.ValueReads0.{led_answers}
use Rattle.amf_sol.specs.declared.sol_version.SolVersion.{SolVersion}
use Rattle.amf_sol.specs.declared.sol_version.SolVersion.TheVariants.{Amf0, Amf3}
use Rattle.amf_sol.specs.FileLayout.{FileState, file, holder_arena, no_pairs, pair_by, pair_layout}
use Rattle.amf_sol.specs.FileReading.{IsOpenHolder, PairsEnded, GoesPast, AnswersPairs, AnswersHolder}
use Rattle.amf_io.specs.Repeated.{steps}
use Rattle.amf_sol.proofs.FileSound.{holder_built, holder_tables}
use Rattle.amf_io.proofs.RepeatedVerdicts.{none_whole}
use Rattle.amf_io.proofs.SharedPaths.{given}

-- behind so many steps stands one more
pub steps_on : {S : Type 0} (step : S → Layout S) (m : ℕ) (s x : S) (fs : List Field) → Runs (steps step m s) fs x → Path (steps step (suc m) s) fs (bind (step x) (λ u. give u))
steps_on step zero s x fs r =
    let none : fs ≡ [] = given s (give x) fs r in
    let same : s ≡ x = give_is s x (subst (λ l. Runs (give s) l x) none r) in
    subst (λ l. Path (steps step (suc zero) s) l (bind (step x) (λ u. give u))) (sym none) (ap (λ y. bind (step y) (λ u. give u)) same)
steps_on step (suc m) s x fs r =
    let b = bind_runs (step s) (λ u. steps step m u) fs x r in
    subst (λ l. Path (steps step (suc (suc m)) s) l (bind (step x) (λ u. give u))) (sym b.parts)
    (runs_bind (step s) (λ u. steps step (suc m) u) b.front b.back b.value (bind (step x) (λ u. give u)) b.first (steps_on step m b.value x b.back b.second))

-- a layout that begins with a field
abbrev Wants : {X : Type 0} → Layout X → Type 0
Wants {X = X} t = (k : Kind) × (next : List ℕ → Layout X) × (t ≡ want k next)

-- a pair begins with a field
pair_wants : (version : SolVersion) (n : ℕ) (name : List ℕ) (s : State0) → Wants (bind (pair_by version n name s) (λ u. give u))
pair_wants Amf0 n name s = (_, _, refl)
pair_wants Amf3 n name s = (_, _, refl)

-- nothing that came is no whole field
wants_short : {X : Type 0} (t : Layout X) (at : ℕ) → Wants t → run t at [] ≡ Short at
wants_short t at (k, next, e) = ap (λ l. run l at []) e ∙ ap (λ o. after (field_whole o k at []) (λ b. run (next b))) (none_whole k)

module _ {S : Type 0} (tells : S → Type 0) (left : S → List ℕ) (faults : S → ℕ) (version : SolVersion) where
  abbrev done : Unit {0} → Unit {0}
  done u = u

  -- so many pairs came, and the state behind them
  pub record SoMany (n : ℕ) (name : List ℕ) (a : Arena) (t : KeptTables0) (c d : Cursor S Window) : Type 0 where
    pub many : ℕ
    pub read : Answers tells left (λ (u : Unit {0}). file version name (state0_of a t)) (steps (pair_layout n) many (file version name no_pairs)) c d (Ok tt)

  -- what the loop keeps
  pub record PairsSo (a : Arena) (t : KeptTables0) (c d : Cursor S Window) : Type 0 where
    pub goes : GoesBy {X = Unit {0}} tells left faults c d (Ok tt)
    pub placed : IsPlaced d
    pub holder : IsOpenHolder a (left_of d)
    pub less : left_of d ≤ left_of c
    pub read : (n : ℕ) (name : List ℕ) → left_of c < n → SoMany n name a t c d

  pub pairs_none : (a : Arena) (t : KeptTables0) (c : Cursor S Window) → a ≡ holder_arena → t ≡ no_kept_tables0 → IsPlaced c → IsOpenHolder a (left_of c) → PairsSo a t c c
  pairs_none a t c e h p o = record {
    goes = goes_nowhere tells left faults c tt p;
    placed = p;
    holder = o;
    less = omega arith;
    read = λ n name lt. record { many = 0; read = gives tells left faults (λ (u : Unit {0}). file version name (state0_of a t)) c tt (file version name no_pairs) p (ap (λ y. file version name (state0_of y t)) e ∙ ap (λ y. file version name (state0_of holder_arena y)) h) };
  }

  -- no byte was taken
  pub record Stays (d e : Cursor S Window) : Type 0 where
    pub at : place e ≡ place d
    pub same : tells (source_of d).now → unread left e ≡ unread left d

  stays_told : {X : Type 0} (view : X → FileState) (l : Layout FileState) (c d e : Cursor S Window) (x : X) → GoesBy {X = Unit {0}} tells left faults c d (Ok tt) → Stays d e → Answers tells left view l c d (Ok x) → Answers tells left view l c e (Ok x)
  stays_told view l c d e x g s a = record {
    fields = a.fields;
    runs = a.runs;
    bytes = a.bytes;
    taken = s.at ∙ a.taken;
    within = let w = a.within in let p = s.at in omega arith;
    parts = λ k. a.parts k ∙ ap (λ r. flat a.fields ++ r) (sym (s.same (g.told k)));
  }

  -- one that was asked whether it is at its end
  pub pairs_looked : (a : Arena) (t : KeptTables0) (c d e : Cursor S Window) (b : Bool) → PairsSo a t c d → GoesBy tells left faults d e (Ok b) → Stays d e → PairsSo a t c e
  pairs_looked a t c d e b so g s =
      let p = s.at in
      let q = g.same_bound in
      let w = so.placed.within in
      let here : left_of d ≡ left_of e = omega arith in
      record {
        goes = goes_then tells left faults c d e tt (Ok tt) so.goes (record { told = g.told; same_source = g.same_source; same_bound = g.same_bound; one_past = g.one_past; cause = g.cause; none_ahead = tt; total = g.total });
        placed = record { within = omega arith; one_past = g.one_past };
        holder = subst (IsOpenHolder a) here so.holder;
        less = let l = so.less in omega arith;
        read = λ n name lt. let r = so.read n name lt in record { many = r.many; read = stays_told (λ (u : Unit {0}). file version name (state0_of a t)) (steps (pair_layout n) r.many (file version name no_pairs)) c d e tt so.goes s r.read };
      }

  -- the input is over
  pub pairs_over : (a : Arena) (t : KeptTables0) (c d : Cursor S Window) → PairsSo a t c d → (tells (source_of c).now → unread left d ≡ []) → (n : ℕ) (name : List ℕ) → left_of c < n → AnswersPairs tells left version n name a c d (Ok tt)
  pairs_over a t c d so over n name lt = let r = so.read n name lt in record { many = r.many; tables = t; done = r.read; ended = over }

  -- a pair, behind so many
  module _ (a : Arena) (t : KeptTables0) (c d : Cursor S Window) (so : PairsSo a t c d) where
    abbrev one_more : (n : ℕ) (name : List ℕ) → Layout FileState
    one_more n name = pair_by version n name (state0_of a t)

    leads : (n : ℕ) (name : List ℕ) (r : SoMany n name a t c d) → Leads tells left (steps (pair_layout n) (suc r.many) (file version name no_pairs)) (bind (one_more n name) (λ u. give u)) c d
    leads n name r = record {
      fields = r.read.fields;
      path = steps_on (pair_layout n) r.many (file version name no_pairs) (file version name (state0_of a t)) r.read.fields r.read.runs;
      bytes = r.read.bytes;
      taken = r.read.taken;
      within = r.read.within;
      parts = r.read.parts;
    }

    -- one that came
    pub pairs_more : (b : Arena) (u : KeptTables0) (e : Cursor S Window) → GoesBy {X = Unit {0}} tells left faults d e (Ok tt) → IsPlaced e → IsOpenHolder b (left_of e) → left_of e ≤ left_of d
        → ((n : ℕ) (name : List ℕ) → left_of d < n → Answers tells left (λ (z : Unit {0}). file version name (state0_of b u)) (one_more n name) d e (Ok tt)) → PairsSo b u c e
    pairs_more b u e g p h l a1 = record {
      goes = goes_then tells left faults c d e tt (Ok tt) so.goes g;
      placed = p;
      holder = h;
      less = let k = so.less in omega arith;
      read = λ n name lt.
          let r = so.read n name lt in
          let y = a1 n name (let k = so.less in omega arith) in
          let view = λ (z : Unit {0}). file version name (state0_of b u) in
          record {
            many = suc r.many;
            read = led_answers tells left faults view (steps (pair_layout n) (suc r.many) (file version name no_pairs)) (bind (one_more n name) (λ u. give u)) c d e tt (Ok tt) so.goes (leads n name r)
                (then_reads tells left faults view (λ (z : Unit {0}). file version name (state0_of b u)) (one_more n name) (λ u. give u) d e e tt (Ok tt) g y (gives tells left faults view e tt (file version name (state0_of b u)) p refl));
          };
    }

    ended_by : (n : ℕ) (name : List ℕ) (r : SoMany n name a t c d) (e : Cursor S Window) (end : ReadEnd) → Ends tells left (bind (one_more n name) (λ u. give u)) d e end → GoesPast (tells (source_of c).now) (unread left c) r.read.fields end → AnswersPairs tells left version n name a c e (Err end)
    ended_by n name r e end h past = record {
      many = r.many;
      fields = r.read.fields;
      behind = file version name (state0_of a t);
      runs = r.read.runs;
      bytes = r.read.bytes;
      past = past;
      ends = leads_end tells left faults (steps (pair_layout n) (suc r.many) (file version name no_pairs)) (bind (one_more n name) (λ u. give u)) c d e tt end so.goes (leads n name r) h;
    }

    past_by : (fs : List Field) (end : ReadEnd) → (tells (source_of c).now → unread left c ≡ flat fs ++ unread left d) → (tells (source_of c).now → 0 < length (unread left d)) → GoesPast (tells (source_of c).now) (unread left c) fs end
    past_by fs (Refused f) e some = λ k. (unread left d, some k, e k)
    past_by fs ReadFault e some = tt
    past_by fs Memory e some = tt

    -- one that ended, where there was a byte
    pub pair_ended : (e : Cursor S Window) (end : ReadEnd) → (tells (source_of c).now → 0 < length (unread left d)) → ((n : ℕ) (name : List ℕ) → left_of d < n → Ends tells left (one_more n name) d e end) → (n : ℕ) (name : List ℕ) → left_of c < n → AnswersPairs tells left version n name a c e (Err end)
    pair_ended e end some h n name lt =
        let r = so.read n name lt in
        ended_by n name r e end (end_reads tells left faults (one_more n name) (λ u. give u) d e end (h n name (let k = so.less in omega arith))) (past_by r.read.fields end r.read.parts some)

    -- whether a byte follows could not be read
    pub pairs_faulted : (e : Cursor S Window) → Stays d e → (n : ℕ) (name : List ℕ) → left_of c < n → AnswersPairs tells left version n name a c e (Err ReadFault)
    pairs_faulted e s n name lt =
        let r = so.read n name lt in
        ended_by n name r e ReadFault (λ k. record {
          given = [];
          stop = place d;
          parts = sym (s.same k);
          within = let w = so.placed.within in omega arith;
          outcome = wants_short (bind (one_more n name) (λ u. give u)) (place d) (pair_wants version n name (state0_of a t));
          bytes = none (place d - place d);
        }) tt
      where
        none : (m : ℕ) → AreBytes (take m [])
        none zero = tt
        none (suc m) = tt

-- Ends before the first pair, and ends that are passed on.
module _ {S : Type 0} (tells : S → Type 0) (left : S → List ℕ) (version : SolVersion) (n : ℕ) (name : List ℕ) (c d : Cursor S Window) where
  -- no memory was left
  pub pairs_unread : PairsEnded (tells (source_of c).now) version n name (unread left c) (unread left d) (place c) (bound c) Memory
  pairs_unread = record { many = 0; fields = []; behind = file version name no_pairs; runs = refl; bytes = tt; past = tt; ends = tt }

  pub pairs_passed : (a : Arena) (r : Result (Unit {0}) ReadEnd) (e : ReadEnd) → IsErrAnd r (λ x. x ≡ e) → AnswersPairs tells left version n name a c d (Err e) → AnswersPairs tells left version n name a c d r
  pairs_passed a (Ok x) e h k = absurd h
  pairs_passed a (Err x) e h k = subst (λ (y : ReadEnd). AnswersPairs tells left version n name a c d (Err y)) (sym h) k

  pub holder_passed : (r : Result RootedArena ReadEnd) (e : ReadEnd) → IsErrAnd r (λ x. x ≡ e) → AnswersHolder tells left version n name c d (Err e) → AnswersHolder tells left version n name c d r
  holder_passed (Ok x) e h k = absurd h
  holder_passed (Err x) e h k = subst (λ (y : ReadEnd). AnswersHolder tells left version n name c d (Err y)) (sym h) k

-- What the readers of pairs need of the builder.

ready3_start : {S : Type 0} (a : Arena) (t : KeptTables) (c : Cursor S Window) → a ≡ holder_arena → t ≡ no_kept_tables → IsPlaced c → left_of c + 1 < 2 ^ 27 → Ready 0 a t c
ready3_start a t c e h p room =
    subst (λ y. Ready 0 y t c) (sym e) (subst (λ u. Ready 0 holder_arena u c) (sym h)
    (record { built = holder_built; tables = holder_tables; placed = p; few_texts = omega arith; few_traits = omega arith; few_nodes = omega arith }))

pub ready0_start : {S : Type 0} (a : Arena) (t : KeptTables0) (c : Cursor S Window) → a ≡ holder_arena → t ≡ no_kept_tables0 → IsPlaced c → left_of c + 1 < 2 ^ 27 → Ready0 0 a t c
ready0_start a t c e h p room =
    subst (λ u. Ready0 0 a u c) (sym h) (record { amf3 = ready3_start a no_kept_tables c e refl p room; nodes = tt; distinct = λ j k i e f. absurd (no_entry j i e) })

-- Whether the input is over, as it was looked.

pub not_over : (b : Bool) (l m : List ℕ) → m ≡ l → (IsTrue b ↔ (l ≡ [])) → b ≡ false → 0 < length m
not_over b [] m same over e = let clash : true ≡ false = sym (over.1 refl) ∙ e in absurd cc
not_over b (x ∷ l) m same over e = omega (arith, ap length same)

pub is_over_now : (b : Bool) (l m : List ℕ) → m ≡ l → (IsTrue b ↔ (l ≡ [])) → b ≡ true → m ≡ []
is_over_now b l m same over e = same ∙ over.0 e
