-- What the reader of a shared object file answers, from what its parts gave.
use Rattle.std.proofs.Common.{◌≡◌, ℕ, suc, ◌+◌, ◌-◌, ◌^◌, ◌≤◌, ◌<◌, List, [], ◌∷◌, ◌++◌, length, take, drop, refl, sym, ap, ◌∙◌, subst, arith, append-nil, append_assoc, length-append, add-zero, Result, Ok, Err}
use Rattle.std.proofs.lemmas.List.{take_at, drop_at, length-drop, length-take}
use Rattle.std.specs.Int.{from_be_bytes, w32}
use Rattle.std.specs.Result.{IsErrAnd}
use Rattle.amf_io.specs.declared.window.Window.{Window}
use Rattle.amf_io.specs.declared.cursor.Cursor.{Cursor}
use Rattle.amf_io.specs.declared.reason.Reason.{Reason}
use Rattle.amf_io.specs.declared.reason.Reason.TheVariants.{BadLength}
use Rattle.amf_io.specs.declared.ends.ReadEnd.{ReadEnd}
use Rattle.amf_io.specs.declared.ends.ReadEnd.TheVariants.{Refused, ReadFault, Memory}
use Rattle.amf_io.specs.Cursor.{source_of, place, bound, unread}
use Rattle.amf_io.specs.ReadEnds.{GoesBy}
use Rattle.amf_io.specs.CursorReads.{Answers, Ends}
use Rattle.amf_io.specs.Field.{Field, AreBytes, flat, u32_kind, no_refusal}
use Rattle.amf_io.specs.Layout.{give, want, Path, Runs}
use Rattle.amf_io.specs.LayoutAnswer.{EndsBy}
use Rattle.amf_io.specs.Verdict.{IsRefused, IsAccepted}
use Rattle.amf_io.proofs.Ables.{bytes_flat}
use Rattle.amf_io.proofs.Combine.{headed}
use Rattle.amf_io.proofs.CursorReads.{goes_then, then_reads, end_reads}
use Rattle.amf_io.proofs.LayoutAnswers.{refused_verdict, waits_verdict}
use Rattle.amf_io.proofs.Paths.{runs_bind, flat-append}
use Rattle.amf_io.proofs.Whole.{whole_fixed}
use Rattle.amf_wire.specs.Style.{free}
use Rattle.amf_wire.specs.Text.{IsText}
use Rattle.amf_graph.specs.Bounds.{weight}
use Rattle.amf_graph.specs.Rooted.{RootedArena, content}
use Rattle.amf_io.specs.Stretch.{Stretch, between, stretch}
use Rattle.amf_wire_fields.specs.Room.{left_of}
use Rattle.amf0_layout_laws.specs.Layout0State.{state0_of}
use Rattle.amf_sol.specs.declared.head.Head.{Head}
use Rattle.amf_sol.specs.declared.sol_version.SolVersion.{SolVersion}
use Rattle.amf_sol.specs.SharedObject.{signature, PairsOf, SpellsFile, IsFileReading}
use Rattle.amf_sol.specs.StoredFile.{StoredFile, shared}
use Rattle.amf_sol.specs.FileAnswer.{AnswersFile}
use Rattle.amf_sol.specs.FileLayout.{FileState, file, no_pairs, head_layout, pair_layout, HasPairs}
use Rattle.amf_sol.specs.FileReading.{length_layout, rest_layout, closed_holder, PairsEnded, GoesPast, AnswersHolder}
use Rattle.amf_sol.specs.FileVerdict.{HasItsLength, refused, bad_length}
use Rattle.amf_io.specs.Repeated.{steps, after_head}
use Rattle.amf_sol.proofs.FileRepeats.{files_repeat, file_layouts}
use Rattle.amf_sol.proofs.FileSound.{HeadSound, head_sound, closed_pairs, pairs_sound, file_spelled, file_of, PairsRead}
use Rattle.amf_sol.proofs.FileWeights.{holder_weighs}
use Rattle.amf_sol.proofs.FileVerdicts.{file_refused, file_cut}
use Rattle.amf_io.proofs.Repeats.{fewer_first}
use Rattle.amf_io.proofs.RepeatedVerdicts.{refusal_lifted, cut_any}
use Rattle.amf_io.proofs.SharedPaths.{given}
use Rattle.amf3_layout_laws.proofs.Layout3SoundTexts.{give_is}

-- The verdicts of ends.

-- the input is no file of fewer pairs
abbrev pub NoFewer : Type 0 → ℕ → List ℕ → ReadEnd → Type 0
NoFewer told m input (Refused f) = told → (start : List Field) (j : ℕ) → input ≡ flat start → j < m → HasPairs j start → ⊥
NoFewer told m input ReadFault = Unit {0}
NoFewer told m input Memory = Unit {0}

none_fewer : (told : Type 0) (input : List ℕ) (e : ReadEnd) → NoFewer told 0 input e
none_fewer told input (Refused f) = λ t start j e lt p. omega arith
none_fewer told input ReadFault = tt
none_fewer told input Memory = tt

-- behind so many pairs there is a byte
past_fewer : (m : ℕ) (boundary : List Field) (more input : List ℕ) → HasPairs m boundary → 0 < length more → input ≡ flat boundary ++ more → (start : List Field) (j : ℕ) → input ≡ flat start → j < suc m → HasPairs j start → ⊥
past_fewer m boundary more input there some parts start j e lt p =
    let o = fewer_first (λ n. head_layout) pair_layout HasPairs files_repeat j m start boundary [] more (omega arith) p there (append-nil (flat start) ∙ sym e ∙ parts) in
    omega (arith, ap length e, ap length parts, length-append (flat boundary) more, ap (λ l. length (flat l)) o.joined, ap length (flat-append start o.more), length-append (flat start) (flat o.more))

whole_refused : (m base limit k : ℕ) (input : List ℕ) (r : Reason) → base ≤ limit → ((start : List Field) (j : ℕ) → input ≡ flat start → j < m → HasPairs j start → ⊥) → IsRefused (HasPairs m) base limit input r k → IsRefused IsFileReading base limit input r k
whole_refused m base limit k input r le none x =
    file_refused base limit k input r (refusal_lifted (λ n. head_layout) pair_layout HasPairs files_repeat (HasPairs m) base limit base [] input input m refl (sym (add-zero base)) le (λ start kind f. f) (λ start j e lt p. none start j e lt p) k r x)

-- an end of the reader of the head and so many pairs is the verdict
pub ended_file : (told : Type 0) (input rest : List ℕ) (at place limit n m : ℕ) → at ≤ limit → limit - at < n → (e : ReadEnd) → NoFewer told m input e → EndsBy told (after_head head_layout (pair_layout n) m) input rest at limit e → AnswersFile (stretch told input rest at place limit) (Err e)
ended_file told input rest at place limit n m le lt (Refused f) none h = λ t. refused (whole_refused m at limit f.at input f.reason le (none t) (refused_verdict (λ k. after_head head_layout (pair_layout k) m) (HasPairs m) (file_layouts m) at limit le n input f (omega (arith, length-take (limit - at) input)) (h t)))
ended_file told input rest at place limit n m le lt ReadFault none h = λ t.
    let w = h t in
    record {
      given = w.given;
      parts = w.parts;
      within = w.within;
      stop = w.stop;
      cut_off = file_cut at w.stop w.given (cut_any (λ n. head_layout) pair_layout HasPairs files_repeat m at w.stop w.given (waits_verdict (λ k. after_head head_layout (pair_layout k) m) (HasPairs m) (file_layouts m) at limit le n input rest w (let i = w.within in omega arith)));
    }
ended_file told input rest at place limit n m le lt Memory none h = tt

-- The length.

-- it stands behind two bytes
pub record Sized (size : ℕ) (fs : List Field) : Type 0 where
  pub is : (rest : List Field) → from_be_bytes w32 (take 4 (drop 2 (flat (fs ++ rest)))) ≡ size
  pub six : length (flat fs) ≡ 6

sized_bytes : (a b rest : List ℕ) → length a ≡ 2 → length b ≡ 4 → take 4 (drop 2 (a ++ (b ++ rest))) ≡ b
sized_bytes a b rest two four = ap (take 4) (drop_at a (b ++ rest) 2 two) ∙ take_at b rest 4 four

pub length_sized : (fs : List Field) (size : ℕ) → Runs length_layout fs size → Sized size fs
length_sized fs size r =
    let a = headed signature.kind (λ fixed. want (u32_kind no_refusal) (λ b. give (from_be_bytes w32 b))) fs size r in
    let b = headed (u32_kind no_refusal) (λ b. give (from_be_bytes w32 b)) a.1 size a.4 in
    let last : b.1 ≡ [] = given (from_be_bytes w32 b.0.bytes) (give size) b.1 b.4 in
    let is : from_be_bytes w32 b.0.bytes ≡ size = give_is (from_be_bytes w32 b.0.bytes) size (subst (λ l. Path (give (from_be_bytes w32 b.0.bytes)) l (give size)) last b.4) in
    let two : 2 ≡ length a.0.bytes = whole_fixed 2 a.0.bytes (length a.0.bytes) a.3.is_whole in
    let four : 4 ≡ length b.0.bytes = whole_fixed 4 b.0.bytes (length b.0.bytes) b.3.is_whole in
    let all : fs ≡ a.0 ∷ b.0 ∷ [] = a.2 ∙ ap (λ l. a.0 ∷ l) (b.2 ∙ ap (λ l. b.0 ∷ l) last) in
    record {
      is = λ rest. ap (λ l. from_be_bytes w32 (take 4 (drop 2 (flat (l ++ rest))))) all ∙ ap (from_be_bytes w32) (sized_bytes a.0.bytes b.0.bytes (flat rest) (sym two) (sym four)) ∙ is;
      six = ap (λ l. length (flat l)) all ∙ length-append a.0.bytes (b.0.bytes ++ []) ∙ omega (arith, two, four, length-append b.0.bytes []);
    }

-- The whole file.

-- what the bytes are a file of, but for its length
pub record FileCame (o : StoredFile) (size : ℕ) (s : Stretch) : Type 0 where
  pub fields : List Field
  pub spelled : SpellsFile free (shared o) fields
  pub says : from_be_bytes w32 (take 4 (drop 2 (flat fields))) ≡ size
  pub six : 6 ≤ length (flat fields)
  pub parts : s.told → s.input ≡ flat fields
  pub ended : s.told → s.rest ≡ []
  pub taken : s.place ≡ s.at + length (flat fields)
  pub within : s.place ≤ s.limit

-- it has the length that it gives
pub file_taken : (o : StoredFile) (size : ℕ) (s : Stretch) → FileCame o size s → size + 6 ≡ s.place - s.at → AnswersFile s (Ok o)
file_taken o size s f e = record {
  fields = f.fields;
  spelled = f.spelled;
  its_length = f.says ∙ sym (length-drop 6 (flat f.fields) ∙ (let t = f.taken in let i = f.six in omega arith));
  parts = f.parts;
  ended = f.ended;
  taken = f.taken;
  within = f.within;
}

-- it has another
pub file_other : (o : StoredFile) (size : ℕ) (s : Stretch) (k : ℕ) (end : ReadEnd) → FileCame o size s → (size + 6 ≡ s.place - s.at → ⊥) → k ≡ s.at → end ≡ Refused (record { reason = BadLength; at = k + 2 }) → AnswersFile s (Err end)
file_other o size s k end f n same is =
    subst (λ (e : ReadEnd). AnswersFile s (Err e)) (sym (is ∙ ap (λ i. Refused (record { reason = BadLength; at = i + 2 })) same)) (λ t. bad_length refl refl (accepted t) (λ h. n (lengths t h)))
  where
    accepted : s.told → IsAccepted IsFileReading s.at s.limit s.input (s.at + length s.input) []
    accepted t =
        let all = ap length (f.parts t) in
        record { fields = f.fields; accepted = (shared o, f.spelled); parts = f.parts t ∙ sym (append-nil (flat f.fields)); place = ap (λ l. s.at + length l) (f.parts t); within = let p = f.taken in let w = f.within in omega arith }

    lengths : s.told → HasItsLength s.input → size + 6 ≡ s.place - s.at
    lengths t h =
        let says : size ≡ length (drop 6 s.input) = sym (ap (λ l. from_be_bytes w32 (take 4 (drop 2 l))) (f.parts t) ∙ f.says) ∙ h in
        let p = f.taken in
        let i = f.six in
        omega (arith, says, length-drop 6 s.input, ap length (f.parts t))

-- an end that is passed on
pub file_passed : {S : Type 0} (tells : S → Type 0) (left : S → List ℕ) (c d : Cursor S Window) (r : Result StoredFile ReadEnd) (e : ReadEnd) → IsErrAnd r (λ x. x ≡ e) → AnswersFile (between tells left c d) (Err e) → AnswersFile (between tells left c d) r
file_passed tells left c d (Ok x) e h a = absurd h
file_passed tells left c d (Err x) e h a = subst (λ (k : ReadEnd). AnswersFile (between tells left c d) (Err k)) (sym h) a

module _ {S : Type 0} (tells : S → Type 0) (left : S → List ℕ) (faults : S → ℕ) (c : Cursor S Window) where
  abbrev told : Type 0
  told = tells (source_of c).now

  -- an end before the pairs
  head_end : (d : Cursor S Window) (n : ℕ) → place c ≤ bound c → left_of c < n → (e : ReadEnd) → Ends tells left head_layout c d e → AnswersFile (between tells left c d) (Err e)
  head_end d n le lt e h = ended_file told (unread left c) (unread left d) (place c) (place d) (bound c) n 0 le lt e (none_fewer told (unread left c) e) (end_reads tells left faults head_layout (λ s. steps (pair_layout n) 0 s) c d e h)

  pub length_end : (d : Cursor S Window) → place c ≤ bound c → (e : ReadEnd) → Ends tells left length_layout c d e → AnswersFile (between tells left c d) (Err e)
  length_end d le e h = head_end d (suc (left_of c)) le (omega arith) e (end_reads tells left faults length_layout (λ size. rest_layout) c d e h)

  module _ (size : ℕ) (d : Cursor S Window) (gs : GoesBy tells left faults c d (Ok size)) (al : Answers tells left (λ (n : ℕ). n) length_layout c d (Ok size)) where
    pub rest_end : (f : Cursor S Window) → place c ≤ bound c → (e : ReadEnd) → Ends tells left rest_layout d f e → AnswersFile (between tells left c f) (Err e)
    rest_end f le e h = head_end f (suc (left_of c)) le (omega arith) e (then_reads tells left faults (λ (n : ℕ). n) (λ (x : FileState). x) length_layout (λ size. rest_layout) c d f size (Err e) gs al h)

    module _ (x : Head) (f : Cursor S Window) (gh : GoesBy tells left faults d f (Ok x)) (ah : Answers tells left (λ (y : Head). file y.version y.name no_pairs) rest_layout d f (Ok x)) where
      abbrev state : FileState
      state = file x.version x.name no_pairs

      view : Head → FileState
      view y = file y.version y.name no_pairs

      abbrev front : List Field
      front = al.fields ++ ah.fields

      front_runs : Runs head_layout front state
      front_runs = runs_bind length_layout (λ size. rest_layout) al.fields ah.fields size (give state) al.runs ah.runs

      front_bytes : AreBytes (flat front)
      front_bytes = bytes_flat al.fields ah.fields al.bytes ah.bytes

      front_parts : told → unread left c ≡ flat front ++ unread left f
      front_parts t = al.parts t ∙ ap (λ l. flat al.fields ++ l) (ah.parts (gs.told t)) ∙ sym (append_assoc (flat al.fields) (flat ah.fields) (unread left f)) ∙ ap (λ l. l ++ unread left f) (sym (flat-append al.fields ah.fields))

      front_length : length (flat front) ≡ length (flat al.fields) + length (flat ah.fields)
      front_length = ap length (flat-append al.fields ah.fields) ∙ length-append (flat al.fields) (flat ah.fields)

      sound : HeadSound front state
      sound = head_sound front state front_bytes front_runs

      version_is : sound.version ≡ x.version
      version_is = sym (ap (λ (s : FileState). s.version) sound.is)

      name_is : sound.text ≡ x.name
      name_is = sym (ap (λ (s : FileState). s.name) sound.is)

      -- the name is a text for which its length has room
      pub name_text : IsText x.name
      name_text = subst IsText name_is sound.named.0

      pub name_short : length x.name < 2 ^ 16
      name_short = subst (λ l. length l < 2 ^ 16) name_is sound.named.1

      less : left_of f ≤ left_of c
      less = let p = al.taken in let q = ah.taken in let r = gs.same_bound in let s = gh.same_bound in omega arith

      -- the pairs end
      pub pairs_end : (g : Cursor S Window) → place c ≤ bound c → (e : ReadEnd) → ((n : ℕ) (name : List ℕ) → left_of f < n → AnswersHolder tells left x.version n name f g (Err e)) → AnswersFile (between tells left c g) (Err e)
      pairs_end g le e h =
          let n = suc (left_of c) in
          let p = h n x.name (omega (arith, less)) in
          let told_f = tells (source_of f).now in
          ended_file told (unread left c) (unread left g) (place c) (place g) (bound c) n (suc p.many) le (omega arith) e (no_fewer p e p.past)
          (then_reads tells left faults (λ (y : FileState). y) (λ (y : FileState). y) head_layout (λ s. steps (pair_layout n) (suc p.many) s) c f g state (Err e) goes_state
          (record { fields = front; runs = front_runs; bytes = front_bytes; taken = (let p = al.taken in let q = ah.taken in let l = front_length in omega arith); within = (let w = ah.within in let s = gs.same_bound in omega arith); parts = front_parts }) p.ends)
        where
          goes_state : GoesBy tells left faults c f (Ok state)
          goes_state = let g = goes_then tells left faults c d f size (Ok x) gs gh in record { told = g.told; same_source = g.same_source; same_bound = g.same_bound; one_past = g.one_past; cause = g.cause; none_ahead = tt; total = g.total }

          no_fewer : {n : ℕ} {e : ReadEnd} (p : PairsEnded (tells (source_of f).now) x.version n x.name (unread left f) (unread left g) (place f) (bound f) e) (k : ReadEnd) → GoesPast (tells (source_of f).now) (unread left f) p.fields k → NoFewer told (suc p.many) (unread left c) k
          no_fewer {n = n} p (Refused r) past = λ t.
              let y = past (gh.told (gs.told t)) in
              let pairs : PairsRead x.version p.many p.fields = pairs_sound n p.many x.version x.name p.fields p.behind p.bytes p.runs in
              let there : HasPairs p.many (front ++ p.fields) = file_of p.many front p.fields state sound (subst (λ v. PairsRead v p.many p.fields) (sym version_is) pairs) in
              past_fewer p.many (front ++ p.fields) y.0 (unread left c) there y.1
              (front_parts t ∙ ap (λ l. flat front ++ l) y.2 ∙ sym (append_assoc (flat front) (flat p.fields) y.0) ∙ ap (λ l. l ++ y.0) (sym (flat-append front p.fields)))
          no_fewer p ReadFault past = tt
          no_fewer p Memory past = tt

      -- the pairs came
      pub file_came : (h : RootedArena) (g : Cursor S Window) → ((n : ℕ) (name : List ℕ) → left_of f < n → AnswersHolder tells left x.version n name f g (Ok h)) → FileCame (record { name = x.name; version = x.version; holder = h }) size (between tells left c g)
      file_came h g a =
          let n = suc (left_of c) in
          let k = a n x.name (omega (arith, less)) in
          let p = k.pairs in
          let y = p.done in
          let s = length_sized al.fields size al.runs in
          let pairs : PairsOf free x.version (content (closed_holder k.arena)) y.fields = closed_pairs n p.many x.version x.name y.fields (state0_of k.arena p.tables) y.bytes y.runs in
          let spelled = file_spelled front y.fields state sound (content (closed_holder k.arena)) (subst (λ v. PairsOf free v (content (closed_holder k.arena)) y.fields) (sym version_is) pairs) in
          let total : length (flat (front ++ y.fields)) ≡ length (flat front) + length (flat y.fields) = ap length (flat-append front y.fields) ∙ length-append (flat front) (flat y.fields) in
          record {
            fields = front ++ y.fields;
            spelled = subst (λ (q : RootedArena). SpellsFile free (record { name = x.name; version = x.version; holder = content q }) (front ++ y.fields)) (sym k.is)
                (subst (λ (l : List ℕ). SpellsFile free (record { name = l; version = x.version; holder = content (closed_holder k.arena) }) (front ++ y.fields)) name_is
                (subst (λ (v : SolVersion). SpellsFile free (record { name = sound.text; version = v; holder = content (closed_holder k.arena) }) (front ++ y.fields)) version_is spelled));
            says = ap (λ l. from_be_bytes w32 (take 4 (drop 2 (flat l)))) (append_assoc al.fields ah.fields y.fields) ∙ s.is (ah.fields ++ y.fields);
            six = let z = s.six in let l = front_length in omega arith;
            parts = λ t. front_parts t ∙ ap (λ l. flat front ++ l) (y.parts (gh.told (gs.told t)) ∙ ap (λ l. flat y.fields ++ l) (p.ended (gh.told (gs.told t))) ∙ append-nil (flat y.fields)) ∙ sym (flat-append front y.fields);
            ended = λ t. p.ended (gh.told (gs.told t));
            taken = let a = al.taken in let b = ah.taken in let z = y.taken in let l = front_length in omega arith;
            within = let w = y.within in let q = gs.same_bound in let r = gh.same_bound in omega arith;
          }

      -- what they hold weighs no more than the bytes
      pub file_weighs : (h : RootedArena) (g : Cursor S Window) → ((n : ℕ) (name : List ℕ) → left_of f < n → AnswersHolder tells left x.version n name f g (Ok h)) → place c + weight h.arena ≤ place g
      file_weighs h g a =
          let n = suc (left_of f) in
          let k = a n x.name (omega arith) in
          let p = k.pairs in
          let w = holder_weighs n p.many x.version x.name k.arena p.tables p.done.fields p.done.runs in
          let six = (length_sized al.fields size al.runs).six in
          let l = al.taken in
          let m = ah.taken in
          let q = p.done.taken in
          omega (arith, w, six, ap (λ (r : RootedArena). weight r.arena) k.is)
