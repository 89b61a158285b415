-- What is written for the messages that were taken is what a pass gives.
use Rattle.std.proofs.Common.{◌≡◌, ℕ, ◌≤◌, drop, List, [], ◌∷◌, ◌++◌, length, take, None, Result, Ok, Err, refl, sym, ap, ◌∙◌, arith, subst, append_assoc, length-append}
use Rattle.std.specs.Result.{IsErrAnd}
use Rattle.std.proofs.Math.Seq.{take-append_seam}
use Rattle.std.proofs.lemmas.List.{append-nil, take-append-le}
use Rattle.amf_io.specs.declared.ends.Refusal.{Refusal}
use Rattle.amf_io.specs.declared.ends.ReadEnd.{ReadEnd}
use Rattle.amf_io.specs.declared.ends.ReadEnd.TheVariants as reader
use Rattle.amf_io.specs.Field.{Field, flat}
use Rattle.amf_io.specs.Layout.{give, Runs}
use Rattle.amf_io.specs.LayoutAnswer.{DoneBy, EndsBy}
use Rattle.amf_io.specs.Stretch.{stretch, IsInterrupted}
use Rattle.amf_io.specs.Verdict.{IsRefused}
use Rattle.amf_io.proofs.Paths.{path_bind}
use Rattle.amf_io.proofs.Stepping.{give_same}
use Rattle.rtmp_chunks.specs.Chunk.{Message, Unfinished}
use Rattle.rtmp_chunks.specs.Laws.{IsStreamFields}
use Rattle.rtmp_chunks.specs.Stream.{joined_chunks, IsChunkStream}
use Rattle.rtmp_chunks.specs.Calls.{Calls, FrontSays, NoFront}
use Rattle.rtmp_chunks.specs.Machine.{State, start, handshake_layout, unfinished}
use Rattle.rtmp_chunks.proofs.Calls.{calls_tell, run_of}
use Rattle.rtmp_chunks.proofs.ReadingStreams.{handshake_read}
use Rattle.rtmp_rechunk.specs.Written.{Put}
use Rattle.rtmp_rechunk.specs.declared.pass_end.PassEnd.{PassEnd}
use Rattle.rtmp_rechunk.specs.declared.pass_end.PassEnd.TheVariants.{Refused, ReadFault, WriteFault, Memory}
use Rattle.rtmp_rechunk.specs.Pass.{most, AreSaid, Gives, GivesBefore, nothing, those, GivesOfFront, of_some, Passes}
use Rattle.rtmp_rechunk.specs.Ends.{end_of}
use Rattle.rtmp_rechunk.specs.Reads.{Puts, PutsSome, PutAll, PutSome, Taken, Takes}
use Rattle.rtmp_rechunk.proofs.Fronts.{none_written}
use Rattle.rtmp_rechunk.proofs.Places.{may_give_front}
use Rattle.rtmp_rechunk.proofs.Turns.{handed_all}

-- The bytes of a handshake.

flat_is : (fs : List Field) (b : List ℕ) → Runs handshake_layout fs b → flat fs ≡ b
flat_is [] b r = absurd cc
flat_is (v ∷ []) b r = let x = r.1 in absurd cc
flat_is (v ∷ x ∷ []) b r = let y = r.1.1 in absurd cc
flat_is (v ∷ x ∷ y ∷ []) b r =
    ap (λ l. v.bytes ++ (x.bytes ++ l)) (append-nil y.bytes) ∙ sym (append_assoc v.bytes x.bytes y.bytes) ∙ give_same (v.bytes ++ x.bytes ++ y.bytes) b r.1.1.1
flat_is (v ∷ x ∷ y ∷ z ∷ fs) b r = absurd r.1.1.1

take_front : (n : ℕ) (a b : List ℕ) → length a ≡ n → take n (a ++ b) ≡ a
take_front n a b e = subst (λ k. take k (a ++ b) ≡ a) e (take-append_seam a b)

pub handshake_front : (b input mid : List ℕ) (between limit : ℕ) → DoneBy (Unit {0}) handshake_layout b input mid 0 between limit → take 3073 input ≡ b
handshake_front b input mid between limit h =
    let long = (handshake_read h.fields start (path_bind handshake_layout (give b) (λ bytes. give start) h.fields h.runs)).long in
    let same = flat_is h.fields b h.runs in
    ap (λ l. take 3073 l) (h.parts tt ∙ ap (λ l. l ++ mid) same) ∙ take_front 3073 b mid (ap length (sym same) ∙ long)

-- What was put.

pub put_first : (told : Type 0) (held now start waiting waits later : List ℕ) → waiting ≡ start → Puts told held now waiting waits later → PutAll told held now waits (start ++ later)
put_first told held now start waiting waits later e k = λ t. k t held start (subst (λ l. Put held held start l) (sym e) (none_written held start))

pub put_some : (told : Type 0) (held now start waiting later : List ℕ) → waiting ≡ start → PutsSome told held now waiting later → PutSome told held now (start ++ later)
put_some told held now start waiting later e k = λ t. k t held start (subst (λ l. Put held held start l) (sym e) (none_written held start))

pub some_unwritten : (told : Type 0) (held : List ℕ) → PutSome told held held []
some_unwritten told held = λ t. ([], none_written held [])

pub some_of_all : (told : Type 0) (held now waits bytes : List ℕ) → PutAll told held now waits bytes → PutSome told held now bytes
some_of_all told held now waits bytes k = λ t. (waits, k t)

pub put_last : (told : Type 0) (held now bytes waiting waits last : List ℕ) → waits ≡ waiting ++ last → PutAll told held now waiting bytes → PutAll told held now waits (bytes ++ last)
put_last told held now bytes waiting waits last e k = λ t. handed_all held now now waiting waits waits bytes last e (none_written now waits) (k t)

-- At the start there is no front, and at the end the whole input is one.

none_at_start : (input : List ℕ) → NoFront input 0
none_at_start input = λ front left ms us p le s. let size = s.size in let parts = ap length s.parts in absurd (omega (arith, le, size, parts, length-append s.handshake (joined_chunks s.chunks)))

whole_front : (input : List ℕ) (ms : List Message) (opens : List Unfinished) → IsChunkStream input ms opens → FrontSays input (length input) ms
whole_front input ms opens s = record { front = input; left = []; opens = opens; parts = sym (append-nil input); within = omega arith; says = s; longest = λ other more ns us p le t. le }

-- Nothing was written, or a handshake did not come.
module _ (Begins : List ℕ → List ℕ → Type 0) (Says : Message → List ℕ → Type 0) (Ends : List Unfinished → List ℕ → Type 0) (input rest : List ℕ) (All Part : List ℕ → Type 0) where
  pub no_memory : (r : Result (Unit {0}) PassEnd) → IsErrAnd r (λ z. z ≡ Memory) → Part [] → Passes Begins Says Ends input rest All Part r
  no_memory (Ok u) h m = absurd h
  no_memory (Err z) h m = subst (λ y. Passes {T = Unit {0}} Begins Says Ends input rest All Part (Err y)) (sym h) ([], of_some 0 (omega arith) (nothing (none_at_start input) refl), m)

  pub none_begun : (told : Type 0) (at limit : ℕ) (e : ReadEnd) (r : Result (Unit {0}) PassEnd) → IsErrAnd r (λ z. z ≡ end_of e) → at ≡ 0 → limit ≡ most → told → EndsBy told handshake_layout input rest at limit e → All [] → Part [] → Passes Begins Says Ends input rest All Part r
  none_begun told at limit e (Ok u) h p q x k a m = absurd h
  none_begun told at limit (reader.Refused f) (Err z) h p q x k a m =
      let w = calls_tell.begins_refused most input f (subst (λ n. EndsBy told handshake_layout input rest n most (reader.Refused f)) p (subst (λ n. EndsBy told handshake_layout input rest at n (reader.Refused f)) q k) x) in
      subst (λ y. Passes {T = Unit {0}} Begins Says Ends input rest All Part (Err y)) (sym h) ([], w.0, nothing w.1 refl, a)
  none_begun told at limit reader.ReadFault (Err z) h p q x k a m =
      let w = calls_tell.begins_waits most input rest (subst (λ n. EndsBy told handshake_layout input rest n most reader.ReadFault) p (subst (λ n. EndsBy told handshake_layout input rest at n reader.ReadFault) q k) x) in
      subst (λ y. Passes {T = Unit {0}} Begins Says Ends input rest All Part (Err y)) (sym h) ([], w.0, record { given = w.0.given; parts = w.0.parts; gives = nothing (w.1 w.0.given w.0.parts) refl }, a)
  none_begun told at limit reader.Memory (Err z) h p q x k a m = no_memory (Err z) h m

-- Behind a handshake that came.
module _ (Begins : List ℕ → List ℕ → Type 0) (Says : Message → List ℕ → Type 0) (Ends : List Unfinished → List ℕ → Type 0) (input mid b begin : List ℕ) (between : ℕ) (h : DoneBy (Unit {0}) handshake_layout b input mid 0 between most) (begun : Begins b begin) where
  gives_of : (x : List ℕ) (ms : List Message) (later : List ℕ) → take 3073 x ≡ b → AreSaid Says ms later → Gives Begins Says (take 3073 x) ms (begin ++ later)
  gives_of x ms later e said = record { start = begin; later = later; begun = subst (λ l. Begins l begin) (sym e) begun; said = said; all = refl }

  fits : (t : State) (rest : List ℕ) (place : ℕ) (ms : List Message) → Calls (Ok None) ms start t (stretch (Unit {0}) mid rest between place most) → length input ≤ most
  fits t rest place ms calls =
      let run = run_of (Unit {0}) ms start t mid rest between place most refl calls in
      let over = run.over tt in
      omega (arith, h.taken, ap length (h.parts tt), length-append (flat h.fields) mid, run.done.taken, run.done.within, ap length (run.done.parts tt), length-append (flat run.done.fields) rest, ap length over)

  gives_refused : (All : List ℕ → Type 0) (t : State) (rest : List ℕ) (place : ℕ) (f : Refusal) (a : Taken Says (Err (reader.Refused f)) start t (stretch (Unit {0}) mid rest between place most) All)
      → IsRefused IsStreamFields 0 most input f.reason f.at × GivesBefore Begins Says input f.at (begin ++ a.later)
  gives_refused All t rest place f a =
      let w = calls_tell.refuses most between place b input mid rest a.messages t f h a.calls in
      (w.0, those a.messages w.1 (gives_of input a.messages a.later (handshake_front b input mid between most h) a.said))

  gives_fault : (All : List ℕ → Type 0) (t : State) (rest : List ℕ) (place : ℕ) (a : Taken Says (Err reader.ReadFault) start t (stretch (Unit {0}) mid rest between place most) All)
      → IsInterrupted IsStreamFields input rest 0 most × GivesOfFront Begins Says input rest (begin ++ a.later)
  gives_fault All t rest place a =
      let w = calls_tell.waits most between place b input mid rest a.messages t h a.calls in
      let given = w.0.given in
      let front = w.1 given w.0.parts in
      let long : 3073 ≤ length given = omega (arith, front.says.size, ap length front.says.parts, length-append front.says.handshake (joined_chunks front.says.chunks), ap length front.parts, length-append front.front front.left) in
      let same : take 3073 given ≡ b = sym (take-append-le 3073 given rest long) ∙ ap (λ l. take 3073 l) (sym w.0.parts) ∙ handshake_front b input mid between most h in
      (w.0, record { given = given; parts = w.0.parts; gives = those a.messages front (gives_of given a.messages a.later same a.said) })

  pub passed_on : (A P All Part : List ℕ → Type 0) (t : State) (rest : List ℕ) (place : ℕ) (e : PassEnd) (r : Result (Unit {0}) PassEnd) → IsErrAnd r (λ z. z ≡ e) → ((l : List ℕ) → A l → All (begin ++ l)) → ((l : List ℕ) → P l → Part (begin ++ l))
      → Takes {T = Unit {0}} Says start t (stretch (Unit {0}) mid rest between place most) A P (Err e) → Passes Begins Says Ends input rest All Part r
  passed_on A P All Part t rest place e (Ok u) k one two a = absurd k
  passed_on A P All Part t rest place (Refused f) (Err z) k one two a =
      let w = gives_refused A t rest place f a in
      subst (λ y. Passes {T = Unit {0}} Begins Says Ends input rest All Part (Err y)) (sym k) (begin ++ a.later, w.0, w.1, one a.later a.put)
  passed_on A P All Part t rest place ReadFault (Err z) k one two a =
      let w = gives_fault A t rest place a in
      subst (λ y. Passes {T = Unit {0}} Begins Says Ends input rest All Part (Err y)) (sym k) (begin ++ a.later, w.0, w.1, one a.later a.put)
  passed_on A P All Part t rest place WriteFault (Err z) k one two (last, end, a) =
      subst (λ y. Passes {T = Unit {0}} Begins Says Ends input rest All Part (Err y)) (sym k) (let w = gives_fault P t last end a in (begin ++ a.later, may_give_front Begins Says Ends input last (begin ++ a.later) w.0 w.1, two a.later a.put))
  passed_on A P All Part t rest place Memory (Err z) k one two (last, end, a) =
      subst (λ y. Passes {T = Unit {0}} Begins Says Ends input rest All Part (Err y)) (sym k) (let w = gives_fault P t last end a in (begin ++ a.later, may_give_front Begins Says Ends input last (begin ++ a.later) w.0 w.1, two a.later a.put))

  pub spent_whole : (A P All Part : List ℕ → Type 0) (t : State) (rest : List ℕ) (place : ℕ) (r : Result (Unit {0}) PassEnd) → IsErrAnd r (λ z. z ≡ Memory) → ((l : List ℕ) → A l → Part (begin ++ l))
      → Takes {T = Unit {0}} Says start t (stretch (Unit {0}) mid rest between place most) A P (Ok tt) → Passes Begins Says Ends input rest All Part r
  spent_whole A P All Part t rest place (Ok u) k one a = absurd k
  spent_whole A P All Part t rest place (Err z) k one a =
      let stream = calls_tell.tells most between place b input mid rest a.messages t h a.calls in
      subst (λ y. Passes {T = Unit {0}} Begins Says Ends input rest All Part (Err y)) (sym k) (
        begin ++ a.later,
        of_some (length input) (fits t rest place a.messages a.calls) (those a.messages (whole_front input a.messages (unfinished t.slots) stream) (gives_of input a.messages a.later (handshake_front b input mid between most h) a.said)),
        one a.later a.put,
      )

  pub all_passed : (A P All Part : List ℕ → Type 0) (t : State) (rest last : List ℕ) (place : ℕ) (opens : List Unfinished) → opens ≡ unfinished t.slots → Ends opens last → ((l : List ℕ) → A l → All ((begin ++ l) ++ last))
      → Takes {T = Unit {0}} Says start t (stretch (Unit {0}) mid rest between place most) A P (Ok tt) → Passes {T = Unit {0}} Begins Says Ends input rest All Part (Ok tt)
  all_passed A P All Part t rest last place opens e ends one a =
      let run = run_of (Unit {0}) a.messages start t mid rest between place most refl a.calls in
      let over = run.over tt in
      let within = fits t rest place a.messages a.calls in (
        (begin ++ a.later) ++ last,
        record {
          messages = a.messages;
          open_ones = unfinished t.slots;
          stream = calls_tell.tells most between place b input mid rest a.messages t h a.calls;
          within = within;
          body = begin ++ a.later;
          last = last;
          gives = gives_of input a.messages a.later (handshake_front b input mid between most h) a.said;
          ends = subst (λ u. Ends u last) e ends;
          all = refl;
        },
        one a.later a.put,
        over,
      )

-- What was read, from the first place up to the most.

pub first_done : (told : Type 0) (x : told) (old now input rest : List ℕ) (at place limit : ℕ) → old ≡ [] → at ≡ 0 → limit ≡ most → DoneBy told handshake_layout (drop (length old) now) input rest at place limit → DoneBy (Unit {0}) handshake_layout now input rest 0 place most
first_done told x old now input rest at place limit none p q d = record {
  fields = d.fields;
  runs = subst (λ l. Runs handshake_layout d.fields l) (ap (λ o. drop (length o) now) none) d.runs;
  bytes = d.bytes;
  taken = (let t = d.taken in omega (arith, t, p));
  within = (let w = d.within in omega (arith, w, q));
  parts = λ u. d.parts x;
}

pub takes_from : {T : Type 0} (Says : Message → List ℕ → Type 0) (s t : State) (mid rest : List ℕ) (between place limit : ℕ) (A P : List ℕ → Type 0) (r : Result T PassEnd) → s ≡ start → limit ≡ most
    → Takes Says s t (stretch (Unit {0}) mid rest between place limit) A P r → Takes Says start t (stretch (Unit {0}) mid rest between place most) A P r
takes_from Says s t mid rest between place limit A P r p q k = subst (λ n. Takes Says start t (stretch (Unit {0}) mid rest between place n) A P r) q (subst (λ n. Takes Says n t (stretch (Unit {0}) mid rest between place limit) A P r) p k)
