-- The longest front of an input that is a chunk stream: the chunks that came whole before one that did not.
use Rattle.std.proofs.Common.{◌≡◌, ℕ, zero, suc, ◌+◌, ◌-◌, ◌≤◌, List, [], ◌∷◌, ◌++◌, length, take, drop, sym, ap, ◌∙◌, arith, subst, append_assoc, length-append, inl, inr, ◌⊎◌}
use Rattle.std.proofs.lemmas.List.{append-nil, append_cancel_left, append_cancel_right, take-append-drop}
use Rattle.amf_io.specs.declared.reason.Reason.{Reason}
use Rattle.amf_io.specs.declared.ends.Refusal.{Refusal}
use Rattle.amf_io.specs.declared.ends.ReadEnd.{ReadEnd}
use Rattle.amf_io.specs.declared.ends.ReadEnd.TheVariants.{Refused, ReadFault}
use Rattle.amf_io.specs.Field.{Kind, Field, flat}
use Rattle.amf_io.specs.Layout.{Layout, give, want, Path, Runs}
use Rattle.amf_io.specs.LayoutAnswer.{DoneBy}
use Rattle.amf_io.specs.Outcomes.{Done, Bad, Short, read, run}
use Rattle.amf_io.specs.Repeated.{steps}
use Rattle.amf_io.proofs.Ables.{path_some}
use Rattle.amf_io.proofs.Paths.{runs_bind, bind_runs, runs_run, path_split, flat-append}
use Rattle.amf_io.proofs.Readings.{read_bad}
use Rattle.amf_io.proofs.SharedPaths.{IsFront, given, one_front, one_path, same_runs}
use Rattle.amf_io.proofs.Stops.{Stops, run_bad, run_short}
use Rattle.rtmp_chunks.specs.Chunk.{Message, Unfinished}
use Rattle.rtmp_chunks.specs.Stream.{IsChunkStream}
use Rattle.rtmp_chunks.specs.Machine.{State, start, chunk_layout, head_layout, unfinished}
use Rattle.rtmp_chunks.specs.Calls.{FrontSays}
use Rattle.rtmp_chunks.proofs.ReadingStreams.{reads_streams, streams_are_read, give_same, nothing_read}
use Rattle.rtmp_chunks.proofs.Nexts.{EndsBehind}

-- A layout that stops at a field is not done before it.

done_front : {X : Type 0} (t : Layout X) (kind : Kind) (next : List ℕ → Layout X) (x : X) (start gs : List Field) → Path t start (want kind next) → Runs t gs x → length (flat gs) ≤ length (flat start) → IsFront start gs ⊎ IsFront gs start → ⊥
done_front t kind next x start gs p r le (inl f) = by f.more f.joined
  where
    by : (more : List Field) → gs ≡ start ++ more → ⊥
    by [] e =
        let same : gs ≡ start = e ∙ append-nil start in
        let clash : give x ≡ want kind next = one_path t (give x) (want kind next) start (subst (λ l. Runs t l x) same r) p in
        absurd cc
    by (m ∷ more) e =
        let s = path_split t (give x) start (m ∷ more) (subst (λ l. Runs t l x) e r) in
        let some = path_some s.0 (give x) m more s.2 in
        absurd (omega (arith, le, some, ap (λ l. length (flat l)) e, ap length (flat-append start (m ∷ more)), length-append (flat start) (flat (m ∷ more))))
done_front t kind next x start gs p r le (inr f) =
    let s = path_split t (want kind next) gs f.more (subst (λ l. Path t l (want kind next)) f.joined p) in
    let value : give x ≡ s.0 = one_path t (give x) s.0 gs r s.1 in
    let none : f.more ≡ [] = given x (want kind next) f.more (subst (λ w. Path w f.more (want kind next)) (sym value) s.2) in
    let same : gs ≡ start = sym (f.joined ∙ ap (λ l. gs ++ l) none ∙ append-nil gs) in
    let clash : give x ≡ want kind next = one_path t (give x) (want kind next) start (subst (λ l. Runs t l x) same r) p in
    absurd cc

stopped : {X : Type 0} (t : Layout X) (x : X) (limit at k : ℕ) (l later : List ℕ) (gs : List Field) → Stops t at (take (limit - at) l) k → Runs t gs x → l ≡ flat gs ++ later → at + length (flat gs) ≤ k → ⊥
stopped t x limit at k l later gs s r parts few =
    let all : flat s.start ++ (s.rest ++ drop (limit - at) l) ≡ flat gs ++ later = sym (append_assoc (flat s.start) s.rest (drop (limit - at) l)) ∙ ap (λ w. w ++ drop (limit - at) l) (sym s.parts) ∙ take-append-drop (limit - at) l ∙ parts in
    done_front t s.kind s.next x s.start gs s.path r (let p = s.place in omega (arith, few, p)) (one_front t (want s.kind s.next) (give x) s.start gs (s.rest ++ drop (limit - at) l) later s.path r all)

-- what is refused at a place is not done before it
pub not_done : {X : Type 0} (t : Layout X) (x : X) (limit at k : ℕ) (reason : Reason) (l later : List ℕ) (gs : List Field) → at ≤ limit → read limit t at l ≡ Bad reason k → Runs t gs x → l ≡ flat gs ++ later → at + length (flat gs) ≤ k → ⊥
not_done t x limit at k reason l later gs le bad r parts few =
    elim (read_bad limit t at l reason k le bad) [
      | inl b ↦ stopped t x limit at k l later gs (run_bad t at (take (limit - at) l) reason k b).stop r parts few
      | inr s ↦ stopped t x limit at k l later gs (run_short t at (take (limit - at) l) k s.0).stop r parts few
    ]

refused_from : {X : Type 0} (t : Layout X) (limit at k : ℕ) (reason : Reason) (l : List ℕ) → at ≤ limit → read limit t at l ≡ Bad reason k → at ≤ k
refused_from t limit at k reason l le bad =
    elim (read_bad limit t at l reason k le bad) [
      | inl b ↦ let p = (run_bad t at (take (limit - at) l) reason k b).stop.place in omega (arith, p)
      | inr s ↦ let p = (run_short t at (take (limit - at) l) k s.0).stop.place in omega (arith, p)
    ]

-- and what ends inside a field is not done at all
pub waits_not : {X : Type 0} (t : Layout X) (x : X) (at k : ℕ) (l later : List ℕ) (gs : List Field) → run t at l ≡ Short k → Runs t gs x → l ≡ flat gs ++ later → ⊥
waits_not t x at k l later gs short r parts = let clash : Short k ≡ Done x (at + length (flat gs)) later = sym short ∙ ap (run t at) parts ∙ runs_run t gs x at later r in absurd cc

-- Where no chunk follows so many, other chunks are no longer.

no_longer : (m count : ℕ) (s last t : State) (cs gs : List Field) (left later : List ℕ) → Runs (steps chunk_layout count s) cs last → Runs (steps chunk_layout m s) gs t → flat cs ++ left ≡ flat gs ++ later
    → ((ds : List Field) (v : State) (more : List ℕ) → Runs (chunk_layout last) ds v → left ≡ flat ds ++ more → length (flat cs) + length (flat ds) ≤ length (flat gs) → ⊥) → length (flat gs) ≤ length (flat cs)
no_longer zero count s last t cs gs left later r q e none = omega (arith, ap (λ l. length (flat l)) (nothing_read s t gs q).0)
no_longer (suc m) zero s last t cs gs left later r q e none =
    let z = nothing_read s last cs r in
    let b = bind_runs (chunk_layout s) (λ v. steps chunk_layout m v) gs t q in
    absurd (none b.front b.value (flat b.back ++ later) (subst (λ v. Runs (chunk_layout v) b.front b.value) z.1 b.first)
    (ap (λ l. flat l ++ left) (sym z.0) ∙ e ∙ ap (λ l. flat l ++ later) b.parts ∙ ap (λ l. l ++ later) (flat-append b.front b.back) ∙ append_assoc (flat b.front) (flat b.back) later)
    (omega (arith, ap (λ l. length (flat l)) z.0, ap (λ l. length (flat l)) b.parts, ap length (flat-append b.front b.back), length-append (flat b.front) (flat b.back))))
no_longer (suc m) (suc count) s last t cs gs left later r q e none =
    let a = bind_runs (chunk_layout s) (λ v. steps chunk_layout count v) cs last r in
    let b = bind_runs (chunk_layout s) (λ v. steps chunk_layout m v) gs t q in
    let all : flat a.front ++ (flat a.back ++ left) ≡ flat b.front ++ (flat b.back ++ later) =
    sym (append_assoc (flat a.front) (flat a.back) left) ∙ ap (λ l. l ++ left) (sym (flat-append a.front a.back)) ∙ ap (λ l. flat l ++ left) (sym a.parts) ∙ e ∙ ap (λ l. flat l ++ later) b.parts ∙ ap (λ l. l ++ later) (flat-append b.front b.back) ∙ append_assoc (flat b.front) (flat b.back) later in
    let same : a.front ≡ b.front = same_runs (chunk_layout s) a.value b.value a.front b.front (flat a.back ++ left) (flat b.back ++ later) a.first b.first all in
    let value : give a.value ≡ give b.value = one_path (chunk_layout s) (give a.value) (give b.value) b.front (subst (λ l. Runs (chunk_layout s) l a.value) same a.first) b.first in
    let one : length (flat cs) ≡ length (flat a.front) + length (flat a.back) = ap (λ l. length (flat l)) a.parts ∙ ap length (flat-append a.front a.back) ∙ length-append (flat a.front) (flat a.back) in
    let two : length (flat gs) ≡ length (flat b.front) + length (flat b.back) = ap (λ l. length (flat l)) b.parts ∙ ap length (flat-append b.front b.back) ∙ length-append (flat b.front) (flat b.back) in
    let equal : length (flat a.front) ≡ length (flat b.front) = ap (λ l. length (flat l)) same in
    let short = no_longer m count a.value last t a.back b.back left later a.second (subst (λ v. Runs (steps chunk_layout m v) b.back t) (sym (give_same a.value b.value value)) b.second)
    (append_cancel_left (flat b.front) (flat a.back ++ left) (flat b.back ++ later) (ap (λ l. flat l ++ (flat a.back ++ left)) (sym same) ∙ all))
    (λ ds v more runs here le. none ds v more runs here (omega (arith, le, one, two, equal))) in
    omega (arith, short, one, two, equal)

-- A handshake, so many chunks, and what is left, in which no chunk follows that ends by this place.
module _ (input left : List ℕ) (hs cs : List Field) (count : ℕ) (last : State) (h : Runs head_layout hs start) (r : Runs (steps chunk_layout count start) cs last) (parts : input ≡ flat (hs ++ cs) ++ left) (most : ℕ) (within : length (flat (hs ++ cs)) ≤ most)
    (none : (ds : List Field) (v : State) (more : List ℕ) → Runs (chunk_layout last) ds v → left ≡ flat ds ++ more → length (flat (hs ++ cs)) + length (flat ds) ≤ most → ⊥) where
  longest : (other more : List ℕ) (ms : List Message) (us : List Unfinished) → input ≡ other ++ more → length other ≤ most → IsChunkStream other ms us → length other ≤ length (flat (hs ++ cs))
  longest other more ms us e le x =
      let a = streams_are_read other ms us x in
      let b = bind_runs head_layout (λ s. steps chunk_layout a.count s) a.fields a.last a.runs in
      let is : other ≡ flat b.front ++ flat b.back = sym a.bytes ∙ ap flat b.parts ∙ flat-append b.front b.back in
      let all : flat hs ++ (flat cs ++ left) ≡ flat b.front ++ (flat b.back ++ more) =
      sym (append_assoc (flat hs) (flat cs) left) ∙ ap (λ l. l ++ left) (sym (flat-append hs cs)) ∙ sym parts ∙ e ∙ ap (λ l. l ++ more) is ∙ append_assoc (flat b.front) (flat b.back) more in
      let same : hs ≡ b.front = same_runs head_layout start b.value hs b.front (flat cs ++ left) (flat b.back ++ more) h b.first all in
      let value : give start ≡ give b.value = one_path head_layout (give start) (give b.value) b.front (subst (λ l. Runs head_layout l start) same h) b.first in
      let one : length (flat (hs ++ cs)) ≡ length (flat hs) + length (flat cs) = ap length (flat-append hs cs) ∙ length-append (flat hs) (flat cs) in
      let two : length other ≡ length (flat b.front) + length (flat b.back) = ap length is ∙ length-append (flat b.front) (flat b.back) in
      let equal : length (flat hs) ≡ length (flat b.front) = ap (λ l. length (flat l)) same in
      let short = no_longer a.count count start last a.last cs b.back left more r (subst (λ v. Runs (steps chunk_layout a.count v) b.back a.last) (sym (give_same start b.value value)) b.second)
      (append_cancel_left (flat b.front) (flat cs ++ left) (flat b.back ++ more) (ap (λ l. flat l ++ (flat cs ++ left)) (sym same) ∙ all))
      (λ ds v later runs here far. none ds v later runs here (omega (arith, far, le, one, two, equal))) in
      omega (arith, short, one, two, equal)

  front_says : FrontSays input most last.messages
  front_says = record {
    front = flat (hs ++ cs);
    left = left;
    opens = unfinished last.slots;
    parts = parts;
    within = within;
    says = reads_streams count (hs ++ cs) last (runs_bind head_layout (λ s. steps chunk_layout count s) hs cs start (give last) h r);
    longest = longest;
  }

module _ (ms : List Message) (input mid rest : List ℕ) (between limit : ℕ) (d : DoneBy (Unit {0}) head_layout start input mid 0 between limit) (e : ReadEnd) (a : EndsBehind (Unit {0}) start ms mid rest between limit e) where
  front_parts : input ≡ flat (d.fields ++ a.done.fields) ++ a.mid
  front_parts = d.parts tt ∙ ap (λ l. flat d.fields ++ l) (a.done.parts tt) ∙ sym (append_assoc (flat d.fields) (flat a.done.fields) a.mid) ∙ ap (λ l. l ++ a.mid) (sym (flat-append d.fields a.done.fields))

  front_size : a.between ≡ length (flat (d.fields ++ a.done.fields))
  front_size = let p = d.taken in let q = a.done.taken in omega (arith, p, q, ap length (flat-append d.fields a.done.fields), length-append (flat d.fields) (flat a.done.fields))

-- The messages before an end.
module _ (ms : List Message) (input mid rest : List ℕ) (between limit : ℕ) (d : DoneBy (Unit {0}) head_layout start input mid 0 between limit) where
  pub before_refusal : (f : Refusal) → EndsBehind (Unit {0}) start ms mid rest between limit (Refused f) → FrontSays input f.at ms
  before_refusal f a =
      let bad = (a.ends tt).outcome in
      let size = front_size ms input mid rest between limit d (Refused f) a in
      let from = refused_from (chunk_layout a.last) limit a.between f.at f.reason a.mid a.done.within bad in
      subst (λ l. FrontSays input f.at l) a.messages
      (front_says input a.mid d.fields a.done.fields a.count a.last d.runs a.done.runs (front_parts ms input mid rest between limit d (Refused f) a) f.at (omega (arith, from, size))
      (λ ds v more runs here far. not_done (chunk_layout a.last) v limit a.between f.at f.reason a.mid more ds a.done.within bad runs here (omega (arith, far, size))))

  pub before_fault : EndsBehind (Unit {0}) start ms mid rest between limit ReadFault → (got : List ℕ) → input ≡ got ++ rest → FrontSays got (length got) ms
  before_fault a got e =
      let w = a.ends tt in
      let fs = d.fields ++ a.done.fields in
      let parts : got ≡ flat (d.fields ++ a.done.fields) ++ w.given =
      append_cancel_right got (flat fs ++ w.given) rest (sym e ∙ front_parts ms input mid rest between limit d ReadFault a ∙ ap (λ l. flat fs ++ l) w.parts ∙ sym (append_assoc (flat fs) w.given rest)) in
      subst (λ l. FrontSays got (length got) l) a.messages
      (front_says got w.given d.fields a.done.fields a.count a.last d.runs a.done.runs parts (length got) (omega (arith, ap length parts, length-append (flat fs) w.given))
      (λ ds v more runs here far. waits_not (chunk_layout a.last) v a.between w.stop w.given more ds w.outcome runs here))
