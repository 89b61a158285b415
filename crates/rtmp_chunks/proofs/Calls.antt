-- Calls of the reader of messages, one after another, are one run over the chunks.
use Rattle.std.proofs.Common.{◌≡◌, ℕ, zero, suc, ◌+◌, List, [], ◌∷◌, ◌++◌, length, None, Ok, Err, refl, sym, ap, ◌∙◌, arith, subst, append_assoc, length-append}
use Rattle.std.proofs.lemmas.List.{append-nil}
use Rattle.amf_io.specs.declared.ends.ReadEnd.{ReadEnd}
use Rattle.amf_io.specs.declared.ends.ReadEnd.TheVariants.{Refused, ReadFault}
use Rattle.amf_io.specs.Field.{Field, flat}
use Rattle.amf_io.specs.Layout.{Layout, give, want, stuck, bind, Runs}
use Rattle.amf_io.specs.LayoutAnswer.{DoneBy, EndsBy}
use Rattle.amf_io.specs.Repeated.{steps}
use Rattle.amf_io.specs.Stretch.{stretch}
use Rattle.amf_io.proofs.Ables.{bytes_flat}
use Rattle.amf_io.proofs.LayoutAnswers.{end_answers}
use Rattle.amf_io.proofs.Paths.{runs_bind, path_bind, flat-append}
use Rattle.amf_io.proofs.Stepping.{steps_join}
use Rattle.rtmp_chunks.specs.Chunk.{Head, Message, basic_kind, format_of, id_of, whole_message}
use Rattle.rtmp_chunks.specs.Stream.{IsChunkStream}
use Rattle.rtmp_chunks.specs.Machine.{State, Slot, start, came_to, behind_basic, chunk_layout, handshake_layout, head_layout, refused_in, unfinished}
use Rattle.rtmp_chunks.specs.Table.{part_layout}
use Rattle.rtmp_chunks.specs.Calls.{settled, Calls, CallsTell}
use Rattle.rtmp_chunks.proofs.ChunkReads.{part_law}
use Rattle.rtmp_chunks.proofs.ReadingStreams.{reads_streams}
use Rattle.rtmp_chunks.proofs.Nexts.{EndsBehind, gives_done, gives_message, stream_refused, stream_waits}
use Rattle.rtmp_chunks.proofs.LongestFronts.{before_refusal, before_fault}
use Rattle.rtmp_chunks.proofs.HeadVerdicts.{head_refused, head_waits, refused_no_front, waits_no_front}

-- Messages that came before change nothing of what is read.

abbrev pub behind : List Message → State → State
behind ms s = record { size = s.size; slots = s.slots; messages = ms ++ s.messages }

abbrev put_behind : List Message → State → Layout State
put_behind ms s = give (behind ms s)

bind_twice : {X Y Z : Type 0} (t : Layout X) (f : X → Layout Y) (g : Y → Layout Z) → bind (bind t f) g ≡ bind t (λ x. bind (f x) g)
bind_twice (give x) f g = refl
bind_twice (want k next) f g = λ i. want k (λ b. bind_twice (next b) f g i)
bind_twice stuck f g = refl

came_behind : (ms : List Message) (id : ℕ) (h : Head) (bytes : List ℕ) (s : State) → came_to id h bytes (behind ms s) ≡ behind ms (came_to id h bytes s)
came_behind ms id h bytes s = ap (λ l. record { size = (came_to id h bytes s).size; slots = (came_to id h bytes s).slots; messages = l }) (append_assoc ms s.messages (whole_message id h bytes))

basic_behind : (ms : List Message) (format id : ℕ) (slot : Slot) (s : State) → behind_basic format id slot (behind ms s) ≡ bind (behind_basic format id slot s) (put_behind ms)
basic_behind ms format id slot s =
    sym (part_law id (behind ms s) format slot)
    ∙ (λ i. bind (part_layout s.size format slot) (λ m. give (came_behind ms id m.head m.bytes s i)))
    ∙ sym (bind_twice (part_layout s.size format slot) (λ m. give (came_to id m.head m.bytes s)) (put_behind ms))
    ∙ ap (λ l. bind l (put_behind ms)) (part_law id s format slot)

chunk_behind : (ms : List Message) (s : State) → chunk_layout (behind ms s) ≡ bind (chunk_layout s) (put_behind ms)
chunk_behind ms s = λ i. want (basic_kind (λ format id. refused_in (s.slots id) format)) (λ b. basic_behind ms (format_of b) (id_of b) (s.slots (id_of b)) s i)

steps_behind : (n : ℕ) (ms : List Message) (s : State) → steps chunk_layout n (behind ms s) ≡ bind (steps chunk_layout n s) (put_behind ms)
steps_behind zero ms s = refl
steps_behind (suc n) ms s =
    ap (λ l. bind l (λ u. steps chunk_layout n u)) (chunk_behind ms s)
    ∙ bind_twice (chunk_layout s) (put_behind ms) (λ u. steps chunk_layout n u)
    ∙ (λ i. bind (chunk_layout s) (λ t. steps_behind n ms t i))
    ∙ sym (bind_twice (chunk_layout s) (λ u. steps chunk_layout n u) (put_behind ms))

runs_behind : (n : ℕ) (ms : List Message) (s t : State) (fs : List Field) → Runs (steps chunk_layout n s) fs t → Runs (steps chunk_layout n (behind ms s)) fs (behind ms t)
runs_behind n ms s t fs r = subst (λ l. Runs l fs (behind ms t)) (sym (steps_behind n ms s)) (path_bind (steps chunk_layout n s) (give t) (put_behind ms) fs r)

done_behind : (told : Type 0) (n : ℕ) (ms : List Message) (s t : State) (input rest : List ℕ) (at place limit : ℕ) → DoneBy told (steps chunk_layout n s) t input rest at place limit
    → DoneBy told (steps chunk_layout n (behind ms s)) (behind ms t) input rest at place limit
done_behind told n ms s t input rest at place limit d = record { fields = d.fields; runs = runs_behind n ms s t d.fields d.runs; bytes = d.bytes; taken = d.taken; within = d.within; parts = d.parts }

ends_behind : (told : Type 0) (ms : List Message) (s : State) (input rest : List ℕ) (at limit : ℕ) (e : ReadEnd) → EndsBy told (chunk_layout s) input rest at limit e → EndsBy told (chunk_layout (behind ms s)) input rest at limit e
ends_behind told ms s input rest at limit e h = subst (λ l. EndsBy told l input rest at limit e) (sym (chunk_behind ms s)) (end_answers told (chunk_layout s) (put_behind ms) input rest at limit e h)

-- So many chunks, and then so many more.

module _ (told : Type 0) (m : ℕ) (s u : State) (input mid : List ℕ) (at between limit : ℕ) (c : DoneBy told (steps chunk_layout m s) u input mid at between limit) where
  pub done_joined : (k : ℕ) (t : State) (rest : List ℕ) (place : ℕ) → DoneBy told (steps chunk_layout k u) t mid rest between place limit → DoneBy told (steps chunk_layout (m + k) s) t input rest at place limit
  done_joined k t rest place d = record {
    fields = c.fields ++ d.fields;
    runs = steps_join chunk_layout m k (m + k) s u t c.fields d.fields refl c.runs d.runs;
    bytes = bytes_flat c.fields d.fields c.bytes d.bytes;
    taken = (let p = c.taken in let q = d.taken in omega (arith, ap length (flat-append c.fields d.fields), length-append (flat c.fields) (flat d.fields)));
    within = d.within;
    parts = λ x. c.parts x ∙ ap (λ l. flat c.fields ++ l) (d.parts x) ∙ sym (append_assoc (flat c.fields) (flat d.fields) rest) ∙ ap (λ l. l ++ rest) (sym (flat-append c.fields d.fields));
  }

-- All calls as one run.

whole_again : (m : Message) (s u : State) → s.messages ≡ [] → u.messages ≡ s.messages ++ m ∷ [] → behind (m ∷ []) (settled u) ≡ u
whole_again m s u none one = ap (λ l. record { size = u.size; slots = u.slots; messages = l }) (sym (one ∙ ap (λ l. l ++ m ∷ []) none))

pub record OneRun (told : Type 0) (s t : State) (ms : List Message) (input rest : List ℕ) (at place limit : ℕ) : Type 0 where
  pub count : ℕ
  pub last : State
  pub done : DoneBy told (steps chunk_layout count s) last input rest at place limit
  pub messages : last.messages ≡ ms
  pub slots : last.slots ≡ t.slots
  pub over : told → rest ≡ []

pub run_of : (told : Type 0) (ms : List Message) (s t : State) (input rest : List ℕ) (at place limit : ℕ) → s.messages ≡ [] → Calls (Ok None) ms s t (stretch told input rest at place limit) → OneRun told s t ms input rest at place limit
run_of told [] s t input rest at place limit none (n, l, over) = record { count = n; last = t; done = l.done; messages = l.none ∙ none; slots = refl; over = over }
run_of told (m ∷ ms) s t input rest at place limit none (u, mid, between, (n, g), more) =
    let a = run_of told ms (settled u) t mid rest between place limit refl more in
    let d = done_behind told a.count (m ∷ []) (settled u) a.last mid rest between place limit a.done in
    record {
      count = suc n + a.count;
      last = behind (m ∷ []) a.last;
      done = done_joined told (suc n) s u input mid at between limit (gives_done n s u m (stretch told input mid at between limit) g) a.count (behind (m ∷ []) a.last) rest place
          (subst (λ v. DoneBy told (steps chunk_layout a.count v) (behind (m ∷ []) a.last) mid rest between place limit) (whole_again m s u none (gives_message n s u m (stretch told input mid at between limit) g)) d);
      messages = ap (λ l. m ∷ l) a.messages;
      slots = a.slots;
      over = a.over;
    }

pub end_of : (told : Type 0) (ms : List Message) (s t : State) (e : ReadEnd) (input rest : List ℕ) (at place limit : ℕ) → s.messages ≡ [] → Calls (Err e) ms s t (stretch told input rest at place limit) → EndsBehind told s ms input rest at limit e
end_of told [] s t e input rest at place limit none (n, h) = record { count = n; last = h.before; mid = h.mid; between = h.between; done = h.leads.done; messages = h.leads.none ∙ none; ends = h.ends; some = h.some }
end_of told (m ∷ ms) s t e input rest at place limit none (u, mid, between, (n, g), more) =
    let a = end_of told ms (settled u) t e mid rest between place limit refl more in
    let d = done_behind told a.count (m ∷ []) (settled u) a.last mid a.mid between a.between limit a.done in
    record {
      count = suc n + a.count;
      last = behind (m ∷ []) a.last;
      mid = a.mid;
      between = a.between;
      done = done_joined told (suc n) s u input mid at between limit (gives_done n s u m (stretch told input mid at between limit) g) a.count (behind (m ∷ []) a.last) a.mid a.between
          (subst (λ v. DoneBy told (steps chunk_layout a.count v) (behind (m ∷ []) a.last) mid a.mid between a.between limit) (whole_again m s u none (gives_message n s u m (stretch told input mid at between limit) g)) d);
      messages = ap (λ l. m ∷ l) a.messages;
      ends = ends_behind told (m ∷ []) a.last a.mid rest a.between limit e a.ends;
      some = a.some;
    }

-- And behind the handshake.

pub head_done : (told : Type 0) (handshake input mid : List ℕ) (between limit : ℕ) → DoneBy told handshake_layout handshake input mid 0 between limit → DoneBy told head_layout start input mid 0 between limit
head_done told handshake input mid between limit d = record { fields = d.fields; runs = path_bind handshake_layout (give handshake) (λ bytes. give start) d.fields d.runs; bytes = d.bytes; taken = d.taken; within = d.within; parts = d.parts }

whole_stream : (input mid rest : List ℕ) (between place limit : ℕ) (ms : List Message) (t : State) → DoneBy (Unit {0}) head_layout start input mid 0 between limit → OneRun (Unit {0}) start t ms mid rest between place limit → IsChunkStream input ms (unfinished t.slots)
whole_stream input mid rest between place limit ms t h a =
    let fs = h.fields ++ a.done.fields in
    let stream = reads_streams a.count fs a.last (runs_bind head_layout (λ s. steps chunk_layout a.count s) h.fields a.done.fields start (give a.last) h.runs a.done.runs) in
    let bytes : flat fs ≡ input = flat-append h.fields a.done.fields ∙ sym (h.parts tt ∙ ap (λ l. flat h.fields ++ l) (a.done.parts tt ∙ ap (λ l. flat a.done.fields ++ l) (a.over tt) ∙ append-nil (flat a.done.fields))) in
    subst (λ w. IsChunkStream input ms (unfinished w)) a.slots (subst (λ k. IsChunkStream input k (unfinished a.last.slots)) a.messages (subst (λ b. IsChunkStream b a.last.messages (unfinished a.last.slots)) bytes stream))

pub calls_tell : CallsTell
calls_tell = record {
  begins_refused = λ limit input f r. (head_refused limit input f r, refused_no_front limit input f r);
  begins_waits = λ limit input rest w. (head_waits limit input rest w, waits_no_front limit input rest w);
  tells = λ limit between place handshake input mid rest ms t h c. whole_stream input mid rest between place limit ms t (head_done (Unit {0}) handshake input mid between limit h) (run_of (Unit {0}) ms start t mid rest between place limit refl c);
  refuses = λ limit between place handshake input mid rest ms t f h c.
      let d = head_done (Unit {0}) handshake input mid between limit h in
      let e = end_of (Unit {0}) ms start t (Refused f) mid rest between place limit refl c in
      (stream_refused (Unit {0}) ms input mid rest between limit d f e tt, before_refusal ms input mid rest between limit d f e);
  waits = λ limit between place handshake input mid rest ms t h c.
      let d = head_done (Unit {0}) handshake input mid between limit h in
      let e = end_of (Unit {0}) ms start t ReadFault mid rest between place limit refl c in
      (stream_waits (Unit {0}) ms input mid rest between limit d e tt, before_fault ms input mid rest between limit d e);
}
