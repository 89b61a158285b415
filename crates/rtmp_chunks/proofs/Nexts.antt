-- So many chunks, and one more: what the reader of messages answers goes on from chunk to chunk.
use Rattle.std.proofs.Common.{◌≡◌, ℕ, suc, ◌<◌, List, [], ◌∷◌, ◌++◌, length, sym, ap, ◌∙◌, arith, append_assoc, length-append}
use Rattle.amf_io.specs.declared.ends.ReadEnd.{ReadEnd}
use Rattle.amf_io.specs.declared.ends.ReadEnd.TheVariants.{Refused, ReadFault, Memory}
use Rattle.amf_io.specs.declared.ends.Refusal.{Refusal}
use Rattle.amf_io.specs.Field.{flat}
use Rattle.amf_io.specs.Layout.{Layout, give, bind}
use Rattle.amf_io.specs.LayoutAnswer.{DoneBy, EndsBy}
use Rattle.amf_io.specs.Repeated.{steps}
use Rattle.amf_io.specs.Stretch.{Stretch, stretch, IsInterrupted}
use Rattle.amf_io.specs.Verdict.{IsRefused}
use Rattle.amf_io.proofs.Paths.{path_bind, path_join, flat-append}
use Rattle.amf_io.proofs.Ables.{bytes_flat}
use Rattle.amf_io.proofs.Stepping.{steps_on, none_fewer, refused_behind, waits_behind}
use Rattle.amf_io.proofs.LayoutAnswers.{leads_ends, end_answers}
use Rattle.rtmp_chunks.specs.Laws.{HasChunks, IsStreamFields}
use Rattle.rtmp_chunks.proofs.AbleChunks.{streams_repeat}
use Rattle.rtmp_chunks.specs.Chunk.{Message}
use Rattle.rtmp_chunks.specs.Machine.{State, start, head_layout, chunk_layout}
use Rattle.rtmp_chunks.specs.Reader.{LeadsOn, Gives, EndsIn, IsRefusal}

-- What is told where a source tells more than another.

done_told : {Y : Type 0} (told more : Type 0) (go : told → more) (t : Layout Y) (y : Y) (input rest : List ℕ) (at place limit : ℕ) → DoneBy more t y input rest at place limit → DoneBy told t y input rest at place limit
done_told told more go t y input rest at place limit d = record { fields = d.fields; runs = d.runs; bytes = d.bytes; taken = d.taken; within = d.within; parts = λ x. d.parts (go x) }

ends_told : {Y : Type 0} (told more : Type 0) (go : told → more) (t : Layout Y) (input rest : List ℕ) (at limit : ℕ) (e : ReadEnd) → EndsBy more t input rest at limit e → EndsBy told t input rest at limit e
ends_told told more go t input rest at limit (Refused f) h = λ x. h (go x)
ends_told told more go t input rest at limit ReadFault h = λ x. h (go x)
ends_told told more go t input rest at limit Memory h = tt

module _ (told more : Type 0) (go : told → more) (n : ℕ) (s t : State) (input mid : List ℕ) (at between limit : ℕ) (l : LeadsOn n s t (stretch told input mid at between limit)) where
  pub one_more : (u : State) (rest : List ℕ) (place : ℕ) → DoneBy more (chunk_layout t) u mid rest between place limit → DoneBy told (steps chunk_layout (suc n) s) u input rest at place limit
  one_more u rest place d =
      let c = l.done in
      record {
        fields = c.fields ++ d.fields;
        runs = path_join (steps chunk_layout (suc n) s) (bind (chunk_layout t) (λ u. give u)) (give u) c.fields d.fields (steps_on chunk_layout n s t c.fields c.runs) (path_bind (chunk_layout t) (give u) (λ u. give u) d.fields d.runs);
        bytes = bytes_flat c.fields d.fields c.bytes d.bytes;
        taken = (let p = c.taken in let q = d.taken in omega (arith, ap length (flat-append c.fields d.fields), length-append (flat c.fields) (flat d.fields)));
        within = d.within;
        parts = λ x. c.parts x ∙ ap (λ l. flat c.fields ++ l) (d.parts (go x)) ∙ sym (append_assoc (flat c.fields) (flat d.fields) rest) ∙ ap (λ l. l ++ rest) (sym (flat-append c.fields d.fields));
      }

  -- a chunk with which no message came
  pub leads_further : (u : State) (rest : List ℕ) (place : ℕ) → DoneBy more (chunk_layout t) u mid rest between place limit → u.messages ≡ t.messages → LeadsOn (suc n) s u (stretch told input rest at place limit)
  leads_further u rest place d e = record { done = one_more u rest place d; none = e ∙ l.none }

  -- one that made a message whole
  pub gives_one : (u : State) (m : Message) (rest : List ℕ) (place : ℕ) → DoneBy more (chunk_layout t) u mid rest between place limit → u.messages ≡ t.messages ++ m ∷ [] → Gives n s u m (stretch told input rest at place limit)
  gives_one u m rest place d e = record { before = t; mid = mid; between = between; leads = l; done = done_told told more go (chunk_layout t) u mid rest between place limit d; one = e }

  -- one inside which the reader ends, where a byte was left
  pub ends_inside : (rest : List ℕ) (place : ℕ) (e : ReadEnd) → (IsRefusal e → told → 0 < length mid) → EndsBy more (chunk_layout t) mid rest between limit e → EndsIn n s (stretch told input rest at place limit) e
  ends_inside rest place e some h = record { before = t; mid = mid; between = between; leads = l; ends = ends_told told more go (chunk_layout t) mid rest between limit e h; some = some }

-- The chunks up to the end of a message that was given.

pub gives_done : (n : ℕ) (s t : State) (m : Message) (x : Stretch) → Gives n s t m x → DoneBy x.told (steps chunk_layout (suc n) s) t x.input x.rest x.at x.place x.limit
gives_done n s t m x g = one_more x.told x.told (λ y. y) n s g.before x.input g.mid x.at g.between x.limit g.leads t x.rest x.place g.done

pub gives_message : (n : ℕ) (s t : State) (m : Message) (x : Stretch) → Gives n s t m x → t.messages ≡ s.messages ++ m ∷ []
gives_message n s t m x g = g.one ∙ ap (λ l. l ++ m ∷ []) g.leads.none

-- The verdict on the whole stream.

-- so many chunks with these messages, and then an end inside the next
pub record EndsBehind (told : Type 0) (s : State) (ms : List Message) (input rest : List ℕ) (at limit : ℕ) (e : ReadEnd) : Type 0 where
  pub count : ℕ
  pub last : State
  pub mid : List ℕ
  pub between : ℕ
  pub done : DoneBy told (steps chunk_layout count s) last input mid at between limit
  pub messages : last.messages ≡ ms
  pub ends : EndsBy told (chunk_layout last) mid rest between limit e
  pub some : IsRefusal e → told → 0 < length mid

module _ (told : Type 0) (ms : List Message) (input mid rest : List ℕ) (between limit : ℕ) (d : DoneBy told head_layout start input mid 0 between limit) where
  in_chunks : (e : ReadEnd) (a : EndsBehind told start ms mid rest between limit e) → EndsBy told (steps chunk_layout (suc a.count) start) mid rest between limit e
  in_chunks e a =
      let c = a.done in
      leads_ends told told (λ x. x) (steps chunk_layout (suc a.count) start) (bind (chunk_layout a.last) (λ u. give u)) mid a.mid between a.between limit
      (record { fields = c.fields; path = steps_on chunk_layout a.count start a.last c.fields c.runs; bytes = c.bytes; taken = c.taken; within = c.within; parts = c.parts }) rest e
      (end_answers told (chunk_layout a.last) (λ u. give u) a.mid rest a.between limit e a.ends)

  -- a refusal behind a handshake and so many chunks is the verdict
  pub stream_refused : (f : Refusal) → EndsBehind told start ms mid rest between limit (Refused f) → told → IsRefused IsStreamFields 0 limit input f.reason f.at
  stream_refused f a x =
      let c = a.done in
      refused_behind (λ k. head_layout) (λ k. chunk_layout) HasChunks streams_repeat told told (λ y. y) 0 limit (suc (length input)) between input mid rest start (omega arith) (omega arith) d (suc a.count) f (in_chunks (Refused f) a)
      (λ y j fs t lt r same. none_fewer chunk_layout j a.count start t a.last fs c.fields a.mid (omega (arith, lt)) (a.some tt y) r c.runs (same ∙ c.parts y)) x

  -- and what came before a read failed ends inside a field
  pub stream_waits : EndsBehind told start ms mid rest between limit ReadFault → told → IsInterrupted IsStreamFields input rest 0 limit
  stream_waits a x =
      waits_behind (λ k. head_layout) (λ k. chunk_layout) HasChunks streams_repeat told told (λ y. y) 0 limit (suc (length input)) between input mid rest start (omega arith) (omega arith) d (suc a.count) (in_chunks ReadFault a) x
