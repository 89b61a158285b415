-- A handshake that is refused, or whose reading waits, is the verdict on the whole stream; and no front of it is a chunk stream.
use Rattle.std.proofs.Common.{◌≡◌, ℕ, suc, List, [], ◌++◌, length, refl, sym, ap, ◌∙◌, arith, length-append, append_assoc}
use Rattle.std.proofs.lemmas.List.{append_cancel_right, length-take}
use Rattle.amf_io.specs.declared.ends.Refusal.{Refusal}
use Rattle.amf_io.specs.declared.ends.ReadEnd.{ReadEnd}
use Rattle.amf_io.specs.declared.ends.ReadEnd.TheVariants.{Refused, ReadFault}
use Rattle.amf_io.specs.Field.{flat}
use Rattle.amf_io.specs.Layout.{give}
use Rattle.amf_io.specs.LayoutAnswer.{RefusedBy, WaitsBy, EndsBy}
use Rattle.amf_io.specs.Repeated.{steps, after_head}
use Rattle.amf_io.specs.Stretch.{IsInterrupted}
use Rattle.amf_io.specs.Verdict.{IsRefused}
use Rattle.amf_io.proofs.LayoutAnswers.{end_answers, refused_verdict, waits_verdict}
use Rattle.amf_io.proofs.Paths.{bind_runs, flat-append}
use Rattle.amf_io.proofs.RepeatedVerdicts.{refusal_lifted, cut_any}
use Rattle.rtmp_chunks.specs.Machine.{start, handshake_layout, head_layout, chunk_layout}
use Rattle.rtmp_chunks.specs.Laws.{HasChunks, IsStreamFields}
use Rattle.rtmp_chunks.specs.Calls.{NoFront}
use Rattle.rtmp_chunks.proofs.AbleChunks.{streams_repeat}
use Rattle.rtmp_chunks.proofs.ReadingStreams.{streams_are_read}
use Rattle.rtmp_chunks.proofs.LongestFronts.{not_done, waits_not}

head_ends : (input rest : List ℕ) (limit : ℕ) (e : ReadEnd) → EndsBy (Unit {0}) handshake_layout input rest 0 limit e → EndsBy (Unit {0}) head_layout input rest 0 limit e
head_ends input rest limit e h = end_answers (Unit {0}) handshake_layout (λ bytes. give start) input rest 0 limit e h

ends_first : (input rest : List ℕ) (limit : ℕ) (e : ReadEnd) → EndsBy (Unit {0}) handshake_layout input rest 0 limit e → EndsBy (Unit {0}) (after_head head_layout chunk_layout 0) input rest 0 limit e
ends_first input rest limit e h = end_answers (Unit {0}) head_layout (λ s. steps chunk_layout 0 s) input rest 0 limit e (head_ends input rest limit e h)

pub head_refused : (limit : ℕ) (input : List ℕ) (f : Refusal) → RefusedBy handshake_layout input 0 limit f → IsRefused IsStreamFields 0 limit input f.reason f.at
head_refused limit input f r =
    refusal_lifted (λ k. head_layout) (λ k. chunk_layout) HasChunks streams_repeat (HasChunks 0) 0 limit 0 [] input input 0 refl (omega arith) (omega arith) (λ start kind w. w) (λ start j e lt p. absurd (omega (arith, lt))) f.at f.reason
    (refused_verdict (λ k. after_head head_layout chunk_layout 0) (HasChunks 0) (streams_repeat.layouts 0) 0 limit (omega arith) (suc (length input)) input f (omega (arith, length-take {A = ℕ}))
    (ends_first input [] limit (Refused f) (λ x. r) tt))

pub head_waits : (limit : ℕ) (input rest : List ℕ) → WaitsBy handshake_layout input rest 0 limit → IsInterrupted IsStreamFields input rest 0 limit
head_waits limit input rest v =
    let w = ends_first input rest limit ReadFault (λ x. v) tt in
    record {
      given = w.given;
      parts = w.parts;
      within = w.within;
      stop = w.stop;
      cut_off = cut_any (λ k. head_layout) (λ k. chunk_layout) HasChunks streams_repeat 0 0 w.stop w.given
          (waits_verdict (λ k. after_head head_layout chunk_layout 0) (HasChunks 0) (streams_repeat.layouts 0) 0 limit (omega arith) (suc (length input)) input rest w (omega (arith, ap length w.parts, length-append w.given rest)));
    }

-- No front of it is a chunk stream, since that has a whole handshake.

pub refused_no_front : (limit : ℕ) (input : List ℕ) (f : Refusal) → RefusedBy handshake_layout input 0 limit f → NoFront input f.at
refused_no_front limit input f r front left ms us e le x =
    let a = streams_are_read front ms us x in
    let b = bind_runs head_layout (λ s. steps chunk_layout a.count s) a.fields a.last a.runs in
    let is : front ≡ flat b.front ++ flat b.back = sym a.bytes ∙ ap flat b.parts ∙ flat-append b.front b.back in
    let all : input ≡ flat b.front ++ (flat b.back ++ left) = e ∙ ap (λ l. l ++ left) is ∙ append_assoc (flat b.front) (flat b.back) left in
    let bad = (head_ends input [] limit (Refused f) (λ x. r) tt).outcome in
    not_done head_layout b.value limit 0 f.at f.reason input (flat b.back ++ left) b.front (omega arith) bad b.first all (omega (arith, le, ap length is, length-append (flat b.front) (flat b.back)))

pub waits_no_front : (limit : ℕ) (input rest : List ℕ) → WaitsBy handshake_layout input rest 0 limit → (got : List ℕ) → input ≡ got ++ rest → NoFront got (length got)
waits_no_front limit input rest v got e front left ms us parts le x =
    let w = head_ends input rest limit ReadFault (λ x. v) tt in
    let a = streams_are_read front ms us x in
    let b = bind_runs head_layout (λ s. steps chunk_layout a.count s) a.fields a.last a.runs in
    let is : front ≡ flat b.front ++ flat b.back = sym a.bytes ∙ ap flat b.parts ∙ flat-append b.front b.back in
    let same : w.given ≡ got = append_cancel_right w.given got rest (sym w.parts ∙ e) in
    let all : w.given ≡ flat b.front ++ (flat b.back ++ left) = same ∙ parts ∙ ap (λ l. l ++ left) is ∙ append_assoc (flat b.front) (flat b.back) left in
    waits_not head_layout b.value 0 w.stop w.given (flat b.back ++ left) b.front w.outcome b.first all
