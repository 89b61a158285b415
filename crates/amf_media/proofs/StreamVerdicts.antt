-- The work on a chunk stream ends by the verdict on it.
use Rattle.std.proofs.Common.{◌≤◌, ◌+◌, ℕ, List, [], length, Option, Some, None, sym, ap, ◌∙◌, arith}
use Rattle.std.proofs.lemmas.List.{append-nil}
use Rattle.amf_io.specs.declared.ends.Refusal.{Refusal}
use Rattle.amf_io.specs.declared.reason.Reason.{Reason}
use Rattle.amf_io.specs.Field.{flat}
use Rattle.amf_io.specs.Repeated.{IsAcceptedToEnd}
use Rattle.amf_io.specs.Verdict.{IsRefused}
use Rattle.rtmp_chunks.specs.Chunk.{Message, Unfinished}
use Rattle.rtmp_chunks.specs.Stream.{IsChunkStream}
use Rattle.rtmp_chunks.specs.Laws.{IsStreamFields}
use Rattle.rtmp_chunks.proofs.AbleChunks.{streams_judged}
use Rattle.rtmp_chunks.proofs.ReadingStreams.{streams_are_read}
use Rattle.amf_media.specs.declared.ending.MediaEnd.TheVariants.{Done, Refused}
use Rattle.amf_media.specs.FlvRuns.{most}
use Rattle.amf_media.specs.RtmpLaws.{StreamsEndByVerdict}
use Rattle.amf_media.specs.RtmpRuns.{RunsStream}

stream_accepted : (input : List ℕ) (ms : List Message) (us : List Unfinished) → IsChunkStream input ms us → length input ≤ most → IsAcceptedToEnd IsStreamFields 0 most input
stream_accepted input ms us s le =
    let r = streams_are_read input ms us s in
    record { fields = r.fields; accepted = (r.count, (r.last, r.runs)); parts = sym r.bytes ∙ sym (append-nil (flat r.fields)); place = ap (λ l. 0 + length l) (sym r.bytes); within = omega (arith, le) }

module _ (input rest : List ℕ) (told : Type 0) (held now : List ℕ) where
  done_accepted : (size : Option ℕ) → RunsStream size input rest told held now Done → IsAcceptedToEnd IsStreamFields 0 most input
  done_accepted None (out, o, w, e) = stream_accepted input o.messages o.open_ones o.stream o.within
  done_accepted (Some n) (out, o, w, e) = stream_accepted input o.messages o.open_ones o.stream o.within

  verdict_of : (size : Option ℕ) (f : Refusal) → RunsStream size input rest told held now (Refused f) → IsRefused IsStreamFields 0 most input f.reason f.at
  verdict_of None f (out, v, g, w) = v
  verdict_of (Some n) f (out, v, g, w) = v

  -- the work on a chunk stream within the limit is not refused
  pub stream_not_refused : (size : Option ℕ) (ms : List Message) (us : List Unfinished) (f : Refusal) → IsChunkStream input ms us → length input ≤ most → RunsStream size input rest told held now (Refused f) → ⊥
  stream_not_refused size ms us f s le e = (streams_judged.once most input).not_both (stream_accepted input ms us s le) f.reason f.at (verdict_of size f e)

  -- and that on an input that is refused is not done
  pub refused_not_done : (size : Option ℕ) (reason : Reason) (at : ℕ) → IsRefused IsStreamFields 0 most input reason at → RunsStream size input rest told held now Done → ⊥
  refused_not_done size reason at v e = (streams_judged.once most input).not_both (done_accepted size e) reason at v

pub streams_end_by_verdict : StreamsEndByVerdict
streams_end_by_verdict = record {
  accepted = λ size input rest ms us f s le e. stream_not_refused input rest ⊥ [] [] size ms us f s le e;
  not_done = λ size input rest reason at v e. refused_not_done input rest ⊥ [] [] size reason at v e;
  by_verdict = λ size input rest reason at f v e. (streams_judged.once most input).one_refusal f.reason reason f.at at (verdict_of input rest ⊥ [] [] size f e) v;
}
