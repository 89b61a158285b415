-- That the work on a chunk stream ends by the verdict on it.
use Rattle.std.specs.Prelude.{◌≡◌, ◌≤◌, ℕ, List, [], length, Option}
use Rattle.amf_io.specs.declared.ends.Refusal.{Refusal}
use Rattle.amf_io.specs.declared.reason.Reason.{Reason}
use Rattle.amf_io.specs.Verdict.{IsRefused}
use Rattle.rtmp_chunks.specs.Chunk.{Message, Unfinished}
use Rattle.rtmp_chunks.specs.Stream.{IsChunkStream}
use Rattle.rtmp_chunks.specs.Laws.{IsStreamFields}
use Rattle.amf_media.specs.declared.ending.MediaEnd.{MediaEnd}
use Rattle.amf_media.specs.declared.ending.MediaEnd.TheVariants.{Done, Refused}
use Rattle.amf_media.specs.FlvRuns.{most}
use Rattle.amf_media.specs.RtmpRuns.{RunsStream}

-- the work on an input ends so, over an output that does not tell what it took
abbrev pub EndsStream : Option ℕ → List ℕ → List ℕ → MediaEnd → Type 0
EndsStream size input rest e = RunsStream size input rest ⊥ [] [] e

pub record StreamsEndByVerdict : Type 0 where
  -- of a chunk stream within the limit it is not refused
  pub accepted : (size : Option ℕ) (input rest : List ℕ) (messages : List Message) (open_ones : List Unfinished) (f : Refusal) → IsChunkStream input messages open_ones → length input ≤ most → EndsStream size input rest (Refused f) → ⊥
  -- of an input that is refused it is not done
  pub not_done : (size : Option ℕ) (input rest : List ℕ) (reason : Reason) (at : ℕ) → IsRefused IsStreamFields 0 most input reason at → EndsStream size input rest Done → ⊥
  -- and where it is refused, it is so for this reason and at this place
  pub by_verdict : (size : Option ℕ) (input rest : List ℕ) (reason : Reason) (at : ℕ) (f : Refusal) → IsRefused IsStreamFields 0 most input reason at → EndsStream size input rest (Refused f) → (f.reason ≡ reason) × (f.at ≡ at)
