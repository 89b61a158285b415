-- The verdict on the input of a job on media: what is accepted, and what is refused.
use Rattle.std.specs.Prelude.{◌≡◌, ◌⊎◌, ℕ, ◌≤◌, List, ◌++◌, length}
use Rattle.amf_io.specs.declared.ends.Refusal.{Refusal}
use Rattle.amf_io.specs.declared.reason.Reason.{Reason}
use Rattle.amf_io.specs.Repeated.{IsAcceptedToEnd}
use Rattle.amf_io.specs.Verdict.{IsRefused}
use Rattle.amf_graph.specs.declared.lack.Lack.{Lack}
use Rattle.amf0_spelling.specs.Values0.{IsValue0}
use Rattle.rtmp_chunks.specs.Chunk.{Message, Unfinished}
use Rattle.rtmp_chunks.specs.Stream.{IsChunkStream}
use Rattle.rtmp_chunks.specs.Laws.{IsStreamFields}
use Rattle.flv_meta.specs.Fields.{IsFileReading}
use Rattle.flv_meta.specs.MetadataAnswer.{LacksMetadata, IsTooLong}
use Rattle.flv_meta.specs.declared.flv_job.FlvJob.{FlvJob}
use Rattle.flv_meta.specs.declared.flv_job.FlvJob.TheVariants as job
use Rattle.amf_media.specs.FlvValues.{most_of_value, IsValueThere, BeginsWith}
use Rattle.amf_media.specs.FlvRuns.{most, StopsAtValue}

-- a job on an FLV file, or on a chunk stream
pub data Media : Type 0 where
  on_file : (job : FlvJob) → Media
  on_stream : Media

-- with `set` a value that has a form stands before the file
pub record IsSetAccepted (input : List ℕ) : Type 0 where
  pub value : List ℕ
  pub front : List ℕ
  pub later : List ℕ
  pub there : IsValueThere value front
  pub parts : input ≡ front ++ later
  pub accepted : IsAcceptedToEnd IsFileReading (length front) most later

-- or the value is refused; or it has a form, and the file behind it is refused
pub data IsSetRefused (input : List ℕ) (reason : Reason) (at : ℕ) : Type 0 where
  value_refused : IsRefused IsValue0 0 most_of_value input reason at → IsSetRefused input reason at
  file_refused : (value front later : List ℕ) → IsValueThere value front → input ≡ front ++ later → IsRefused IsFileReading (length front) most later reason at → IsSetRefused input reason at

abbrev pub IsAcceptedBy : Media → List ℕ → Type 0
IsAcceptedBy (on_file job.Show) input = IsAcceptedToEnd IsFileReading 0 most input
IsAcceptedBy (on_file job.Drop) input = IsAcceptedToEnd IsFileReading 0 most input
IsAcceptedBy (on_file job.Set) input = IsSetAccepted input
IsAcceptedBy on_stream input = (messages : List Message) × (open_ones : List Unfinished) × IsChunkStream input messages open_ones × (length input ≤ most)

abbrev pub IsRefusedBy : Media → List ℕ → Reason → ℕ → Type 0
IsRefusedBy (on_file job.Show) input reason at = IsRefused IsFileReading 0 most input reason at
IsRefusedBy (on_file job.Drop) input reason at = IsRefused IsFileReading 0 most input reason at
IsRefusedBy (on_file job.Set) input reason at = IsSetRefused input reason at
IsRefusedBy on_stream input reason at = IsRefused IsStreamFields 0 most input reason at

-- with `show` a value in the file may be refused
abbrev pub HasRefusedValue : Media → List ℕ → Type 0
HasRefusedValue (on_file job.Show) input = (f : Refusal) × (bytes : List ℕ) × StopsAtValue 0 input f bytes
HasRefusedValue (on_file job.Drop) input = ⊥
HasRefusedValue (on_file job.Set) input = ⊥
HasRefusedValue on_stream input = ⊥

-- with `set` the value before the file may have no form
abbrev pub HasFormlessValue : Media → List ℕ → Type 0
HasFormlessValue (on_file job.Show) input = ⊥
HasFormlessValue (on_file job.Drop) input = ⊥
HasFormlessValue (on_file job.Set) input = ((l : Lack) × BeginsWith (λ g. LacksMetadata g l) input) ⊎ BeginsWith IsTooLong input
HasFormlessValue on_stream input = ⊥
