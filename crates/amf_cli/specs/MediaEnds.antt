-- What a run promises of a job on media: on an FLV file, or on a chunk stream.
use Rattle.std.specs.Prelude.{◌≡◌, ◌⊎◌, ℕ, ◌+◌, ◌≤◌, List, [], length, codes}
use Rattle.amf_io.specs.declared.reason.Reason.{Reason}
use Rattle.amf_io.specs.declared.source.Source.{Ghosts as SourceMembers}
use Rattle.amf_io.specs.declared.sink.Sink.{Ghosts as SinkMembers}
use Rattle.amf_media.specs.declared.ending.MediaEnd.{MediaEnd}
use Rattle.amf_media.specs.declared.ending.MediaEnd.TheVariants.{Done, Refused, ReadFault, WriteFault, NoForm, LongData, Memory}
use Rattle.amf_media.specs.Written.{CountsWrites}
use Rattle.amf_media.specs.FlvRuns.{CountsReads}
use Rattle.amf_media.specs.Verdicts.{Media, IsAcceptedBy, IsRefusedBy, HasRefusedValue, HasFormlessValue}
use Rattle.amf_commands.specs.declared.run_end.RunEnd.TheVariants as run
use Rattle.amf_commands.specs.Lines.{line_of}
use Rattle.amf_cli.specs.Told.{Tells}

-- the status of an end
abbrev pub status_of : MediaEnd → ℕ
status_of Done = 0
status_of (Refused f) = 1
status_of ReadFault = 3
status_of WriteFault = 4
status_of Memory = 5
status_of (NoForm l) = 7
status_of LongData = 7

-- the error line of an end, which are those of any command; there is none where the job is done
unfoldable pub error_line : MediaEnd → List ℕ
error_line Done = []
error_line (Refused f) = line_of (run.Refused f)
error_line ReadFault = line_of run.ReadFault
error_line WriteFault = line_of run.WriteFault
error_line Memory = line_of run.NoMemory
error_line (NoForm l) = line_of (run.NoForm 0 l)
error_line LongData = codes "amf: no form LongData node 0 value 0\n"

-- What the verdict on the input says of the status: what is accepted is not refused, but with `show` at a value in it; what is refused is
-- not done, and a write may fail before that; a value that has no form is not set.
pub record IsByVerdict (m : Media) (input : List ℕ) (status : ℕ) : Type 0 where
  pub accepted : IsAcceptedBy m input → (status ≡ 0) ⊎ (status ≡ 3) ⊎ (status ≡ 4) ⊎ (status ≡ 5) ⊎ ((status ≡ 1) × HasRefusedValue m input)
  pub not_accepted : (reason : Reason) (at : ℕ) → IsRefusedBy m input reason at → (status ≡ 1) ⊎ (status ≡ 3) ⊎ (status ≡ 4) ⊎ (status ≡ 5)
  pub lacking : HasFormlessValue m input → (status ≡ 3) ⊎ (status ≡ 5) ⊎ (status ≡ 7)

-- By the meanings of the three streams, what an end says of the bytes of input and output, which ends there may be, the job and the status.
-- Of each stream there is what it was before and what it is now.
pub record EndsJob {I O E : Type 0} (i : SourceMembers I) (o : SinkMembers O) (e : SinkMembers E)
    (Runs : List ℕ → List ℕ → Type 0 → List ℕ → List ℕ → MediaEnd → Type 0) (May : MediaEnd → Type 0) (m : Media) (status : ℕ)
    (input input_now : I) (out out_now : O) (err err_now : E) : Type 0 where
  pub end : MediaEnd
  pub its_status : status ≡ status_of end
  -- only `set` ends with 7, and then nothing is asked of the output
  pub may : May end
  pub untouched : status ≡ 7 → out_now ≡ out
  pub runs : i.tells input → Runs (i.left input) (i.left input_now) (o.tells out_now) (o.held out) (o.held out_now) end
  -- no byte of the input past 4,294,967,295 is taken but the one that shows that there is more
  pub taken : i.tells input → length (i.left input) ≤ length (i.left input_now) + (4294967295 + 1)
  pub reads : CountsReads (i.faults input) (i.faults input_now) end
  pub writes : CountsWrites (o.faults out) (o.faults out_now) end
  pub line : Tells e err err_now (error_line end)
  pub by_verdict : i.tells input → IsByVerdict m (i.left input) status
