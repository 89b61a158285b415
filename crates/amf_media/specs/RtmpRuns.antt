-- How `rtmp` ends, by the bytes of the input and those that it left, and by what the output held before and holds now.
use Rattle.std.specs.Prelude.{ℕ, ◌<◌, List, Option, Some, None, Result, Ok, Err}
use Rattle.rtmp_rechunk.specs.declared.pass_end.PassEnd.{PassEnd}
use Rattle.rtmp_rechunk.specs.declared.pass_end.PassEnd.TheVariants as pass
use Rattle.rtmp_rechunk.specs.Pass.{Passes, WroteAll, WroteSome}
use Rattle.rtmp_rechunk.specs.Rechunk.{Restarts, Repeats, EndsSilently}
use Rattle.rtmp_listing.specs.Listing.{BeginsSilently, ShowsMessage, ListsOpen}
use Rattle.amf_media.specs.declared.ending.MediaEnd.{MediaEnd}
use Rattle.amf_media.specs.declared.ending.MediaEnd.TheVariants.{Done, Refused, ReadFault, WriteFault, NoForm, LongData, Memory}

-- the sizes that chunks may have (5.4.1)
abbrev pub IsChunkSize : ℕ → Type 0
IsChunkSize n = (0 < n) × (n < 2147483648)

-- the end of a pass as that of the job
abbrev pub stream_end : Result (Unit {0}) PassEnd → MediaEnd
stream_end (Ok done) = Done
stream_end (Err (pass.Refused f)) = Refused f
stream_end (Err pass.ReadFault) = ReadFault
stream_end (Err pass.WriteFault) = WriteFault
stream_end (Err pass.Memory) = Memory

-- what is so of the end of a pass, said of that of the job; the other ends of jobs do not come
abbrev pub OfPass : (Result (Unit {0}) PassEnd → Type 0) → MediaEnd → Type 0
OfPass P Done = P (Ok tt)
OfPass P (Refused f) = P (Err (pass.Refused f))
OfPass P ReadFault = P (Err pass.ReadFault)
OfPass P WriteFault = P (Err pass.WriteFault)
OfPass P Memory = P (Err pass.Memory)
OfPass P (NoForm l) = ⊥
OfPass P LongData = ⊥

-- how a stream is listed, and how it is written again in chunks of this size
abbrev pub ListsStream : List ℕ → List ℕ → Type 0 → List ℕ → List ℕ → Result (Unit {0}) PassEnd → Type 0
ListsStream input rest told held now r = Passes BeginsSilently ShowsMessage ListsOpen input rest (WroteAll told held now) (WroteSome told held now) r

abbrev pub RechunksStream : ℕ → List ℕ → List ℕ → Type 0 → List ℕ → List ℕ → Result (Unit {0}) PassEnd → Type 0
RechunksStream n input rest told held now r = Passes (Restarts n) (Repeats n) EndsSilently input rest (WroteAll told held now) (WroteSome told held now) r

-- without a size the stream is listed, and with one it is written again
abbrev pub RunsStream : Option ℕ → List ℕ → List ℕ → Type 0 → List ℕ → List ℕ → MediaEnd → Type 0
RunsStream None input rest told held now e = OfPass (ListsStream input rest told held now) e
RunsStream (Some n) input rest told held now e = OfPass (RechunksStream n input rest told held now) e
