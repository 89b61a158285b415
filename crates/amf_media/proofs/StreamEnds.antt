-- The end of a pass as that of the job.
use Rattle.std.proofs.Common.{◌≡◌, ℕ, List, Option, Some, None, Result, Ok, Err, sym, subst}
use Rattle.rtmp_rechunk.specs.declared.pass_end.PassEnd.{PassEnd}
use Rattle.rtmp_rechunk.specs.declared.pass_end.PassEnd.TheVariants as pass
use Rattle.rtmp_rechunk.specs.Pass as passes
use Rattle.amf_media.specs.declared.ending.MediaEnd.{MediaEnd}
use Rattle.amf_media.specs.FlvRuns.{IsFileEnd, CountsReads}
use Rattle.amf_media.specs.RtmpRuns.{stream_end, OfPass, ListsStream, RechunksStream, RunsStream}
use Rattle.amf_media.specs.Written.{CountsWrites}

of_pass : (P : Result (Unit {0}) PassEnd → Type 0) (r : Result (Unit {0}) PassEnd) → P r → OfPass P (stream_end r)
of_pass P (Ok done) p = p
of_pass P (Err (pass.Refused f)) p = p
of_pass P (Err pass.ReadFault) p = p
of_pass P (Err pass.WriteFault) p = p
of_pass P (Err pass.Memory) p = p

file_end : (r : Result (Unit {0}) PassEnd) → IsFileEnd (stream_end r)
file_end (Ok done) = tt
file_end (Err (pass.Refused f)) = tt
file_end (Err pass.ReadFault) = tt
file_end (Err pass.WriteFault) = tt
file_end (Err pass.Memory) = tt

reads_of : (before now : ℕ) (r : Result (Unit {0}) PassEnd) → passes.CountsReads before now r → CountsReads before now (stream_end r)
reads_of before now (Ok done) p = p
reads_of before now (Err (pass.Refused f)) p = p
reads_of before now (Err pass.ReadFault) p = p
reads_of before now (Err pass.WriteFault) p = p
reads_of before now (Err pass.Memory) p = p

writes_of : (before now : ℕ) (r : Result (Unit {0}) PassEnd) → passes.CountsWrites before now r → CountsWrites before now (stream_end r)
writes_of before now (Ok done) p = p
writes_of before now (Err (pass.Refused f)) p = p
writes_of before now (Err pass.ReadFault) p = p
writes_of before now (Err pass.WriteFault) p = p
writes_of before now (Err pass.Memory) p = p

module _ (r : Result (Unit {0}) PassEnd) (e : MediaEnd) (is : e ≡ stream_end r) where
  pub stream_file_end : IsFileEnd e
  stream_file_end = subst IsFileEnd (sym is) (file_end r)

  pub stream_reads : (before now : ℕ) → passes.CountsReads before now r → CountsReads before now e
  stream_reads before now p = subst (CountsReads before now) (sym is) (reads_of before now r p)

  pub stream_writes : (before now : ℕ) → passes.CountsWrites before now r → CountsWrites before now e
  stream_writes before now p = subst (CountsWrites before now) (sym is) (writes_of before now r p)

  module _ (size : Option ℕ) (input rest : List ℕ) (told : Type 0) (held now : List ℕ) where
    pub lists_stream : size ≡ None → ListsStream input rest told held now r → RunsStream size input rest told held now e
    lists_stream none p = subst (λ s. RunsStream s input rest told held now e) (sym none) (subst (OfPass (ListsStream input rest told held now)) (sym is) (of_pass (ListsStream input rest told held now) r p))

    pub rechunks_stream : (n : ℕ) → size ≡ Some n → RechunksStream n input rest told held now r → RunsStream size input rest told held now e
    rechunks_stream n some p = subst (λ s. RunsStream s input rest told held now e) (sym some) (subst (OfPass (RechunksStream n input rest told held now)) (sym is) (of_pass (RechunksStream n input rest told held now) r p))
