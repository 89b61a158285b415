-- Jobs on media: the sizes of chunks, jobs for which memory was wanting before they began, and what the verdict on the input says.
use Rattle.std.proofs.Common.{◌≡◌, ◌⊎◌, inl, inr, List, [], ℕ, Option, Some, None, Err, refl, sym, ◌∙◌, subst, arith}
use Rattle.std.specs.Prelude.{IfSome}
use Rattle.std.proofs.lemmas.List.{append-nil}
use Rattle.amf_io.specs.declared.reason.Reason.{Reason}
use Rattle.amf_graph.specs.declared.lack.Lack.{Lack}
use Rattle.flv_meta.specs.declared.flv_job.FlvJob.{FlvJob}
use Rattle.rtmp_listing.specs.Listing.{BeginsSilently, ShowsMessage, ListsOpen}
use Rattle.rtmp_rechunk.specs.declared.pass_end.PassEnd.TheVariants as pass
use Rattle.rtmp_rechunk.specs.Pass.{WroteAll, WroteSome}
use Rattle.rtmp_rechunk.specs.Rechunk.{Restarts, Repeats, EndsSilently}
use Rattle.rtmp_rechunk.proofs.Streams.{no_memory}
use Rattle.amf_media.specs.declared.ending.MediaEnd.{MediaEnd}
use Rattle.amf_media.specs.declared.ending.MediaEnd.TheVariants.{Done, Refused, ReadFault, WriteFault, NoForm, LongData, Memory}
use Rattle.amf_media.specs.FlvRuns.{Runs}
use Rattle.amf_media.specs.RtmpRuns.{IsChunkSize, RunsStream}
use Rattle.amf_media.specs.Verdicts.{on_file, on_stream, IsAcceptedBy, IsRefusedBy, HasRefusedValue, HasFormlessValue}
use Rattle.amf_media.proofs.FlvWhole.{runs_spent}
use Rattle.amf_media.proofs.JobVerdicts.{accepted_stops, accepted_has_form, accepted_fits, refused_not_done, refused_has_form, refused_fits, formless_not_done, formless_not_written, formless_not_refused}
use Rattle.amf_media.proofs.StreamVerdicts.{stream_not_refused, refused_not_done as stream_not_done}
use Rattle.amf_commands.specs.Askable.{IsChunkable}
use Rattle.amf_cli.specs.MediaEnds.{IsByVerdict, status_of}

pub chunkable : (size : Option ℕ) → IsChunkable size → IfSome size IsChunkSize
chunkable None is = tt
chunkable (Some n) is = (omega (arith, is.0), omega (arith, is.1))

pub flv_memory : (j : FlvJob) (input rest : List ℕ) (told : Type 0) (held now : List ℕ) → rest ≡ input → now ≡ held → Runs j input rest told held now Memory
flv_memory j input rest told held now same kept =
    subst (λ (r : List ℕ). Runs j input r told held now Memory) (sym same) (subst (λ (n : List ℕ). Runs j input input told held n Memory) (sym kept) (runs_spent j input told held))

nothing_written : (told : Type 0) (held now : List ℕ) → now ≡ held → WroteSome told held now []
nothing_written told held now kept = λ t. record { front = []; rest = []; parts = refl; added = kept ∙ sym (append-nil held) }

pub rtmp_memory : (size : Option ℕ) (input rest : List ℕ) (told : Type 0) (held now : List ℕ) → rest ≡ input → now ≡ held → RunsStream size input rest told held now Memory
rtmp_memory None input rest told held now same kept = no_memory BeginsSilently ShowsMessage ListsOpen input rest (WroteAll told held now) (WroteSome told held now) (Err pass.Memory) refl (nothing_written told held now kept)
rtmp_memory (Some n) input rest told held now same kept = no_memory (Restarts n) (Repeats n) EndsSilently input rest (WroteAll told held now) (WroteSome told held now) (Err pass.Memory) refl (nothing_written told held now kept)

-- Each input has one verdict, but for reads and writes that fail and for memory.

-- the work on a chunk stream always has a form
stream_has_form : (size : Option ℕ) (input rest : List ℕ) (told : Type 0) (held now : List ℕ) (l : Lack) → RunsStream size input rest told held now (NoForm l) → ⊥
stream_has_form None input rest told held now l r = r
stream_has_form (Some n) input rest told held now l r = r

stream_fits : (size : Option ℕ) (input rest : List ℕ) (told : Type 0) (held now : List ℕ) → RunsStream size input rest told held now LongData → ⊥
stream_fits None input rest told held now r = r
stream_fits (Some n) input rest told held now r = r

module _ (j : FlvJob) (input rest : List ℕ) (told : Type 0) (held now : List ℕ) where
  flv_accepted : (x : MediaEnd) → Runs j input rest told held now x → IsAcceptedBy (on_file j) input
      → (status_of x ≡ 0) ⊎ (status_of x ≡ 3) ⊎ (status_of x ≡ 4) ⊎ (status_of x ≡ 5) ⊎ ((status_of x ≡ 1) × HasRefusedValue (on_file j) input)
  flv_accepted Done r a = inl refl
  flv_accepted (Refused f) r a = inr (inr (inr (inr (refl, accepted_stops input rest told held now j f r a))))
  flv_accepted ReadFault r a = inr (inl refl)
  flv_accepted WriteFault r a = inr (inr (inl refl))
  flv_accepted (NoForm l) r a = absurd (accepted_has_form input rest told held now j l r a)
  flv_accepted LongData r a = absurd (accepted_fits input rest told held now j r a)
  flv_accepted Memory r a = inr (inr (inr (inl refl)))

  flv_refused : (x : MediaEnd) → Runs j input rest told held now x → (reason : Reason) (at : ℕ) → IsRefusedBy (on_file j) input reason at
      → (status_of x ≡ 1) ⊎ (status_of x ≡ 3) ⊎ (status_of x ≡ 4) ⊎ (status_of x ≡ 5)
  flv_refused Done r reason at q = absurd (refused_not_done input rest told held now j reason at r q)
  flv_refused (Refused f) r reason at q = inl refl
  flv_refused ReadFault r reason at q = inr (inl refl)
  flv_refused WriteFault r reason at q = inr (inr (inl refl))
  flv_refused (NoForm l) r reason at q = absurd (refused_has_form input rest told held now j reason at l r q)
  flv_refused LongData r reason at q = absurd (refused_fits input rest told held now j reason at r q)
  flv_refused Memory r reason at q = inr (inr (inr refl))

  flv_lacking : (x : MediaEnd) → Runs j input rest told held now x → HasFormlessValue (on_file j) input → (status_of x ≡ 3) ⊎ (status_of x ≡ 5) ⊎ (status_of x ≡ 7)
  flv_lacking Done r k = absurd (formless_not_done input rest told held now j r k)
  flv_lacking (Refused f) r k = absurd (formless_not_refused input rest told held now j f r k)
  flv_lacking ReadFault r k = inl refl
  flv_lacking WriteFault r k = absurd (formless_not_written input rest told held now j r k)
  flv_lacking (NoForm l) r k = inr (inr refl)
  flv_lacking LongData r k = inr (inr refl)
  flv_lacking Memory r k = inr (inl refl)

  pub flv_by_verdict : (x : MediaEnd) → Runs j input rest told held now x → IsByVerdict (on_file j) input (status_of x)
  flv_by_verdict x r = record { accepted = flv_accepted x r; not_accepted = flv_refused x r; lacking = flv_lacking x r }

module _ (size : Option ℕ) (input rest : List ℕ) (told : Type 0) (held now : List ℕ) where
  rtmp_accepted : (x : MediaEnd) → RunsStream size input rest told held now x → IsAcceptedBy on_stream input
      → (status_of x ≡ 0) ⊎ (status_of x ≡ 3) ⊎ (status_of x ≡ 4) ⊎ (status_of x ≡ 5) ⊎ ((status_of x ≡ 1) × HasRefusedValue on_stream input)
  rtmp_accepted Done r a = inl refl
  rtmp_accepted (Refused f) r (ms, us, s, le) = absurd (stream_not_refused input rest told held now size ms us f s le r)
  rtmp_accepted ReadFault r a = inr (inl refl)
  rtmp_accepted WriteFault r a = inr (inr (inl refl))
  rtmp_accepted (NoForm l) r a = absurd (stream_has_form size input rest told held now l r)
  rtmp_accepted LongData r a = absurd (stream_fits size input rest told held now r)
  rtmp_accepted Memory r a = inr (inr (inr (inl refl)))

  rtmp_refused : (x : MediaEnd) → RunsStream size input rest told held now x → (reason : Reason) (at : ℕ) → IsRefusedBy on_stream input reason at
      → (status_of x ≡ 1) ⊎ (status_of x ≡ 3) ⊎ (status_of x ≡ 4) ⊎ (status_of x ≡ 5)
  rtmp_refused Done r reason at q = absurd (stream_not_done input rest told held now size reason at q r)
  rtmp_refused (Refused f) r reason at q = inl refl
  rtmp_refused ReadFault r reason at q = inr (inl refl)
  rtmp_refused WriteFault r reason at q = inr (inr (inl refl))
  rtmp_refused (NoForm l) r reason at q = absurd (stream_has_form size input rest told held now l r)
  rtmp_refused LongData r reason at q = absurd (stream_fits size input rest told held now r)
  rtmp_refused Memory r reason at q = inr (inr (inr refl))

  pub rtmp_by_verdict : (x : MediaEnd) → RunsStream size input rest told held now x → IsByVerdict on_stream input (status_of x)
  rtmp_by_verdict x r = record { accepted = rtmp_accepted x r; not_accepted = rtmp_refused x r; lacking = λ k. absurd k }
