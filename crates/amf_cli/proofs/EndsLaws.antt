-- How a run ends, and what it promises then of its streams.
use Rattle.std.proofs.Common.{◌≡◌, ◌≢◌, ◌⊎◌, inl, inr, ℕ, ◌+◌, ◌≤◌, List, ◌++◌, length, IfOk, Option, Result, Ok, Err, refl, sym, ap, ◌∙◌, subst, arith}
use Rattle.amf_io.specs.Outside.{Rose, Steady}
use Rattle.amf_io.specs.declared.source.Source.{Ghosts as SourceMembers}
use Rattle.amf_io.specs.declared.sink.Sink.{Ghosts as SinkMembers}
use Rattle.amf_graph.specs.declared.lack.Lack.{Lack}
use Rattle.amf_commands.specs.declared.command.Command.{Command}
use Rattle.amf_commands.specs.declared.command.ServeOptions.{ServeOptions}
use Rattle.amf_commands.specs.declared.command.Task.{Task}
use Rattle.amf_commands.specs.declared.command.Task.TheVariants.{Output, Bytes, Serve, Flv, Rtmp, Call, Listen}
use Rattle.amf_text.specs.Scalars.{read_number}
use Rattle.amf_text.specs.Refused.{text_limit}
use Rattle.amf_text_laws.proofs.TextBounds.{text_bounds}
use Rattle.amf_bytes.specs.declared.ending.BytesEnd.TheVariants as text
use Rattle.amf_bytes.specs.TextRuns.{CountsTextReads, CountsTextWrites, IsTextUntouched, RunsTextOver}
use Rattle.flv_meta.specs.declared.flv_job.FlvJob.{FlvJob}
use Rattle.amf_media.specs.declared.ending.MediaEnd.{MediaEnd}
use Rattle.amf_media.specs.declared.ending.MediaEnd.TheVariants as media
use Rattle.flv_meta.specs.declared.flv_job.FlvJob.TheVariants as job
use Rattle.amf_media.specs.FlvRuns.{Runs as RunsFlv, MayEnd, IsFileEnd, IsUntouched as IsMediaUntouched, CountsReads as CountsMediaReads}
use Rattle.amf_media.specs.RtmpRuns.{RunsStream}
use Rattle.amf_media.specs.Verdicts.{Media, on_file, on_stream}
use Rattle.amf_media.specs.Written.{CountsWrites as CountsMediaWrites}
use Rattle.amf_commands.specs.declared.run_end.RunEnd.{RunEnd}
use Rattle.amf_commands.specs.declared.run_end.RunEnd.TheVariants.{Refused, Usage, ReadFault, WriteFault, NoMemory, FrontFault, NoForm}
use Rattle.amf_commands.specs.Commands.{AsksFor, HasReading, IsDialling, IsListening, IsMedia, IsServing, Reads, ReadsBytes, ReadsFlv, ReadsRtmp, ReadsServe}
use Rattle.amf_commands.specs.Input.{most}
use Rattle.amf_commands.specs.Lines.{status_of, line_of}
use Rattle.amf_commands.specs.Run.{TakesInput, MayLack, CountsReads, CountsWrites, IsReading, IsUntouched, RunsTo}
use Rattle.amf_commands.proofs.Asked.{bytes_is_no_dialling, bytes_is_no_media, bytes_is_no_output, bytes_is_no_serving, dialling_is_no_media, flv_is_no_output, flv_is_no_rtmp, flv_is_no_serving, listener_is_no_media, listener_is_no_output, media_is_no_output, media_is_no_serving, not_both, not_serving, one_job, one_reading, one_size, rtmp_is_no_output, rtmp_is_no_serving}
use Rattle.amf_commands.proofs.Spelled.{made_again, made_not_lacking}
use Rattle.amf_commands.proofs.Statuses.{refused_says, hidden_says, front_says, no_form_says, accepted_says, not_accepted_says, formed_says, lacking_says, done_not_refused, line_says, usage_end, form_status, reading_says, reads_steady, writes_steady, never_0, within_7, memory_end}
use Rattle.amf_bytes.proofs.FirstFaults.{first_faults}
use Rattle.amf_bytes.proofs.ThereAndBackRows.{text_there_and_back}
use Rattle.amf_cli.specs.BytesEnds.{EndsBytes, text_line, text_status}
use Rattle.amf_cli.specs.MediaEnds.{EndsJob, IsByVerdict, status_of as media_status_of, error_line}
use Rattle.amf_cli.specs.CallEnds.{Starves}
use Rattle.amf_cli.specs.Ends.{Ends}
use Rattle.amf_cli.specs.Told.{Tells}
use Rattle.amf_cli.proofs.MediaLaws.{flv_by_verdict, flv_memory, rtmp_by_verdict, rtmp_memory}
use Rattle.amf_cli.proofs.TextLaws.{TextEnd, text_within_7, text_not_2, text_not_6, text_reads_steady, text_writes_steady, text_reads_rose, text_writes_rose, text_kept, not_0_or_4, five_is_none, accepted_text, refused_text, formed_text, lacking_text}
use Rattle.amf_cli.specs.ServeEnds.{End, IsServeEnd, status_for, ReportsEnd}

abbrev Ended : RunEnd → End
Ended x = Err x

abbrev Whole : Unit {0} → End
Whole x = Ok x

-- What a status says of an end.

reads_rose : (x : RunEnd) (before now : ℕ) → status_of x ≡ 3 → CountsReads before now (Ended x) → Rose before now
reads_rose (Refused f) before now h c = absurd (omega arith)
reads_rose Usage before now h c = absurd (omega arith)
reads_rose ReadFault before now h c = c.1
reads_rose WriteFault before now h c = absurd (omega arith)
reads_rose NoMemory before now h c = absurd (omega arith)
reads_rose FrontFault before now h c = absurd (omega arith)
reads_rose (NoForm v l) before now h c = absurd (omega arith)

writes_rose : (x : RunEnd) (before now : ℕ) → status_of x ≡ 4 → CountsWrites before now (Ended x) → Rose before now
writes_rose (Refused f) before now h c = absurd (omega arith)
writes_rose Usage before now h c = absurd (omega arith)
writes_rose ReadFault before now h c = absurd (omega arith)
writes_rose WriteFault before now h c = c.1
writes_rose NoMemory before now h c = absurd (omega arith)
writes_rose FrontFault before now h c = absurd (omega arith)
writes_rose (NoForm v l) before now h c = absurd (omega arith)

below_10 : (n : ℕ) → n ≤ 7 → n ≤ 10
below_10 n h = omega (arith, h)

not_above : {P : Type 0} (n : ℕ) → n ≤ 7 → 8 ≤ n → P
not_above n h k = absurd (omega (arith, h, k))

none_of : (n : ℕ) → n ≢ 1 → n ≢ 2 → n ≢ 3 → (7 ≤ n → ⊥) → (n ≡ 1) ⊎ (n ≡ 2) ⊎ (n ≡ 3) ⊎ (7 ≤ n) → ⊥
none_of n a b c d h = elim h [ inl x ↦ a x | inr x ↦ elim x [ inl y ↦ b y | inr y ↦ elim y [ inl z ↦ c z | inr z ↦ d z ] ] ]

neither : (n : ℕ) → n ≢ 1 → n ≢ 3 → (n ≡ 1) ⊎ (n ≡ 3) → ⊥
neither n a b h = elim h [ inl x ↦ a x | inr x ↦ b x ]

kept_with : {S : Type 0} (a b : S) (x : RunEnd) → (status_of x ≡ 1) ⊎ (status_of x ≡ 2) ⊎ (status_of x ≡ 3) ⊎ (7 ≤ status_of x) → IsUntouched a b (Ended x) → b ≡ a
kept_with a b (Refused f) h u = u
kept_with a b Usage h u = u
kept_with a b ReadFault h u = u
kept_with a b WriteFault h u = absurd (none_of 4 (λ z. absurd (omega arith)) (λ z. absurd (omega arith)) (λ z. absurd (omega arith)) (λ z. absurd (omega arith)) h)
kept_with a b NoMemory h u = absurd (none_of 5 (λ z. absurd (omega arith)) (λ z. absurd (omega arith)) (λ z. absurd (omega arith)) (λ z. absurd (omega arith)) h)
kept_with a b FrontFault h u = absurd (none_of 6 (λ z. absurd (omega arith)) (λ z. absurd (omega arith)) (λ z. absurd (omega arith)) (λ z. absurd (omega arith)) h)
kept_with a b (NoForm v l) h u = u

serve_not_usage : (x : RunEnd) → IsServeEnd (Ended x) → status_of x ≡ 2 → ⊥
serve_not_usage (Refused f) s h = s
serve_not_usage Usage s h = s
serve_not_usage ReadFault s h = s
serve_not_usage WriteFault s h = omega arith
serve_not_usage NoMemory s h = omega arith
serve_not_usage FrontFault s h = omega arith
serve_not_usage (NoForm v l) s h = s

serve_not_read : (x : RunEnd) → IsServeEnd (Ended x) → status_of x ≡ 3 → ⊥
serve_not_read (Refused f) s h = s
serve_not_read Usage s h = s
serve_not_read ReadFault s h = s
serve_not_read WriteFault s h = omega arith
serve_not_read NoMemory s h = omega arith
serve_not_read FrontFault s h = omega arith
serve_not_read (NoForm v l) s h = s

serve_writes : (x : RunEnd) → IsServeEnd (Ended x) → (status_of x ≡ 1) ⊎ (status_of x ≡ 2) ⊎ (status_of x ≡ 3) ⊎ (7 ≤ status_of x) → ⊥
serve_writes (Refused f) s h = s
serve_writes Usage s h = s
serve_writes ReadFault s h = s
serve_writes WriteFault s h = none_of 4 (λ z. absurd (omega arith)) (λ z. absurd (omega arith)) (λ z. absurd (omega arith)) (λ z. absurd (omega arith)) h
serve_writes NoMemory s h = none_of 5 (λ z. absurd (omega arith)) (λ z. absurd (omega arith)) (λ z. absurd (omega arith)) (λ z. absurd (omega arith)) h
serve_writes FrontFault s h = none_of 6 (λ z. absurd (omega arith)) (λ z. absurd (omega arith)) (λ z. absurd (omega arith)) (λ z. absurd (omega arith)) h
serve_writes (NoForm v l) s h = s

-- Of the end of a job on media.

media_within_7 : (x : MediaEnd) → media_status_of x ≤ 7
media_within_7 media.Done = omega arith
media_within_7 (media.Refused f) = omega arith
media_within_7 media.ReadFault = omega arith
media_within_7 media.WriteFault = omega arith
media_within_7 (media.NoForm l) = omega arith
media_within_7 media.LongData = omega arith
media_within_7 media.Memory = omega arith

media_not_2 : (x : MediaEnd) → media_status_of x ≡ 2 → ⊥
media_not_2 media.Done h = omega arith
media_not_2 (media.Refused f) h = omega arith
media_not_2 media.ReadFault h = omega arith
media_not_2 media.WriteFault h = omega arith
media_not_2 (media.NoForm l) h = omega arith
media_not_2 media.LongData h = omega arith
media_not_2 media.Memory h = omega arith

media_not_6 : (x : MediaEnd) → media_status_of x ≡ 6 → ⊥
media_not_6 media.Done h = omega arith
media_not_6 (media.Refused f) h = omega arith
media_not_6 media.ReadFault h = omega arith
media_not_6 media.WriteFault h = omega arith
media_not_6 (media.NoForm l) h = omega arith
media_not_6 media.LongData h = omega arith
media_not_6 media.Memory h = omega arith

media_reads_steady : (x : MediaEnd) (before now : ℕ) → media_status_of x ≢ 3 → media_status_of x ≢ 4 → CountsMediaReads before now x → now ≡ before
media_reads_steady media.Done before now three four c = c
media_reads_steady (media.Refused f) before now three four c = c
media_reads_steady media.ReadFault before now three four c = absurd (three refl)
media_reads_steady media.WriteFault before now three four c = absurd (four refl)
media_reads_steady (media.NoForm l) before now three four c = c
media_reads_steady media.LongData before now three four c = c
media_reads_steady media.Memory before now three four c = c

media_writes_steady : (x : MediaEnd) (before now : ℕ) → media_status_of x ≢ 4 → media_status_of x ≢ 5 → CountsMediaWrites before now x → now ≡ before
media_writes_steady media.Done before now four five c = c
media_writes_steady (media.Refused f) before now four five c = c
media_writes_steady media.ReadFault before now four five c = c
media_writes_steady media.WriteFault before now four five c = absurd (four refl)
media_writes_steady (media.NoForm l) before now four five c = c
media_writes_steady media.LongData before now four five c = c
media_writes_steady media.Memory before now four five c = c

media_reads_rose : (x : MediaEnd) (before now : ℕ) → media_status_of x ≡ 3 → CountsMediaReads before now x → Rose before now
media_reads_rose media.Done before now h c = absurd (omega arith)
media_reads_rose (media.Refused f) before now h c = absurd (omega arith)
media_reads_rose media.ReadFault before now h c = c.1
media_reads_rose media.WriteFault before now h c = absurd (omega arith)
media_reads_rose (media.NoForm l) before now h c = absurd (omega arith)
media_reads_rose media.LongData before now h c = absurd (omega arith)
media_reads_rose media.Memory before now h c = absurd (omega arith)

media_writes_rose : (x : MediaEnd) (before now : ℕ) → media_status_of x ≡ 4 → CountsMediaWrites before now x → Rose before now
media_writes_rose media.Done before now h c = absurd (omega arith)
media_writes_rose (media.Refused f) before now h c = absurd (omega arith)
media_writes_rose media.ReadFault before now h c = absurd (omega arith)
media_writes_rose media.WriteFault before now h c = c.1
media_writes_rose (media.NoForm l) before now h c = absurd (omega arith)
media_writes_rose media.LongData before now h c = absurd (omega arith)
media_writes_rose media.Memory before now h c = absurd (omega arith)

-- memory may be wanting to each job
may_memory : (j : FlvJob) → MayEnd j media.Memory
may_memory job.Show = tt
may_memory job.Drop = tt
may_memory job.Set = tt

-- where there is no form, nothing was asked of the output
media_kept : {S : Type 0} (a b : S) (x : MediaEnd) → IsMediaUntouched a b x → media_status_of x ≡ 7 → b ≡ a
media_kept a b media.Done u h = absurd (omega arith)
media_kept a b (media.Refused f) u h = absurd (omega arith)
media_kept a b media.ReadFault u h = absurd (omega arith)
media_kept a b media.WriteFault u h = absurd (omega arith)
media_kept a b (media.NoForm l) u h = u
media_kept a b media.LongData u h = u
media_kept a b media.Memory u h = absurd (omega arith)

file_end_not_7 : (x : MediaEnd) → IsFileEnd x → media_status_of x ≡ 7 → ⊥
file_end_not_7 media.Done m h = omega arith
file_end_not_7 (media.Refused f) m h = omega arith
file_end_not_7 media.ReadFault m h = omega arith
file_end_not_7 media.WriteFault m h = omega arith
file_end_not_7 (media.NoForm l) m h = m
file_end_not_7 media.LongData m h = m
file_end_not_7 media.Memory m h = omega arith

media_read : (words : List (List ℕ)) → IsMedia words → HasReading words
media_read words (inl m) = (Flv m.0, m.1)
media_read words (inr m) = (Rtmp m.0, m.1)

-- what serves links, or listens, is none of these
no_links : (words : List (List ℕ)) (c : Command) → Reads words c → IsServing words ⊎ IsListening words → ⊥
no_links words c w (inl s) = not_serving words c w s
no_links words c w (inr s) = listener_is_no_output words c w s

no_media_links : (words : List (List ℕ)) → IsServing words ⊎ IsListening words → IsMedia words → ⊥
no_media_links words (inl s) m = media_is_no_serving words s m
no_media_links words (inr s) m = listener_is_no_media words m s

no_text_links : (words : List (List ℕ)) → IsServing words ⊎ IsListening words → ReadsBytes words → ⊥
no_text_links words (inl s) b = bytes_is_no_serving words s b
no_text_links words (inr s) b = bytes_is_no_dialling words (inr s) b

within_limit : (n : ℕ) → n ≤ n + (most + 1)
within_limit n = omega arith

within_text : (n : ℕ) → n ≤ n + (text_limit + 1)
within_text n = omega arith

within_media : (n : ℕ) → n ≤ n + (4294967295 + 1)
within_media n = omega arith

-- By the streams before and now.
module _ {I O E : Type 0} (i : SourceMembers I) (o : SinkMembers O) (e : SinkMembers E) (words : List (List ℕ)) (input rest : I) (out wrote : O) (err told : E) where
  abbrev Promises : ℕ → Type 0
  Promises status = Ends i o e words status input rest out wrote err told

  same_taken : rest ≡ input → length (i.left input) ≤ length (i.left rest) + (most + 1)
  same_taken same = subst (λ (r : I). length (i.left input) ≤ length (i.left r) + (most + 1)) (sym same) (within_limit (length (i.left input)))

  -- the words are invalid
  usage_ends : (HasReading words → ⊥) → rest ≡ input → wrote ≡ out → e.faults err ≤ e.faults told → (e.tells told → Steady (e.faults err) (e.faults told) → e.held told ≡ e.held err ++ line_of Usage) → Promises 2
  usage_ends none same kept counted line = record {
    statuses = omega arith;
    of_peer = λ h. absurd (omega arith);
    usage = λ two. none;
    no_reading = λ n. inl refl;
    read = λ two five. absurd (two refl);
    unread = λ n. same;
    done = λ c w zero t. absurd (none (Output c, w));
    again = λ c w zero t u own. absurd (none (Output c, w));
    no_read_fault = λ n m. ap i.faults same;
    no_write_fault = λ n m. ap o.faults kept;
    counted = counted;
    refused = λ c w one t. absurd (none (Output c, w));
    read_fault = λ h. absurd (omega arith);
    hidden = λ c w three t. absurd (none (Output c, w));
    write_fault = λ h. absurd (omega arith);
    front = λ c w four t. absurd (none (Output c, w));
    accepted = λ c w t a. absurd (none (Output c, w));
    not_accepted = λ c w t reason at q. absurd (none (Output c, w));
    no_form = λ c w seven t. absurd (none (Output c, w));
    alone = λ c w seven. absurd (none (Output c, w));
    formed = λ c w t bytes m. absurd (none (Output c, w));
    lacking = λ c w t number l k. absurd (none (Output c, w));
    untaken = λ c w n. same;
    reading = λ c w h. absurd (none (Output c, w));
    links = λ s. same;
    untouched = λ h m k. kept;
    unwritten = λ five n m k. kept;
    taken = λ t m b. same_taken same;
    bytes = λ w. absurd (none (Bytes, w));
    flv = λ job w. absurd (none (Flv job, w));
    rtmp = λ size w. absurd (none (Rtmp size, w));
    line = λ t s m n b. line_says Usage _ _ (line t s);
  }

  abbrev Does : Type 1
  Does = List ℕ → List ℕ → Type 0 → List ℕ → List ℕ → MediaEnd → Type 0

  abbrev Job : Does → (MediaEnd → Type 0) → Media → ℕ → Type 0
  Job Of May m status = EndsJob i o e Of May m status input rest out wrote err told

  -- memory was wanting before the job began
  memory_job : (Of : Does) (May : MediaEnd → Type 0) (m : Media) → IsByVerdict m (i.left input) 5 → Of (i.left input) (i.left rest) (o.tells wrote) (o.held out) (o.held wrote) media.Memory → May media.Memory → rest ≡ input → wrote ≡ out
      → (e.tells told → Steady (e.faults err) (e.faults told) → e.held told ≡ e.held err ++ line_of NoMemory) → Job Of May m 5
  unfolding error_line
  memory_job Of May m verdict runs may same kept line = record {
    end = media.Memory;
    its_status = refl;
    may = may;
    untouched = λ seven. absurd (omega (arith, seven));
    runs = λ t. runs;
    taken = λ t. subst (λ (r : I). length (i.left input) ≤ length (i.left r) + (4294967295 + 1)) (sym same) (within_media (length (i.left input)));
    reads = ap i.faults same;
    writes = ap o.faults kept;
    line = line;
    by_verdict = λ t. verdict;
  }

  memory_bytes : rest ≡ input → wrote ≡ out → (e.tells told → Steady (e.faults err) (e.faults told) → e.held told ≡ e.held err ++ line_of NoMemory) → EndsBytes i o e 5 input rest out wrote err told
  unfolding text_line
  memory_bytes same kept line = record {
    end = Err text.Memory;
    its_status = refl;
    runs = λ t. tt;
    taken = λ t. subst (λ (r : I). length (i.left input) ≤ length (i.left r) + (text_limit + 1)) (sym same) (within_text (length (i.left input)));
    untouched = kept;
    reads = ap i.faults same;
    writes = ap o.faults kept;
    line = line;
    accepted = λ t d a. inr (inr (inr (inl refl)));
    not_accepted = λ t reason at q. inr (inr refl);
    formed = λ t bytes m. inr (inr (inr refl));
    lacking = λ t number l k. inr (inl refl);
    back = λ t. text_there_and_back (i.left input);
    first = λ t reason at n m q. first_faults (i.left input) reason at n m q;
    weighs = λ t d a. text_bounds.together read_number (i.left input) d a.means;
  }

  -- memory was wanting before anything was asked of a stream
  pub memory_ends : rest ≡ input → wrote ≡ out → e.faults err ≤ e.faults told → (e.tells told → Steady (e.faults err) (e.faults told) → e.held told ≡ e.held err ++ line_of NoMemory) → Promises 5
  memory_ends same kept counted line = record {
    statuses = omega arith;
    of_peer = λ h. absurd (omega arith);
    usage = λ two. absurd (omega arith);
    no_reading = λ n. inr refl;
    read = λ two five. absurd (five refl);
    unread = λ n. same;
    done = λ c w zero t. absurd (omega arith);
    again = λ c w zero t u own. absurd (omega arith);
    no_read_fault = λ n m. ap i.faults same;
    no_write_fault = λ n m. ap o.faults kept;
    counted = counted;
    refused = λ c w one t. absurd (omega arith);
    read_fault = λ h. absurd (omega arith);
    hidden = λ c w three t. absurd (omega arith);
    write_fault = λ h. absurd (omega arith);
    front = λ c w four t. absurd (omega arith);
    accepted = λ c w t a. inr (inr (inr (inl refl)));
    not_accepted = λ c w t reason at q. inr (inr refl);
    no_form = λ c w seven t. absurd (omega arith);
    alone = λ c w seven. absurd (omega arith);
    formed = λ c w t bytes m. inr (inr (inr refl));
    lacking = λ c w t number l k. inr (inl refl);
    untaken = λ c w n. same;
    reading = λ c w h. absurd (neither 5 (λ z. absurd (omega arith)) (λ z. absurd (omega arith)) h);
    links = λ s. same;
    untouched = λ h m k. kept;
    unwritten = λ five n m k. kept;
    taken = λ t m b. same_taken same;
    bytes = λ w. memory_bytes same kept line;
    flv = λ job w. let runs = flv_memory job (i.left input) (i.left rest) (o.tells wrote) (o.held out) (o.held wrote) (ap i.left same) (ap o.held kept) in
        memory_job (RunsFlv job) (MayEnd job) (on_file job) (flv_by_verdict job (i.left input) (i.left rest) (o.tells wrote) (o.held out) (o.held wrote) media.Memory runs) runs (may_memory job) same kept line;
    rtmp = λ size w. let runs = rtmp_memory size (i.left input) (i.left rest) (o.tells wrote) (o.held out) (o.held wrote) (ap i.left same) (ap o.held kept) in
        memory_job (RunsStream size) IsFileEnd on_stream (rtmp_by_verdict size (i.left input) (i.left rest) (o.tells wrote) (o.held out) (o.held wrote) media.Memory runs) runs tt same kept line;
    line = λ t s m n b. line_says NoMemory _ _ (line t s);
  }

  -- A command was done.
  module _ (c : Command) (w : Reads words c) where
    abbrev Runs : End → Type 0
    Runs r = (TakesInput c → i.tells input) → RunsTo c (i.left input) (i.left rest) (o.tells wrote) (o.held out) (o.held wrote) r

    runs_of : (r : End) → Runs r → (d : Command) → Reads words d → (TakesInput d → i.tells input) → RunsTo d (i.left input) (i.left rest) (o.tells wrote) (o.held out) (o.held wrote) r
    runs_of r runs d v = subst (λ (k : Command). (TakesInput k → i.tells input) → RunsTo k (i.left input) (i.left rest) (o.tells wrote) (o.held out) (o.held wrote) r) (one_reading words c d w v) runs

    untaken_of : ((TakesInput c → ⊥) → rest ≡ input) → (d : Command) → Reads words d → (TakesInput d → ⊥) → rest ≡ input
    untaken_of untaken d v none = untaken (subst (λ (k : Command). TakesInput k → ⊥) (sym (one_reading words c d w v)) none)

    whole_ends : (x : Unit {0}) → Runs (Ok x) → ((TakesInput c → ⊥) → rest ≡ input) → (i.tells input → length (i.left input) ≤ length (i.left rest) + (most + 1)) → CountsReads (i.faults input) (i.faults rest) (Whole x) → CountsWrites (o.faults out) (o.faults wrote) (Whole x) → e.faults err ≤ e.faults told → (e.tells told → Steady (e.faults err) (e.faults told) → e.held told ≡ e.held err) → Promises 0
    whole_ends x runs untaken taken reads writes counted line = record {
      statuses = omega arith;
      of_peer = λ h. absurd (omega arith);
      usage = λ two. absurd (omega arith);
      no_reading = λ none. absurd (none (Output c, w));
      read = λ two five. (Output c, w);
      unread = λ none. absurd (none (Output c, w));
      done = λ d v zero t. runs_of (Ok x) runs d v t;
      again = λ d v zero t u own. let r = runs_of (Ok x) runs d v t in r.written u ∙ ap (λ b. o.held out ++ b) (made_again d (i.left input) r.bytes r.made own);
      no_read_fault = λ n m. reads;
      no_write_fault = λ n m. writes;
      counted = counted;
      refused = λ d v one t. absurd (omega arith);
      read_fault = λ h. absurd (omega arith);
      hidden = λ d v three t. absurd (omega arith);
      write_fault = λ h. absurd (omega arith);
      front = λ d v four t. absurd (omega arith);
      accepted = λ d v t a. inl refl;
      not_accepted = λ d v t reason at q. absurd (done_not_refused d _ _ _ _ _ (runs_of (Ok x) runs d v t) reason at q);
      no_form = λ d v seven t. absurd (omega arith);
      alone = λ d v seven. absurd (omega arith);
      formed = λ d v t bytes m. inl refl;
      lacking = λ d v t number l k. let r = runs_of (Ok x) runs d v t in absurd (made_not_lacking d _ r.bytes number l r.made k);
      untaken = untaken_of untaken;
      reading = λ d v h. absurd (neither 0 (λ z. absurd (omega arith)) (λ z. absurd (omega arith)) h);
      links = λ s. absurd (no_links words c w s);
      untouched = λ h m k. absurd (none_of 0 (λ z. absurd (omega arith)) (λ z. absurd (omega arith)) (λ z. absurd (omega arith)) (λ z. absurd (omega arith)) h);
      unwritten = λ five n m k. absurd (omega arith);
      taken = λ t m b. taken t;
      bytes = λ v. absurd (bytes_is_no_output words c w v);
      flv = λ job v. absurd (flv_is_no_output words c job w v);
      rtmp = λ size v. absurd (rtmp_is_no_output words c size w v);
      line = λ t s m n b. line t s;
    }

    failed_ends : (x : RunEnd) → Ended x ≢ Err Usage → ((number : ℕ) (l : Lack) → Ended x ≡ Err (NoForm number l) → MayLack c) → IsReading c (Ended x) → ((TakesInput c → ⊥) → rest ≡ input) → Runs (Ended x) → (i.tells input → length (i.left input) ≤ length (i.left rest) + (most + 1)) → IsUntouched out wrote (Ended x) → (Ended x ≡ Err NoMemory → wrote ≡ out) → CountsReads (i.faults input) (i.faults rest) (Ended x) → CountsWrites (o.faults out) (o.faults wrote) (Ended x) → e.faults err ≤ e.faults told → (e.tells told → Steady (e.faults err) (e.faults told) → e.held told ≡ e.held err ++ line_of x) → Promises (status_of x)
    failed_ends x usage alone reading untaken runs taken untouched unwritten reads writes counted line = record {
      statuses = below_10 (status_of x) (within_7 x);
      of_peer = λ h. not_above (status_of x) (within_7 x) h;
      usage = λ two. absurd (usage (usage_end x two));
      no_reading = λ none. absurd (none (Output c, w));
      read = λ two five. (Output c, w);
      unread = λ none. absurd (none (Output c, w));
      done = λ d v zero t. absurd (never_0 x zero);
      again = λ d v zero t u own. absurd (never_0 x zero);
      no_read_fault = λ n m. reads_steady x _ _ reads n;
      no_write_fault = λ n m. writes_steady x _ _ writes n m;
      counted = counted;
      refused = λ d v one t. refused_says d x (i.left input) (i.left rest) (o.tells wrote) (e.tells told × Steady (e.faults err) (e.faults told)) (o.held out) (o.held wrote) (e.held err) (e.held told) one (runs_of (Ended x) runs d v t) (λ s. line s.0 s.1);
      read_fault = λ h. reads_rose x _ _ h reads;
      hidden = λ d v three t. hidden_says d x _ _ _ _ _ three (runs_of (Ended x) runs d v t);
      write_fault = λ h. writes_rose x _ _ h writes;
      front = λ d v four t. front_says d x _ _ _ _ _ four (runs_of (Ended x) runs d v t);
      accepted = λ d v t a. accepted_says d x _ _ _ _ _ usage (runs_of (Ended x) runs d v t) a;
      not_accepted = λ d v t reason at q. not_accepted_says d x _ _ _ _ _ usage (runs_of (Ended x) runs d v t) reason at q;
      no_form = λ d v seven t. no_form_says d x (i.left input) (i.left rest) (o.tells wrote) (e.tells told × Steady (e.faults err) (e.faults told)) (o.held out) (o.held wrote) (e.held err) (e.held told) seven (runs_of (Ended x) runs d v t) (λ s. line s.0 s.1);
      alone = λ d v seven. let f = form_status x seven in subst MayLack (one_reading words c d w v) (alone f.0 f.1 f.2);
      formed = λ d v t bytes m. formed_says d x _ _ _ _ _ bytes usage (runs_of (Ended x) runs d v t) m;
      lacking = λ d v t number l k. lacking_says d x _ _ _ _ _ number l usage (runs_of (Ended x) runs d v t) k;
      untaken = untaken_of untaken;
      reading = λ d v h. reading_says d x h (subst (λ (k : Command). IsReading k (Ended x)) (one_reading words c d w v) reading);
      links = λ s. absurd (no_links words c w s);
      untouched = λ h m k. kept_with out wrote x h untouched;
      unwritten = λ five n m k. unwritten (memory_end x five);
      taken = λ t m b. taken t;
      bytes = λ v. absurd (bytes_is_no_output words c w v);
      flv = λ job v. absurd (flv_is_no_output words c job w v);
      rtmp = λ size v. absurd (rtmp_is_no_output words c size w v);
      line = λ t s m n b. line_says x _ _ (line t s);
    }

    -- a command was done, and ended so
    by_end : (r : End) → r ≢ Err Usage → ((number : ℕ) (l : Lack) → r ≡ Err (NoForm number l) → MayLack c) → IsReading c r → ((TakesInput c → ⊥) → rest ≡ input) → Runs r → (i.tells input → length (i.left input) ≤ length (i.left rest) + (most + 1)) → IsUntouched out wrote r → (r ≡ Err NoMemory → wrote ≡ out) → CountsReads (i.faults input) (i.faults rest) r → CountsWrites (o.faults out) (o.faults wrote) r → e.faults err ≤ e.faults told → (e.tells told → Steady (e.faults err) (e.faults told) → ReportsEnd r (e.held err) (e.held told)) → Promises (status_for r)
    by_end (Ok x) usage alone reading untaken runs taken untouched unwritten reads writes counted line = whole_ends x runs untaken taken reads writes counted line
    by_end (Err x) usage alone reading untaken runs taken untouched unwritten reads writes counted line = failed_ends x usage alone reading untaken runs taken untouched unwritten reads writes counted line

  -- links were served, or not
  served_ends : (s : ServeOptions) (w : ReadsServe words s) (r : End) → IsServeEnd r → rest ≡ input → CountsWrites (o.faults out) (o.faults wrote) r → e.faults err ≤ e.faults told → (e.tells told → Steady (e.faults err) (e.faults told) → ReportsEnd r (e.held err) (e.held told)) → Promises (status_for r)
  served_ends s w (Ok x) ends same writes counted line = record {
    statuses = omega arith;
    of_peer = λ h. absurd (omega arith);
    usage = λ two. absurd (omega arith);
    no_reading = λ none. absurd (none (Serve s, w));
    read = λ two five. (Serve s, w);
    unread = λ none. same;
    done = λ c v zero t. absurd (not_both words c s v w);
    again = λ c v zero t u own. absurd (not_both words c s v w);
    no_read_fault = λ n m. ap i.faults same;
    no_write_fault = λ n m. writes;
    counted = counted;
    refused = λ c v one t. absurd (not_both words c s v w);
    read_fault = λ h. absurd (omega arith);
    hidden = λ c v three t. absurd (not_both words c s v w);
    write_fault = λ h. absurd (omega arith);
    front = λ c v four t. absurd (not_both words c s v w);
    accepted = λ c v t a. absurd (not_both words c s v w);
    not_accepted = λ c v t reason at q. absurd (not_both words c s v w);
    no_form = λ c v seven t. absurd (not_both words c s v w);
    alone = λ c v seven. absurd (not_both words c s v w);
    formed = λ c v t bytes m. absurd (not_both words c s v w);
    lacking = λ c v t number l k. absurd (not_both words c s v w);
    untaken = λ c v n. same;
    reading = λ c v h. absurd (not_both words c s v w);
    links = λ z. same;
    untouched = λ h m k. absurd (none_of 0 (λ z. absurd (omega arith)) (λ z. absurd (omega arith)) (λ z. absurd (omega arith)) (λ z. absurd (omega arith)) h);
    unwritten = λ five n m k. absurd (n (s, w));
    taken = λ t m b. same_taken same;
    bytes = λ v. absurd (bytes_is_no_serving words (s, w) v);
    flv = λ job v. absurd (flv_is_no_serving words s job w v);
    rtmp = λ size v. absurd (rtmp_is_no_serving words s size w v);
    line = λ t z m n b. line t z;
  }
  served_ends s w (Err x) ends same writes counted line = record {
    statuses = below_10 (status_of x) (within_7 x);
    of_peer = λ h. not_above (status_of x) (within_7 x) h;
    usage = λ two. absurd (serve_not_usage x ends two);
    no_reading = λ none. absurd (none (Serve s, w));
    read = λ two five. (Serve s, w);
    unread = λ none. same;
    done = λ c v zero t. absurd (not_both words c s v w);
    again = λ c v zero t u own. absurd (not_both words c s v w);
    no_read_fault = λ n m. ap i.faults same;
    no_write_fault = λ n m. writes_steady x _ _ writes n m;
    counted = counted;
    refused = λ c v one t. absurd (not_both words c s v w);
    read_fault = λ h. absurd (serve_not_read x ends h);
    hidden = λ c v three t. absurd (not_both words c s v w);
    write_fault = λ h. writes_rose x _ _ h writes;
    front = λ c v four t. absurd (not_both words c s v w);
    accepted = λ c v t a. absurd (not_both words c s v w);
    not_accepted = λ c v t reason at q. absurd (not_both words c s v w);
    no_form = λ c v seven t. absurd (not_both words c s v w);
    alone = λ c v seven. absurd (not_both words c s v w);
    formed = λ c v t bytes m. absurd (not_both words c s v w);
    lacking = λ c v t number l k. absurd (not_both words c s v w);
    untaken = λ c v n. same;
    reading = λ c v h. absurd (not_both words c s v w);
    links = λ z. same;
    untouched = λ h m k. absurd (serve_writes x ends h);
    unwritten = λ five n m k. absurd (n (s, w));
    taken = λ t m b. same_taken same;
    bytes = λ v. absurd (bytes_is_no_serving words (s, w) v);
    flv = λ job v. absurd (flv_is_no_serving words s job w v);
    rtmp = λ size v. absurd (rtmp_is_no_serving words s size w v);
    line = λ t z m n b. line_says x _ _ (line t z);
  }

  -- a job on media was done, or not
  job_ends : (m : IsMedia words) (x : MediaEnd) → CountsMediaReads (i.faults input) (i.faults rest) x → CountsMediaWrites (o.faults out) (o.faults wrote) x → e.faults err ≤ e.faults told → ((job : FlvJob) → ReadsFlv words job → Job (RunsFlv job) (MayEnd job) (on_file job) (media_status_of x)) → ((size : Option ℕ) → ReadsRtmp words size → Job (RunsStream size) IsFileEnd on_stream (media_status_of x)) → Promises (media_status_of x)
  job_ends m x reads writes counted flv rtmp = record {
    statuses = below_10 (media_status_of x) (media_within_7 x);
    of_peer = λ h. not_above (media_status_of x) (media_within_7 x) h;
    usage = λ two. absurd (media_not_2 x two);
    no_reading = λ none. absurd (none (media_read words m));
    read = λ two five. media_read words m;
    unread = λ none. absurd (none (media_read words m));
    done = λ c v zero t. absurd (media_is_no_output words c v m);
    again = λ c v zero t u own. absurd (media_is_no_output words c v m);
    no_read_fault = λ n four. media_reads_steady x _ _ n (λ s. four s m) reads;
    no_write_fault = λ n five. media_writes_steady x _ _ n five writes;
    counted = counted;
    refused = λ c v one t. absurd (media_is_no_output words c v m);
    read_fault = λ h. media_reads_rose x _ _ h reads;
    hidden = λ c v three t. absurd (media_is_no_output words c v m);
    write_fault = λ h. media_writes_rose x _ _ h writes;
    front = λ c v four t. absurd (media_is_no_output words c v m);
    accepted = λ c v t a. absurd (media_is_no_output words c v m);
    not_accepted = λ c v t reason at q. absurd (media_is_no_output words c v m);
    no_form = λ c v seven t. absurd (media_is_no_output words c v m);
    alone = λ c v seven. absurd (media_is_no_output words c v m);
    formed = λ c v t bytes k. absurd (media_is_no_output words c v m);
    lacking = λ c v t number l k. absurd (media_is_no_output words c v m);
    untaken = λ c v n. absurd (media_is_no_output words c v m);
    reading = λ c v h. absurd (media_is_no_output words c v m);
    links = λ s. absurd (no_media_links words s m);
    untouched = λ h n k. absurd (n m);
    unwritten = λ five s n k. absurd (n m);
    taken = λ t n b. absurd (n m);
    bytes = λ v. absurd (bytes_is_no_media words m v);
    flv = flv;
    rtmp = rtmp;
    line = λ t s n k b. absurd (n m);
  }

  -- By what the job says of itself, where the streams are these.
  module _ (x : MediaEnd) (status : ℕ) (is : status ≡ media_status_of x) (taken : i.tells input → length (i.left input) ≤ length (i.left rest) + (4294967295 + 1)) (reads : CountsMediaReads (i.faults input) (i.faults rest) x) (writes : CountsMediaWrites (o.faults out) (o.faults wrote) x) (counted : e.faults err ≤ e.faults told) (line : e.tells told → Steady (e.faults err) (e.faults told) → e.held told ≡ e.held err ++ error_line x) where
    job_of : (Of : Does) (May : MediaEnd → Type 0) (m : Media) → (i.tells input → Of (i.left input) (i.left rest) (o.tells wrote) (o.held out) (o.held wrote) x) → May x → (media_status_of x ≡ 7 → wrote ≡ out)
        → (Of (i.left input) (i.left rest) (o.tells wrote) (o.held out) (o.held wrote) x → IsByVerdict m (i.left input) (media_status_of x)) → Job Of May m (media_status_of x)
    job_of Of May m runs may untouched verdict = record { end = x; its_status = refl; may = may; untouched = untouched; runs = runs; taken = taken; reads = reads; writes = writes; line = line; by_verdict = λ t. verdict (runs t) }

    pub flv_ends : (job : FlvJob) (w : ReadsFlv words job) → (i.tells input → RunsFlv job (i.left input) (i.left rest) (o.tells wrote) (o.held out) (o.held wrote) x) → MayEnd job x → IsMediaUntouched out wrote x → Promises status
    flv_ends job w runs may untouched =
        let it : Job (RunsFlv job) (MayEnd job) (on_file job) (media_status_of x) = job_of (RunsFlv job) (MayEnd job) (on_file job) runs may (media_kept out wrote x untouched) (flv_by_verdict job (i.left input) (i.left rest) (o.tells wrote) (o.held out) (o.held wrote) x) in
        subst Promises (sym is) (job_ends (inl (job, w)) x reads writes counted (λ other v. subst (λ (j : FlvJob). Job (RunsFlv j) (MayEnd j) (on_file j) (media_status_of x)) (one_job words job other w v) it) (λ size v. absurd (flv_is_no_rtmp words job size w v)))

    pub rtmp_ends : (size : Option ℕ) (w : ReadsRtmp words size) → (i.tells input → RunsStream size (i.left input) (i.left rest) (o.tells wrote) (o.held out) (o.held wrote) x) → IsFileEnd x → Promises status
    rtmp_ends size w runs may =
        let it : Job (RunsStream size) IsFileEnd on_stream (media_status_of x) = job_of (RunsStream size) IsFileEnd on_stream runs may (λ seven. absurd (file_end_not_7 x may seven)) (rtmp_by_verdict size (i.left input) (i.left rest) (o.tells wrote) (o.held out) (o.held wrote) x) in
        subst Promises (sym is) (job_ends (inr (size, w)) x reads writes counted (λ job v. absurd (flv_is_no_rtmp words job size v w)) (λ other v. subst (λ (s : Option ℕ). Job (RunsStream s) IsFileEnd on_stream (media_status_of x)) (one_size words size other w v) it))

  -- bytes were made of a text, or not
  pub text_ends : (w : ReadsBytes words) (x : TextEnd) (status : ℕ) → status ≡ text_status x → (i.tells input → RunsTextOver i o input rest out wrote x) → (i.tells input → length (i.left input) ≤ length (i.left rest) + (text_limit + 1)) → IsTextUntouched out wrote x → CountsTextReads (i.faults input) (i.faults rest) x → CountsTextWrites (o.faults out) (o.faults wrote) x → e.faults err ≤ e.faults told → Tells e err told (text_line x) → Promises status
  text_ends w x status is runs taken kept reads writes counted line = subst Promises (sym is) (record {
    statuses = below_10 (text_status x) (text_within_7 x);
    of_peer = λ h. not_above (text_status x) (text_within_7 x) h;
    usage = λ two. absurd (text_not_2 x two);
    no_reading = λ none. absurd (none (Bytes, w));
    read = λ two five. (Bytes, w);
    unread = λ none. absurd (none (Bytes, w));
    done = λ c v zero t. absurd (bytes_is_no_output words c v w);
    again = λ c v zero t u own. absurd (bytes_is_no_output words c v w);
    no_read_fault = λ n four. text_reads_steady x _ _ n reads;
    no_write_fault = λ n five. text_writes_steady x _ _ n writes;
    counted = counted;
    refused = λ c v one t. absurd (bytes_is_no_output words c v w);
    read_fault = λ h. text_reads_rose x _ _ h reads;
    hidden = λ c v three t. absurd (bytes_is_no_output words c v w);
    write_fault = λ h. text_writes_rose x _ _ h writes;
    front = λ c v four t. absurd (bytes_is_no_output words c v w);
    accepted = λ c v t a. absurd (bytes_is_no_output words c v w);
    not_accepted = λ c v t reason at q. absurd (bytes_is_no_output words c v w);
    no_form = λ c v seven t. absurd (bytes_is_no_output words c v w);
    alone = λ c v seven. absurd (bytes_is_no_output words c v w);
    formed = λ c v t bytes m. absurd (bytes_is_no_output words c v w);
    lacking = λ c v t number l k. absurd (bytes_is_no_output words c v w);
    untaken = λ c v n. absurd (bytes_is_no_output words c v w);
    reading = λ c v h. absurd (bytes_is_no_output words c v w);
    links = λ s. absurd (no_text_links words s w);
    untouched = λ h m k. let n = not_0_or_4 (text_status x) h in text_kept out wrote x n.0 n.1 kept;
    unwritten = λ five n m k. let n = five_is_none (text_status x) five in text_kept out wrote x n.0 n.1 kept;
    taken = λ t m b. absurd (b w);
    bytes = λ v. record {
      end = x;
      its_status = refl;
      runs = runs;
      taken = taken;
      untouched = kept;
      reads = reads;
      writes = writes;
      line = line;
      accepted = λ t d a. accepted_text (i.left input) (i.left rest) (o.tells wrote) (o.held out) (o.held wrote) x d (runs t) a;
      not_accepted = λ t reason at q. refused_text (i.left input) (i.left rest) (o.tells wrote) (o.held out) (o.held wrote) x reason at (runs t) q;
      formed = λ t b m. formed_text (i.left input) (i.left rest) (o.tells wrote) (o.held out) (o.held wrote) x b (runs t) m;
      lacking = λ t number l k. lacking_text (i.left input) (i.left rest) (o.tells wrote) (o.held out) (o.held wrote) x number l (runs t) k;
      back = λ t. text_there_and_back (i.left input);
      first = λ t reason at n m q. first_faults (i.left input) reason at n m q;
      weighs = λ t d a. text_bounds.together read_number (i.left input) d a.means;
    };
    flv = λ job v. absurd (bytes_is_no_media words (inl (job, v)) w);
    rtmp = λ size v. absurd (bytes_is_no_media words (inr (size, v)) w);
    line = λ t s m n b. absurd (b w);
  })

  -- The same of a status that is that of the end.

  pub no_memory_ends : (status : ℕ) → status ≡ status_for (Err NoMemory) → rest ≡ input → wrote ≡ out → e.faults err ≤ e.faults told → (e.tells told → Steady (e.faults err) (e.faults told) → ReportsEnd (Err NoMemory) (e.held err) (e.held told)) → Promises status
  no_memory_ends status is same kept counted line = subst Promises (sym is) (memory_ends same kept counted line)

  pub command_ends : (c : Command) (w : Reads words c) (r : End) (status : ℕ) → status ≡ status_for r → r ≢ Err Usage → ((number : ℕ) (l : Lack) → r ≡ Err (NoForm number l) → MayLack c) → IsReading c r → ((TakesInput c → ⊥) → rest ≡ input) → ((TakesInput c → i.tells input) → RunsTo c (i.left input) (i.left rest) (o.tells wrote) (o.held out) (o.held wrote) r) → (i.tells input → length (i.left input) ≤ length (i.left rest) + (most + 1)) → IsUntouched out wrote r → (r ≡ Err NoMemory → wrote ≡ out) → CountsReads (i.faults input) (i.faults rest) r → CountsWrites (o.faults out) (o.faults wrote) r → e.faults err ≤ e.faults told → (e.tells told → Steady (e.faults err) (e.faults told) → ReportsEnd r (e.held err) (e.held told)) → Promises status
  command_ends c w r status is usage alone reading untaken runs taken untouched unwritten reads writes counted line = subst Promises (sym is) (by_end c w r usage alone reading untaken runs taken untouched unwritten reads writes counted line)

  pub serving_ends : (s : ServeOptions) (w : ReadsServe words s) (r : End) (status : ℕ) → status ≡ status_for r → IsServeEnd r → rest ≡ input → CountsWrites (o.faults out) (o.faults wrote) r → e.faults err ≤ e.faults told → (e.tells told → Steady (e.faults err) (e.faults told) → ReportsEnd r (e.held err) (e.held told)) → Promises status
  serving_ends s w r status is ends same writes counted line = subst Promises (sym is) (served_ends s w r ends same writes counted line)

  -- the words ask for nothing, or it was not found out what
  pub no_task_ends : (x : RunEnd) (status : ℕ) → ((x ≡ Usage) × (HasReading words → ⊥)) ⊎ (x ≡ NoMemory) → status ≡ status_of x → rest ≡ input → wrote ≡ out → e.faults err ≤ e.faults told → (e.tells told → Steady (e.faults err) (e.faults told) → e.held told ≡ e.held err ++ line_of x) → Promises status
  no_task_ends x status why is same kept counted line = elim why [
    | inl u ↦ subst Promises (sym (is ∙ ap status_of u.0)) (usage_ends u.1 same kept counted (λ t s. line t s ∙ ap (λ y. e.held err ++ line_of y) u.0))
    | inr m ↦ subst Promises (sym (is ∙ ap status_of m)) (memory_ends same kept counted (λ t s. line t s ∙ ap (λ y. e.held err ++ line_of y) m))
  ]

-- no command of data fails for the front

pub not_front_fault : (r : End) (status : ℕ) → r ≢ Err FrontFault → status ≡ status_for r → status ≢ 6
not_front_fault (Ok x) status other is six = absurd (omega (arith, is, six))
not_front_fault (Err (Refused f)) status other is six = absurd (omega (arith, is, six))
not_front_fault (Err Usage) status other is six = absurd (omega (arith, is, six))
not_front_fault (Err ReadFault) status other is six = absurd (omega (arith, is, six))
not_front_fault (Err WriteFault) status other is six = absurd (omega (arith, is, six))
not_front_fault (Err NoMemory) status other is six = absurd (omega (arith, is, six))
not_front_fault (Err FrontFault) status other is six = absurd (other refl)
not_front_fault (Err (NoForm v l)) status other is six = absurd (omega (arith, is, six))

-- memory was wanting
starves_with : {O E : Type 0} (o : SinkMembers O) (e : SinkMembers E) (out : O) (err told : E) (x : RunEnd) (status : ℕ) → x ≡ NoMemory → status ≡ status_of x → Tells e err told (line_of x) → Starves o e out out err told status
starves_with o e out err told x status is same line = (
  same ∙ subst (λ (y : RunEnd). status_of x ≡ status_of y) is refl,
  (refl, subst (λ (y : RunEnd). Tells e err told (line_of y)) is line),
)

linking_read : (words : List (List ℕ)) → IsServing words ⊎ IsDialling words → HasReading words
linking_read words (inl s) = (Serve s.0, s.1)
linking_read words (inr (inl s)) = (Call s.0, s.1)
linking_read words (inr (inr s)) = (Listen s.0, s.1)

-- where nothing was found out, links, a call or a listener may have been asked for only where memory was wanting
pub task_starves : {O E : Type 0} (o : SinkMembers O) (e : SinkMembers E) (words : List (List ℕ)) (out : O) (err told : E) (x : RunEnd) (status : ℕ) → ((x ≡ Usage) × (HasReading words → ⊥)) ⊎ (x ≡ NoMemory) → status ≡ status_of x → Tells e err told (line_of x) → IsServing words ⊎ IsDialling words → Starves o e out out err told status
task_starves o e words out err told x status why is line asked = elim why [
  | inl u ↦ absurd (u.1 (linking_read words asked))
  | inr m ↦ starves_with o e out err told x status m is line
]

pub task_not_6 : (words : List (List ℕ)) (x : RunEnd) (status : ℕ) → ((x ≡ Usage) × (HasReading words → ⊥)) ⊎ (x ≡ NoMemory) → status ≡ status_of x → status ≢ 6
task_not_6 words x status why is six = elim why [
  | inl u ↦ absurd (not_front_fault (Err Usage) status (λ z. cc) (is ∙ ap status_of u.0) six)
  | inr m ↦ absurd (not_front_fault (Err NoMemory) status (λ z. cc) (is ∙ ap status_of m) six)
]

-- what was asked for
pub was_asked_for : (words : List (List ℕ)) (r : Result Task RunEnd) (t u : Task) → r ≡ Ok t → t ≡ u → IfOk r (AsksFor words) → AsksFor words u
was_asked_for words r t u e f h = subst (AsksFor words) f (subst (λ (x : Result Task RunEnd). IfOk x (AsksFor words)) e h)

-- memory was wanting before anything was asked
pub memory_ends_with : {I O E : Type 0} (i : SourceMembers I) (o : SinkMembers O) (e : SinkMembers E) (words : List (List ℕ)) (input : I) (out : O) (err told : E) (status : ℕ) → status ≡ status_of NoMemory → e.faults err ≤ e.faults told → (e.tells told → Steady (e.faults err) (e.faults told) → e.held told ≡ e.held err ++ line_of NoMemory) → Ends i o e words status input input out out err told
memory_ends_with i o e words input out err told status is counted line = no_task_ends i o e words input input out out err told NoMemory status (inr refl) is refl refl counted line

pub five_not_six : (status : ℕ) → status ≡ 5 → status ≡ 6 → ⊥
five_not_six status five six = omega (arith, five, six)

-- a job on media fails for no front, serves no links and dials no gateway
pub media_data : (words : List (List ℕ)) (x : MediaEnd) (status : ℕ) (P : Type 0) → IsMedia words → status ≡ media_status_of x → (IsServing words ⊎ IsDialling words → P) × (status ≢ 6)
media_data words x status P m is = (λ s. absurd (elim s [ inl a ↦ media_is_no_serving words a m | inr b ↦ dialling_is_no_media words m b ]), λ six. media_not_6 x (sym is ∙ six))

-- and so does `bytes`
pub text_data : (words : List (List ℕ)) (x : TextEnd) (status : ℕ) (P : Type 0) → ReadsBytes words → status ≡ text_status x → (IsServing words ⊎ IsDialling words → P) × (status ≢ 6)
text_data words x status P w is = (λ s. absurd (elim s [ inl a ↦ bytes_is_no_serving words a w | inr b ↦ bytes_is_no_dialling words b w ]), λ six. text_not_6 x (sym is ∙ six))
