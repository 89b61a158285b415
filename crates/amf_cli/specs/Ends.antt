-- What a run of the program promises of its words, its input, its output and its error line, by its status.
use Rattle.std.specs.Prelude.{◌≡◌, ◌≢◌, ℕ, ◌+◌, ◌≤◌, ◌⊎◌, List, ◌++◌, length, Option}
use Rattle.amf_io.specs.Outside.{Rose, Steady}
use Rattle.amf_io.specs.declared.reason.Reason.{Reason}
use Rattle.amf_io.specs.declared.source.Source.{Ghosts as SourceMembers}
use Rattle.amf_io.specs.declared.sink.Sink.{Ghosts as SinkMembers}
use Rattle.amf_graph.specs.declared.lack.Lack.{Lack}
use Rattle.amf_commands.specs.declared.command.Command.{Command}
use Rattle.flv_meta.specs.declared.flv_job.FlvJob.{FlvJob}
use Rattle.amf_media.specs.FlvRuns.{Runs, MayEnd, IsFileEnd}
use Rattle.amf_media.specs.RtmpRuns.{RunsStream}
use Rattle.amf_media.specs.Verdicts.{on_file, on_stream}
use Rattle.amf_commands.specs.Commands.{Reads, ReadsBytes, ReadsFlv, ReadsRtmp, IsDialling, IsListening, IsMedia, IsServing, HasReading}
use Rattle.amf_commands.specs.Input.{most, input_of, IsAcceptedAs, IsRefusedAs}
use Rattle.amf_cli.specs.BytesEnds.{EndsBytes}
use Rattle.amf_cli.specs.MediaEnds.{EndsJob}
use Rattle.amf_commands.specs.Run.{TakesInput, Makes, Lacks, MayLack, IsOutputOf, WritesAll, WritesSome, IsRefusedWith, IsHidden, HasNoForm, Reports}

-- By the meanings of the three streams, the words and the status. Of each stream there is what it was before and what it is now. What is said of bytes holds where the input tells them, or the command takes none.
pub record Ends {I O E : Type 0} (i : SourceMembers I) (o : SinkMembers O) (e : SinkMembers E) (words : List (List ℕ)) (status : ℕ) (input input_now : I) (out out_now : O) (err err_now : E) : Type 0 where
  pub statuses : status ≤ 10
  -- from 8 on it comes only of a call, or of a listener
  pub of_peer : 8 ≤ status → IsDialling words
  -- 2 comes exactly where the words are invalid, unless memory ran out; and where they are invalid, nothing is asked of the input
  pub usage : status ≡ 2 → HasReading words → ⊥
  pub no_reading : (HasReading words → ⊥) → (status ≡ 2) ⊎ (status ≡ 5)
  pub read : status ≢ 2 → status ≢ 5 → HasReading words
  pub unread : (HasReading words → ⊥) → input_now ≡ input
  -- 0: the input, where there is one, was read to its end, the output was written whole, and it holds of whatever the input spells
  pub done : (c : Command) → Reads words c → status ≡ 0 → (TakesInput c → i.tells input) → WritesAll c (i.left input) (i.left input_now) (o.tells out_now) (o.held out) (o.held out_now)
  -- output that is read again gives itself
  pub again : (c : Command) → Reads words c → status ≡ 0 → (TakesInput c → i.tells input) → o.tells out_now → IsOutputOf c (i.left input) → o.held out_now ≡ o.held out ++ i.left input
  -- but for 3 the count of the input stays, and but for 4 and 5 that of the output; that of the error line never falls. A job on media writes what it read before a read failed, and then this may fail too
  pub no_read_fault : status ≢ 3 → (status ≡ 4 → IsMedia words → ⊥) → i.faults input_now ≡ i.faults input
  pub no_write_fault : status ≢ 4 → status ≢ 5 → o.faults out_now ≡ o.faults out
  pub counted : e.faults err ≤ e.faults err_now
  -- 1: the verdict, with its reason and place on the error line
  pub refused : (c : Command) → Reads words c → status ≡ 1 → (TakesInput c → i.tells input) → IsRefusedWith c (i.left input) (e.tells err_now × Steady (e.faults err) (e.faults err_now)) (e.held err) (e.held err_now)
  -- 3 and 4 come only where a count rose, and 3 only where what came before decides nothing
  pub read_fault : status ≡ 3 → Rose (i.faults input) (i.faults input_now)
  pub hidden : (c : Command) → Reads words c → status ≡ 3 → (TakesInput c → i.tells input) → IsHidden (input_of c) (i.left input) (i.left input_now)
  pub write_fault : status ≡ 4 → Rose (o.faults out) (o.faults out_now)
  pub front : (c : Command) → Reads words c → status ≡ 4 → (TakesInput c → i.tells input) → WritesSome c (i.left input) (i.left input_now) (o.tells out_now) (o.held out) (o.held out_now)
  -- what is accepted is not refused, and what is refused is not accepted
  pub accepted : (c : Command) → Reads words c → (TakesInput c → i.tells input) → IsAcceptedAs (input_of c) (i.left input)
      → (status ≡ 0) ⊎ (status ≡ 3) ⊎ (status ≡ 4) ⊎ (status ≡ 5) ⊎ (status ≡ 7)
  pub not_accepted : (c : Command) → Reads words c → (TakesInput c → i.tells input) → (reason : Reason) (at : ℕ) → IsRefusedAs (input_of c) (i.left input) reason at
      → (status ≡ 1) ⊎ (status ≡ 3) ⊎ (status ≡ 5)
  -- 7: the input is accepted, and whatever it spells has this first value without a spelling, with this first lack; it comes only of commands that may lack an output, and where the input has one, or a lack, the status is that of this
  pub no_form : (c : Command) → Reads words c → status ≡ 7 → (TakesInput c → i.tells input) → HasNoForm c (i.left input) (i.left input_now) (e.tells err_now × Steady (e.faults err) (e.faults err_now)) (e.held err) (e.held err_now)
  pub alone : (c : Command) → Reads words c → status ≡ 7 → MayLack c
  pub formed : (c : Command) → Reads words c → (TakesInput c → i.tells input) → (bytes : List ℕ) → Makes c (i.left input) bytes
      → (status ≡ 0) ⊎ (status ≡ 3) ⊎ (status ≡ 4) ⊎ (status ≡ 5)
  pub lacking : (c : Command) → Reads words c → (TakesInput c → i.tells input) → (number : ℕ) (l : Lack) → Lacks c (i.left input) number l
      → (status ≡ 3) ⊎ (status ≡ 5) ⊎ (status ≡ 7)
  -- a command without an input leaves it as it is, and has no status that comes of one; and so do `serve` and `listen`
  pub untaken : (c : Command) → Reads words c → (TakesInput c → ⊥) → input_now ≡ input
  pub reading : (c : Command) → Reads words c → (status ≡ 1) ⊎ (status ≡ 3) → TakesInput c
  pub links : IsServing words ⊎ IsListening words → input_now ≡ input
  -- with 1, 2, 3 and from 7 on nothing is asked of the output, and but for `serve` not with 5 either; of a job on media, and of a listener, this stands with it
  pub untouched : (status ≡ 1) ⊎ (status ≡ 2) ⊎ (status ≡ 3) ⊎ (7 ≤ status) → (IsMedia words → ⊥) → (IsListening words → ⊥) → out_now ≡ out
  pub unwritten : status ≡ 5 → (IsServing words → ⊥) → (IsMedia words → ⊥) → (IsListening words → ⊥) → out_now ≡ out
  -- no byte of the input past the most is taken but the one that shows that there is more; a job on media, and `bytes`, have their own limits
  pub taken : i.tells input → (IsMedia words → ⊥) → (ReadsBytes words → ⊥) → length (i.left input) ≤ length (i.left input_now) + (most + 1)
  -- `bytes` ends as it says of itself
  pub bytes : ReadsBytes words → EndsBytes i o e status input input_now out out_now err err_now
  -- a job on an FLV file, or on a chunk stream, ends as it says of itself
  pub flv : (job : FlvJob) → ReadsFlv words job → EndsJob i o e (Runs job) (MayEnd job) (on_file job) status input input_now out out_now err err_now
  pub rtmp : (size : Option ℕ) → ReadsRtmp words size → EndsJob i o e (RunsStream size) IsFileEnd on_stream status input input_now out out_now err err_now
  -- the error line is that of the status; those of `bytes`, of a job on media, of a call and of a listener stand with them
  pub line : e.tells err_now → Steady (e.faults err) (e.faults err_now) → (IsMedia words → ⊥) → (IsDialling words → ⊥) → (ReadsBytes words → ⊥) → Reports status (e.held err) (e.held err_now)
