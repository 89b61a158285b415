-- What a run promises of `bytes`.
use Rattle.std.specs.Prelude.{◌≡◌, ◌≢◌, ℕ, ◌+◌, ◌*◌, ◌≤◌, ◌⊎◌, List, [], ◌++◌, length, codes, decimal, Result, Ok, Err}
use Rattle.amf_io.specs.declared.source.Source.{Ghosts as SourceMembers}
use Rattle.amf_io.specs.declared.sink.Sink.{Ghosts as SinkMembers}
use Rattle.amf_text.specs.declared.reason.TextReason.{TextReason}
use Rattle.amf_text.specs.declared.reason.TextReason.TheVariants as text
use Rattle.amf_graph.specs.declared.lack.Lack.{Lack}
use Rattle.amf_graph.specs.Graph.{Graph}
use Rattle.amf_text.specs.Scalars.{read_number}
use Rattle.amf_text.specs.Documents.{Document}
use Rattle.amf_text.specs.Refused.{IsTextAccepted, IsTextRefused, text_limit}
use Rattle.amf_text_laws.specs.TextBounds.{graphs_weight}
use Rattle.amf_text_read.specs.declared.verdict.Refusal.{Refusal}
use Rattle.amf_commands.specs.declared.run_end.RunEnd.TheVariants as run
use Rattle.amf_commands.specs.Lines.{line_feed, line_of}
use Rattle.amf_bytes.specs.declared.ending.BytesEnd.{BytesEnd}
use Rattle.amf_bytes.specs.declared.ending.BytesEnd.TheVariants.{Refused, ReadFault, WriteFault, NoForm, Memory}
use Rattle.amf_bytes.specs.Meanings.{IsTextBytes, LacksBytes}
use Rattle.amf_bytes.specs.FirstFaults.{IsFirstFaultAt}
use Rattle.amf_bytes.specs.ThereAndBack.{GoesBack}
use Rattle.amf_bytes.specs.TextRuns.{RunsTextOver, CountsTextReads, CountsTextWrites, IsTextUntouched}
use Rattle.amf_cli.specs.Told.{Tells}

-- a reason is written by its name
abbrev pub reason_name : TextReason → List ℕ
reason_name text.Truncated = codes "Truncated"
reason_name text.NotUtf8 = codes "NotUtf8"
reason_name text.NotJson = codes "NotJson"
reason_name text.BadKey = codes "BadKey"
reason_name text.BadShape = codes "BadShape"
reason_name text.BadNumber = codes "BadNumber"
reason_name text.BadHex = codes "BadHex"
reason_name text.BadText = codes "BadText"
reason_name text.SameLabel = codes "SameLabel"
reason_name text.LongText = codes "LongText"
reason_name text.TooMany = codes "TooMany"
reason_name text.Trailing = codes "Trailing"
reason_name text.TooLarge = codes "TooLarge"
reason_name text.NoLabel = codes "NoLabel"

-- the line of a refused text: the reason, the byte from 0, its line, and the byte in that line, both from 1
abbrev pub text_refusal_line : Refusal → List ℕ
text_refusal_line f = codes "amf: refused " ++ reason_name f.reason ++ codes " at " ++ decimal f.at ++ codes " line " ++ decimal f.line ++ codes " column " ++ decimal f.column ++ line_feed

-- the status of an end
abbrev pub text_status : {T : Type 0} → Result T BytesEnd → ℕ
text_status (Ok x) = 0
text_status (Err (Refused f)) = 1
text_status (Err ReadFault) = 3
text_status (Err WriteFault) = 4
text_status (Err Memory) = 5
text_status (Err (NoForm number l)) = 7

-- the error line of an end: but for that of a refusal they are those of any command, and there is none where the bytes were written
unfoldable pub text_line : {T : Type 0} → Result T BytesEnd → List ℕ
text_line (Ok x) = []
text_line (Err (Refused f)) = text_refusal_line f
text_line (Err ReadFault) = line_of run.ReadFault
text_line (Err WriteFault) = line_of run.WriteFault
text_line (Err Memory) = line_of run.NoMemory
text_line (Err (NoForm number l)) = line_of (run.NoForm number l)

-- By the meanings of the three streams, what an end says of the bytes of input and output, and the status. Of each stream there is
-- what it was before and what it is now.
pub record EndsBytes {I O E : Type 0} (i : SourceMembers I) (o : SinkMembers O) (e : SinkMembers E) (status : ℕ)
    (input input_now : I) (out out_now : O) (err err_now : E) : Type 0 where
  pub end : Result (Unit {0}) BytesEnd
  pub its_status : status ≡ text_status end
  pub runs : i.tells input → RunsTextOver i o input input_now out out_now end
  -- no byte of the input past 268,435,456 is taken but the one that shows that there is more
  pub taken : i.tells input → length (i.left input) ≤ length (i.left input_now) + (text_limit + 1)
  -- with 1, 3, 5 and 7 nothing is asked of the output
  pub untouched : IsTextUntouched out out_now end
  pub reads : CountsTextReads (i.faults input) (i.faults input_now) end
  pub writes : CountsTextWrites (o.faults out) (o.faults out_now) end
  pub line : Tells e err err_now (text_line end)
  -- what is accepted is not refused, and what is refused is not accepted; where what the text means has a spelling, or a lack, the status is that of this
  pub accepted : i.tells input → (d : Document Graph) → IsTextAccepted read_number (i.left input) d → (status ≡ 0) ⊎ (status ≡ 3) ⊎ (status ≡ 4) ⊎ (status ≡ 5) ⊎ (status ≡ 7)
  pub not_accepted : i.tells input → (reason : TextReason) (at : ℕ) → IsTextRefused read_number (i.left input) reason at → (status ≡ 1) ⊎ (status ≡ 3) ⊎ (status ≡ 5)
  pub formed : i.tells input → (bytes : List ℕ) → IsTextBytes (i.left input) bytes → (status ≡ 0) ⊎ (status ≡ 3) ⊎ (status ≡ 4) ⊎ (status ≡ 5)
  pub lacking : i.tells input → (number : ℕ) (l : Lack) → LacksBytes (i.left input) number l → (status ≡ 3) ⊎ (status ≡ 5) ⊎ (status ≡ 7)
  -- there and back: a text that `json` gives of some input has the bytes, or the lack, that `canon` gives of that input; and `json` gives of the bytes that are written a text that has them again
  pub back : i.tells input → GoesBack (i.left input)
  -- a refusal names the first fault: what stands before it begins a text that means something; a text that is too long is refused for that, and a label that leads nowhere where all else is right
  pub first : i.tells input → (reason : TextReason) (at : ℕ) → reason ≢ text.TooLarge → reason ≢ text.NoLabel → IsTextRefused read_number (i.left input) reason at → IsFirstFaultAt (i.left input) at
  -- the graphs that a text means weigh together at most four times its bytes: 1 for each node, each class of an object and each value, the bytes of texts, names and contents, and 1 more for each name of a value
  pub weighs : i.tells input → (d : Document Graph) → IsTextAccepted read_number (i.left input) d → graphs_weight d ≤ 4 * length (i.left input)
