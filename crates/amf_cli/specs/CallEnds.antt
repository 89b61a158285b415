-- How a run with `call` ends: by what the input is, by the answer to the call, and by what is written for it.
use Rattle.std.specs.Prelude.{◌≡◌, ℕ, ◌⊎◌, false, List, [], ◌++◌}
use Rattle.amf_wire.specs.Style.{canonical}
use Rattle.amf_io.specs.declared.ends.Refusal.{Refusal}
use Rattle.amf_io.specs.declared.source.Source.{Ghosts as SourceMembers}
use Rattle.amf_io.specs.declared.sink.Sink.{Ghosts as SinkMembers}
use Rattle.amf_io.specs.declared.dial.Dial.{Ghosts as DialMembers}
use Rattle.amf_io.specs.declared.link.Link.{Ghosts as LinkMembers}
use Rattle.amf_graph.specs.Graph.{Graph}
use Rattle.amf_graph.specs.Rooted.{content}
use Rattle.amf3_spelling.specs.Spells3.{Spelled3}
use Rattle.amf_client.specs.Asking.{are_arguments}
use Rattle.amf_dial_and_call.specs.declared.answer.CallAnswer.{CallAnswer}
use Rattle.amf_dial_and_call.specs.declared.answer.CallAnswer.TheVariants.{Graph as Given, Fault, BadReply, LinkFault, NotArgs, NoSpelling, Memory}
use Rattle.amf_dial_and_call.specs.Called.{Calls, Counts, IsNumbered}
use Rattle.amf_commands.specs.declared.command.CallOptions.{CallOptions}
use Rattle.amf_commands.specs.declared.format.Format.TheVariants.{Amf3}
use Rattle.amf_commands.specs.declared.run_end.RunEnd.TheVariants.{WriteFault, ReadFault, NoMemory}
use Rattle.amf_commands.specs.Content.{value}
use Rattle.amf_commands.specs.Input.{one, IsRefusedAs}
use Rattle.amf_commands.specs.Lines.{line_of, no_form_line, refusal_line}
use Rattle.amf_commands.specs.Run.{IsInputOf, IsHidden}
use Rattle.amf_io.specs.Written.{WritesFront}
use Rattle.amf_cli.specs.Lines.{fault_line, bad_reply_line, link_fault_line, not_arguments_line}
use Rattle.amf_cli.specs.Told.{Tells}

-- By the meanings of the output and of the error line.
module _ {O E : Type 0} (o : SinkMembers O) (e : SinkMembers E) (out out_now : O) (err err_now : E) where
  -- nothing is asked of the output, and this is the error line
  abbrev pub Only : List ℕ → Type 0
  Only line = (out_now ≡ out) × Tells e err err_now line

  -- 5: memory ran out
  abbrev pub Starves : ℕ → Type 0
  Starves status = (status ≡ 5) × Only (line_of NoMemory)

  -- 0: the output has taken the canonical spelling of the result, and there is no error line
  pub record Prints (g : Graph) (status : ℕ) : Type 0 where
    pub done : status ≡ 0
    pub bytes : List ℕ
    pub spelled : Spelled3 canonical g bytes
    pub written : o.tells out_now → o.held out_now ≡ o.held out ++ bytes
    pub quiet : err_now ≡ err

  -- 4: a write or a flush of it failed, and the output has taken a front of it
  pub record PrintsFront (g : Graph) (status : ℕ) : Type 0 where
    pub failed : status ≡ 4
    pub bytes : List ℕ
    pub spelled : Spelled3 canonical g bytes
    pub written : o.tells out_now → WritesFront (o.held out) (o.held out_now) bytes
    pub line : Tells e err err_now (line_of WriteFault)

  -- what is written for an answer, and the status
  abbrev pub AnswerEnds : CallAnswer → ℕ → Type 0
  AnswerEnds (Given g) status = Prints (content g) status ⊎ PrintsFront (content g) status ⊎ Starves status
  AnswerEnds (Fault code text) status = ((status ≡ 8) × Only (fault_line code text)) ⊎ Starves status
  AnswerEnds (BadReply number) status = (status ≡ 9) × Only (bad_reply_line number)
  AnswerEnds LinkFault status = (status ≡ 10) × Only link_fault_line
  AnswerEnds NotArgs status = (status ≡ 7) × Only not_arguments_line
  AnswerEnds (NoSpelling l) status = (status ≡ 7) × Only (no_form_line 0 l)
  AnswerEnds Memory status = Starves status

-- By the meanings of the streams, of the dial and of its links, by the port and the target, and the status. Of each stream and of the
-- dial there is what it was before and what it is now.
module _ {I O E D L : Type 0} (i : SourceMembers I) (o : SinkMembers O) (e : SinkMembers E) (d : DialMembers D L) (l : LinkMembers L)
    (options : CallOptions) (status : ℕ) (input input_now : I) (out out_now : O) (err err_now : E) (dial dial_now : D) where
  -- what the call with these arguments came to: a graph that is no array without names is told so, unless memory ran out
  pub record CameTo (args : Graph) (answer : CallAnswer) : Type 0 where
    pub calls : Calls d l options.port dial dial_now options.target args answer
    pub arguments : are_arguments args ≡ false → (answer ≡ NotArgs) ⊎ (answer ≡ Memory)

  -- the input spells a graph in AMF 3, and was read to its end; the call with this graph, and so with any that it spells, came to this
  -- answer, and this was written for it
  pub record Answered : Type 0 where
    pub args : Graph
    pub spelled : i.tells input → IsInputOf Amf3 (value args) (i.left input)
    pub all_read : i.tells input → i.left input_now ≡ []
    pub answer : CallAnswer
    pub came_to : CameTo args answer
    pub every : i.tells input → (g : Graph) → IsInputOf Amf3 (value g) (i.left input) → CameTo g answer
    pub counts : Counts (d.faults dial) (d.faults dial_now) answer
    pub numbered : IsNumbered answer
    pub ends : AnswerEnds o e out out_now err err_now answer status

  -- 1: the input is refused, with this verdict
  pub record Refuses : Type 0 where
    pub refused : status ≡ 1
    pub refusal : Refusal
    pub verdict : i.tells input → IsRefusedAs (one Amf3) (i.left input) refusal.reason refusal.at
    pub line : Only o e out out_now err err_now (refusal_line refusal)

  -- 3: a read of it failed, and what came before decides nothing
  pub record Hides : Type 0 where
    pub failed : status ≡ 3
    pub hidden : i.tells input → IsHidden (one Amf3) (i.left input) (i.left input_now)
    pub line : Only o e out out_now err err_now (line_of ReadFault)

  -- the input is judged before anything is dialled, and then the call is made
  pub data CallEnds : Type 0 where
    unread : dial_now ≡ dial → Refuses ⊎ Hides ⊎ Starves o e out out_now err err_now status → CallEnds
    answered : Answered → CallEnds
