-- How a run with `listen` ends: by the session of the listener, and by what is written for its end.
use Rattle.std.specs.Prelude.{◌≡◌, ℕ, ◌⊎◌, List}
use Rattle.amf_io.specs.declared.sink.Sink.{Ghosts as SinkMembers}
use Rattle.amf_io.specs.declared.dial.Dial.{Ghosts as DialMembers}
use Rattle.amf_io.specs.declared.link.Link.{Ghosts as LinkMembers}
use Rattle.amf_graph.specs.Graph.{Graph}
use Rattle.amf_poll_session.specs.declared.ends.ListenEnd.{ListenEnd}
use Rattle.amf_poll_session.specs.declared.ends.ListenEnd.TheVariants.{Done, Fault, BadReply, LinkFault, WriteFault, Memory}
use Rattle.amf_poll_session.specs.Sessions.{Turn, listen}
use Rattle.amf_poll_session.specs.Laws.{IsSession}
use Rattle.amf_poll_session.specs.Listened.{Listened, EndsAs, Wrote, IsNumbered}
use Rattle.amf_commands.specs.declared.command.ListenOptions.{ListenOptions}
use Rattle.amf_commands.specs.declared.run_end.RunEnd.TheVariants.{WriteFault as output_fault, NoMemory}
use Rattle.amf_commands.specs.Lines.{line_of}
use Rattle.amf_cli.specs.CallEnds.{Starves}
use Rattle.amf_cli.specs.Lines.{fault_line, bad_reply_line, link_fault_line}
use Rattle.amf_cli.specs.Told.{Tells}

-- The status of an end and its error line, by the meanings of that: there is none where all was done. Where memory is wanting for the line of a fault, the status is 5.
abbrev pub EndTells : {E : Type 0} → SinkMembers E → E → E → ListenEnd → ℕ → Type 0
EndTells e err err_now Done status = (status ≡ 0) × (err_now ≡ err)
EndTells e err err_now (Fault code text) status = ((status ≡ 8) × Tells e err err_now (fault_line code text)) ⊎ ((status ≡ 5) × Tells e err err_now (line_of NoMemory))
EndTells e err err_now (BadReply number) status = (status ≡ 9) × Tells e err err_now (bad_reply_line number)
EndTells e err err_now LinkFault status = (status ≡ 10) × Tells e err err_now link_fault_line
EndTells e err err_now WriteFault status = (status ≡ 4) × Tells e err err_now (line_of output_fault)
EndTells e err err_now Memory status = (status ≡ 5) × Tells e err err_now (line_of NoMemory)

-- By the meanings of the output, of the error line, of the dial and of its links, by the options, and the status. Of each there is what
-- it was before and what it is now.
module _ {O E D L : Type 0} (o : SinkMembers O) (e : SinkMembers E) (d : DialMembers D L) (l : LinkMembers L)
    (options : ListenOptions) (status : ℕ) (out out_now : O) (err err_now : E) (dial dial_now : D) where
  -- The session over the dial, of so many polls of the destination at the port: how it ended, by its law, what the output has taken of what
  -- was delivered, and what was told of its end.
  pub record Heard : Type 0 where
    pub turns : List (Turn Graph)
    pub end : ListenEnd
    pub listened : Listened d l options.port options.destination dial dial_now (listen options.polls turns)
    pub lawful : IsSession options.polls turns
    pub ends : EndsAs (listen options.polls turns).end end
    pub numbered : IsNumbered end
    pub wrote : o.tells out_now → Wrote (listen options.polls turns).written (o.held out) (o.held out_now) end
    pub tells : EndTells e err err_now end status

  -- memory ran out before anything was dialled, or the gateway was listened to
  pub data ListenEnds : Type 0 where
    unheard : dial_now ≡ dial → Starves o e out out_now err err_now status → ListenEnds
    heard : Heard → ListenEnds
