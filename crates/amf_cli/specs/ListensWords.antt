-- What a run of the program promises of a listener, by its words and its status.
use Rattle.std.specs.Prelude.{ℕ, List}
use Rattle.amf_io.specs.declared.sink.Sink.{Ghosts as SinkMembers}
use Rattle.amf_io.specs.declared.dial.Dial.{Ghosts as DialMembers}
use Rattle.amf_io.specs.declared.link.Link.{Ghosts as LinkMembers}
use Rattle.amf_commands.specs.declared.command.ListenOptions.{ListenOptions}
use Rattle.amf_commands.specs.Commands.{ReadsListen}
use Rattle.amf_cli.specs.ListenEnds.{ListenEnds}

-- By the meanings of the output, of the error line, of the dial and of its links, the words and the status. Of each there is what it was before and what it is now.
pub record ListensWords {O E D L : Type 0} (o : SinkMembers O) (e : SinkMembers E) (d : DialMembers D L) (l : LinkMembers L)
    (words : List (List ℕ)) (status : ℕ) (out out_now : O) (err err_now : E) (dial dial_now : D) : Type 0 where
  pub heard : (options : ListenOptions) → ReadsListen words options → ListenEnds o e d l options status out out_now err err_now dial dial_now
