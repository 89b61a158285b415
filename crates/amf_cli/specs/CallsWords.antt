-- What a run of the program promises of a call over a dial, by its words and its status.
use Rattle.std.specs.Prelude.{◌≡◌, ◌≢◌, ℕ, ◌≤◌, ◌⊎◌, List}
use Rattle.amf_io.specs.Outside.{Rose}
use Rattle.amf_io.specs.declared.reason.Reason.{Reason}
use Rattle.amf_io.specs.declared.source.Source.{Ghosts as SourceMembers}
use Rattle.amf_io.specs.declared.sink.Sink.{Ghosts as SinkMembers}
use Rattle.amf_io.specs.declared.dial.Dial.{Ghosts as DialMembers}
use Rattle.amf_io.specs.declared.link.Link.{Ghosts as LinkMembers}
use Rattle.amf_commands.specs.declared.command.CallOptions.{CallOptions}
use Rattle.amf_commands.specs.declared.format.Format.TheVariants.{Amf3}
use Rattle.amf_commands.specs.Commands.{ReadsCall, IsCalling, IsDialling, IsListening}
use Rattle.amf_commands.specs.Input.{one, IsAcceptedAs, IsRefusedAs}
use Rattle.amf_cli.specs.CallEnds.{CallEnds}

-- By the meanings of the streams, of the dial and of its links, the words and the status. Of each stream and of the dial there is what
-- it was before and what it is now.
pub record CallsWords {I O E D L : Type 0} (i : SourceMembers I) (o : SinkMembers O) (e : SinkMembers E) (d : DialMembers D L) (l : LinkMembers L)
    (words : List (List ℕ)) (status : ℕ) (input input_now : I) (out out_now : O) (err err_now : E) (dial dial_now : D) : Type 0 where
  -- only `call` and `listen` ask anything of the dial, and only they end with 8, 9 and 10
  pub uncalled : (IsDialling words → ⊥) → (dial_now ≡ dial) × (status ≤ 7)
  pub called : (options : CallOptions) → ReadsCall words options → CallEnds i o e d l options status input input_now out out_now err err_now dial dial_now
  -- an input that is accepted is not refused, and one that is refused is not accepted
  pub accepted : IsCalling words → i.tells input → IsAcceptedAs (one Amf3) (i.left input) → status ≢ 1
  pub not_accepted : IsCalling words → i.tells input → (reason : Reason) (at : ℕ) → IsRefusedAs (one Amf3) (i.left input) reason at
      → (status ≡ 1) ⊎ (status ≡ 3) ⊎ (status ≡ 5)
  -- 10 comes only where the dial's count rose, and but for 10 that stays; a listener dials again where a link was lost
  pub link_fault : status ≡ 10 → Rose (d.faults dial) (d.faults dial_now)
  pub no_link_fault : status ≢ 10 → (IsListening words → ⊥) → d.faults dial_now ≡ d.faults dial
