-- How the steps of a run with `serve` end. A device of proofs.
use Rattle.std.specs.Prelude.{◌≡◌, ℕ, ◌≤◌, Bool, true, false, List, ◌++◌, Result, Ok, Err, ⊤}
use Rattle.amf_io.specs.Outside.{Rose}
use Rattle.amf_io.specs.declared.front.Front.{Ghosts as FrontMembers}
use Rattle.amf_io.specs.declared.link.Link.{Ghosts as LinkMembers}
use Rattle.amf_io.specs.declared.sink.Sink.{Ghosts as SinkMembers}
use Rattle.amf_service.specs.Registry.{Entry}
use Rattle.amf_gateway.specs.Tells.{HallMembers}
use Rattle.amf_workers.specs.Together.{Serves}
use Rattle.amf_workers.specs.declared.answer.ServeAnswer.{ServeAnswer}
use Rattle.amf_workers.specs.declared.answer.ServeAnswer.TheVariants.{Memory}
use Rattle.amf_commands.specs.declared.command.ServeOptions.{ServeOptions}
use Rattle.amf_commands.specs.declared.run_end.RunEnd.{RunEnd}
use Rattle.amf_commands.specs.declared.run_end.RunEnd.TheVariants.{WriteFault, NoMemory, FrontFault}
use Rattle.amf_commands.specs.Lines.{status_of, line_of}
use Rattle.amf_cli.specs.Serving.{was_starved, had_fault, line_after, TellsOrFails}
use Rattle.amf_io.specs.Written.{WritesFront}

abbrev pub End : Type 0
End = Result (Unit {0}) RunEnd

-- running out of memory goes before a fault of the output, and this before one of the front
abbrev pub first_end : (starved : Bool) → End → (faulty : Bool) → End
first_end true told faulty = Err NoMemory
first_end false (Err e) faulty = Err e
first_end false (Ok x) true = Err FrontFault
first_end false (Ok x) false = Ok x

-- a line was written, or a front of it
abbrev pub TellsLine : (told : Type 0) → (held now line : List ℕ) → End → Type 0
TellsLine told held now line (Ok x) = told → now ≡ held ++ line
TellsLine told held now line (Err WriteFault) = told → WritesFront held now line
TellsLine told held now line (Err e) = ⊥

-- an end of a run with `serve`
abbrev pub IsServeEnd : End → Type 0
IsServeEnd (Ok x) = ⊤
IsServeEnd (Err WriteFault) = ⊤
IsServeEnd (Err NoMemory) = ⊤
IsServeEnd (Err FrontFault) = ⊤
IsServeEnd _ = ⊥

-- as it follows from what serving came to
abbrev pub EndsServe : (kept told : Type 0) → (held now : List ℕ) → (before after : ℕ) → ServeAnswer → End → Type 0
EndsServe kept told held now before after a (Ok x) = (was_starved a ≡ false) × (had_fault a ≡ false) × (told → now ≡ held ++ line_after a)
EndsServe kept told held now before after a (Err WriteFault) = (was_starved a ≡ false) × (told → WritesFront held now (line_after a))
EndsServe kept told held now before after a (Err NoMemory) = (was_starved a ≡ true) × (a ≡ Memory → kept) × TellsOrFails told held now before after (line_after a)
EndsServe kept told held now before after a (Err FrontFault) = (was_starved a ≡ false) × (had_fault a ≡ true) × (told → now ≡ held ++ line_after a)
EndsServe kept told held now before after a _ = ⊥

-- and what serving came to
abbrev pub ServesTo : (Came : ServeAnswer → Type 0) → (kept told : Type 0) → (held now : List ℕ) → (before after : ℕ) → End → Type 0
ServesTo Came kept told held now before after (Ok x) = (a : ServeAnswer) × Came a × EndsServe kept told held now before after a (Ok x)
ServesTo Came kept told held now before after (Err WriteFault) = (a : ServeAnswer) × Came a × EndsServe kept told held now before after a (Err WriteFault)
ServesTo Came kept told held now before after (Err NoMemory) = (a : ServeAnswer) × Came a × EndsServe kept told held now before after a (Err NoMemory)
ServesTo Came kept told held now before after (Err FrontFault) = (a : ServeAnswer) × Came a × EndsServe kept told held now before after a (Err FrontFault)
ServesTo Came kept told held now before after _ = ⊥

-- the same of what workers did with the links of a front, by the options, with the front and the output before and after
abbrev pub ServesLinks : {F H L O : Type 0} → FrontMembers F H L → HallMembers H L → LinkMembers L → SinkMembers O → List Entry → ServeOptions → (a b : F) → (old new : O) → End → Type 0
ServesLinks f h l o services options a b old new r =
    ServesTo (Serves f h l services options.port options.workers options.each a b) (new ≡ old) (o.tells new) (o.held old) (o.held new) (o.faults old) (o.faults new) r

-- a fault of the front is counted, and without one the count stays; where memory was wanting or the output failed nothing is said
abbrev pub CountsFront : (before now : ℕ) → End → Type 0
CountsFront before now (Ok x) = now ≡ before
CountsFront before now (Err FrontFault) = (before ≤ now) × Rose before now
CountsFront before now (Err e) = ⊤

-- the status of an end
abbrev pub status_for : End → ℕ
status_for (Ok x) = 0
status_for (Err e) = status_of e

-- its error line was written, where it has one
abbrev pub ReportsEnd : End → (held now : List ℕ) → Type 0
ReportsEnd (Ok x) held now = now ≡ held
ReportsEnd (Err e) held now = now ≡ held ++ line_of e
