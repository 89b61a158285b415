-- What a start of the program promises, by the services, by what its arguments tell and by its status: there are words, and of them all that is promised of a run.
use Rattle.std.specs.Prelude.{◌≡◌, ℕ, List}
use Rattle.amf_io.specs.declared.source.Source.{Ghosts as SourceMembers}
use Rattle.amf_io.specs.declared.sink.Sink.{Ghosts as SinkMembers}
use Rattle.amf_io.specs.declared.link.Link.{Ghosts as LinkMembers}
use Rattle.amf_io.specs.declared.front.Front.{Ghosts as FrontMembers}
use Rattle.amf_io.specs.declared.dial.Dial.{Ghosts as DialMembers}
use Rattle.amf_service.specs.Registry.{Entry}
use Rattle.amf_gateway.specs.Tells.{HallMembers}
use Rattle.amf_cli.specs.declared.arguments.Arguments.{Ghosts as ArgumentsMembers}
use Rattle.amf_cli.specs.CallsWords.{CallsWords}
use Rattle.amf_cli.specs.Ends.{Ends}
use Rattle.amf_cli.specs.ListensWords.{ListensWords}
use Rattle.amf_cli.specs.ServesWords.{ServesWords}

-- the words are those of the arguments, where they tell them
abbrev pub AreWords : {A : Type 0} → ArgumentsMembers A → A → List (List ℕ) → Type 0
AreWords a arguments words = a.tells arguments → words ≡ a.words arguments

-- Of the input, the output, the error line, the front and the dial there is what they were before and what they are now.
abbrev pub Starts : {I O E F H L D K : Type 0} → SourceMembers I → SinkMembers O → SinkMembers E → FrontMembers F H L → HallMembers H L → LinkMembers L → DialMembers D K → LinkMembers K
    → List Entry → (Told : List (List ℕ) → Type 0) → (status : ℕ) → (before now : I × O × E × F × D) → Type 0
Starts i o e f h l d k services Told status a b =
    (words : List (List ℕ)) × Told words
    × Ends i o e words status a.0 b.0 a.1 b.1 a.2 b.2
    × ServesWords f h l o services words status a.3 b.3 a.1 b.1
    × CallsWords i o e d k words status a.0 b.0 a.1 b.1 a.2 b.2 a.4 b.4
    × ListensWords o e d k words status a.1 b.1 a.2 b.2 a.4 b.4
