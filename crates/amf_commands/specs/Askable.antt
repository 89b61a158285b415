-- What the words can ask for: the formats that go to each other, the sizes for which a graph is made, the numbers of workers, the sizes of
-- chunks, the targets of calls, and the destinations and the numbers of polls of listeners. A device of proofs.
use Rattle.std.specs.Prelude.{◌≡◌, ◌≤◌, ℕ, true, length, Option, Some, None}
use Rattle.amf_wire.specs.Text.{IsText}
use Rattle.amf_commands.specs.declared.command.CallOptions.{CallOptions}
use Rattle.amf_commands.specs.declared.command.Command.{Command}
use Rattle.amf_commands.specs.declared.command.Command.TheVariants.{Canon, Check, Show, Json, Same, Gen, Version}
use Rattle.amf_commands.specs.declared.command.ListenOptions.{ListenOptions}
use Rattle.amf_commands.specs.declared.command.ServeOptions.{ServeOptions}
use Rattle.amf_commands.specs.declared.command.Task.{Task}
use Rattle.amf_commands.specs.declared.command.Task.TheVariants.{Output, Bytes, Serve, Flv, Rtmp, Call, Listen}
use Rattle.amf_commands.specs.Commands.{goes_to}

abbrev pub IsAskable : Command → Type 0
IsAskable (Canon from to) = goes_to from to ≡ true
IsAskable (Check from) = Unit {0}
IsAskable (Show from) = Unit {0}
IsAskable (Json from layout) = Unit {0}
IsAskable Same = Unit {0}
IsAskable (Gen seed size) = (1 ≤ size) × (size ≤ 1000000)
IsAskable Version = Unit {0}

abbrev pub IsServable : ServeOptions → Type 0
IsServable o = (1 ≤ o.workers) × (o.workers ≤ 64)

-- a size of chunks, where there is one
abbrev pub IsChunkable : Option ℕ → Type 0
IsChunkable None = Unit {0}
IsChunkable (Some size) = (1 ≤ size) × (size ≤ 2147483647)

abbrev pub IsCallable : CallOptions → Type 0
IsCallable o = IsText o.target × (length o.target ≤ 65535)

abbrev pub IsListenable : ListenOptions → Type 0
IsListenable o = IsText o.destination × (length o.destination ≤ 65535) × (1 ≤ o.polls) × (o.polls ≤ 1000000)

abbrev pub IsPossible : Task → Type 0
IsPossible (Output c) = IsAskable c
IsPossible Bytes = Unit {0}
IsPossible (Serve o) = IsServable o
IsPossible (Flv job) = Unit {0}
IsPossible (Rtmp size) = IsChunkable size
IsPossible (Call o) = IsCallable o
IsPossible (Listen o) = IsListenable o
