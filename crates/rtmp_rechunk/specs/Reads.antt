-- How the messages of a stream are taken, one after another. A device of the proofs.
use Rattle.std.specs.Prelude.{ℕ, Bool, true, false, List, [], ◌++◌, Option, None, Result, Ok, Err}
use Rattle.amf_io.specs.declared.source.Source.{Ghosts as SourceMembers}
use Rattle.amf_io.specs.declared.sink.Sink.{Ghosts as SinkMembers}
use Rattle.amf_io.specs.declared.window.Window.{Window}
use Rattle.amf_io.specs.declared.cursor.Cursor.{Cursor}
use Rattle.amf_io.specs.Cursor.{source_of, place, bound, unread}
use Rattle.amf_io.specs.declared.ends.ReadEnd.{ReadEnd}
use Rattle.amf_io.specs.declared.ends.ReadEnd.TheVariants as reader
use Rattle.amf_io.specs.Stretch.{Stretch, stretch}
use Rattle.rtmp_chunks.specs.Chunk.{Message, Unfinished}
use Rattle.rtmp_chunks.specs.declared.parts.Chunks.{Chunks}
use Rattle.rtmp_chunks.specs.Table.{held}
use Rattle.rtmp_chunks.specs.Machine.{State}
use Rattle.rtmp_chunks.specs.Calls.{Calls}
use Rattle.rtmp_rechunk.specs.Written.{Put}
use Rattle.rtmp_rechunk.specs.Pass.{AreSaid, Passes}
use Rattle.rtmp_rechunk.specs.declared.pass_end.PassEnd.{PassEnd}
use Rattle.rtmp_rechunk.specs.declared.pass_end.PassEnd.TheVariants.{Refused, ReadFault, WriteFault, Memory}

-- bytes that were put before are put still, and these behind them
abbrev pub Puts : Type 0 → List ℕ → List ℕ → List ℕ → List ℕ → List ℕ → Type 0
Puts told held now waiting waits bytes = told → (before all : List ℕ) → Put before held all waiting → Put before now (all ++ bytes) waits

-- and some front of them was written
abbrev pub PutsSome : Type 0 → List ℕ → List ℕ → List ℕ → List ℕ → Type 0
PutsSome told held now waiting bytes = told → (before all : List ℕ) → Put before held all waiting → (rest : List ℕ) × Put before now (all ++ bytes) rest

-- a message was handed on; or a front of what it gives was written, or without memory nothing of it
abbrev pub Hands : {T : Type 0} → (List ℕ → Type 0) → (List ℕ → Type 0) → (List ℕ → Type 0) → Result T PassEnd → Type 0
Hands Says All Some (Ok x) = (bytes : List ℕ) × Says bytes × All bytes
Hands Says All Some (Err (Refused f)) = ⊥
Hands Says All Some (Err ReadFault) = ⊥
Hands Says All Some (Err WriteFault) = (bytes : List ℕ) × Says bytes × Some bytes
Hands Says All Some (Err Memory) = Some []

-- the same by a sink, before and after, and what waits to be written
abbrev pub HandsOn : {O T : Type 0} → SinkMembers O → (List ℕ → Type 0) → (before after : O) → (waiting waits : List ℕ) → Result T PassEnd → Type 0
HandsOn o Says before after waiting waits result = Hands Says (Puts (o.tells after) (o.held before) (o.held after) waiting waits) (PutsSome (o.tells after) (o.held before) (o.held after) waiting) result

-- messages were taken one after another, and what they give was put; then the reader answered so
pub record Taken (Says : Message → List ℕ → Type 0) (r : Result (Option Message) ReadEnd) (s t : State) (x : Stretch) (All : List ℕ → Type 0) : Type 0 where
  pub messages : List Message
  pub later : List ℕ
  pub said : AreSaid Says messages later
  pub calls : Calls r messages s t x
  pub put : All later

-- all messages were taken; or so many, up to an end; a write failed behind a message, or memory ran out, as a read might
abbrev pub Takes : {T : Type 0} → (Message → List ℕ → Type 0) → State → State → Stretch → (List ℕ → Type 0) → (List ℕ → Type 0) → Result T PassEnd → Type 0
Takes Says s t x All Some (Ok done) = Taken Says (Ok None) s t x All
Takes Says s t x All Some (Err (Refused f)) = Taken Says (Err (reader.Refused f)) s t x All
Takes Says s t x All Some (Err ReadFault) = Taken Says (Err reader.ReadFault) s t x All
Takes Says s t x All Some (Err WriteFault) = (mid : List ℕ) × (between : ℕ) × Taken Says (Err reader.ReadFault) s t (stretch x.told x.input mid x.at between x.limit) Some
Takes Says s t x All Some (Err Memory) = (mid : List ℕ) × (between : ℕ) × Taken Says (Err reader.ReadFault) s t (stretch x.told x.input mid x.at between x.limit) Some

-- the same by a cursor, where its source tells, by a sink, and what waits to be written
abbrev pub TakesBy : {S O T : Type 0} → SourceMembers S → SinkMembers O → (Message → List ℕ → Type 0) → (old new : Chunks) → (c d : Cursor S Window) → (before after : O) → (waiting waits : List ℕ) → Result T PassEnd → Type 0
TakesBy i o Says old new c d before after waiting waits result = i.tells (source_of c).now → Takes Says (held old []) (held new []) (stretch (Unit {0}) (unread i.left c) (unread i.left d) (place c) (place d) (bound c)) (Puts (o.tells after) (o.held before) (o.held after) waiting waits) (PutsSome (o.tells after) (o.held before) (o.held after) waiting) result

-- so far messages were taken, and what follows is taken behind them
pub record SoFar (Says : Message → List ℕ → Type 0) (s u : State) (input mid : List ℕ) (at between limit : ℕ) (All : List ℕ → Type 0) : Type 0 where
  pub messages : List Message
  pub later : List ℕ
  pub said : AreSaid Says messages later
  pub put : All later
  pub next : (r : Result (Option Message) ReadEnd) (more : List Message) (t : State) (rest : List ℕ) (place : ℕ) → Calls r more u t (stretch (Unit {0}) mid rest between place limit) → Calls r (messages ++ more) s t (stretch (Unit {0}) input rest at place limit)

-- these bytes were put, and the rest of them waits; or some front of them was written
abbrev pub PutAll : Type 0 → List ℕ → List ℕ → List ℕ → List ℕ → Type 0
PutAll told held now waits bytes = told → Put held now bytes waits

abbrev pub PutSome : Type 0 → List ℕ → List ℕ → List ℕ → Type 0
PutSome told held now bytes = told → (rest : List ℕ) × Put held now bytes rest

-- how a pass ends that leaves some bytes waiting, by the bytes of the input and those that it left, and by a sink
abbrev pub PassesOn : {O T : Type 0} → SinkMembers O → (List ℕ → List ℕ → Type 0) → (Message → List ℕ → Type 0) → (List Unfinished → List ℕ → Type 0) → (input rest : List ℕ) → (before after : O) → (waits : List ℕ) → Result T PassEnd → Type 0
PassesOn o Begins Says Ends input rest before after waits result = Passes Begins Says Ends input rest (PutAll (o.tells after) (o.held before) (o.held after) waits) (PutSome (o.tells after) (o.held before) (o.held after)) result

-- The same, where the source tells.

-- by what a cursor has not read
abbrev pub PassesUnread : {S O T : Type 0} → SourceMembers S → SinkMembers O → (List ℕ → List ℕ → Type 0) → (Message → List ℕ → Type 0) → (List Unfinished → List ℕ → Type 0) → (c d : Cursor S Window) → (before after : O) → (waits : List ℕ) → Result T PassEnd → Type 0
PassesUnread i o Begins Says Ends c d before after waits result = i.tells (source_of c).now → PassesOn o Begins Says Ends (unread i.left c) (unread i.left d) before after waits result

-- by what the cursor's source has left in the end
abbrev pub PassesLeft : {S O T : Type 0} → SourceMembers S → SinkMembers O → (List ℕ → List ℕ → Type 0) → (Message → List ℕ → Type 0) → (List Unfinished → List ℕ → Type 0) → (c d : Cursor S Window) → (before after : O) → (waits : List ℕ) → Result T PassEnd → Type 0
PassesLeft i o Begins Says Ends c d before after waits result = i.tells (source_of c).now → PassesOn o Begins Says Ends (unread i.left c) (i.left (source_of d).now) before after waits result

-- by the source itself
abbrev pub PassesInput : {I O T : Type 0} → SourceMembers I → SinkMembers O → (List ℕ → List ℕ → Type 0) → (Message → List ℕ → Type 0) → (List Unfinished → List ℕ → Type 0) → (input rest : I) → (before after : O) → (waits : List ℕ) → Result T PassEnd → Type 0
PassesInput i o Begins Says Ends input rest before after waits result = i.tells input → PassesOn o Begins Says Ends (i.left input) (i.left rest) before after waits result

-- nothing more is written behind a write that failed, or because memory ran out
abbrev pub lost : {T : Type 0} → Result T PassEnd → Bool
lost (Err WriteFault) = true
lost (Err Memory) = true
lost _ = false
