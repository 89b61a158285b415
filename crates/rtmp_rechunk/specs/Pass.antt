-- What a pass over a chunk stream writes, and how it ends.
use Rattle.std.specs.Prelude.{◌≡◌, ℕ, ◌≤◌, List, [], ◌∷◌, ◌++◌, length, take, Result, Ok, Err}
use Rattle.amf_io.specs.Outside.{Rose}
use Rattle.amf_io.specs.declared.source.Source.{Ghosts as SourceMembers}
use Rattle.amf_io.specs.declared.sink.Sink.{Ghosts as SinkMembers}
use Rattle.amf_io.specs.Stretch.{IsInterrupted}
use Rattle.amf_io.specs.Verdict.{IsRefused}
use Rattle.rtmp_chunks.specs.Chunk.{Message, Unfinished}
use Rattle.rtmp_chunks.specs.Stream.{IsChunkStream}
use Rattle.rtmp_chunks.specs.Laws.{IsStreamFields}
use Rattle.rtmp_chunks.specs.Calls.{FrontSays, NoFront}
use Rattle.amf_io.specs.Written.{WritesFront}
use Rattle.rtmp_rechunk.specs.declared.pass_end.PassEnd.{PassEnd}
use Rattle.rtmp_rechunk.specs.declared.pass_end.PassEnd.TheVariants.{Refused, ReadFault, WriteFault, Memory}

-- the most bytes of an input
abbrev pub most : ℕ
most = 4294967295

-- bytes of which P is so stand behind those that were there
abbrev pub Appended : (List ℕ → Type 0) → List ℕ → List ℕ → Type 0
Appended P before now = (bytes : List ℕ) × P bytes × (now ≡ before ++ bytes)

-- what messages give, one after the other, where Says tells what one gives
abbrev pub AreSaid : (Message → List ℕ → Type 0) → List Message → List ℕ → Type 0
AreSaid Says [] out = out ≡ []
AreSaid Says (m ∷ ms) out = (first : List ℕ) × (more : List ℕ) × Says m first × AreSaid Says ms more × (out ≡ first ++ more)

-- what a handshake and the messages behind it give, where Begins tells what the handshake gives
pub record Gives (Begins : List ℕ → List ℕ → Type 0) (Says : Message → List ℕ → Type 0) (handshake : List ℕ) (messages : List Message) (out : List ℕ) : Type 0 where
  pub start : List ℕ
  pub later : List ℕ
  pub begun : Begins handshake start
  pub said : AreSaid Says messages later
  pub all : out ≡ start ++ later

-- what is written for a whole input, where Ends tells what its unfinished messages give
pub record IsOutput (Begins : List ℕ → List ℕ → Type 0) (Says : Message → List ℕ → Type 0) (Ends : List Unfinished → List ℕ → Type 0) (input out : List ℕ) : Type 0 where
  pub messages : List Message
  pub open_ones : List Unfinished
  pub stream : IsChunkStream input messages open_ones
  pub within : length input ≤ most
  pub body : List ℕ
  pub last : List ℕ
  pub gives : Gives Begins Says (take 3073 input) messages body
  pub ends : Ends open_ones last
  pub all : out ≡ body ++ last

-- what is written for the messages before a place: those of the longest front that is a chunk stream and ends there or before; and nothing where none is, since the handshake is not whole
pub data GivesBefore (Begins : List ℕ → List ℕ → Type 0) (Says : Message → List ℕ → Type 0) (input : List ℕ) (place : ℕ) (out : List ℕ) : Type 0 where
  nothing : NoFront input place → out ≡ [] → GivesBefore Begins Says input place out
  those : (messages : List Message) → FrontSays input place messages → Gives Begins Says (take 3073 input) messages out → GivesBefore Begins Says input place out

-- what was there of an input before a read failed, and what is written for it
pub record GivesOfFront (Begins : List ℕ → List ℕ → Type 0) (Says : Message → List ℕ → Type 0) (input rest out : List ℕ) : Type 0 where
  pub given : List ℕ
  pub parts : input ≡ given ++ rest
  pub gives : GivesBefore Begins Says given (length given) out

-- what may be written when a write fails, or memory runs out: all; or what is written for the messages before some place within the most
pub data MayGive (Begins : List ℕ → List ℕ → Type 0) (Says : Message → List ℕ → Type 0) (Ends : List Unfinished → List ℕ → Type 0) (input out : List ℕ) : Type 0 where
  of_all : IsOutput Begins Says Ends input out → MayGive Begins Says Ends input out
  of_some : (place : ℕ) → place ≤ most → GivesBefore Begins Says input place out → MayGive Begins Says Ends input out

-- how a pass ends, by the bytes of the input and those that it left: All tells of bytes that they were written whole, and Some that a front of them was
abbrev pub Passes : {T : Type 0} → (List ℕ → List ℕ → Type 0) → (Message → List ℕ → Type 0) → (List Unfinished → List ℕ → Type 0) → List ℕ → List ℕ → (List ℕ → Type 0) → (List ℕ → Type 0) → Result T PassEnd → Type 0
Passes Begins Says Ends input rest All Some (Ok x) = (out : List ℕ) × IsOutput Begins Says Ends input out × All out × (rest ≡ [])
Passes Begins Says Ends input rest All Some (Err (Refused f)) = (out : List ℕ) × IsRefused IsStreamFields 0 most input f.reason f.at × GivesBefore Begins Says input f.at out × All out
Passes Begins Says Ends input rest All Some (Err ReadFault) = (out : List ℕ) × IsInterrupted IsStreamFields input rest 0 most × GivesOfFront Begins Says input rest out × All out
Passes Begins Says Ends input rest All Some (Err WriteFault) = (out : List ℕ) × MayGive Begins Says Ends input out × Some out
Passes Begins Says Ends input rest All Some (Err Memory) = (out : List ℕ) × MayGive Begins Says Ends input out × Some out

-- what a sink holds, where it tells: these bytes behind what it held; or a front of them
abbrev pub WroteAll : Type 0 → List ℕ → List ℕ → List ℕ → Type 0
WroteAll told held now out = told → now ≡ held ++ out

abbrev pub WroteSome : Type 0 → List ℕ → List ℕ → List ℕ → Type 0
WroteSome told held now out = told → WritesFront held now out

-- how a pass ends, by a source, where it tells, and a sink, before and after
abbrev pub PassesOver : {I O T : Type 0} → SourceMembers I → SinkMembers O → (List ℕ → List ℕ → Type 0) → (Message → List ℕ → Type 0) → (List Unfinished → List ℕ → Type 0) → (input rest : I) → (before after : O) → Result T PassEnd → Type 0
PassesOver i o Begins Says Ends input rest before after result = i.tells input → Passes Begins Says Ends (i.left input) (i.left rest) (WroteAll (o.tells after) (o.held before) (o.held after)) (WroteSome (o.tells after) (o.held before) (o.held after)) result

-- a read fault is counted; a write fault may come behind one, and without either the count stays
abbrev pub CountsReads : {T : Type 0} → ℕ → ℕ → Result T PassEnd → Type 0
CountsReads before now (Err ReadFault) = (before ≤ now) × Rose before now
CountsReads before now (Err WriteFault) = before ≤ now
CountsReads before now _ = now ≡ before

-- a write fault is counted, and without one the count stays
abbrev pub CountsWrites : {T : Type 0} → ℕ → ℕ → Result T PassEnd → Type 0
CountsWrites before now (Err WriteFault) = (before ≤ now) × Rose before now
CountsWrites before now _ = now ≡ before
