-- Calls of the reader of messages, one after another.
use Rattle.std.specs.Prelude.{◌≡◌, ◌≤◌, ℕ, List, [], ◌∷◌, ◌++◌, length, Option, Some, None, Result, Ok, Err}
use Rattle.amf_io.specs.declared.ends.Refusal.{Refusal}
use Rattle.amf_io.specs.declared.ends.ReadEnd.{ReadEnd}
use Rattle.amf_io.specs.declared.ends.ReadEnd.TheVariants.{Refused, ReadFault}
use Rattle.amf_io.specs.LayoutAnswer.{DoneBy, RefusedBy, WaitsBy}
use Rattle.amf_io.specs.Stretch.{Stretch, stretch, IsInterrupted}
use Rattle.amf_io.specs.Verdict.{IsRefused}
use Rattle.rtmp_chunks.specs.Chunk.{Message, Unfinished}
use Rattle.rtmp_chunks.specs.Stream.{IsChunkStream}
use Rattle.rtmp_chunks.specs.Machine.{State, start, handshake_layout, unfinished}
use Rattle.rtmp_chunks.specs.Laws.{IsStreamFields}
use Rattle.rtmp_chunks.specs.Reader.{AnswersNext}

-- what a reader holds behind a call: the message that it gave is the caller's
abbrev pub settled : State → State
settled s = record { size = s.size; slots = s.slots; messages = [] }

-- calls from one state to another gave these messages, each where the one before had stopped, and then one call more answered this
abbrev pub Calls : Result (Option Message) ReadEnd → List Message → State → State → Stretch → Type 0
Calls r [] s t x = AnswersNext (λ m. m) s t x r
Calls r (m ∷ ms) s t x = (u : State) × (mid : List ℕ) × (between : ℕ) × AnswersNext (λ m. m) s u (stretch x.told x.input mid x.at between x.limit) (Ok (Some m)) × Calls r ms (settled u) t (stretch x.told mid x.rest between x.place x.limit)

-- of the fronts of an input that are chunk streams, and have no more bytes than this, the longest has these messages
pub record FrontSays (input : List ℕ) (most : ℕ) (messages : List Message) : Type 0 where
  pub front : List ℕ
  pub left : List ℕ
  pub opens : List Unfinished
  pub parts : input ≡ front ++ left
  pub within : length front ≤ most
  pub says : IsChunkStream front messages opens
  pub longest : (other more : List ℕ) (ms : List Message) (us : List Unfinished) → input ≡ other ++ more → length other ≤ most → IsChunkStream other ms us → length other ≤ length front

-- no front of an input that has no more bytes than this is a chunk stream
abbrev pub NoFront : List ℕ → ℕ → Type 0
NoFront input most = (front left : List ℕ) (ms : List Message) (us : List Unfinished) → input ≡ front ++ left → length front ≤ most → IsChunkStream front ms us → ⊥

-- from a source that tells what it gives
pub record CallsTell : Type 0 where
  -- a refusal of the handshake is the verdict on the whole input; and no message came before it
  pub begins_refused : (limit : ℕ) (input : List ℕ) (f : Refusal) → RefusedBy handshake_layout input 0 limit f → IsRefused IsStreamFields 0 limit input f.reason f.at × NoFront input f.at
  -- what came of it before a read failed ends inside a field
  pub begins_waits : (limit : ℕ) (input rest : List ℕ) → WaitsBy handshake_layout input rest 0 limit → IsInterrupted IsStreamFields input rest 0 limit × ((given : List ℕ) → input ≡ given ++ rest → NoFront given (length given))
  -- behind a handshake that was read, calls until one gives none give exactly the messages of the stream, and what is held then are its unfinished ones
  pub tells : (limit between place : ℕ) (handshake input mid rest : List ℕ) (ms : List Message) (t : State) → DoneBy (Unit {0}) handshake_layout handshake input mid 0 between limit
      → Calls (Ok None) ms start t (stretch (Unit {0}) mid rest between place limit) → IsChunkStream input ms (unfinished t.slots)
  -- a refusal is the verdict on the whole input; and the messages before are all those of the front that ends no later
  pub refuses : (limit between place : ℕ) (handshake input mid rest : List ℕ) (ms : List Message) (t : State) (f : Refusal) → DoneBy (Unit {0}) handshake_layout handshake input mid 0 between limit
      → Calls (Err (Refused f)) ms start t (stretch (Unit {0}) mid rest between place limit) → IsRefused IsStreamFields 0 limit input f.reason f.at × FrontSays input f.at ms
  -- what came before a read failed ends inside a field; and the messages are all those of its front
  pub waits : (limit between place : ℕ) (handshake input mid rest : List ℕ) (ms : List Message) (t : State) → DoneBy (Unit {0}) handshake_layout handshake input mid 0 between limit
      → Calls (Err ReadFault) ms start t (stretch (Unit {0}) mid rest between place limit)
      → IsInterrupted IsStreamFields input rest 0 limit × ((given : List ℕ) → input ≡ given ++ rest → FrontSays given (length given) ms)
