-- What is written for a chunk stream in chunks of another size.
use Rattle.std.specs.Prelude.{◌≡◌, ℕ, ◌<◌, List, [], ◌++◌, ◌==◌, if◌then◌else◌}
use Rattle.rtmp_chunks.specs.Chunk.{Message, Unfinished}
use Rattle.rtmp_chunks.specs.Push.{pushed, pushed_all}
use Rattle.rtmp_chunks.specs.Rechunk.{size_messages, others}
use Rattle.rtmp_rechunk.specs.declared.rechunker.Rechunker.{Rechunker}
use Rattle.rtmp_rechunk.specs.Pass.{Gives}

-- the chunk size that it writes
abbrev pub size_in : Rechunker → ℕ
size_in r = r.size

-- behind the handshake the message that sets the chunk size, where it is not 128
abbrev pub Restarts : ℕ → List ℕ → List ℕ → Type 0
Restarts size handshake out = out ≡ handshake ++ pushed_all 128 (size_messages size)

-- each message in chunks of that size, but for those that set one
abbrev pub Repeats : ℕ → Message → List ℕ → Type 0
Repeats size m out = out ≡ (if m.type == 1 then [] else pushed size m)

-- and nothing of what is unfinished
abbrev pub EndsSilently : List Unfinished → List ℕ → Type 0
EndsSilently open_ones out = out ≡ []

-- what is given so is the handshake, and the bytes that one chunker writes for the size message and all messages but those that set one
abbrev pub RechunkedBytes : Type 0
RechunkedBytes = (size : ℕ) (handshake : List ℕ) (messages : List Message) (out : List ℕ) → 0 < size → size < 2147483648 → Gives (Restarts size) (Repeats size) handshake messages out → out ≡ handshake ++ pushed_all 128 (size_messages size ++ others messages)
