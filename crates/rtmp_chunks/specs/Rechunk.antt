-- A chunk stream that is written again in chunks of another size.
use Rattle.std.specs.Prelude.{◌≡◌, ℕ, ◌<◌, List, [], ◌∷◌, ◌++◌, length, None, ◌==◌, if◌then◌else◌, slice_index}
use Rattle.std.specs.List.{AllByRecursion}
use Rattle.std.specs.Int.{to_be_bytes, w32}
use Rattle.amf_io.specs.Field.{AreBytes}
use Rattle.rtmp_chunks.specs.Chunk.{Message, Unfinished}
use Rattle.rtmp_chunks.specs.Stream.{IsChunkStream}
use Rattle.rtmp_chunks.specs.Push.{IsPushed, refusal_of, pushed_all}

-- the messages that set no chunk size
abbrev pub others : List Message → List Message
others [] = []
others (m ∷ ms) = if m.type == 1 then others ms else m ∷ others ms

-- the message that sets a chunk size (5.4.1), and where it is needed
abbrev pub size_message : ℕ → Message
size_message size = record { id = 2; type = 1; stream = 0; time = 0; bytes = to_be_bytes w32 size }

abbrev pub size_messages : ℕ → List Message
size_messages size = if size == 128 then [] else size_message size ∷ []

pub record Rechunked : Type 0 where
  -- the messages of an input of bytes can be written, but those that set a chunk size
  pub accepted : (input : List ℕ) (messages : List Message) (open_ones : List Unfinished) → AreBytes input → IsChunkStream input messages open_ones → AllByRecursion IsPushed (others messages)
  -- what can be written is never refused
  pub unrefused : (m : Message) → IsPushed m → refusal_of m ≡ None
  -- what is written in chunks of another size says that size and these messages, and nothing unfinished
  pub says : (size : ℕ) (handshake input : List ℕ) (messages : List Message) (open_ones : List Unfinished) → 0 < size → size < 2147483648 → length handshake ≡ 3073 → slice_index handshake 0 ≡ 3
      → AreBytes input → IsChunkStream input messages open_ones → IsChunkStream (handshake ++ pushed_all 128 (size_messages size ++ others messages)) (size_messages size ++ others messages) []
