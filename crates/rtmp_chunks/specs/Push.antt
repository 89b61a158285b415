-- The bytes of messages as they are written (Adobe's RTMP specification 1.0, 5.3.1): one chunk of format 0, and then chunks of format 3.
use Rattle.std.specs.Prelude.{Bool, ◌≡◌, ℕ, zero, suc, ◌+◌, ◌*◌, ◌-◌, ◌/◌, ◌%◌, ◌<◌, ◌≤◌, List, [], ◌∷◌, ◌++◌, length, take, drop, nat_le, nat_lt, not, ◌==◌, ◌&&◌, ◌||◌, if◌then◌else◌, Option, Some, None}
use Rattle.std.specs.Int.{to_be_bytes, to_le_bytes, w32}
use Rattle.amf_io.specs.Field.{AreBytes}
use Rattle.rtmp_chunks.specs.declared.parts.Chunker.{Chunker}
use Rattle.rtmp_chunks.specs.declared.chunker.ChunkEnd.{ChunkEnd}
use Rattle.rtmp_chunks.specs.declared.chunker.ChunkEnd.TheVariants.{BadId, LongData, BadSize}
use Rattle.rtmp_chunks.specs.Chunk.{lesser, Message, number_of}

-- the shortest basic header
abbrev pub basic_header : ℕ → ℕ → List ℕ
basic_header format id = if nat_lt id 64 then (64 * format + id) ∷ [] else if nat_lt id 320 then (64 * format) ∷ (id - 64) ∷ [] else (64 * format + 1) ∷ ((id - 64) % 256) ∷ ((id - 64) / 256) ∷ []

abbrev pub three_bytes : ℕ → List ℕ
three_bytes n = (n / 65536) ∷ ((n / 256) % 256) ∷ (n % 256) ∷ []

-- the extended field stands exactly from this time
abbrev pub extended_field : ℕ → List ℕ
extended_field time = if nat_lt time 0xFFFFFF then [] else to_be_bytes w32 time

abbrev pub message_header : Message → List ℕ
message_header m = three_bytes (lesser m.time 0xFFFFFF) ++ (three_bytes (length m.bytes) ++ m.type ∷ to_le_bytes w32 m.stream)

-- what is left of a message, in chunks of format 3, each with this basic header and this extended field, with fuel
abbrev pub later_chunks : ℕ → ℕ → List ℕ → List ℕ → List ℕ → List ℕ
later_chunks fuel size basic extended [] = []
later_chunks zero size basic extended (b ∷ bytes) = []
later_chunks (suc fuel) size basic extended (b ∷ bytes) = (basic ++ (extended ++ take size (b ∷ bytes))) ++ later_chunks fuel size basic extended (drop size (b ∷ bytes))

-- those of a message by its id and its time
abbrev pub chunks_behind : (fuel size id time : ℕ) → List ℕ → List ℕ
chunks_behind fuel size id time rest = later_chunks fuel size (basic_header 3 id) (extended_field time) rest

abbrev pub pushed : ℕ → Message → List ℕ
pushed size m = (basic_header 0 m.id ++ (message_header m ++ (extended_field m.time ++ take size m.bytes))) ++ later_chunks (length m.bytes) size (basic_header 3 m.id) (extended_field m.time) (drop size m.bytes)

abbrev pub size_then : ℕ → Message → ℕ
size_then size m = if m.type == 1 then number_of m.bytes else size

abbrev pub pushed_all : ℕ → List Message → List ℕ
pushed_all size [] = []
pushed_all size (m ∷ ms) = pushed size m ++ pushed_all (size_then size m) ms

-- the chunk size that a writer holds
abbrev pub size_of : Chunker → ℕ
size_of c = c.size

-- a message that is written
pub record IsPushed (m : Message) : Type 0 where
  pub least : 2 ≤ m.id
  pub most : m.id ≤ 65599
  pub short : length m.bytes ≤ 16777215
  pub type : m.type < 256
  pub stream : m.stream < 4294967296
  pub time : m.time < 4294967296
  pub bytes : AreBytes m.bytes
  pub four : m.type ≡ 1 → length m.bytes ≡ 4
  pub number : m.type ≡ 1 → (0 < number_of m.bytes) × (number_of m.bytes < 2147483648)

-- a message that is written, where it sets no chunk size
abbrev pub IsPushable : Message → Type 0
IsPushable m = (m.type ≡ 1 → ⊥) → IsPushed m

-- a message of type 1 sets a chunk size from 1 to 2^31-1 (5.4.1)
abbrev pub sets_no_size : Message → Bool
sets_no_size m = (m.type == 1) && (not (length m.bytes == 4) || ((number_of m.bytes == 0) || nat_le 2147483648 (number_of m.bytes)))

-- why a message is not written: the first of these that holds
abbrev pub refusal_of : Message → Option ChunkEnd
refusal_of m = if nat_lt m.id 2 || nat_lt 65599 m.id then Some BadId else if nat_lt 16777215 (length m.bytes) then Some LongData else if sets_no_size m then Some BadSize else None
