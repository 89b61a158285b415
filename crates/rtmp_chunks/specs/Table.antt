-- How what the reader holds is seen: a head, a chunk stream, and the state of all. And a chunk in two steps: what is read of it, and what it does to the state.
use Rattle.std.specs.Prelude.{◌≡◌, Result, Ok, Err, ℕ, zero, suc, ◌-◌, List, [], ◌∷◌, ◌++◌, length, Option, Some, None, ◌==◌, if◌then◌else◌, slice_index_or}
use Rattle.amf_io.specs.Layout.{Layout, give, want, bind}
use Rattle.rtmp_chunks.specs.declared.parts.Head.{Head as HeldHead}
use Rattle.rtmp_chunks.specs.declared.parts.Slot.{Slot as HeldSlot}
use Rattle.rtmp_chunks.specs.declared.parts.Slot.TheVariants.{Fresh as NoHead, Idle as Between, Busy as Within}
use Rattle.rtmp_chunks.specs.declared.parts.PartialMessage.{PartialMessage}
use Rattle.rtmp_chunks.specs.declared.parts.Message.{Message as HeldMessage}
use Rattle.rtmp_chunks.specs.declared.parts.Open.{Open}
use Rattle.rtmp_chunks.specs.declared.parts.Chunks.{Chunks}
use Rattle.rtmp_chunks.specs.Chunk.{lesser, header_kind, data_kind, stamp_in, Head, filled, Message, Unfinished}
use Rattle.rtmp_chunks.specs.Stream.{header_before, by_id}
use Rattle.rtmp_chunks.specs.Machine.{Slot, Fresh, Idle, Busy, State, slot_of, stamp_layout, passed, unfinished_in}

abbrev pub head_seen : HeldHead → Head
head_seen h = record { type = h.kind; size = h.size; stream = h.stream; time = h.time; delta = h.delta; extended = h.extended }

abbrev pub slot_seen : HeldSlot → Slot
slot_seen NoHead = Fresh
slot_seen (Between h) = Idle (head_seen h)
slot_seen (Within p) = Busy (head_seen p.head) p.bytes.items

-- a chunk stream past the end of the table has had no header yet
abbrev pub slots_seen : List HeldSlot → ℕ → Slot
slots_seen slots i = slot_seen (slice_index_or slots i NoHead)

abbrev pub message_seen : HeldMessage → Message
message_seen m = record { id = m.id; type = m.kind; stream = m.stream; time = m.time; bytes = m.bytes }

abbrev pub made : Option HeldMessage → List Message
made None = []
made (Some m) = message_seen m ∷ []

abbrev pub open_seen : Open → Unfinished
open_seen o = record { id = o.id; got = o.got; of = o.of }

abbrev pub opens_seen : List Open → List Unfinished
opens_seen [] = []
opens_seen (o ∷ os) = open_seen o ∷ opens_seen os

-- a message as far as it came
pub record Met : Type 0 where
  pub head : Head
  pub bytes : List ℕ

abbrev pub met : Head → List ℕ → Met
met h bytes = record { head = h; bytes = bytes }

abbrev pub part_seen : PartialMessage → Met
part_seen p = met (head_seen p.head) p.bytes.items

-- its chunk stream behind these bytes
abbrev pub slot_behind : PartialMessage → Slot
slot_behind p = slot_of (head_seen p.head) p.bytes.items

-- the header of a message that begins
abbrev pub begun : ℕ → Head → Layout Head
begun format before =
    if format == 3 then bind (passed before.extended) (λ u. give (filled 3 [] 0 before))
    else want (header_kind format) (λ header. bind (stamp_layout (stamp_in header)) (λ stamp. give (filled format header stamp before)))

-- the data of a chunk behind those that came
abbrev pub taken : ℕ → Head → List ℕ → Layout Met
taken zero h came = give (met h came)
taken (suc n) h came = want (data_kind h came (suc n)) (λ bytes. give (met h (came ++ bytes)))

abbrev pub taken_by : ℕ → Head → List ℕ → Layout Met
taken_by size h came = taken (lesser size (h.size - length came)) h came

-- a chunk behind its basic header
abbrev pub part_layout : ℕ → ℕ → Slot → Layout Met
part_layout size format Fresh = bind (begun format (header_before None)) (λ h. taken_by size h [])
part_layout size format (Idle before) = bind (begun format before) (λ h. taken_by size h [])
part_layout size format (Busy h came) = bind (passed h.extended) (λ u. taken_by size h came)

-- the unfinished messages, by id
abbrev pub ListsUnfinished : (ℕ → Slot) → List Unfinished → Type 0
ListsUnfinished slots list = (n : ℕ) → n ≡ 65600 → list ≡ by_id n 0 (λ id. unfinished_in id (slots id))

-- the state that a reader holds, with messages
abbrev pub state_seen : ℕ → List HeldSlot → List Message → State
state_seen size slots messages = record { size = size; slots = slots_seen slots; messages = messages }

abbrev pub held : Chunks → List Message → State
held c messages = state_seen c.size c.slots.items messages

-- what it lists as unfinished, and that these are the unfinished ones
abbrev pub listed : Chunks → List Unfinished
listed c = opens_seen c.unfinished.items

abbrev pub ListsAll : Chunks → Type 0
ListsAll c = ListsUnfinished (slots_seen c.slots.items) (listed c)

abbrev pub made_by : {E : Type 0} → Result (Option HeldMessage) E → List Message
made_by (Ok m) = made m
made_by (Err e) = []
