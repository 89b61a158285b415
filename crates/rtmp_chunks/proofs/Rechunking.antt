-- The messages of an input of bytes can be written again, but those that set a chunk size.
use Rattle.std.proofs.Common.{mod-lt, ◌≡◌, ℕ, zero, suc, ◌+◌, ◌-◌, ◌<◌, ◌≤◌, Bool, true, false, cond, eqb, List, [], ◌∷◌, ◌++◌, length, take, drop, None, refl, sym, ap, ◌∙◌, arith, subst, length-append, eq-eqb}
use Rattle.std.specs.Prelude.{slice_index, ◌%◌}
use Rattle.std.specs.List.{AllByRecursion}
use Rattle.std.specs.Int.{from_be_bytes, from_le_bytes, to_be_bytes, w32}
use Rattle.std.proofs.lemmas.List.{take-append-drop}
use Rattle.std.proofs.lemmas.Nat.{from_be_bytes-to_be_bytes_4}
use Rattle.amf_io.specs.Field.{Field, flat, AreBytes}
use Rattle.amf_io.specs.Layout.{Runs}
use Rattle.amf_io.specs.Repeated.{steps}
use Rattle.amf_io.proofs.Bytes.{bytes_append, bytes_front, bytes_back}
use Rattle.amf_io.proofs.Paths.{bind_runs, flat-append}
use Rattle.rtmp_chunks.specs.Chunk.{three, format_of, id_of, stamp_in, is_extended, time_sum, full_head, same_stream, same_size, repeated, filled, Head, Message, message_of, is_whole, whole_message, is_drop, Unfinished}
use Rattle.rtmp_chunks.specs.Stream.{Chunk, chunk_bytes, IsBasic, stamp_of, header_before, IsChunkStream}
use Rattle.rtmp_chunks.specs.Machine.{Slot, Fresh, Idle, Busy, State, start, dropped, dropped_by, put, slot_of, head_layout, chunk_layout}
use Rattle.rtmp_chunks.specs.Push.{IsPushed, IsPushable}
use Rattle.rtmp_chunks.specs.Rechunk.{others, size_message, size_messages, Rechunked}
use Rattle.rtmp_chunks.proofs.ChunkFields.{Fits, FitsIn, head_in, came_in, state_behind, chunk_read}
use Rattle.rtmp_chunks.proofs.Pieces.{GoodSlot, lesser_le}
use Rattle.rtmp_chunks.proofs.Streams.{IsGood, good_step}
use Rattle.rtmp_chunks.proofs.ReadingStreams.{handshake_read, start_good, nothing_read, streams_are_read}
use Rattle.rtmp_chunks.proofs.PushedStreams.{pushed_reads}
use Rattle.rtmp_chunks.proofs.Refusals.{pushed_none}

-- Numbers of bytes.

digits : (l : List ℕ) → AreBytes l → (i : ℕ) → slice_index l i < 256
digits [] h zero = omega arith
digits [] h (suc i) = omega arith
digits (x ∷ l) h zero = h.0
digits (x ∷ l) h (suc i) = digits l h.1 i

four_high : (l : List ℕ) → ((i : ℕ) → slice_index l i < 256) → from_be_bytes w32 l < 4294967296
four_high l f = omega (arith, f 0, f 1, f 2, f 3)

four_low : (l : List ℕ) → ((i : ℕ) → slice_index l i < 256) → from_le_bytes w32 l < 4294967296
four_low l f = omega (arith, f 0, f 1, f 2, f 3)

three_below : (l : List ℕ) (i : ℕ) → ((j : ℕ) → slice_index l j < 256) → three l i ≤ 16777215
three_below l i f = omega (arith, f i, f (i + 1), f (i + 2))

sum_below : (a b : ℕ) → time_sum a b < 4294967296
sum_below a b = let some : 0 < 4294967296 = omega arith in mod-lt (a + b) some

-- What headers of bytes have.

record FitHead (h : Head) : Type 0 where
  type : h.type < 256
  size : h.size ≤ 16777215
  stream : h.stream < 4294967296
  time : h.time < 4294967296

none_fit : FitHead (header_before None)
none_fit = record { type = omega arith; size = omega arith; stream = omega arith; time = omega arith }

stamp_below : (c : Chunk) → AreBytes c.header → AreBytes c.extended → stamp_of c < 4294967296
stamp_below c h e = by (is_extended (stamp_in c.header))
  where
    by : (t : Bool) → cond t (from_be_bytes w32 c.extended) (stamp_in c.header) < 4294967296
    by true = four_high c.extended (digits c.extended e)
    by false = let le = three_below c.header 0 (digits c.header h) in omega (arith, le)

filled_fit : (format : ℕ) (header : List ℕ) (stamp : ℕ) (before : Head) → FitHead before → AreBytes header → stamp < 4294967296 → FitHead (filled format header stamp before)
filled_fit format header stamp before f b lt = by (eqb format 0) (eqb format 1) (eqb format 2)
  where
    last : AreBytes (drop 7 header)
    last = bytes_back (take 7 header) (drop 7 header) (subst AreBytes (sym (take-append-drop 7 header)) b)

    by : (x y z : Bool) → FitHead (cond x (full_head header stamp) (cond y (same_stream header stamp before) (cond z (same_size header stamp before) (repeated before))))
    by true y z = record { type = digits header b 6; size = three_below header 3 (digits header b); stream = four_low (drop 7 header) (digits (drop 7 header) last); time = lt }
    by false true z = record { type = digits header b 6; size = three_below header 3 (digits header b); stream = f.stream; time = sum_below before.time stamp }
    by false false true = record { type = f.type; size = f.size; stream = f.stream; time = sum_below before.time stamp }
    by false false false = record { type = f.type; size = f.size; stream = f.stream; time = sum_below before.time before.delta }

-- What a state of bytes has.

abbrev FitSlot : Slot → Type 0
FitSlot Fresh = Unit {0}
FitSlot (Idle h) = FitHead h
FitSlot (Busy h came) = FitHead h × AreBytes came

record IsFit (s : State) : Type 0 where
  slots : (id : ℕ) → FitSlot (s.slots id)
  messages : AllByRecursion IsPushable s.messages

head_fit : (slot : Slot) (c : Chunk) → FitSlot slot → AreBytes c.header → AreBytes c.extended → FitHead (head_in slot c)
head_fit Fresh c f h e = filled_fit (format_of c.basic) c.header (stamp_of c) (header_before None) none_fit h (stamp_below c h e)
head_fit (Idle b) c f h e = filled_fit (format_of c.basic) c.header (stamp_of c) b f h (stamp_below c h e)
head_fit (Busy b came) c f h e = f.0

came_bytes : (slot : Slot) → FitSlot slot → AreBytes (came_in slot)
came_bytes Fresh f = tt
came_bytes (Idle h) f = tt
came_bytes (Busy h came) f = f.1

no_more : (slot : Slot) (size : ℕ) (c : Chunk) → GoodSlot slot → FitsIn slot size c → length (came_in slot ++ c.content) ≤ (head_in slot c).size
no_more Fresh size c g f = let cut = f.1.is_data.cut in omega (arith, cut, lesser_le size ((head_in Fresh c).size - 0))
no_more (Idle h) size c g f = let cut = f.1.is_data.cut in omega (arith, cut, lesser_le size ((head_in (Idle h) c).size - 0))
no_more (Busy h came) size c g f =
    let cut = f.2.is_data.cut in
    let short = g.2 in
    omega (arith, cut, short, lesser_le size (h.size - length came), length-append came c.content)

abbrev IsOne : ℕ → Type 0
IsOne n = 1 ≡ n

-- the numbers of chunk streams
pub id_fits : (b : List ℕ) → IsBasic b → AreBytes b → (2 ≤ id_of b) × (id_of b ≤ 65599)
id_fits [] e h = absurd e
id_fits (b ∷ []) e h = by (b % 64) (mod-lt b some) (eqb (b % 64) 0) (eqb (b % 64) 1) refl refl e
  where
    some : 0 < 64
    some = omega arith

    two : (n : ℕ) → eqb n 0 ≡ false → eqb n 1 ≡ false → 2 ≤ n
    two zero x y = absurd cc
    two (suc zero) x y = absurd cc
    two (suc (suc n)) x y = omega arith

    by : (n : ℕ) → n < 64 → (x y : Bool) → eqb n 0 ≡ x → eqb n 1 ≡ y → IsOne (cond x 2 (cond y 3 1)) → (2 ≤ n) × (n ≤ 65599)
    by n lt true y p q s = absurd (omega (arith, s))
    by n lt false true p q s = absurd (omega (arith, s))
    by n lt false false p q s = (two n p q, omega (arith, lt))
id_fits (b ∷ c ∷ []) e h = let x = h.1.0 in (omega arith, omega (arith, x))
id_fits (b ∷ c ∷ d ∷ more) e h = let x = h.1.0 in let y = h.1.1.0 in (omega arith, omega (arith, x, y))

fit_dropped : (b : Bool) (slot : Slot) → FitSlot slot → FitSlot (cond b (dropped slot) slot)
fit_dropped false slot f = f
fit_dropped true Fresh f = tt
fit_dropped true (Idle h) f = f
fit_dropped true (Busy h came) f = f.0

fit_behind : (id : ℕ) (w : Bool) (m : Message) (slot : Slot) → FitSlot slot → FitSlot (dropped_by id (cond w (m ∷ []) []) slot)
fit_behind id false m slot f = f
fit_behind id true m slot f = fit_dropped (is_drop id m) slot f

both : (P : Message → Type 0) (a b : List Message) → AllByRecursion P a → AllByRecursion P b → AllByRecursion P (a ++ b)
both P [] b p q = q
both P (m ∷ a) b p q = (p.0, both P a b p.1 q)

fit_step : (s : State) (c : Chunk) → IsGood s → IsFit s → Fits s c → AreBytes (chunk_bytes c) → IsFit (state_behind s c)
fit_step s c g f fits b = record {
  slots = λ j. fit_behind j (is_whole head bytes) (message_of id head bytes) (put id (slot_of head bytes) s.slots j) (by_slot j (eqb id j) (is_whole head bytes));
  messages = both IsPushable s.messages (whole_message id head bytes) f.messages (by_message (is_whole head bytes));
}
  where
    id : ℕ
    id = id_of c.basic

    slot : Slot
    slot = s.slots (id_of c.basic)

    head : Head
    head = head_in (s.slots (id_of c.basic)) c

    bytes : List ℕ
    bytes = came_in (s.slots (id_of c.basic)) ++ c.content

    behind_basic : AreBytes (c.header ++ (c.extended ++ c.content))
    behind_basic = bytes_back c.basic (c.header ++ (c.extended ++ c.content)) b

    behind_header : AreBytes (c.extended ++ c.content)
    behind_header = bytes_back c.header (c.extended ++ c.content) behind_basic

    fit : FitHead (head_in (s.slots (id_of c.basic)) c)
    fit = head_fit (s.slots (id_of c.basic)) c (f.slots (id_of c.basic)) (bytes_front c.header (c.extended ++ c.content) behind_basic) (bytes_front c.extended c.content behind_header)

    are_bytes : AreBytes (came_in (s.slots (id_of c.basic)) ++ c.content)
    are_bytes = bytes_append (came_in (s.slots (id_of c.basic))) c.content (came_bytes (s.slots (id_of c.basic)) (f.slots (id_of c.basic))) (bytes_back c.extended c.content behind_header)

    by_slot : (j : ℕ) (t w : Bool) → FitSlot (cond t (cond w (Idle (head_in (s.slots (id_of c.basic)) c)) (Busy (head_in (s.slots (id_of c.basic)) c) (came_in (s.slots (id_of c.basic)) ++ c.content))) (s.slots j))
    by_slot j true true = fit
    by_slot j true false = (fit, are_bytes)
    by_slot j false w = f.slots j

    pushed : IsPushable (message_of (id_of c.basic) (head_in (s.slots (id_of c.basic)) c) (came_in (s.slots (id_of c.basic)) ++ c.content))
    pushed other =
        let i = id_fits c.basic fits.basic (bytes_front c.basic (c.header ++ (c.extended ++ c.content)) b) in
        let le = no_more (s.slots (id_of c.basic)) s.size c (g.slots (id_of c.basic)) fits.fits in
        let most = fit.size in
        record { least = i.0; most = i.1; short = omega (arith, le, most); type = fit.type; stream = fit.stream; time = fit.time; bytes = are_bytes; four = λ one. absurd (other one); number = λ one. absurd (other one) }

    by_message : (w : Bool) → AllByRecursion IsPushable (cond w (message_of (id_of c.basic) (head_in (s.slots (id_of c.basic)) c) (came_in (s.slots (id_of c.basic)) ++ c.content) ∷ []) [])
    by_message true = (pushed, tt)
    by_message false = tt

fit_steps : (m : ℕ) (s t : State) (fs : List Field) → IsGood s → IsFit s → AreBytes (flat fs) → Runs (steps chunk_layout m s) fs t → IsFit t
fit_steps zero s t fs g f b r = subst IsFit (nothing_read s t fs r).1 f
fit_steps (suc m) s t fs g f b r =
    let a = bind_runs (chunk_layout s) (λ u. steps chunk_layout m u) fs t r in
    let c = chunk_read s a.front a.value a.first in
    let all : AreBytes (flat a.front ++ flat a.back) = subst AreBytes (ap flat a.parts ∙ flat-append a.front a.back) b in
    let one : AreBytes (chunk_bytes c.chunk) = subst AreBytes c.parts (bytes_front (flat a.front) (flat a.back) all) in
    fit_steps m a.value t a.back (subst IsGood (sym c.is) (good_step s c.chunk g c.fits)) (subst IsFit (sym c.is) (fit_step s c.chunk g f c.fits one)) (bytes_back (flat a.front) (flat a.back) all) a.second

start_fit : IsFit start
start_fit = record { slots = λ id. tt; messages = tt }

written : (input : List ℕ) (messages : List Message) (open_ones : List Unfinished) → AreBytes input → IsChunkStream input messages open_ones → AllByRecursion IsPushable messages
written input messages open_ones b stream =
    let x = streams_are_read input messages open_ones stream in
    let a = bind_runs head_layout (λ s. steps chunk_layout x.count s) x.fields x.last x.runs in
    let all : AreBytes (flat a.front ++ flat a.back) = subst AreBytes (sym x.bytes ∙ ap flat a.parts ∙ flat-append a.front a.back) b in
    let begins : a.value ≡ start = (handshake_read a.front a.value a.first).begins in
    subst (λ l. AllByRecursion IsPushable l) x.told (fit_steps x.count start x.last a.back start_good start_fit (bytes_back (flat a.front) (flat a.back) all) (subst (λ s. Runs (steps chunk_layout x.count s) a.back x.last) begins a.second)).messages

others_pushed : (ms : List Message) → AllByRecursion IsPushable ms → AllByRecursion IsPushed (others ms)
others_pushed [] h = tt
others_pushed (m ∷ ms) h = by (eqb m.type 1) refl (others_pushed ms h.1)
  where
    by : (t : Bool) → eqb m.type 1 ≡ t → AllByRecursion IsPushed (others ms) → AllByRecursion IsPushed (cond t (others ms) (m ∷ others ms))
    by true e more = more
    by false e more = (h.0 (λ one. let clash : true ≡ false = sym (eq-eqb m.type 1 one) ∙ e in absurd cc), more)

accepted : (input : List ℕ) (messages : List Message) (open_ones : List Unfinished) → AreBytes input → IsChunkStream input messages open_ones → AllByRecursion IsPushed (others messages)
accepted input messages open_ones b stream = others_pushed messages (written input messages open_ones b stream)

size_pushed : (size : ℕ) → 0 < size → size < 2147483648 → AllByRecursion IsPushed (size_messages size)
size_pushed size some lt = by (eqb size 128)
  where
    same : from_be_bytes w32 (to_be_bytes w32 size) ≡ size
    same = from_be_bytes-to_be_bytes_4 size (omega (arith, lt))

    by : (t : Bool) → AllByRecursion IsPushed (cond t [] (size_message size ∷ []))
    by true = tt
    by false = (
      record {
        least = omega arith;
        most = omega arith;
        short = omega arith;
        type = omega arith;
        stream = omega arith;
        time = omega arith;
        bytes = are_bytes;
        four = λ one. refl;
        number = λ one. (subst (λ n. 0 < n) (sym same) some, subst (λ n. n < 2147483648) (sym same) lt);
      },
      tt,
    )
      where
        are_bytes : AreBytes (to_be_bytes w32 size)
        are_bytes = (omega arith, (omega arith, (omega arith, (omega arith, tt))))

pub rechunked : Rechunked
rechunked = record {
  accepted = accepted;
  unrefused = pushed_none;
  says = λ size handshake input messages open_ones some lt long version b stream. pushed_reads handshake (size_messages size ++ others messages) long version (both IsPushed (size_messages size) (others messages) (size_pushed size some lt) (accepted input messages open_ones b stream));
}
