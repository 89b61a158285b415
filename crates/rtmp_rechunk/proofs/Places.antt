-- Places within the most, and what was given before a read failed as a front of the input.
use Rattle.std.proofs.Common.{◌≡◌, ℕ, ◌+◌, ◌-◌, ◌≤◌, List, ◌++◌, length, take, drop, sym, ap, ◌∙◌, arith, subst, append_assoc, length-append, Result}
use Rattle.std.proofs.Math.Seq.{take-append_seam}
use Rattle.std.proofs.lemmas.List.{length-take, take-append-le, take-append-drop}
use Rattle.amf_io.specs.declared.reason.Reason.{Reason}
use Rattle.amf_io.specs.declared.window.Window.{Window}
use Rattle.amf_io.specs.declared.cursor.Cursor.{Cursor}
use Rattle.amf_io.specs.declared.ends.ReadEnd.{ReadEnd}
use Rattle.amf_io.specs.Cursor.{source_of, place, bound, ahead, unread}
use Rattle.amf_io.specs.Field.{Field, flat}
use Rattle.amf_io.specs.ReadEnds.{GoesBy}
use Rattle.amf_io.specs.Stretch.{IsInterrupted}
use Rattle.amf_io.specs.Verdict.{IsRefused, faulty, truncated, too_large}
use Rattle.rtmp_chunks.specs.Chunk.{Message, Unfinished}
use Rattle.rtmp_chunks.specs.Stream.{joined_chunks}
use Rattle.rtmp_chunks.specs.Laws.{IsStreamFields}
use Rattle.rtmp_chunks.specs.Calls.{FrontSays, NoFront}
use Rattle.rtmp_rechunk.specs.Pass.{most, GivesBefore, nothing, those, GivesOfFront, MayGive, of_some}

-- a refusal stands within the limit
pub refused_within : (P : List Field → Type 0) (limit : ℕ) (input : List ℕ) (reason : Reason) (at : ℕ) → IsRefused P 0 limit input reason at → at ≤ limit
refused_within P limit input reason at (faulty f) = let p = f.place in let q = ap length f.parts in omega (arith, p, q, length-append (flat f.start) f.rest, length-take (limit - 0) input)
refused_within P limit input reason at (truncated e t) = let p = t.cut_off.place in let q = ap length t.cut_off.parts in let w = t.within in omega (arith, p, q, w, length-append (flat t.cut_off.start) t.cut_off.rest)
refused_within P limit input reason at (too_large e t) = let p = t.cut_off.place in let q = ap length t.cut_off.parts in omega (arith, p, q, length-append (flat t.cut_off.start) t.cut_off.rest, length-take (limit - 0) input)

-- what is unread is what was read ahead, and what the source has left
unread_within : {S : Type 0} (left : S → List ℕ) (c : Cursor S Window) → length (unread left c) ≤ ahead c + length (left (source_of c).now)
unread_within left c =
    let waits = take (ahead c) (drop c.window.start c.window.buffer.items) in
    omega (arith, length-append waits (left c.source.now), length-take (ahead c) (drop c.window.start c.window.buffer.items))

taken_whole : (at end next behind before rest limit last : ℕ) → at ≡ 0 → limit ≡ most → last ≡ limit → end + behind ≡ at + next → end + before ≤ last + 1 → behind ≤ before + rest → next ≤ rest + (most + 1)
taken_whole at end next behind before rest limit last z l b total past within = omega arith

-- no more than one byte past the most was taken
pub taken_by : {S X : Type 0} (tells : S → Type 0) (left : S → List ℕ) (faults : S → ℕ) (old new : Cursor S Window) (r : Result X ReadEnd) → place old ≡ 0 → bound old ≡ most → GoesBy tells left faults old new r → tells (source_of old).now
    → length (unread left old) ≤ length (left (source_of new).now) + (most + 1)
taken_by tells left faults old new r z l g told =
    taken_whole (place old) (place new) (length (unread left old)) (length (unread left new)) (ahead new) (length (left (source_of new).now)) (bound old) (bound new) z l g.same_bound (g.total told) g.one_past (unread_within left new)

-- A front of what was given is one of the input.

front_of : (other more given rest : List ℕ) → other ++ more ≡ given ++ rest → length other ≤ length given → given ≡ other ++ drop (length other) given
front_of other more given rest e le =
    sym (take-append-drop (length other) given)
    ∙ ap (λ l. l ++ drop (length other) given) (sym (take-append-le (length other) given rest le) ∙ ap (λ l. take (length other) l) (sym e) ∙ take-append_seam other more)

longer_none : (given rest input : List ℕ) → input ≡ given ++ rest → NoFront given (length given) → NoFront input (length given)
longer_none given rest input e n = λ front left ms us p le s. n front (drop (length front) given) ms us (front_of front left given rest (sym p ∙ e) le) le s

longer_front : (given rest input : List ℕ) (ms : List Message) → input ≡ given ++ rest → FrontSays given (length given) ms → FrontSays input (length given) ms
longer_front given rest input ms e f = record {
  front = f.front;
  left = f.left ++ rest;
  opens = f.opens;
  parts = e ∙ ap (λ l. l ++ rest) f.parts ∙ append_assoc f.front f.left rest;
  within = f.within;
  says = f.says;
  longest = λ other more ns us p le s. f.longest other (drop (length other) given) ns us (front_of other more given rest (sym p ∙ e) le) le s;
}

module _ (Begins : List ℕ → List ℕ → Type 0) (Says : Message → List ℕ → Type 0) where
  longer_gives : (given rest input out : List ℕ) → input ≡ given ++ rest → GivesBefore Begins Says given (length given) out → GivesBefore Begins Says input (length given) out
  longer_gives given rest input out e (nothing n o) = nothing (longer_none given rest input e n) o
  longer_gives given rest input out e (those ms f g) =
      let long : 3073 ≤ length given = omega (arith, f.says.size, ap length f.says.parts, length-append f.says.handshake (joined_chunks f.says.chunks), ap length f.parts, length-append f.front f.left) in
      let same : take 3073 given ≡ take 3073 input = sym (take-append-le 3073 given rest long) ∙ ap (λ l. take 3073 l) (sym e) in
      those ms (longer_front given rest input ms e f) (record { start = g.start; later = g.later; begun = subst (λ l. Begins l g.start) same g.begun; said = g.said; all = g.all })

  -- what is written for what was given before a read failed may be written
  pub may_give_front : (Ends : List Unfinished → List ℕ → Type 0) (input rest out : List ℕ) → IsInterrupted IsStreamFields input rest 0 most → GivesOfFront Begins Says input rest out → MayGive Begins Says Ends input out
  may_give_front Ends input rest out w g =
      let a = w.within in
      let b = ap length w.parts in
      let c = ap length g.parts in
      of_some (length g.given) (omega (arith, a, b, c, length-append w.given rest, length-append g.given rest)) (longer_gives g.given rest input out g.parts g.gives)

  -- and what is written for the messages before a refusal
  pub may_give_before : (Ends : List Unfinished → List ℕ → Type 0) (input out : List ℕ) (reason : Reason) (at : ℕ) → IsRefused IsStreamFields 0 most input reason at → GivesBefore Begins Says input at out → MayGive Begins Says Ends input out
  may_give_before Ends input out reason at v g = of_some at (refused_within IsStreamFields most input reason at v) g
