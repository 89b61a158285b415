-- What a rechunker writes.
use Rattle.std.proofs.Common.{◌≡◌, ℕ, ◌<◌, ◌⊎◌, inl, inr, Some, Bool, true, false, cond, eqb, Result, Ok, Err, OnOk, OnErr, List, [], ◌∷◌, ◌++◌, refl, sym, ap, ◌∙◌, arith, subst, append_assoc, eq-eqb}
use Rattle.std.specs.Int.{to_be_bytes, w32}
use Rattle.std.proofs.lemmas.Bool.{eqb-true}
use Rattle.std.proofs.lemmas.List.{append-nil}
use Rattle.std.proofs.lemmas.Nat.{from_be_bytes-to_be_bytes_4}
use Rattle.rtmp_chunks.specs.Chunk.{Message, number_of}
use Rattle.amf_io.specs.Field.{AreBytes}
use Rattle.rtmp_chunks.specs.declared.chunker.ChunkEnd.{ChunkEnd}
use Rattle.rtmp_chunks.specs.declared.chunker.ChunkEnd.TheVariants.{Memory}
use Rattle.rtmp_chunks.specs.Push.{pushed, pushed_all, size_then, IsPushed, refusal_of}
use Rattle.rtmp_chunks.specs.Rechunk.{size_message, size_messages, others}
use Rattle.rtmp_chunks.proofs.Refusals.{pushed_none}
use Rattle.rtmp_rechunk.specs.Pass.{Appended, AreSaid}
use Rattle.rtmp_rechunk.specs.Rechunk.{Repeats, RechunkedBytes}

size_again : (size : ℕ) → size < 2147483648 → size_then 128 (size_message size) ≡ size
size_again size lt = from_be_bytes-to_be_bytes_4 size (omega (arith, lt))

-- The size that is written, and the message that sets it.

pub size_set : (size : ℕ) (m : Message) → size < 2147483648 → m ≡ size_message size → size_then 128 m ≡ size
size_set size m lt e = ap (λ k. size_then 128 k) e ∙ size_again size lt

pub starts_none : (size : ℕ) (start : List ℕ) → size ≡ 128 → start ≡ [] → start ≡ pushed_all 128 (size_messages size)
starts_none size start e none = subst (λ n. start ≡ pushed_all 128 (size_messages n)) (sym e) none

pub starts_one : (size : ℕ) (m : Message) (old start : List ℕ) → (size ≡ 128 → ⊥) → m ≡ size_message size → old ≡ [] → start ≡ old ++ pushed 128 m → start ≡ pushed_all 128 (size_messages size)
starts_one size m old start other e none is = by (eqb size 128) refl
  where
    by : (t : Bool) → eqb size 128 ≡ t → start ≡ pushed_all 128 (cond t [] (size_message size ∷ []))
    by true k = absurd (other (eqb-true size 128 k))
    by false k = is ∙ ap (λ l. l ++ pushed 128 m) none ∙ ap (λ w. pushed 128 w) e ∙ sym (append-nil (pushed 128 (size_message size)))

-- All that is written.

repeated : (size : ℕ) (ms : List Message) (out : List ℕ) → AreSaid (Repeats size) ms out → out ≡ pushed_all size (others ms)
repeated size [] out e = e
repeated size (m ∷ ms) out (first, more, h, rest, e) = by (eqb m.type 1) refl h (repeated size ms more rest)
  where
    by : (t : Bool) → eqb m.type 1 ≡ t → first ≡ cond t [] (pushed size m) → more ≡ pushed_all size (others ms) → out ≡ pushed_all size (cond t (others ms) (m ∷ others ms))
    by true k f w = e ∙ ap (λ l. l ++ more) f ∙ w
    by false k f w =
        let same : size_then size m ≡ size = ap (λ t. cond t (number_of m.bytes) size) k in
        e ∙ ap (λ l. l ++ more) f ∙ ap (λ l. pushed size m ++ l) w ∙ ap (λ n. pushed size m ++ pushed_all n (others ms)) (sym same)

behind_size : (size : ℕ) (ms : List Message) → size < 2147483648 → pushed_all 128 (size_messages size ++ ms) ≡ pushed_all 128 (size_messages size) ++ pushed_all size ms
behind_size size ms lt = by (eqb size 128) refl
  where
    by : (t : Bool) → eqb size 128 ≡ t → pushed_all 128 (cond t [] (size_message size ∷ []) ++ ms) ≡ pushed_all 128 (cond t [] (size_message size ∷ [])) ++ pushed_all size ms
    by true k = ap (λ n. pushed_all n ms) (sym (eqb-true size 128 k))
    by false k =
        ap (λ n. pushed 128 (size_message size) ++ pushed_all n ms) (size_again size lt) ∙ ap (λ l. l ++ pushed_all size ms) (sym (append-nil (pushed 128 (size_message size))))

pub rechunked_bytes : RechunkedBytes
rechunked_bytes = λ size handshake ms out some lt g.
    g.all ∙ ap (λ l. l ++ g.later) g.begun ∙ ap (λ l. (handshake ++ pushed_all 128 (size_messages size)) ++ l) (repeated size ms g.later g.said)
    ∙ append_assoc handshake (pushed_all 128 (size_messages size)) (pushed_all size (others ms)) ∙ ap (λ l. handshake ++ l) (sym (behind_size size (others ms) lt))

-- One message.

pub repeats_none : (size : ℕ) (m : Message) → m.type ≡ 1 → Repeats size m []
repeats_none size m e = ap (λ t. cond t [] (pushed size m)) (sym (eq-eqb m.type 1 e))

repeats_one : (size old : ℕ) (m : Message) → old ≡ size → (m.type ≡ 1 → ⊥) → Repeats size m (pushed old m)
repeats_one size old m e other = by (eqb m.type 1) refl
  where
    by : (t : Bool) → eqb m.type 1 ≡ t → pushed old m ≡ cond t [] (pushed size m)
    by true k = absurd (other (eqb-true m.type 1 k))
    by false k = ap (λ n. pushed n m) e

pub said_one : {E : Type 0} (r : Result (Unit {0}) E) (size old : ℕ) (m : Message) (before now : List ℕ) → old ≡ size → (m.type ≡ 1 → ⊥) → OnOk r (now ≡ before ++ pushed old m) → OnOk r (Appended (Repeats size m) before now)
said_one (Ok u) size old m before now e other k = (pushed old m, repeats_one size old m e other, k)
said_one (Err x) size old m before now e other k = tt

same_size : (old : ℕ) (m : Message) → (m.type ≡ 1 → ⊥) → size_then old m ≡ old
same_size old m other = by (eqb m.type 1) refl
  where
    by : (t : Bool) → eqb m.type 1 ≡ t → cond t (number_of m.bytes) old ≡ old
    by true k = absurd (other (eqb-true m.type 1 k))
    by false k = refl

pub kept_size : {E : Type 0} (r : Result (Unit {0}) E) (size old new : ℕ) (m : Message) → old ≡ size → (m.type ≡ 1 → ⊥) → OnOk r (new ≡ size_then old m) → OnErr r (new ≡ old) → new ≡ size
kept_size (Ok u) size old new m e other k l = k ∙ same_size old m other ∙ e
kept_size (Err x) size old new m e other k l = l ∙ e

-- What can be written is not refused.

pub size_pushed : (size : ℕ) (m : Message) → 0 < size → size < 2147483648 → m ≡ size_message size → IsPushed m
size_pushed size m some lt e = subst IsPushed (sym e) is
  where
    same : number_of (to_be_bytes w32 size) ≡ size
    same = from_be_bytes-to_be_bytes_4 size (omega (arith, lt))

    are_bytes : AreBytes (to_be_bytes w32 size)
    are_bytes = (omega arith, (omega arith, (omega arith, (omega arith, tt))))

    is : IsPushed (size_message size)
    is = record {
      least = omega arith;
      most = omega arith;
      short = omega arith;
      type = omega arith;
      stream = omega arith;
      time = omega arith;
      bytes = are_bytes;
      four = λ one. refl;
      number = λ one. (subst (λ n. 0 < n) (sym same) some, subst (λ n. n < 2147483648) (sym same) lt);
    }

pub only_memory : (m : Message) (end : ChunkEnd) → IsPushed m → (refusal_of m ≡ Some end) ⊎ (end ≡ Memory) → end ≡ Memory
only_memory m end p (inl e) = let none = pushed_none m p in absurd cc
only_memory m end p (inr e) = e
