-- So many bytes of a kind that came, by their layout.
use Rattle.std.proofs.Common.{◌≡◌, ℕ, zero, suc, ◌+◌, ◌<◌, List, [], ◌∷◌, length, Some, None, refl, sym, ap, ◌∙◌, subst, arith, length-append}
use Rattle.amf_wire.specs.Text.{IsText}
use Rattle.amf_wire.proofs.TextTest.{is_text-is}
use Rattle.amf_io.specs.Field.{Kind, Field, fixed, text_kind, flat, whole}
use Rattle.amf_io.specs.Layout.{give, Runs}
use Rattle.amf_io.specs.LayoutAnswer.{DoneBy}
use Rattle.amf_io.proofs.Whole.{whole_fixed}
use Rattle.amf3_layout_laws.specs.Layout3Words.{chunk}
use Rattle.amf3_layout_laws.proofs.Layout3SoundTexts.{give_is, texts_are}

-- so many bytes of a kind came
pub record CameChunk (kind : ℕ → Kind) (size : ℕ) (bytes : List ℕ) (at place : ℕ) : Type 0 where
  pub long : length bytes ≡ size
  pub clean : 0 < size → (kind size).refusal bytes ≡ None
  pub taken : place ≡ at + size

pub came_chunk : (told : Type 0) (kind : ℕ → Kind) (size : ℕ) (bytes input rest : List ℕ) (at place limit : ℕ) → ((n : ℕ) → (kind n).size ≡ fixed n) → DoneBy told (chunk kind size (λ b. give b)) bytes input rest at place limit → CameChunk kind size bytes at place
came_chunk told kind size bytes input rest at place limit sizes d = by size bytes d.fields d.runs d.taken
  where
    by : (size : ℕ) (bytes : List ℕ) (fs : List Field) → Runs (chunk kind size (λ b. give b)) fs bytes → place ≡ at + length (flat fs) → CameChunk kind size bytes at place
    by zero bytes [] r t = record { long = sym (ap length (give_is [] bytes r)); clean = λ lt. absurd (omega arith); taken = t }
    by zero bytes (f ∷ fs) r t = absurd r
    by (suc n) bytes [] r t = absurd cc
    by (suc n) bytes (f ∷ []) r t =
        let same : f.bytes ≡ bytes = give_is f.bytes bytes r.1 in
        let long : suc n ≡ length f.bytes = whole_fixed (suc n) f.bytes (length f.bytes) (subst (λ z. whole z f.bytes ≡ Some (length f.bytes)) (sizes (suc n)) r.0.is_whole) in
        record {
          long = sym (long ∙ ap length same);
          clean = λ lt. subst (λ b. (kind (suc n)).refusal b ≡ None) same r.0.clean;
          taken = let e = length-append f.bytes [] in omega (arith, e, t, long);
        }
    by (suc n) bytes (f ∷ g ∷ fs) r t = absurd r.1

pub came_text : {told : Type 0} (size : ℕ) {bytes input rest : List ℕ} {at place limit : ℕ} → DoneBy told (chunk text_kind size (λ b. give b)) bytes input rest at place limit → CameChunk text_kind size bytes at place
came_text {told = told} size {bytes = bytes} {input = input} {rest = rest} {at = at} {place = place} {limit = limit} d = came_chunk told text_kind size bytes input rest at place limit (λ n. refl) d

-- those of a text are a text
pub is_text : {size : ℕ} {bytes : List ℕ} {at place : ℕ} → CameChunk text_kind size bytes at place → IsText bytes
is_text {size = size} {bytes = []} c = (is_text-is []).0 refl
is_text {size = size} {bytes = b ∷ bytes} c = let e = c.long in texts_are.texts size (b ∷ bytes) (c.clean (omega arith))
