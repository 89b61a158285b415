-- The fields of a packet that are no values, in bytes behind others.
use Rattle.std.proofs.Common.{◌≡◌, ℕ, ◌<◌, ◌^◌, Bool, true, false, cond, List, [], ◌∷◌, ◌++◌, length, refl, sym, ap, ◌∙◌, arith, append_assoc, append-nil}
use Rattle.std.specs.Int.{to_be_bytes, w16, w32}
use Rattle.amf_io.specs.Field.{Kind, flat, field, contents, raw_kind, text_kind, u16_kind, u32_kind, no_refusal}
use Rattle.amf_wire.specs.Style.{canonical}
use Rattle.amf_wire.specs.Text.{IsText}
use Rattle.amf3_spelling.specs.Segments3.{IsFlag}
use Rattle.amf0_spelling.specs.Segments0.{Short}
use Rattle.amf_packet.specs.Packet.{LengthBy, MustBy, is_version, version_refusal, VersionBy, CountBy}
use Rattle.amf_packet.specs.WriteParts.{Appends}
use mir.Val.{bool_byte}

one_field : (a b w : List ℕ) → b ≡ a ++ w → b ≡ a ++ (w ++ [])
one_field a b w e = e ∙ ap (λ x. a ++ x) (sym (append-nil w))

pub count_written : (n : ℕ) (a b : List ℕ) → n < 2 ^ 16 → b ≡ a ++ to_be_bytes w16 n → Appends (CountBy n) a b
count_written n a b lt e = (field (u16_kind no_refusal) (to_be_bytes w16 n) ∷ [], (lt, refl), one_field a b (to_be_bytes w16 n) e)

pub version_written : (v : ℕ) (a b : List ℕ) → is_version v ≡ true → b ≡ a ++ to_be_bytes w16 v → Appends (VersionBy v) a b
version_written v a b is e = (field (u16_kind version_refusal) (to_be_bytes w16 v) ∷ [], (is, refl), one_field a b (to_be_bytes w16 v) e)

pub length_written : (a b : List ℕ) → b ≡ a ++ to_be_bytes w32 0xFFFFFFFF → Appends (LengthBy canonical) a b
length_written a b e = (field (u32_kind no_refusal) (to_be_bytes w32 0xFFFFFFFF) ∷ [], (0xFFFFFFFF, omega arith, refl, refl), one_field a b (to_be_bytes w32 0xFFFFFFFF) e)

pub byte_of : (must : Bool) → bool_byte must ≡ cond must 1 0
byte_of true = refl
byte_of false = refl

flag_of : (must : Bool) → IsFlag canonical must (cond must 1 0)
flag_of true = (omega arith, omega arith, omega arith)
flag_of false = (refl, omega arith, omega arith)

pub must_written : (must : Bool) (a b : List ℕ) → b ≡ a ++ cond must 1 0 ∷ [] → Appends (MustBy canonical must) a b
must_written must a b e = (field (raw_kind 1) (cond must 1 0 ∷ []) ∷ [], (cond must 1 0, flag_of must, refl), e)

flat_contents : (kind : ℕ → Kind) (x : List ℕ) → flat (contents kind x) ≡ x
flat_contents kind [] = refl
flat_contents kind (y ∷ x) = append-nil (y ∷ x)

pub name_written : (x a b c : List ℕ) → IsText x → length x < 2 ^ 16 → b ≡ a ++ to_be_bytes w16 (length x) → c ≡ b ++ x → Appends (Short x) a c
name_written x a b c is lt e f =
    let w = to_be_bytes w16 (length x) in
    (field (u16_kind no_refusal) w ∷ contents text_kind x, (is, lt, refl), f ∙ ap (λ z. z ++ x) e ∙ append_assoc a w x ∙ ap (λ z. a ++ (w ++ z)) (sym (flat_contents text_kind x)))
