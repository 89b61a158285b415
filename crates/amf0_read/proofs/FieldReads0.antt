-- Fields that are judged by their numbers: the markers, and the index of a node.
use Rattle.std.proofs.Common.{◌≡◌, ℕ, ◌≤◌, ◌<◌, Bool, true, false, List, [], ◌∷◌, length, Some, None, Option, Ok, refl, sym, ap, ◌∙◌, subst, arith, nat_le, nat_lt, slice_get, get_or}
use Rattle.std.specs.Prelude.{◌==◌, ◌&&◌, ◌||◌, if◌then◌else◌}
use Rattle.std.specs.List.{list_any}
use Rattle.std.proofs.lemmas.Option.{slice_get_within}
use Rattle.std.proofs.lemmas.Option.{get_or_from_slice_get}
use Rattle.amf_io.specs.declared.window.Window.{Window}
use Rattle.amf_io.specs.declared.cursor.Cursor.{Cursor}
use Rattle.amf_io.specs.declared.reason.Reason.{Reason}
use Rattle.amf_io.specs.declared.reason.Reason.TheVariants.{BadMarker, BadReference}
use Rattle.amf_io.specs.declared.ends.ReadEnd.{ReadEnd}
use Rattle.amf_io.specs.declared.ends.ReadEnd.TheVariants.{Refused}
use Rattle.amf_io.specs.Cursor.{place}
use Rattle.amf_io.specs.Field.{Kind}
use Rattle.amf_io.specs.Layout.{Layout, want}
use Rattle.amf_io.specs.CursorReads.{AnswersField, Ends}
use Rattle.amf_io.proofs.CursorReads.{field_refused}
use Rattle.amf0_spelling.specs.Refusals0.{marker0_refusal, index0_refusal}
use Rattle.amf3_read.proofs.TextReads.{slice_past}

-- a field that is refused
pub refused_at : {S Y : Type 0} (tells : S → Type 0) (left : S → List ℕ) (faults : S → ℕ) (kind : Kind) (next : List ℕ → Layout Y) (c d e : Cursor S Window) (b : List ℕ) (at : ℕ) (reason : Reason) (end : ReadEnd)
    → AnswersField {X = List ℕ} tells left (λ x. x) kind.size c d (Ok b) → kind.refusal b ≡ Some reason → end ≡ Refused (record { reason = reason; at = at }) → at ≡ place c → Ends tells left (want kind next) c e end
refused_at tells left faults kind next c d e b at reason end f bad same here =
    subst (Ends tells left (want kind next) c e) (sym (same ∙ ap (λ k. Refused (record { reason = reason; at = k })) here))
    (field_refused tells left faults (λ (x : List ℕ). x) kind next c d e b reason f bad)

-- an index that is there
pub index_clean : (nodes : List ℕ) (i n : ℕ) → Some n ≡ slice_get nodes i → index0_refusal (length nodes) i ≡ None
index_clean nodes i n e = ap (λ b. if b then Some BadReference else None) (below (length nodes) i (within nodes i n e))
  where
    below : (n k : ℕ) → k < n → nat_le n k ≡ false
    below n k lt = grind arith

    within : (xs : List ℕ) (k x : ℕ) → Some x ≡ slice_get xs k → k < length xs
    within xs k x e = slice_get_within xs k x (sym e)

-- and one that is not
pub index_past : (nodes : List ℕ) (i : ℕ) → None ≡ slice_get nodes i → index0_refusal (length nodes) i ≡ Some BadReference
index_past nodes i e = ap (λ b. if b then Some BadReference else None) (above (length nodes) i (slice_past nodes i e))
  where
    above : (n k : ℕ) → n ≤ k → nat_le n k ≡ true
    above n k le = grind arith

-- the node of the table
pub index_names : (nodes : List ℕ) (i n : ℕ) → Some n ≡ slice_get nodes i → n ≡ get_or nodes i 0
index_names nodes i n e = sym (get_or_from_slice_get nodes i n 0 (sym e))

-- behind an empty name the end is clean, and all other markers are as elsewhere
pub end_clean : (n byte : ℕ) → byte ≡ 9 → marker0_refusal true n byte ≡ None
end_clean n byte e = ap (marker0_refusal true n) e

pub same_refusal : (n byte : ℕ) → (byte ≡ 9 → ⊥) → marker0_refusal true n byte ≡ marker0_refusal false n byte
same_refusal n byte other = ap (λ b. marker_with b) (no_end (byte == 9) (no_nine byte other))
  where
    no_nine : (byte : ℕ) → (byte ≡ 9 → ⊥) → (byte == 9) ≡ false
    no_nine byte other = grind arith

    no_end : (b : Bool) → b ≡ false → (b && false) ≡ (b && true)
    no_end true e = absurd cc
    no_end false e = refl

    marker_with : Bool → Option Reason
    marker_with b = if (list_any (λ k. k == byte) (0x04 ∷ 0x0E ∷ []) || (b || nat_lt 0x11 byte)) then Some BadMarker else (if ((byte == 0x07) && (n == 0)) then Some BadReference else None)
