-- The markers of AMF 0 that are not refused.
use Rattle.std.proofs.Common.{◌≡◌, ℕ, zero, suc, ◌<◌, Bool, true, false, cond, eqb, ltb, not, ◌&&◌, ◌||◌, Option, Some, None, refl, sym, ap, ◌∙◌, arith}
use Rattle.amf_io.specs.declared.reason.Reason.TheVariants.{BadMarker, BadReference}
use Rattle.amf0_spelling.specs.Refusals0.{is_no_marker0, marker0_refusal}
use Rattle.amf0_spelling.specs.declared.marker.Marker0.{Marker0}
use Rattle.amf0_spelling.specs.Markers0.{marker0_byte, marker0_at}

-- the byte of a marker, or of the end of pairs
abbrev pub code0 : Option Marker0 → ℕ
code0 (Some m) = marker0_byte m
code0 None = 0x09

-- a marker that is not refused is one of them
marker0_below : (may_end : Bool) (nodes m : ℕ) → marker0_refusal may_end nodes m ≡ None → m < 18
marker0_below may_end nodes m ok = go (ltb 17 m) refl ok
  where
    not_more : (m : ℕ) → ltb 17 m ≡ false → m < 18
    not_more m e = grind arith

    or_true : (a b : Bool) → (a || (b || true)) ≡ true
    or_true true b = refl
    or_true false true = refl
    or_true false false = refl

    go : (b : Bool) → ltb 17 m ≡ b → marker0_refusal may_end nodes m ≡ None → m < 18
    go false e f = not_more m e
    go true e f =
        let n : is_no_marker0 may_end m ≡ true = ap (λ t. (eqb 4 m || (eqb 14 m || false)) || ((eqb m 9 && not may_end) || t)) e ∙ or_true (eqb 4 m || (eqb 14 m || false)) (eqb m 9 && not may_end) in
        let z : Some BadMarker ≡ None = sym (ap (λ t. cond t (Some BadMarker) (cond (eqb m 7 && eqb nodes 0) (Some BadReference) None)) n) ∙ f in
        absurd (none_is z)
      where
        none_is : {X : Type 0} {x : X} → Some x ≡ None → ⊥
        none_is e = cc

-- a byte that is not refused is that of its marker
pub code0_at : (may_end : Bool) (nodes m : ℕ) → marker0_refusal may_end nodes m ≡ None → code0 (marker0_at m) ≡ m
code0_at may_end nodes m ok = go m (marker0_below may_end nodes m ok) ok
  where
    go : (m : ℕ) → m < 18 → marker0_refusal may_end nodes m ≡ None → code0 (marker0_at m) ≡ m
    go zero l ok = refl
    go (suc zero) l ok = refl
    go (suc (suc zero)) l ok = refl
    go (suc (suc (suc zero))) l ok = refl
    go (suc (suc (suc (suc zero)))) l ok = absurd cc
    go (suc (suc (suc (suc (suc zero))))) l ok = refl
    go (suc (suc (suc (suc (suc (suc zero)))))) l ok = refl
    go (suc (suc (suc (suc (suc (suc (suc zero))))))) l ok = refl
    go (suc (suc (suc (suc (suc (suc (suc (suc zero)))))))) l ok = refl
    go (suc (suc (suc (suc (suc (suc (suc (suc (suc zero))))))))) l ok = refl
    go (suc (suc (suc (suc (suc (suc (suc (suc (suc (suc zero)))))))))) l ok = refl
    go (suc (suc (suc (suc (suc (suc (suc (suc (suc (suc (suc zero))))))))))) l ok = refl
    go (suc (suc (suc (suc (suc (suc (suc (suc (suc (suc (suc (suc zero)))))))))))) l ok = refl
    go (suc (suc (suc (suc (suc (suc (suc (suc (suc (suc (suc (suc (suc zero))))))))))))) l ok = refl
    go (suc (suc (suc (suc (suc (suc (suc (suc (suc (suc (suc (suc (suc (suc zero)))))))))))))) l ok = absurd cc
    go (suc (suc (suc (suc (suc (suc (suc (suc (suc (suc (suc (suc (suc (suc (suc zero))))))))))))))) l ok = refl
    go (suc (suc (suc (suc (suc (suc (suc (suc (suc (suc (suc (suc (suc (suc (suc (suc zero)))))))))))))))) l ok = refl
    go (suc (suc (suc (suc (suc (suc (suc (suc (suc (suc (suc (suc (suc (suc (suc (suc (suc zero))))))))))))))))) l ok = refl
    go (suc (suc (suc (suc (suc (suc (suc (suc (suc (suc (suc (suc (suc (suc (suc (suc (suc (suc m)))))))))))))))))) l ok = absurd (omega arith)

-- a place is not empty
pub some_place : (may_end : Bool) (nodes : ℕ) → marker0_refusal may_end nodes 0x07 ≡ None → 0 < nodes
some_place may_end zero ok = absurd cc
some_place may_end (suc n) ok = omega arith

-- the end stands where it may
pub end_may : (may_end : Bool) (nodes : ℕ) → marker0_refusal may_end nodes 0x09 ≡ None → may_end ≡ true
end_may true nodes ok = refl
end_may false nodes ok = absurd cc
