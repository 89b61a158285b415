-- The numbers that the bytes of a field are.
use Rattle.std.proofs.Common.{◌≡◌, ℕ, List, length, Some, None, sym, ap, ◌∙◌}
use Rattle.amf_wire.specs.U29.{IsShortU29}
use Rattle.amf_io.specs.Field.{u29, whole}
use Rattle.amf_wire_fields.proofs.FieldLoop.{short_number}

-- a whole number is not short
pub not_short : (seen bytes : List ℕ) → seen ≡ bytes → whole u29 bytes ≡ Some (length bytes) → IsShortU29 seen → ⊥
not_short seen bytes e w s = let h : None ≡ Some (length bytes) = sym (short_number seen s) ∙ ap (whole u29) e ∙ w in absurd cc
