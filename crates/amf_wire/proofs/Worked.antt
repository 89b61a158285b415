-- Worked facts.
use Rattle.std.proofs.Common.{◌≤◌, [], ◌∷◌, refl, arith}
use Rattle.amf_wire.specs.Style.{free, canonical}
use Rattle.amf_wire.specs.U29.{one, two, IsU29}
use Rattle.amf_wire.specs.Text.{IsText}
use Rattle.amf_wire.proofs.Shortest.{big}

pub five_longer : IsU29 free 5 (0x80 ∷ 5 ∷ [])
five_longer = record { spelled = two 0 5 (omega arith) (omega arith) refl refl; shortest = tt }

pub longer_is_not_canonical : IsU29 canonical 5 (0x80 ∷ 5 ∷ []) → ⊥
longer_is_not_canonical u = let h : 2 ≤ 1 = u.shortest (5 ∷ []) (one 5 (omega arith) refl refl) in omega arith

pub least : IsU29 canonical 268435456 (0xC0 ∷ 0x80 ∷ 0x80 ∷ 0 ∷ [])
least = big 268435456 64 0 0 0 (omega arith) (omega arith) (omega arith) (omega arith) (omega arith) refl

pub greatest : IsU29 canonical 268435455 (0xBF ∷ 0xFF ∷ 0xFF ∷ 0xFF ∷ [])
greatest = big 268435455 63 127 127 255 (omega arith) (omega arith) (omega arith) (omega arith) (omega arith) refl

pub minus_one : IsU29 canonical 536870911 (0xFF ∷ 0xFF ∷ 0xFF ∷ 0xFF ∷ [])
minus_one = big 536870911 127 127 127 255 (omega arith) (omega arith) (omega arith) (omega arith) (omega arith) refl

pub zero_text : IsText (0xC0 ∷ 0x80 ∷ [])
zero_text = ((0xC0 ∷ 0x80 ∷ []) ∷ [], ((10, _, refl, ((omega arith, omega arith), ((omega arith, omega arith), tt))), tt), refl)
