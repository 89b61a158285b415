-- What holds of each item holds of the one at a place.
use Rattle.std.proofs.Common.{ℕ, zero, suc, ◌<◌, List, [], ◌∷◌, length, get_or, arith}
use Rattle.std.specs.List.{AllByRecursion}

pub each_there : {X : Type 0} (P : X → Type 0) (xs : List X) (i : ℕ) (d : X) → AllByRecursion P xs → i < length xs → P (get_or xs i d)
each_there P [] i d h l = absurd (omega arith)
each_there P (x ∷ xs) zero d h l = h.0
each_there P (x ∷ xs) (suc i) d h l = each_there P xs i d h.1 (omega arith)
