-- Lists one behind the other in one, each by the place where it ends. A device of proofs.
use Rattle.std.specs.Prelude.{◌≡◌, ℕ, ◌≤◌, List, [], ◌∷◌, slice_range}

-- the lists that end at these places, the first of them from one place on
abbrev pub pieces : {X : Type 0} → List X → ℕ → List ℕ → List (List X)
pieces xs start [] = []
pieces xs start (e ∷ ends) = slice_range xs start e ∷ pieces xs e ends

-- none ends before it begins, and the last one ends where all do
abbrev pub AreEnds : ℕ → ℕ → List ℕ → Type 0
AreEnds start all [] = start ≡ all
AreEnds start all (e ∷ ends) = (start ≤ e) × AreEnds e all ends
