-- What stands before a part of a listing that is joined from parts. A device of proofs.
use Rattle.std.specs.Prelude.{ℕ, zero, suc, List, [], ◌∷◌, ◌++◌, codes, decimal}
use Rattle.amf_show.specs.Shown.{shown_text}

-- nothing before the first part
abbrev pub separator_before : ℕ → List ℕ
separator_before zero = []
separator_before (suc i) = codes ", "

-- before the value of the member at a place: its name too
abbrev pub head_before : ℕ → List ℕ → List ℕ
head_before i name = separator_before i ++ (shown_text name ++ codes "=")

-- of names from a place on
abbrev pub heads_from : ℕ → List (List ℕ) → List (List ℕ)
heads_from i [] = []
heads_from i (name ∷ names) = head_before i name ∷ heads_from (suc i) names

-- an object up to the brace before its first member
abbrev pub object_opening : List ℕ → List ℕ
object_opening class = codes "object " ++ shown_text class ++ codes " sealed " ++ codes "{"

-- what stands before the contents of the node with this number
abbrev pub line_number : ℕ → List ℕ
line_number n = codes "#" ++ decimal n ++ codes " "
