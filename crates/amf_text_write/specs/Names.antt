-- The names of pairs. A device of proofs.
use Rattle.std.specs.Prelude.{◌≡◌, ℕ, Bool, true, ◌&&◌, List, [], ◌∷◌, map}
use Rattle.amf_graph.specs.declared.value.Value.{Value as Stored}
use Rattle.amf_graph.specs.declared.value.TextId.{TextId}
use Rattle.amf_graph.specs.Arena.{Arena}
use Rattle.amf_graph.specs.Graph.{Value}
use Rattle.amf_iso.specs.Contents.{pairs_of}
use Rattle.amf_text.specs.Scalars.{is_plain}

abbrev pub names_in : List (List ℕ × Value) → List (List ℕ)
names_in ps = map (λ p. p.0) ps

-- each is UTF-8
abbrev pub all_plain : List (List ℕ) → Bool
all_plain [] = true
all_plain (x ∷ xs) = is_plain x && all_plain xs

-- of pairs as a graph keeps them
abbrev pub names_of : Arena → List (TextId × Stored) → List (List ℕ)
names_of a ps = names_in (pairs_of a ps)

-- the names of pairs are UTF-8
abbrev pub HavePlainNames : Arena → List (TextId × Stored) → Type 0
HavePlainNames a ps = all_plain (names_of a ps) ≡ true

-- and so they are where they are keys
abbrev pub HavePlainKeys : Bool → Arena → List (TextId × Stored) → Type 0
HavePlainKeys are_keys a ps = are_keys ≡ true → HavePlainNames a ps
