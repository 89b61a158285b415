-- The contents of texts, each with its number.
use Rattle.std.specs.Prelude.{ℕ, List, [], ◌∷◌, ◌++◌, if◌then◌else◌, bytes_eq}
use Rattle.std.specs.List.{fold, list_any}

-- one content more, unless it is there
abbrev pub with_content : List (List ℕ) → List ℕ → List (List ℕ)
with_content cs x = if list_any (λ y. bytes_eq y x) cs then cs else cs ++ x ∷ []

-- each content once, in the order in which they come first: a content's number is its place there
abbrev pub contents_of : List (List ℕ) → List (List ℕ)
contents_of texts = fold with_content [] texts
