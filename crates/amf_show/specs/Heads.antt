-- What the objects of a class have in common in a listing. A device of proofs.
use Rattle.std.specs.Prelude.{◌≡◌, ℕ, List, map}
use Rattle.std.specs.List.{All}
use Rattle.amf_graph.specs.Arena.{Arena, traits_at}
use Rattle.amf_show.specs.Joining.{heads_from, object_opening}
use Rattle.amf_show.specs.Pieces.{piece_text}
use Rattle.amf_show.specs.declared.piece.Piece.{Piece}
use Rattle.amf_show.specs.declared.class_text.ClassText.{ClassText}

abbrev pub texts_of : List Piece → List (List ℕ)
texts_of xs = map piece_text xs

-- what a class text has to hold: the opening, what stands before each member, and whether the class takes further ones
abbrev pub IsTextOf : Arena → ℕ → ClassText → Type 0
IsTextOf a t c = (piece_text c.opening ≡ object_opening (traits_at a t).class) × (texts_of c.heads.items ≡ heads_from 0 (traits_at a t).sealed) × (c.dynamic ≡ (traits_at a t).dynamic)

-- each of them is its class's
abbrev pub AreTexts : Arena → List ClassText → Type 0
AreTexts a cs = All (λ c. IsTextOf a c.traits.0 c) cs
