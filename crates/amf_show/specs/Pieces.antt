-- A text that is appended again and again: what is appended. A device of proofs.
use Rattle.std.specs.Prelude.{ℕ, List, take}
use Rattle.amf_show.specs.declared.piece.Piece.{Piece}
use Rattle.amf_show.specs.declared.piece.Piece.TheVariants.{Short, Long}

abbrev pub piece_text : Piece → List ℕ
piece_text (Short bytes len) = take len bytes
piece_text (Long text) = text.items
