-- One step of the walk over the nodes of a graph. A device of proofs.
use Rattle.std.specs.Prelude.{◌≡◌, ◌<◌, false, List, [], ◌++◌, length}
use Rattle.json.specs.Token.{Token}
use Rattle.amf_text.specs.Told as told
use Rattle.amf_text_write.specs.declared.waiting.Piece.{Piece}
use Rattle.amf_text_write.specs.declared.way.Way.{Way}
use Rattle.amf_text_write.specs.Laid.{Shown}
use Rattle.amf_text_write.specs.Pieces.{left_tokens, ArePieces}
use Rattle.amf_text_write.specs.Tells.{Tells}
use Rattle.amf_text_write.specs.Ways.{arena_in, graph_in, IsWayOf}

-- tokens that were to be told, up to those that are left
pub record Leads (whole left : List Token) (s t : Shown) : Type 0 where
  pub front : List Token
  pub parts : whole ≡ front ++ left
  pub tells : Tells front s t

abbrev pub left_in : Way → List Piece → told.Way → List Token
left_in c ps w = left_tokens (graph_in c) (arena_in c) ps w

-- a way without a table: by the tokens that it has left the walk ends
abbrev pub alone : told.Way
alone = record { order = []; table = []; digits = λ p. []; bare = false }

-- a piece is told, in each way that the code's stands for, and other pieces may wait instead
pub record Steps (c : Way) (ts : told.Way → List Token) (old new : List Piece) (s t : Shown) : Type 0 where
  pub leads : (w : told.Way) → IsWayOf c w → Leads (ts w ++ left_in c old w) (left_in c new w) s t
  pub fewer : length (left_in c new alone) < length (ts alone ++ left_in c old alone)
  pub pieces : ArePieces (arena_in c) old → ArePieces (arena_in c) new
