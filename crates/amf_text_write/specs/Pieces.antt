-- What a stack of pieces stands for. A device of proofs.
use Rattle.std.specs.Prelude.{◌≡◌, ℕ, true, List, [], ◌∷◌, ◌++◌, map}
use Rattle.std.specs.List.{AllByRecursion}
use Rattle.json.specs.Token.{Token, key, begin_array, end_array}
use Rattle.json.specs.Reads.{token_of}
use Rattle.json.specs.Print.{IsPrintable}
use Rattle.json.specs.Tree.{json_tokens}
use Rattle.amf_graph.specs.declared.value.Value.{Value as Stored}
use Rattle.amf_graph.specs.declared.value.TextId.{TextId}
use Rattle.amf_graph.specs.Graph.{Graph}
use Rattle.amf_graph.specs.Arena.{Arena, Names, IsTextId, text_at, value_content}
use Rattle.amf_graph.specs.Views.{flat}
use Rattle.amf_iso.specs.Contents.{values_of, pairs_of}
use Rattle.amf_text.specs.Scalars.{is_plain, told_text}
use Rattle.amf_text.specs.Told.{Way, two, told_names, entries_of}
use Rattle.amf_text.specs.Told as told
use Rattle.amf_text_write.specs.Names.{names_of}
use Rattle.amf_text_write.specs.Parts.{each_json, each_member}
use Rattle.amf_text_write.specs.declared.waiting.Piece.{Piece}
use Rattle.amf_text_write.specs.declared.waiting.Piece.TheVariants as piece

-- the tokens of a value with so many levels left, in a way of telling it
abbrev pub value_tokens : Graph → Arena → ℕ → Stored → Way → List Token
value_tokens g a n v w = json_tokens (told.told w g n (value_content a v))

abbrev pub piece_tokens : Graph → Arena → Piece → Way → List Token
piece_tokens g a (piece.Token t) w = token_of t ∷ []
piece_tokens g a (piece.Key id) w = key (text_at a id.0) ∷ []
piece_tokens g a (piece.Name id) w = json_tokens (told_text (text_at a id.0))
piece_tokens g a (piece.Value n v) w = value_tokens g a n v w

-- those of the last piece come first
abbrev pub left_tokens : Graph → Arena → List Piece → Way → List Token
left_tokens g a [] w = []
left_tokens g a (p ∷ ps) w = left_tokens g a ps w ++ piece_tokens g a p w

-- the names and the values are the arena's, and a key is UTF-8
abbrev pub IsPiece : Arena → Piece → Type 0
IsPiece a (piece.Token t) = IsPrintable (token_of t)
IsPiece a (piece.Key id) = IsTextId a id.0 × (is_plain (text_at a id.0) ≡ true)
IsPiece a (piece.Name id) = IsTextId a id.0
IsPiece a (piece.Value n v) = Names a v

-- a name as the key of a member
abbrev pub IsKey : Arena → TextId → Type 0
IsKey a id = IsPiece a (piece.Key id)

abbrev pub ArePieces : Arena → List Piece → Type 0
ArePieces a ps = AllByRecursion (IsPiece a) ps

-- pieces that stand for these tokens were put onto the stack
pub record Puts (g : Graph) (a : Arena) (ts : Way → List Token) (old new : List Piece) : Type 0 where
  pub left : (w : Way) → left_tokens g a new w ≡ ts w ++ left_tokens g a old w
  pub pieces : ArePieces a old → ArePieces a new

-- The tokens of parts of a node, one after another.

abbrev pub values_tokens : Graph → Arena → ℕ → List Stored → Way → List Token
values_tokens g a n vs w = each_json (map (told.told w g n) (values_of a vs))

-- each key of a dictionary with its value as a list of two
abbrev pub entries_tokens : Graph → Arena → ℕ → List (Stored × Stored) → Way → List Token
entries_tokens g a n es w = each_json (entries_of (map (told.told w g n) (values_of a (flat es))))

-- named values as members of an object, and as lists of two

abbrev pub members_tokens : Graph → Arena → ℕ → List (TextId × Stored) → Way → List Token
members_tokens g a n ps w = each_member (told_names (told.told w g n) (pairs_of a ps))

abbrev pub pairs_tokens : Graph → Arena → ℕ → List (TextId × Stored) → Way → List Token
pairs_tokens g a n ps w = each_json (told.pairs_of (told_names (told.told w g n) (pairs_of a ps)))

-- names as texts
abbrev pub names_tokens : Arena → List (TextId × Stored) → Way → List Token
names_tokens a ps w = each_json (map told_text (names_of a ps))

-- Of one part alone.

-- a piece and a value as a list of two
abbrev pub two_tokens : Graph → Arena → ℕ → Piece → Stored → Way → List Token
two_tokens g a n p v w = begin_array ∷ (piece_tokens g a p w ++ (value_tokens g a n v w ++ end_array ∷ []))

-- a member of an object
abbrev pub named_tokens : Graph → Arena → ℕ → TextId × Stored → Way → List Token
named_tokens g a n p w = key (text_at a p.0.0) ∷ value_tokens g a n p.1 w
