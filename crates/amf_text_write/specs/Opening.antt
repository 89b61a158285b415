-- What is told of a node, up to its first value, and what then waits. A device of proofs.
use Rattle.std.specs.Prelude.{◌≡◌, ℕ, ◌<◌, Bool, List, [], ◌∷◌, ◌++◌, length, map, if◌then◌else◌}
use Rattle.json.specs.Token.{Token, key}
use Rattle.json.specs.Json.{Json, Members, no_members, member}
use Rattle.json.specs.Json as json
use Rattle.json.specs.Tree.{json_tokens}
use Rattle.amf_graph.specs.declared.value.Value.{Value as Stored}
use Rattle.amf_graph.specs.declared.value.TextId.{TextId}
use Rattle.amf_graph.specs.Arena.{Arena, IsTextId, text_at}
use Rattle.amf_graph.specs.Graph.{Graph, Head, Value, node_at}
use Rattle.amf_graph.specs.Views.{flat}
use Rattle.amf_graph.specs.ByName.{by_name}
use Rattle.amf_iso.specs.Contents.{values_of}
use Rattle.amf_text.specs.Scalars.{AreDigits}
use Rattle.amf_text.specs.Told.{Way, told_names, told_body, told_node, listed, entries_of, members_of, told_members}
use Rattle.amf_text.specs.Told as told
use Rattle.std.specs.List.{AllByRecursion}
use Rattle.amf_text_write.specs.declared.waiting.Piece.{Piece}
use Rattle.amf_text_write.specs.Laid.{Shown}
use Rattle.amf_text_write.specs.Tells.{Tells}
use Rattle.amf_text_write.specs.Pieces.{left_tokens, ArePieces}

-- some of the tokens were told, whatever the digits, and pieces wait that stand for the others
pub record Opens (g : Graph) (a : Arena) (ts : Way → List Token) (old new : List Piece) (s t : Shown) : Type 0 where
  pub front : Way → List Token
  pub some : (w : Way) → 0 < length (front w)
  pub parts : (w : Way) → ts w ++ left_tokens g a old w ≡ front w ++ left_tokens g a new w
  pub tells : (w : Way) → AreDigits w.digits → Tells (front w) s t
  pub pieces : ArePieces a old → ArePieces a new

-- The tokens of a node, by its head, names and values.

abbrev pub body_tokens : Graph → ℕ → Head → List (List ℕ × Value) → List Value → Way → List Token
body_tokens g n h ps vs w = json_tokens (told_body w.digits h (told_names (told.told w g n) (by_name ps)) (map (told.told w g n) vs))

abbrev pub node_tokens : Graph → ℕ → ℕ → Way → List Token
node_tokens g n i w = json_tokens (told_node w (told.told w g n) (node_at g i))

-- Of parts of a node.

-- values as a list
abbrev pub list_tokens : Graph → Arena → ℕ → List Stored → Way → List Token
list_tokens g a n vs w = json_tokens (listed (map (told.told w g n) (values_of a vs)))

-- the keys of a dictionary with their values as a list
abbrev pub pairings_tokens : Graph → Arena → ℕ → List (Stored × Stored) → Way → List Token
pairings_tokens g a n es w = json_tokens (listed (entries_of (map (told.told w g n) (values_of a (flat es)))))

-- named values as an object, or as a list of pairs
abbrev pub told_by : Bool → List (List ℕ × Json) → Json
told_by are_keys ps = if are_keys then json.object (members_of ps) else listed (told.pairs_of ps)

abbrev pub told_tokens : Graph → Bool → ℕ → List (List ℕ × Value) → Way → List Token
told_tokens g are_keys n ps w = json_tokens (told_by are_keys (told_names (told.told w g n) ps))

-- the tokens of members, without the bracket behind them
abbrev pub member_parts : Members → List Token
member_parts no_members = []
member_parts (member k j ms) = key k ∷ (json_tokens j ++ member_parts ms)

-- names and the values at their places

abbrev pub names_at : Arena → List TextId → List (List ℕ)
names_at a ids = map (λ (t : TextId). text_at a t.0) ids

abbrev pub AreIds : Arena → List TextId → Type 0
AreIds a ids = AllByRecursion (λ (t : TextId). IsTextId a t.0) ids
