-- The tokens of parts of the graph of a way, and what was put and told of them. A device of proofs.
use Rattle.std.specs.Prelude.{ℕ, Bool, List, []}
use Rattle.json.specs.Token.{Token}
use Rattle.json.specs.Tree.{json_tokens}
use Rattle.amf_graph.specs.declared.value.Value.{Value as Stored}
use Rattle.amf_graph.specs.declared.value.TextId.{TextId}
use Rattle.amf_graph.specs.declared.views.TraitsView.{TraitsView}
use Rattle.amf_graph.specs.Arena.{text_at, traits_at}
use Rattle.amf_graph.specs.Graph as graph
use Rattle.amf_graph.specs.ByName.{by_name}
use Rattle.amf_iso.specs.Contents.{values_of, pairs_of}
use Rattle.amf_text.specs.Told as told
use Rattle.amf_text_write.specs.declared.waiting.Piece.{Piece}
use Rattle.amf_text_write.specs.declared.way.Way.{Way}
use Rattle.amf_text_write.specs.Laid.{Shown}
use Rattle.amf_text_write.specs.Pieces.{Puts, piece_tokens, value_tokens}
use Rattle.amf_text_write.specs.Opening.{Opens, body_tokens, node_tokens}
use Rattle.amf_text_write.specs.Objects.{class_tokens, sealed_tokens}
use Rattle.amf_text_write.specs.Ways.{arena_in, graph_in}

-- pieces of the graph were put onto the stack
abbrev pub PutsIn : Way → (told.Way → List Token) → List Piece → List Piece → Type 0
PutsIn c ts old new = Puts (graph_in c) (arena_in c) ts old new

-- some of the tokens were told, and pieces of the graph wait that stand for the others
abbrev pub OpensIn : Way → (told.Way → List Token) → List Piece → List Piece → Shown → Shown → Type 0
OpensIn c ts old new s t = Opens (graph_in c) (arena_in c) ts old new s t

-- a piece
abbrev pub piece_in : Way → Piece → told.Way → List Token
piece_in c p w = piece_tokens (graph_in c) (arena_in c) p w

-- a value with so many levels left
abbrev pub value_in : Way → ℕ → Stored → told.Way → List Token
value_in c n v w = value_tokens (graph_in c) (arena_in c) n v w

-- a node, by its number
abbrev pub node_in : Way → ℕ → ℕ → told.Way → List Token
node_in c n i w = node_tokens (graph_in c) n i w

-- a vector of values: whether its length is fixed, the name of its type, and the values
abbrev pub vector_in : Way → ℕ → Bool → TextId → List Stored → told.Way → List Token
vector_in c n fixed of vs w = body_tokens (graph_in c) n (graph.values fixed (text_at (arena_in c) of.0)) [] (values_of (arena_in c) vs) w

-- an array: its named values and the others
abbrev pub array_in : Way → ℕ → List (TextId × Stored) → List Stored → told.Way → List Token
array_in c n ps vs w = body_tokens (graph_in c) n graph.array (pairs_of (arena_in c) ps) (values_of (arena_in c) vs) w

-- an object: the place of its traits, its further members, and the values of its sealed ones
abbrev pub object_in : Way → ℕ → ℕ → List (TextId × Stored) → List Stored → told.Way → List Token
object_in c n traits ps vs w =
    body_tokens (graph_in c) n (graph.object (traits_at (arena_in c) traits)) (pairs_of (arena_in c) ps) (values_of (arena_in c) vs) w

-- an object by its class: the values of its sealed members, and the further members
abbrev pub class_in : Way → ℕ → TraitsView → List Stored → List (TextId × Stored) → told.Way → List Token
class_in c n class vs ps w =
    class_tokens (graph_in c) (arena_in c) n class.class.0 class.dynamic class.sealed.now vs (pairs_of (arena_in c) ps) w

-- sealed members: their names and their values
abbrev pub sealed_in : Way → ℕ → List TextId → List Stored → told.Way → List Token
sealed_in c n names vs w = sealed_tokens (graph_in c) (arena_in c) n names vs w

-- named values in by-name order
abbrev pub by_name_in : Way → ℕ → List (TextId × Stored) → told.Way → List Token
by_name_in c n ps w = json_tokens (told.told_members (told.told_names (told.told w (graph_in c) n) (by_name (pairs_of (arena_in c) ps))))
