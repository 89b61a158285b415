-- The nodes that were told up to their first values, in each graph whose arena has them. A device of proofs.
use Rattle.std.specs.Prelude.{ℕ, Bool, List, [], ◌∷◌, Result, OnOk}
use Rattle.amf_graph.specs.declared.value.Value.{Value as Stored}
use Rattle.amf_graph.specs.declared.value.TextId.{TextId}
use Rattle.amf_graph.specs.declared.wrapped.Wrapped.{Wrapped}
use Rattle.amf_graph.specs.Arena.{Arena, Names, value_content}
use Rattle.amf_graph.specs.Graph.{Graph}
use Rattle.amf_graph.specs.Graph as graph
use Rattle.amf_graph.specs.Views.{flat}
use Rattle.amf_iso.specs.Contents.{values_of, pairs_of, AreValues, ArePairs}
use Rattle.amf_text_write.specs.declared.waiting.Piece.{Piece}
use Rattle.amf_text_write.specs.Laid.{Shown}
use Rattle.amf_text_write.specs.Names.{HavePlainNames}
use Rattle.amf_text_write.specs.Opening.{Opens, body_tokens, list_tokens}
use Rattle.amf_text_write.specs.Objects.{simple_tokens}

-- a wrapper
abbrev pub OpensWrapper : {T E : Type 0} → ℕ → Wrapped → Stored → Result T E → List Piece → List Piece → Shown → Shown → Type 0
OpensWrapper n class v result old new s t =
    (g : Graph) (a : Arena) → Names a v → OnOk result (Opens g a (body_tokens g n (graph.wrapper class) [] (value_content a v ∷ [])) old new s t)

-- a dictionary
abbrev pub OpensDictionary : {T E : Type 0} → ℕ → Bool → List (Stored × Stored) → Result T E → List Piece → List Piece → Shown → Shown → Type 0
OpensDictionary n weak es result old new s t =
    (g : Graph) (a : Arena) → AreValues a (flat es)
    → OnOk result (Opens g a (body_tokens g n (graph.dictionary weak) [] (values_of a (flat es))) old new s t)

-- values as a list
abbrev pub OpensList : {T E : Type 0} → ℕ → List Stored → Result T E → List Piece → List Piece → Shown → Shown → Type 0
OpensList n vs result old new s t = (g : Graph) (a : Arena) → AreValues a vs → OnOk result (Opens g a (list_tokens g a n vs) old new s t)

-- an object by the names of its members
abbrev pub OpensSimple : {T E : Type 0} → ℕ → List (TextId × Stored) → Result T E → List Piece → List Piece → Shown → Shown → Type 0
OpensSimple n ps result old new s t =
    (g : Graph) (a : Arena) → ArePairs a ps → HavePlainNames a ps → OnOk result (Opens g a (simple_tokens g n (pairs_of a ps)) old new s t)
