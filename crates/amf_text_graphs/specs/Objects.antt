-- What is told of a node, from what is told of its parts. A device of proofs.
use Rattle.std.specs.Prelude.{◌≡◌, ℕ, List}
use Rattle.amf_graph.specs.declared.value.Value.{Value as Stored}
use Rattle.amf_graph.specs.declared.value.TextId.{TextId}
use Rattle.amf_graph.specs.declared.shape.Shape.{Shape}
use Rattle.amf_graph.specs.Graph.{Head, object}
use Rattle.amf_graph.specs.Arena.{Arena, StoredHead, head_content, HeadNames}
use Rattle.amf_graph.specs.Building.{shape_head}
use Rattle.amf_text.specs.Linked.{Numbers}
use Rattle.amf_text.specs.WholeLaws.{IsSoundNode}
use Rattle.amf_text_trees.specs.Sheets.{Entry, Pairs, Kept, entries_by}
use Rattle.amf_text_trees.specs.Frames.{Class, kept, traits_of}
use Rattle.amf_text_trees.specs.Pages.{node_of}
use Rattle.amf_text_graphs.specs.Showing.{IsMore, AreShown, AreTextsShown}
use Rattle.amf_text_graphs.specs.Telling.{NodeTold}

-- the arena has this head from now on
abbrev pub ShowsHead : Arena → StoredHead → Head → Type 0
ShowsHead old s h = (a : Arena) → IsMore old a → (head_content a s ≡ h) × HeadNames a s

-- names and values of a node of some kind
abbrev pub AreSound : Numbers → ℕ → Pairs → List Entry → Type 0
AreSound labels count qs es = (h : Head) × IsSoundNode count (node_of labels (kept h qs es))

-- with this head it is that node
abbrev pub ShapeTold : Numbers → Arena → Arena → ℕ → Shape → Pairs → List Entry → Type 0
ShapeTold labels old new i s qs es = (h : Head) → ShowsHead old (shape_head s) h → NodeTold labels old new i (kept h qs es)

-- a class with its dynamic members, of an object with some sealed ones
abbrev pub IsSoundClass : Numbers → ℕ → Class → Type 0
IsSoundClass labels count c = (names : List (List ℕ)) × (es : List Entry) × IsSoundNode count (node_of labels (kept (object (traits_of c names)) c.members es))

-- with these sealed names and values it is that object
abbrev pub ObjectTold : Numbers → Arena → Arena → ℕ → Class → List TextId → List Stored → Type 0
ObjectTold labels old new i c sealed values =
    (names : List (List ℕ)) (es : List Entry) → ((a : Arena) → IsMore old a → AreTextsShown a sealed names) → ((a : Arena) → IsMore old a → AreShown labels a values es)
    → NodeTold labels old new i (kept (object (traits_of c names)) c.members es)

-- its sealed members stand in any order
abbrev pub ordered_kept : Class → List (List ℕ) → Pairs → Kept
ordered_kept c names ps = kept (object (traits_of c names)) c.members (entries_by names ps)
