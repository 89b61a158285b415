-- The markers of the nodes in a table are the same in each graph that completes an arena.
use Rattle.std.proofs.Common.{◌≡◌, ℕ, zero, suc, ◌<◌, Bool, true, false, cond, List, [], ◌∷◌, length, map, get_or, refl, ap, ◌∙◌, arith}
use Rattle.std.specs.List.{AllByRecursion}
use Rattle.amf_graph.specs.declared.value.Value.{Value as Stored}
use Rattle.amf_graph.specs.Graph.{node_at, no_node}
use Rattle.amf_graph.specs.Arena.{Arena, StoredHead, StoredNode, head_content, node_content, graph_of, Extends, NodesComplete}
use Rattle.amf_graph.specs.Building.{no_stored, stored_at}
use Rattle.amf3_spelling.specs.Markers3.{node_marker}
use Rattle.amf3_spelling.specs.Refusals3.{marker, markers}
use Rattle.amf3_layout_laws.specs.Layout3State.{stored_marker}
use Rattle.amf3_spelling.proofs.Markers.{kind_content}

pub marker_content : (a : Arena) (h : StoredHead) → marker (head_content a h) ≡ stored_marker h
marker_content a h = ap node_marker (kind_content a h)

mark_at : (a : Arena) (ns : List StoredNode) (i : ℕ) → marker (get_or (map (node_content a) ns) i no_node).head ≡ stored_marker (get_or ns i no_stored).head
mark_at a [] i = refl
mark_at a (n ∷ ns) zero = marker_content a n.head
mark_at a (n ∷ ns) (suc i) = mark_at a ns i

pub graph_mark : (a : Arena) (r : Stored) (i : ℕ) → marker (node_at (graph_of a r) i).head ≡ stored_marker (stored_at a i).head
graph_mark a r i = mark_at a a.nodes i

head_stays : (open_ : Bool) (n m : StoredNode) → cond open_ (Extends n m) (m ≡ n) → m.head ≡ n.head
head_stays true n m h = h.0
head_stays false n m h = ap (λ x. x.head) h

pub completed_mark : (old new : List StoredNode) (i : ℕ) → NodesComplete old new → i < length old → stored_marker (get_or new i no_stored).head ≡ stored_marker (get_or old i no_stored).head
completed_mark [] new i h lt = absurd (omega arith)
completed_mark (n ∷ old) [] i h lt = absurd h
completed_mark (n ∷ old) (m ∷ new) zero h lt = ap stored_marker (head_stays n.is_open n m h.0)
completed_mark (n ∷ old) (m ∷ new) (suc i) h lt = completed_mark old new i h.1 (omega arith)

pub marks_stay : (a g : Arena) (r : Stored) (ids : List ℕ) → NodesComplete a.nodes g.nodes → AllByRecursion (λ i. i < length a.nodes) ids → markers (graph_of g r) ids ≡ map (λ i. stored_marker (stored_at a i).head) ids
marks_stay a g r [] h below = refl
marks_stay a g r (i ∷ ids) h below =
    ap (λ m. m ∷ markers (graph_of g r) ids) (graph_mark g r i ∙ completed_mark a.nodes g.nodes i h below.0) ∙ ap (λ l. stored_marker (stored_at a i).head ∷ l) (marks_stay a g r ids h below.1)
