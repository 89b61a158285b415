-- Nodes that are all closed stay so.
use Rattle.std.proofs.Common.{◌≡◌, ℕ, zero, suc, false, List, [], ◌∷◌, get_or, refl, sym, subst}
use Rattle.std.specs.List.{AllByRecursion}
use Rattle.amf_graph.specs.declared.value.Value.{Value as Stored}
use Rattle.amf_graph.specs.Graph as graph
use Rattle.amf_graph.specs.Arena.{Arena, StoredNode, IsFinished}
use Rattle.amf_graph.specs.Building.{no_stored}
use Rattle.amf_graph.specs.Grafting.{Renaming, Grafted, copied_nodes, renaming}
use Rattle.amf_graph.proofs.Alls.{all_append}
use Rattle.flex_msgs.specs.Built.{Adds}

abbrev pub AllClosed : List StoredNode → Type 0
AllClosed = AllByRecursion (λ n. n.is_open ≡ false)

pub closed_at : (ns : List StoredNode) (i : ℕ) → AllClosed ns → (get_or ns i no_stored).is_open ≡ false
closed_at [] i h = refl
closed_at (n ∷ ns) zero h = h.0
closed_at (n ∷ ns) (suc i) h = closed_at ns i h.1

copies_closed : (a : Arena) (r : Renaming) (is : List ℕ) → AllClosed a.nodes → AllClosed (copied_nodes a r is)
copies_closed a r [] h = tt
copies_closed a r (i ∷ is) h = (closed_at a.nodes i h, copies_closed a r is h)

pub graft_closed : (a : Arena) (vs : List Stored) (old new : Arena) (copies : List Stored) → IsFinished a → AllClosed old.nodes → Grafted a vs old new copies → AllClosed new.nodes
graft_closed a vs old new copies fin h g =
    subst (λ (z : Arena). AllClosed z.nodes) (sym g.arena) (all_append (λ n. n.is_open ≡ false) old.nodes (copied_nodes a (renaming old g.cut) g.cut.nodes) h (copies_closed a (renaming old g.cut) g.cut.nodes fin.closed))

pub adds_closed : (old new : Arena) (v : Stored) (written : Arena → List graph.Node) → AllClosed old.nodes → Adds old new v written → AllClosed new.nodes
adds_closed old new v written h a = subst AllClosed (sym a.nodes) (all_append (λ n. n.is_open ≡ false) old.nodes a.more_nodes h a.closed)
