-- What was copied into an empty builder.
use Rattle.std.proofs.Common.{◌≡◌, ℕ, zero, suc, ◌+◌, ◌<◌, ◌≤◌, false, cond, List, [], ◌∷◌, ◌++◌, length, map, get_or, slice_get, Some, refl, sym, ap, ◌∙◌, subst, arith}
use Rattle.std.specs.List.{AllByRecursion, AllZip}
use Rattle.amf_graph.specs.declared.value.Value.{Value as Stored}
use Rattle.amf_graph.specs.Arena.{Arena, StoredNode, Names, IsBuilt, IsFinished, NodesComplete, NodeCompletes, Completes, value_content, graph_of}
use Rattle.amf_graph.specs.Bounds.{weight}
use Rattle.amf_graph.specs.Building.{no_arena, no_stored, stored_at}
use Rattle.amf_graph.specs.Isomorphic.{Isomorphic}
use Rattle.amf_graph.specs.Roots.{rooted_at}
use Rattle.amf_graph.specs.Grafting.{Cut, Renaming, renaming, renamed_node, copied_nodes, Grafted}
use Rattle.amf_graph.specs.GraftKeeps.{GraftKeeps}
use Rattle.amf_graph.proofs.FinishedSmall.{completes_itself}
use Rattle.amf_graph.proofs.KeptBuilt.{graft_keeps}
use Rattle.amf_graph.proofs.Matched.{graft_law, each_root}

abbrev pub AllClosed : List StoredNode → Type 0
AllClosed ns = AllByRecursion (λ n. n.is_open ≡ false) ns

closed_at : (ns : List StoredNode) (i : ℕ) → AllClosed ns → (get_or ns i no_stored).is_open ≡ false
closed_at [] i h = refl
closed_at (n ∷ ns) zero h = h.0
closed_at (n ∷ ns) (suc i) h = closed_at ns i h.1

closed_copies : (a : Arena) (r : Renaming) (is : List ℕ) → IsFinished a → AllClosed (copied_nodes a r is)
closed_copies a r [] f = tt
closed_copies a r (i ∷ is) f = (closed_at a.nodes i f.closed, closed_copies a r is f)

pub none_built : IsBuilt no_arena
none_built = record { texts = tt; traits = tt; nodes = tt }

module _ (a : Arena) (vs copies : List Stored) (new : Arena) (f : IsFinished a) (names : AllByRecursion (Names a) vs) (made : Grafted a vs no_arena new copies) where
  keeps : GraftKeeps a vs no_arena new copies
  keeps = graft_keeps a vs no_arena new copies f names none_built made

  pub copies_closed : AllClosed new.nodes
  copies_closed = subst (λ (z : Arena). AllClosed z.nodes) (sym made.arena) (closed_copies a (renaming no_arena made.cut) made.cut.nodes f)

  pub copies_finished : IsFinished new
  copies_finished = record { built = keeps.built; closed = copies_closed }

  pub copies_light : weight new ≤ weight a
  copies_light = let l = keeps.light in omega (arith, l)

pub copy_same : (a new : Arena) (root v w : Stored) (copies : List Stored) → IsFinished a → Names a v → Grafted a (v ∷ []) no_arena new copies → copies ≡ w ∷ [] → Isomorphic (rooted_at (graph_of a root) (value_content a v)) (graph_of new w)
copy_same a new root v w copies f n made e =
    let all : AllByRecursion (Names a) (v ∷ []) = (n, tt) in
    let g = subst (Grafted a (v ∷ []) no_arena new) e made in
    let done = copies_finished a (v ∷ []) (w ∷ []) new f all g in
    let law = graft_law a (v ∷ []) no_arena new (w ∷ []) f all none_built g new (completes_itself new done) root w in
    each_root (graph_of a root) (graph_of new w) (value_content a v ∷ []) (value_content new w ∷ []) law.same 0 (value_content a v) (value_content new w) refl refl

pub one_copy : (copies : List Stored) (d : Stored) → length copies ≡ 1 → copies ≡ get_or copies 0 d ∷ []
one_copy [] d e = absurd (omega (arith, e))
one_copy (w ∷ []) d e = refl
one_copy (w ∷ x ∷ ws) d e = absurd (omega (arith, e))

pub first_named : (a : Arena) (copies : List Stored) (d : Stored) → length copies ≡ 1 → AllByRecursion (Names a) copies → Names a (get_or copies 0 d)
first_named a [] d e h = absurd (omega (arith, e))
first_named a (w ∷ ws) d e h = h.0
