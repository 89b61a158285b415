-- The copies are closed.
use Rattle.std.proofs.Common.{◌≡◌, false, sym, subst}
use Rattle.std.specs.List.{AllByRecursion}
use Rattle.amf_graph.specs.Arena.{Arena}
use Rattle.amf_graph.specs.Copying.{renaming_of}
use Rattle.amf_graph.proofs.HeldCopies.{copies_closed}
use Rattle.amf_graph.proofs.copying.Copying.append_to.Goals as goal

pub append-requires : goal.append-requires
append-requires c =
    let plan = c.args.self.now in
    let closed = copies_closed c.args.graph.now.arena (renaming_of plan) plan.nodes.items c.is_finished.ensures.finished.closed in
    subst (λ (w : Arena). AllByRecursion (λ n. n.is_open ≡ false) w.nodes) (sym c.in_ok-more.ensures) closed
