-- What a node holds is below the count.
use Rattle.std.proofs.Common.{◌++◌, length, sym, ap, ◌∙◌, subst}
use Rattle.std.proofs.lemmas.Result.{on_ok_weaker}
use Rattle.amf_graph.specs.Building.{stored_at}
use Rattle.amf_graph.specs.Gather.{placed, with_nodes, held, NodesBelow}
use Rattle.amf_graph.proofs.Built.{stands}
use Rattle.amf_graph.proofs.Gathering.{below_held}
use Rattle.amf_graph.proofs.reach.add_held.Goals as goal

pub add_nodes-requires : goal.add_nodes-requires
add_nodes-requires c =
    let a = c.args.graph.now.arena in
    let i = c.args.node.0 in
    let there = c.deref.ensures.value ∙ c.in_ok-push_held.ensures ∙ ap (λ w. w ++ held (stored_at a i)) c.new-held.ensures.items in
    subst (λ n. NodesBelow n c.deref.result.now) (sym c.requires.count)
    (subst (λ vs. NodesBelow (length a.nodes) vs) (sym there) (below_held a (stored_at a i) (stands a i c.is_finished.ensures.finished.built c.requires.there)))

pub returns : goal.returns
returns c =
    let a = c.args.graph.now.arena in
    let there = c.deref.ensures.value ∙ c.in_ok-push_held.ensures ∙ ap (λ w. w ++ held (stored_at a c.args.node.0)) c.new-held.ensures.items in
    on_ok_weaker c.add_nodes.result (λ e. e ∙ ap (λ vs. placed c.args.nodes.now.count (with_nodes vs c.args.nodes.now.items)) there) c.add_nodes.ensures
