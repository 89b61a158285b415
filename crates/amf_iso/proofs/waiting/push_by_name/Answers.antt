use Rattle.std.proofs.Common.{◌≡◌, ◌++◌, [], reverse, sym, ap, ◌∙◌}
use Rattle.std.proofs.lemmas.List.{append-nil}
use Rattle.amf_graph.specs.ByName.{by_name}
use Rattle.amf_graph.specs.Order.{seconds}
use Rattle.amf_graph.specs.Renumbered.{numbers_of}
use Rattle.amf_iso.specs.Contents.{pairs_of}
use Rattle.amf_iso.specs.Waiting.{nodes_of, seconds_of, node_numbers}
use Rattle.amf_iso.proofs.InOrder.{already_by_name}
use Rattle.amf_iso.proofs.NodesWaiting.{second_nodes_content, none_by_name}
use Rattle.amf_iso.proofs.Orders.{on_ok_implies, true_is}
use Rattle.amf_iso.proofs.waiting.push_by_name.Goals as goal

pub returns-then-not-has_node-clause-waiting : goal.returns-then-not-has_node-clause-waiting
returns-then-not-has_node-clause-waiting c =
    let a = c.args.graph.now.arena in
    let ps = c.args.pairs.now in
    let old = numbers_of c.args.waiting.now.items in
    let none : node_numbers (seconds (by_name (pairs_of a ps))) ≡ [] = none_by_name (pairs_of a ps) (sym (second_nodes_content a ps) ∙ c.has_node.ensures c.if-not-has_node.true) in
    sym (ap (λ w. old ++ reverse w) none ∙ append-nil old)

pub returns-then-are_by_name-clause-waiting : goal.returns-then-are_by_name-clause-waiting
returns-then-are_by_name-clause-waiting c =
    let a = c.args.graph.now.arena in
    let ps = c.args.pairs.now in
    let old = numbers_of c.args.waiting.now.items in
    let same : nodes_of (seconds_of ps) ≡ node_numbers (seconds (by_name (pairs_of a ps))) = second_nodes_content a ps ∙ ap (λ ws. node_numbers (seconds ws)) (already_by_name (pairs_of a ps) (c.are_by_name.ensures (true_is c.are_by_name.result c.if-are_by_name.true))) in
    on_ok_implies c.push_second_nodes.result _ _ (λ e. e ∙ ap (λ w. old ++ reverse w) same) c.push_second_nodes.ensures

pub returns-clause-waiting : goal.returns-clause-waiting
returns-clause-waiting c =
    let a = c.args.graph.now.arena in
    let ps = c.args.pairs.now in
    let old = numbers_of c.args.waiting.now.items in
    let same : nodes_of (seconds_of c.deref.result.now) ≡ node_numbers (seconds (by_name (pairs_of a ps))) = second_nodes_content a c.deref.result.now ∙ ap (λ ws. node_numbers (seconds ws)) (ap (pairs_of a) c.deref.ensures.value ∙ c.in_ok-sorted.ensures.content) in
    c.in_ok-push_second_nodes.ensures ∙ ap (λ w. old ++ reverse w) same
