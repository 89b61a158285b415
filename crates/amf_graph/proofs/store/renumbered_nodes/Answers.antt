-- Each node of the order is read and copied.
use Rattle.std.proofs.Common.{length, get_or, arith}
use Rattle.amf_graph.specs.Building.{no_stored}
use Rattle.amf_graph.specs.Renumbered.{number_in, HaveNumbers}
use Rattle.amf_graph.proofs.Alls.{all_at}
use Rattle.amf_graph.proofs.Copies.{nodes_more}
use Rattle.amf_graph.proofs.HeldCopies.{closed_at, at_any, numbers_names, numbers_values, body_renumbered}
use Rattle.amf_graph.proofs.PlaceOf.{number_below}
use Rattle.amf_graph.proofs.store.renumbered_nodes.Goals as goal

pub held-held-requires : goal.held-held-requires
held-held-requires c = number_below c.args.order.now c.loop-node.node-index (length c.args.nodes.now) _ (omega arith) c.requires.there

pub renumbered_body-requires-clause-names : goal.renumbered_body-requires-clause-names
renumbered_body-requires-clause-names c =
    let i = (get_or c.args.order.now c.loop-node.node-index (record { 0 = 0 })).0 in
    let below = number_below c.args.order.now c.loop-node.node-index (length c.args.nodes.now) (record { 0 = 0 }) (omega arith) c.requires.there in
    numbers_names c.args.numbers.now (get_or c.args.nodes.now i no_stored) c.held-held.result c.held-held.ensures (all_at (HaveNumbers c.args.numbers.now) c.args.nodes.now i no_stored below c.requires.numbers)

pub renumbered_body-requires-clause-values : goal.renumbered_body-requires-clause-values
renumbered_body-requires-clause-values c =
    let i = (get_or c.args.order.now c.loop-node.node-index (record { 0 = 0 })).0 in
    let below = number_below c.args.order.now c.loop-node.node-index (length c.args.nodes.now) (record { 0 = 0 }) (omega arith) c.requires.there in
    numbers_values c.args.numbers.now (get_or c.args.nodes.now i no_stored) c.held-held.result c.held-held.ensures (all_at (HaveNumbers c.args.numbers.now) c.args.nodes.now i no_stored below c.requires.numbers)

pub loop-node-preserved : goal.loop-node-preserved
loop-node-preserved c =
    let i = (get_or c.args.order.now c.loop-node.node-index (record { 0 = 0 })).0 in
    let n = get_or c.args.nodes.now i no_stored in
    let below = number_below c.args.order.now c.loop-node.node-index (length c.args.nodes.now) (record { 0 = 0 }) (omega arith) c.requires.there in
    let copy = body_renumbered (number_in c.args.numbers.now) n c.held-held.result c.in_ok-renumbered_body.field-0 c.held-held.ensures (closed_at c.args.nodes.now i c.requires.closed) c.in_ok-renumbered_body.ensures.head c.in_ok-renumbered_body.ensures.names c.in_ok-renumbered_body.ensures.values in
    rw (c.in_ok-keep.ensures.ok)
    (nodes_more (number_in c.args.numbers.now) c.args.nodes.now c.args.order.now c.loop-node.node-index (record { 0 = 0 }) c.loop-node.copies n _ (omega arith) below (at_any c.args.nodes.now i no_stored n below) copy c.loop-node.invariant)
