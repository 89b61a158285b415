use Rattle.std.proofs.Common.{refl}
use Rattle.amf_graph.specs.Arena.{values, dictionary}
use Rattle.amf_graph.specs.Renumbered.{numbers_of}
use Rattle.amf_graph.specs.Views.{flat}
use Rattle.amf_iso.proofs.NodesWaiting.{array_waiting, object_waiting, values_waiting}
use Rattle.amf_iso.proofs.Orders.{on_ok_implies}
use Rattle.amf_iso.proofs.waiting.push_met.Goals as goal

pub returns-in_ok-push_nodes-in-Array-clause-waiting : goal.returns-in_ok-push_nodes-in-Array-clause-waiting
returns-in_ok-push_nodes-in-Array-clause-waiting c =
    on_ok_implies c.push_by_name.result _ _ (array_waiting c.args.graph.now.arena c.args.graph.now.root c.args.node.0 c.in-Array.items.now c.in-Array.names.now (numbers_of c.args.waiting.now.items) (numbers_of c.push_nodes.new.waiting.items) (numbers_of c.push_by_name.new.waiting.items) c.in-Array.ensures c.in_ok-push_nodes-in-Array.ensures) c.push_by_name.ensures.waiting

pub returns-in_ok-push_by_name-in-Object-clause-waiting : goal.returns-in_ok-push_by_name-in-Object-clause-waiting
returns-in_ok-push_by_name-in-Object-clause-waiting c =
    on_ok_implies c.push_nodes-in-Object.result _ _ (object_waiting c.args.graph.now.arena c.args.graph.now.root c.args.node.0 c.in-Object.traits.0 c.in-Object.sealed.now c.in-Object.members.now (numbers_of c.args.waiting.now.items) (numbers_of c.push_by_name-in-Object.new.waiting.items) (numbers_of c.push_nodes-in-Object.new.waiting.items) c.in-Object.ensures c.in_ok-push_by_name-in-Object.ensures.waiting) c.push_nodes-in-Object.ensures

pub returns-in-Values-clause-waiting : goal.returns-in-Values-clause-waiting
returns-in-Values-clause-waiting c =
    on_ok_implies c.push_nodes-in-Values.result _ _ (values_waiting c.args.graph.now.arena c.args.graph.now.root c.args.node.0 (values c.in-Values.fixed c.in-Values.of.0) c.in-Values.items.now (numbers_of c.args.waiting.now.items) (numbers_of c.push_nodes-in-Values.new.waiting.items) refl c.in-Values.ensures) c.push_nodes-in-Values.ensures

pub returns-in-Dictionary-clause-waiting : goal.returns-in-Dictionary-clause-waiting
returns-in-Dictionary-clause-waiting c =
    on_ok_implies c.push_entry_nodes.result _ _ (values_waiting c.args.graph.now.arena c.args.graph.now.root c.args.node.0 (dictionary c.in-Dictionary.weak) (flat c.in-Dictionary.entries.now) (numbers_of c.args.waiting.now.items) (numbers_of c.push_entry_nodes.new.waiting.items) refl c.in-Dictionary.ensures) c.push_entry_nodes.ensures
