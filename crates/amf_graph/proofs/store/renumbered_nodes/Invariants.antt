use Rattle.std.proofs.Common.{◌≡◌, take, map, get_or}
use Rattle.amf_graph.specs.Building.{no_stored}
use Rattle.amf_graph.specs.Renumbered.{numbers_of, renumbered_node, number_in}
use Rattle.amf_graph.proofs.store.renumbered_nodes.Given as goal

abbrev pub invariant-loop-node : goal.invariant-loop-node
invariant-loop-node l = l.copies ≡ map (λ i. renumbered_node (number_in l.numbers) (get_or l.nodes i no_stored)) (numbers_of (take l.node-index l.order))
