-- There are no more places than nodes, and each place is written once.
use Rattle.std.proofs.Common.{get_or, ◌∙◌, arith}
use Rattle.std.proofs.lemmas.List.{length-map, length-set}
use Rattle.amf_graph.specs.declared.value.NodeId.{NodeId}
use Rattle.amf_graph.specs.Renumbered.{numbers_of}
use Rattle.amf_graph.proofs.PlaceOf.{few_distinct, one_more, all_first, number_there, number_below}
use Rattle.amf_graph.proofs.renumber.places_by_node.Goals as goal

pub overflow_cast-order : goal.overflow_cast-order
overflow_cast-order c = omega (arith, few_distinct c.args.count (numbers_of c.args.order.now) c.requires.there c.requires.distinct, length-map c.args.order.now (λ (n : NodeId). n.0))

pub overflow_cast-place : goal.overflow_cast-place
overflow_cast-place c = omega (arith, few_distinct c.args.count (numbers_of c.args.order.now) c.requires.there c.requires.distinct, length-map c.args.order.now (λ (n : NodeId). n.0))

pub index_mut-requires : goal.index_mut-requires
index_mut-requires c =
    let below = number_below c.args.order.now c.loop-place.place c.args.count (record { 0 = 0 }) (omega arith) c.requires.there in
    omega (arith, below, c.loop-place.invariant.count, c.loop-place.numbers.ok)

pub loop-place-preserved : goal.loop-place-preserved
loop-place-preserved c =
    let node = get_or c.args.order.now c.loop-place.place (record { 0 = 0 }) in
    let below = number_below c.args.order.now c.loop-place.place c.args.count (record { 0 = 0 }) (omega arith) c.requires.there in
    record {
      count = length-set c.loop-place.numbers.items node.0 c.loop-place.place ∙ c.loop-place.invariant.count;
      first = one_more (numbers_of c.args.order.now) c.loop-place.place node.0 c.loop-place.numbers.items c.requires.distinct (number_there c.args.order.now c.loop-place.place (record { 0 = 0 }) (omega arith)) (omega (arith, below, c.loop-place.invariant.count)) c.loop-place.invariant.first;
    }

pub returns-clause-places : goal.returns-clause-places
returns-clause-places c = λ i l. all_first (numbers_of c.args.order.now) c.loop-place.place i c.loop-place.numbers.items (omega (arith, length-map c.args.order.now (λ (n : NodeId). n.0))) c.requires.distinct c.loop-place.invariant.first (omega (arith, c.loop-place.invariant.count))
