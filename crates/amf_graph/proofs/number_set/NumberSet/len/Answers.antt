-- As many came as have places.
use Rattle.std.proofs.Common.{arith}
use Rattle.amf_graph.proofs.Placing.{few_placed, once_placed, all_below}
use Rattle.amf_graph.proofs.number_set.NumberSet.len.Goals as goal

pub returns-clause-few : goal.returns-clause-few
returns-clause-few c = rw (← c.self.view_is) (few_placed c.self.inside.items.items c.self.inside.places.items c.self.invariant)

pub returns-clause-once : goal.returns-clause-once
returns-clause-once c = rw (← c.self.view_is) (once_placed c.self.inside.items.items c.self.inside.places.items c.self.invariant)

pub returns-clause-small : goal.returns-clause-small
returns-clause-small c = omega (arith, c.len.ensures, few_placed c.self.inside.items.items c.self.inside.places.items c.self.invariant, c.self.invariant.few)

pub returns-clause-below : goal.returns-clause-below
returns-clause-below c = rw (← c.self.view_is) (all_below c.self.inside.items.items c.self.inside.places.items c.self.invariant)
