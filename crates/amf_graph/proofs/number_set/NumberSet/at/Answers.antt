-- A number that came is below the count.
use Rattle.std.proofs.Common.{◌<◌, length, sym, subst}
use Rattle.amf_graph.proofs.number_set.NumberSet.at.Goals as goal
use Rattle.amf_graph.proofs.Placing.{read_below}

pub returns-clause-below : goal.returns-clause-below
returns-clause-below c = rw (← c.self.view_is) (read_below c.self.inside.items.items c.self.inside.places.items c.args.place c.index.result.now c.self.invariant (subst (λ w. c.args.place < length w.items) (sym c.self.view_is) c.requires) c.index.ensures)
