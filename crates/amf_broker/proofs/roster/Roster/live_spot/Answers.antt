-- It is sought among the client's own.
use Rattle.std.proofs.Common.{◌∙◌, ap}
use Rattle.std.specs.Prelude.{◌==◌, ◌&&◌}
use Rattle.std.specs.List.{list_any}
use Rattle.amf_broker.specs.Lines.{Span}
use Rattle.amf_broker.specs.Slots.{standing, spots_of}
use Rattle.amf_broker.proofs.Slots.{own-all, any-own}
use Rattle.amf_broker.proofs.roster.Roster.live_spot.Goals as goal

pub returns-clause-some : goal.returns-clause-some
returns-clause-some c =
    let k = c.args.client in
    let ss = c.self.inside.slots.items in
    rw (← c.self.view_is)
    ((rw (c.deref.ensures.value, c.spots_of.ensures) at c.live_spot.ensures.some)
    ∙ (ap (list_any (λ (u : Span). u.live && (u.id == c.args.sub && u.client == k))) (own-all k (spots_of c.self.inside.spots k) ss (c.self.invariant.0 k)) ∙ any-own c.args.sub k (standing ss)))

pub returns-clause-within : goal.returns-clause-within
returns-clause-within c = rw (← c.self.view_is) (rw c.deref.ensures.value at c.live_spot.ensures.within)

pub returns-clause-own : goal.returns-clause-own
returns-clause-own c = rw (← c.self.view_is) (rw c.deref.ensures.value at c.live_spot.ensures.own)

pub returns-clause-live : goal.returns-clause-live
returns-clause-live c = rw (← c.self.view_is) (rw c.deref.ensures.value at c.live_spot.ensures.live)
