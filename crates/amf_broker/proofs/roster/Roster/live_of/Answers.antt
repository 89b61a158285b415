-- The client's own are counted.
use Rattle.std.proofs.Common.{◌∙◌, ap}
use Rattle.std.specs.Prelude.{◌==◌, ◌&&◌, count_by}
use Rattle.amf_broker.specs.Lines.{Span}
use Rattle.amf_broker.specs.Slots.{standing, spots_of}
use Rattle.amf_broker.proofs.Slots.{own-all, live-own}
use Rattle.amf_broker.proofs.roster.Roster.live_of.Goals as goal

pub returns : goal.returns
returns c =
    let k = c.args.client in
    let ss = c.self.inside.slots.items in
    rw (← c.self.view_is)
    ((rw (c.deref.ensures.value, c.spots_of.ensures) at c.live_at.ensures)
    ∙ (ap (count_by (λ (u : Span). u.live && u.client == k)) (own-all k (spots_of c.self.inside.spots k) ss (c.self.invariant.0 k)) ∙ live-own k (standing ss)))
