-- The client's places are at the spots that are noted of it.
use Rattle.amf_broker.specs.Slots.{spots_of}
use Rattle.amf_broker.proofs.Parts.{heard-first}
use Rattle.amf_broker.proofs.roster.Roster.hush.Goals as goal

pub hush-requires-clause-heard : goal.hush-requires-clause-heard
hush-requires-clause-heard c =
    let k = c.args.client in
    let listed = rw (← c.self.view_is) at c.requires.listed in
    rw (c.deref.ensures.value, c.spots_of.ensures) (heard-first k (spots_of c.self.inside.spots k) c.self.inside.slots.items c.args.logs.now (c.self.invariant.0 k) listed)
