-- What waits is what waits for the client's own.
use Rattle.std.proofs.Common.{◌≡◌, ◌∙◌, ap, map}
use Rattle.std.proofs.lemmas.Result.{IfOk-weaker}
use Rattle.amf_broker.specs.Lines.{waits}
use Rattle.amf_broker.specs.Members.{logs_of, raised}
use Rattle.amf_broker.specs.Slots.{standing, own_of, spots_of}
use Rattle.amf_broker.proofs.Slots.{own-all, waits-own}
use Rattle.amf_broker.proofs.roster.Roster.waiting_for.Goals as goal

pub returns : goal.returns
returns c =
    let k = c.args.client in
    let n = c.args.next in
    let ss = c.self.inside.slots.items in
    let logs = logs_of c.args.logs.now in
    let own = own_of k ss (spots_of c.self.inside.spots k) in
    let same = ap (λ us. waits logs (map (raised n) us) k) (own-all k (spots_of c.self.inside.spots k) ss (c.self.invariant.0 k)) ∙ waits-own logs k n (standing ss) in
    rw (← c.self.view_is) (IfOk-weaker c.waiting_at.result (λ queue. queue ≡ waits logs (map (raised n) own) k)
    (λ queue. queue ≡ waits logs (map (raised n) (standing ss)) k)
    (λ queue is. is ∙ same)
    (rw (c.deref.ensures.value, c.spots_of.ensures) at c.waiting_at.ensures))
