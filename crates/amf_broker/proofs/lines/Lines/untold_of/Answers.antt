-- The ends that are untold of a client are those of the waiter at its place.
use Rattle.std.proofs.Common.{◌∙◌, ap, sym, length}
use Rattle.std.specs.Prelude.{map}
use Rattle.amf_broker.specs.Machine.{ended_in}
use Rattle.amf_broker.specs.Lines.{Waiter}
use Rattle.amf_broker.specs.Members.{logs_of, raised}
use Rattle.amf_broker.specs.Slots.{standing}
use Rattle.amf_broker.proofs.Waiters.{client-found, none-client}
use Rattle.amf_broker.proofs.lines.Lines.untold_of.Goals as goal

pub place_in_order-requires : goal.place_in_order-requires
place_in_order-requires c = rw c.deref.ensures.value c.self.invariant.kept.rise

pub returns-in-Some : goal.returns-in-Some
returns-in-Some c =
    let place = rw c.deref.ensures.value at c.place_in_order.ensures.place in
    let found = client-found (logs_of c.self.inside.logs) (map (raised c.self.inside.next_message) (standing c.self.inside.places)) c.args.client c.in-Some.place c.self.inside.clients.items c.index.result.now (sym c.in-Some.is ∙ place) in
    rw (← c.self.view_is) (c.untold.ensures ∙ (ap (λ (w : Waiter). length w.ended) c.index.ensures ∙ sym (ap (λ o. length (ended_in o)) found)))

pub returns-in-None : goal.returns-in-None
returns-in-None c =
    let place = rw c.deref.ensures.value at c.place_in_order.ensures.place in
    rw (← c.self.view_is) (sym (ap (λ o. length (ended_in o)) (none-client (logs_of c.self.inside.logs) (map (raised c.self.inside.next_message) (standing c.self.inside.places)) c.args.client c.self.inside.clients.items (sym c.in-None.is ∙ place))))
