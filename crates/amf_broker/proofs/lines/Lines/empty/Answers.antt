-- The client's places begin anew, and its waiter is emptied.
use Rattle.std.proofs.Common.{◌∙◌, ap, sym, refl}
use Rattle.std.specs.Prelude.{is_some, map}
use Rattle.amf_broker.specs.Machine.{ended_in}
use Rattle.amf_broker.specs.Lines.{Waiter, emptied_waiter}
use Rattle.amf_broker.specs.Members.{logs_of, raised}
use Rattle.amf_broker.specs.Slots.{standing}
use Rattle.amf_broker.proofs.Waiters.{client-found, waiter-changed, connected-place, some-of}
use Rattle.amf_broker.proofs.Lined.{lined-cleared, floor-emptied}
use Rattle.amf_broker.proofs.lines.Lines.empty.Goals as goal

pub place_in_order-requires : goal.place_in_order-requires
place_in_order-requires c = rw c.deref.ensures.value c.self.invariant.kept.rise

pub unwrap-place-requires : goal.unwrap-place-requires
unwrap-place-requires c =
    let place = rw c.deref.ensures.value at c.place_in_order.ensures.place in
    let here = rw (← c.self.view_is) at c.requires in
    some-of _ (ap is_some place ∙ (connected-place (logs_of c.self.inside.logs) (map (raised c.self.inside.next_message) (standing c.self.inside.places)) c.args.client c.self.inside.clients.items ∙ here))

pub invariant_of-self : goal.invariant_of-self
invariant_of-self c =
    let place = rw c.deref.ensures.value at c.place_in_order.ensures.place in
    let at = waiter-changed c.args.client c.unwrap-place.result emptied_waiter c.index_mut.result.now c.self.inside.clients.items (sym c.unwrap-place.ensures ∙ place) in
    rw (c.begin_anew.ensures, c.empty-ended.ensures.state, c.index_mut.ensures.value) (rw at at (lined-cleared _ _ _ _ _ c.self.invariant c.args.client emptied_waiter (λ w. refl) (λ w. refl)))

pub returns-clause-ended : goal.returns-clause-ended
returns-clause-ended c =
    let place = rw c.deref.ensures.value at c.place_in_order.ensures.place in
    let found = client-found (logs_of c.self.inside.logs) (map (raised c.self.inside.next_message) (standing c.self.inside.places)) c.args.client c.unwrap-place.result c.self.inside.clients.items c.index_mut.result.now (sym c.unwrap-place.ensures ∙ place) in
    rw (← c.self.view_is) (c.empty-ended.ensures.ended ∙ (ap (λ (w : Waiter). w.ended) c.index_mut.ensures.value ∙ sym (ap ended_in found)))

pub returns-clause-state : goal.returns-clause-state
returns-clause-state c =
    let place = rw c.deref.ensures.value at c.place_in_order.ensures.place in
    let at = waiter-changed c.args.client c.unwrap-place.result emptied_waiter c.index_mut.result.now c.self.inside.clients.items (sym c.unwrap-place.ensures ∙ place) in
    rw (← c.self.view_is, c.begin_anew.ensures, c.empty-ended.ensures.state, c.index_mut.ensures.value) (rw at at (floor-emptied _ _ _ _ _ c.self.invariant c.args.client))
