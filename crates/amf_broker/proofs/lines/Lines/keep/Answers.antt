-- The client's places begin anew, and its batch is kept.
use Rattle.std.proofs.Common.{◌∙◌, ap, sym, refl}
use Rattle.std.specs.Prelude.{is_some, map}
use Rattle.amf_broker.specs.Lines.{kept_waiter}
use Rattle.amf_broker.specs.Members.{logs_of, raised}
use Rattle.amf_broker.specs.Slots.{standing}
use Rattle.amf_broker.proofs.Waiters.{connected-waits, waiter-changed, connected-place, some-of}
use Rattle.amf_broker.proofs.Lined.{lined-cleared, floor-kept}
use Rattle.amf_broker.proofs.lines.Lines.keep.Goals as goal

pub place_in_order-requires : goal.place_in_order-requires
place_in_order-requires c = rw c.deref.ensures.value c.self.invariant.kept.rise

pub unwrap-place-requires : goal.unwrap-place-requires
unwrap-place-requires c =
    let place = rw c.deref.ensures.value at c.place_in_order.ensures.place in
    let here = rw (← c.self.view_is) at c.requires.connected in
    some-of _ (ap is_some place ∙ (connected-place (logs_of c.self.inside.logs) (map (raised c.self.inside.next_message) (standing c.self.inside.places)) c.args.client c.self.inside.clients.items ∙ here))

pub invariant_of-self : goal.invariant_of-self
invariant_of-self c =
    let place = rw c.deref.ensures.value at c.place_in_order.ensures.place in
    let at = waiter-changed c.args.client c.unwrap-place.result (kept_waiter c.args.number c.args.queue) c.index_mut.result.now c.self.inside.clients.items (sym c.unwrap-place.ensures ∙ place) in
    rw (c.begin_anew.ensures, c.keep.ensures, c.index_mut.ensures.value) (rw at at (lined-cleared _ _ _ _ _ c.self.invariant c.args.client (kept_waiter c.args.number c.args.queue) (λ w. refl) (λ w. refl)))

pub returns : goal.returns
returns c =
    let place = rw c.deref.ensures.value at c.place_in_order.ensures.place in
    let at = waiter-changed c.args.client c.unwrap-place.result (kept_waiter c.args.number c.args.queue) c.index_mut.result.now c.self.inside.clients.items (sym c.unwrap-place.ensures ∙ place) in
    let here = rw (← c.self.view_is) at c.requires.connected in
    let queue = rw (← c.self.view_is) at c.requires.queue in
    let own = queue ∙ connected-waits (logs_of c.self.inside.logs) (map (raised c.self.inside.next_message) (standing c.self.inside.places)) c.args.client c.self.inside.clients.items here in
    rw (← c.self.view_is, c.begin_anew.ensures, c.keep.ensures, c.index_mut.ensures.value) (rw at at (floor-kept _ _ _ _ _ c.self.invariant c.args.client c.args.number c.args.queue own))
