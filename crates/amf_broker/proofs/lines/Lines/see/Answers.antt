-- The client was seen.
use Rattle.std.proofs.Common.{◌≡◌, ◌∙◌, ap, sym}
use Rattle.std.specs.Prelude.{slice_set}
use Rattle.amf_broker.specs.Lines.{seen_waiter, waiter_at}
use Rattle.amf_broker.specs.Members.{floor_of}
use Rattle.amf_broker.specs.Slots.{standing}
use Rattle.amf_broker.proofs.Firsts.{not-some}
use Rattle.amf_broker.proofs.Waiters.{waiter-changed, none-changed}
use Rattle.amf_broker.proofs.Lined.{lined-seen, floor-seen}
use Rattle.amf_broker.proofs.lines.Lines.see.Goals as goal

pub place_in_order-requires : goal.place_in_order-requires
place_in_order-requires c = rw c.deref.ensures.value c.self.invariant.kept.rise

pub invariant_of-self : goal.invariant_of-self
invariant_of-self c =
    let clients = c.self.inside.clients.items in
    let place = rw c.deref.ensures.value at c.place_in_order.ensures.place in
    let at = waiter-changed c.args.client c.in-Some.place (seen_waiter c.args.present) c.index_mut.result.now clients (sym c.in-Some.is ∙ place) in
    let changed : slice_set clients c.in-Some.place c.see.new.self ≡ waiter_at c.args.client (seen_waiter c.args.present) clients =
    ap (slice_set clients c.in-Some.place) (c.see.ensures ∙ ap (seen_waiter c.args.present) c.index_mut.ensures.value) ∙ sym at in
    rw changed (lined-seen _ _ _ _ _ c.self.invariant c.args.client c.args.present)

pub returns-in-Some : goal.returns-in-Some
returns-in-Some c =
    let clients = c.self.inside.clients.items in
    let place = rw c.deref.ensures.value at c.place_in_order.ensures.place in
    let at = waiter-changed c.args.client c.in-Some.place (seen_waiter c.args.present) c.index_mut.result.now clients (sym c.in-Some.is ∙ place) in
    let changed : slice_set clients c.in-Some.place c.see.new.self ≡ waiter_at c.args.client (seen_waiter c.args.present) clients =
    ap (slice_set clients c.in-Some.place) (c.see.ensures ∙ ap (seen_waiter c.args.present) c.index_mut.ensures.value) ∙ sym at in
    rw (← c.self.view_is, changed) (floor-seen _ _ _ _ _ c.self.invariant c.args.client c.args.present)

pub returns-in_default : goal.returns-in_default
returns-in_default c =
    let place = rw c.deref.ensures.value at c.place_in_order.ensures.place in
    let same = none-changed c.args.client (seen_waiter c.args.present) c.self.inside.clients.items (not-some c.place_in_order.result c.in_default.not-Some ∙ place) in
    rw (← c.self.view_is)
    (ap (λ ws. floor_of c.self.inside.logs (standing c.self.inside.places) ws c.self.inside.next_client c.self.inside.next_message) same
    ∙ floor-seen _ _ _ _ _ c.self.invariant c.args.client c.args.present)
