-- The ends that are untold are those of the waiter at the client's place.
use Rattle.std.proofs.Common.{◌≡◌, ◌∙◌, ap, sym, rules}
use Rattle.std.specs.Prelude.{is_some, map}
use Rattle.amf_broker.specs.Machine.{ended_in}
use Rattle.amf_broker.specs.Lines.{Waiter}
use Rattle.amf_broker.specs.Members.{logs_of, raised}
use Rattle.amf_broker.specs.Slots.{standing}
use Rattle.amf_broker.proofs.Waiters.{client-found, connected-place, some-of}
use Rattle.amf_broker.proofs.lines.Lines.ended_of.Goals as goal

pub place_in_order-requires : goal.place_in_order-requires
place_in_order-requires c = rw c.deref.ensures.value c.self.invariant.kept.rise

pub unwrap-place-requires : goal.unwrap-place-requires
unwrap-place-requires c =
    let place = rw c.deref.ensures.value at c.place_in_order.ensures.place in
    let here = rw (← c.self.view_is) at c.requires in
    some-of _ (ap is_some place ∙ (connected-place (logs_of c.self.inside.logs) (map (raised c.self.inside.next_message) (standing c.self.inside.places)) c.args.client c.self.inside.clients.items ∙ here))

pub returns : goal.returns
returns c =
    let place = rw c.deref.ensures.value at c.place_in_order.ensures.place in
    let found = client-found (logs_of c.self.inside.logs) (map (raised c.self.inside.next_message) (standing c.self.inside.places)) c.args.client c.unwrap-place.result c.self.inside.clients.items c.index.result.now (sym c.unwrap-place.ensures ∙ place) in
    let copied : c.in_ok-to_vec.field-0.items ≡ c.ended.result.now = search rules in
    rw (← c.self.view_is) (c.of_vec.ensures ∙ (copied ∙ (c.ended.ensures ∙ (ap (λ (w : Waiter). w.ended) c.index.ensures ∙ sym (ap ended_in found)))))
