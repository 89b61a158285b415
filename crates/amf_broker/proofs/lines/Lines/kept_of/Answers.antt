-- The kept deliveries are those of the waiter at the client's place.
use Rattle.std.proofs.Common.{◌≡◌, ◌∙◌, ap, sym}
use Rattle.std.specs.Prelude.{is_some, map}
use Rattle.std.proofs.lemmas.Result.{IfOk-weaker}
use Rattle.amf_broker.specs.Machine.{kept_in, kept_of}
use Rattle.amf_broker.specs.Lines.{Waiter, clients_by}
use Rattle.amf_broker.specs.Members.{logs_of, raised}
use Rattle.amf_broker.specs.Slots.{standing}
use Rattle.amf_broker.proofs.Waiters.{client-found, connected-place, some-of}
use Rattle.amf_broker.proofs.lines.Lines.kept_of.Goals as goal

pub place_in_order-requires : goal.place_in_order-requires
place_in_order-requires c = rw c.deref.ensures.value c.self.invariant.kept.rise

pub unwrap-place-requires : goal.unwrap-place-requires
unwrap-place-requires c =
    let place = rw c.deref.ensures.value at c.place_in_order.ensures.place in
    let here = rw (← c.self.view_is) at c.requires in
    some-of _ (ap is_some place ∙ (connected-place (logs_of c.self.inside.logs) (map (raised c.self.inside.next_message) (standing c.self.inside.places)) c.args.client c.self.inside.clients.items ∙ here))

pub returns : goal.returns
returns c =
    let place = rw c.deref.ensures.value at c.place_in_order.ensures.place in
    let found = client-found (logs_of c.self.inside.logs) (map (raised c.self.inside.next_message) (standing c.self.inside.places)) c.args.client c.unwrap-place.result c.self.inside.clients.items c.index.result.now (sym c.unwrap-place.ensures ∙ place) in
    rw (← c.self.view_is) (IfOk-weaker c.shared.result (λ all. all ≡ c.kept.result.now)
    (λ all. all ≡ kept_of c.args.client (clients_by (logs_of c.self.inside.logs) (map (raised c.self.inside.next_message) (standing c.self.inside.places)) c.self.inside.clients.items))
    (λ all is. is ∙ (c.kept.ensures ∙ (ap (λ (w : Waiter). w.kept) c.index.ensures ∙ sym (ap kept_in found)))) c.shared.ensures)
