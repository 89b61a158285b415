-- What the search finds is the client's place.
use Rattle.std.proofs.Common.{rules}
use Rattle.std.specs.Prelude.{◌==◌}
use Rattle.std.proofs.lemmas.List.Sorted.{answers_always}
use Rattle.amf_broker.specs.Lines.{Waiter, new_waiter}
use Rattle.amf_broker.proofs.Orders.{found-in-order, absent-in-order}
use Rattle.amf_broker.proofs.Firsts.{no-place}
use Rattle.amf_broker.proofs.mailbox.place_in_order.Goals as goal

pub returns-in-Ok-clause-place : goal.returns-in-Ok-clause-place
returns-in-Ok-clause-place c =
    let by_id = c.in-Ok.ensures.position (λ (m : Waiter). m.id) (answers_always _ _ _ (λ f a r g called. search rules)) in
    rw (← c.client.view_is) (found-in-order (λ (m : Waiter). m.id) c.args.clients.now c.client.inside.0 c.requires c.in-Ok.place (new_waiter 0 0) c.in-Ok.ensures.bound by_id)

pub returns-in-Err-clause-place : goal.returns-in-Err-clause-place
returns-in-Err-clause-place c =
    let by_id = c.in-Err.ensures.position (λ (m : Waiter). m.id) (answers_always _ _ _ (λ f a r g called. search rules)) in
    rw (← c.client.view_is) (no-place (λ (m : Waiter). m.id == c.client.inside.0) c.args.clients.now (absent-in-order (λ (m : Waiter). m.id) c.args.clients.now c.client.inside.0 c.requires c.in-Err.field-0 c.in-Err.ensures.bound by_id))
