-- The seat at which the client was seen, or the place that was found.
use Rattle.std.proofs.Common.{◌≡◌, ◌∙◌, [], ap, sym, true, rules}
use Rattle.std.specs.Prelude.{◌==◌, is_some}
use Rattle.amf_broker.specs.Lines.{Waiter}
use Rattle.amf_broker.proofs.Seats.{present-connected, seat-place}
use Rattle.amf_broker.proofs.Waiters.{connected-place, some-of}
use Rattle.amf_broker.proofs.member.seat_of.Goals as goal

pub unwrap-requires : goal.unwrap-requires
unwrap-requires c =
    some-of _ (ap is_some c.place_in_order.ensures.place
    ∙ (connected-place [] [] c.args.client c.args.clients.now ∙ (sym (present-connected c.args.client [] [] c.args.clients.now) ∙ c.requires.present)))

pub returns-then-eq-clause-place : goal.returns-then-eq-clause-place
returns-then-eq-clause-place c =
    let here : (c.index-clients-seat.result.id == c.args.client) ≡ true = search rules in
    let hit = ap (λ (w : Waiter). w.id == c.args.client) (sym c.index-clients-seat.is) ∙ here in
    seat-place c.args.client c.args.clients.now c.args.seat c.index-clients-seat.result c.requires.rise c.if-seat-clients.true hit
