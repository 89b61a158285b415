-- The message comes to the client at its seat.
use Rattle.std.proofs.Common.{◌≡◌, ◌∙◌, sym, true, false, arith, refl}
use Rattle.amf_broker.specs.Lines.{is_crowded, counted, noted}
use Rattle.amf_broker.proofs.Waiters.{waiter-changed, crowded-at, untold-at}
use Rattle.amf_broker.proofs.member.Member.hand_over.Goals as goal

pub end-requires : goal.end-requires
end-requires c =
    let same = untold-at c.self.inside.client c.seat_of-seat.result c.args.clients.now c.index-clients-seat.result c.seat_of-seat.ensures.place in
    let few = rw (← c.self.view_is) at c.requires.room in
    omega arith

pub returns-then-is_full-clause-ended : goal.returns-then-is_full-clause-ended
returns-then-is_full-clause-ended c =
    let full = crowded-at c.self.inside.client c.seat_of-seat.result c.args.clients.now c.index-clients-seat.result c.seat_of-seat.ensures.place in
    let yes' : is_crowded c.self.inside.client c.args.clients.now ≡ true = full ∙ (sym c.is_full.ensures ∙ c.if-is_full.true) in
    rw (← c.self.view_is, yes') refl

pub returns-then-is_full-clause-clients : goal.returns-then-is_full-clause-clients
returns-then-is_full-clause-clients c =
    let at = c.seat_of-seat.ensures.place in
    let full = crowded-at c.self.inside.client c.seat_of-seat.result c.args.clients.now c.index-clients-seat.result at in
    let yes' : is_crowded c.self.inside.client c.args.clients.now ≡ true = full ∙ (sym c.is_full.ensures ∙ c.if-is_full.true) in
    rw (← c.self.view_is, yes', c.end.ensures) (sym (waiter-changed c.self.inside.client c.seat_of-seat.result (noted c.self.inside.sub) c.index-clients-seat.result c.args.clients.now at))

pub returns-clause-ended : goal.returns-clause-ended
returns-clause-ended c =
    let full = crowded-at c.self.inside.client c.seat_of-seat.result c.args.clients.now c.index-clients-seat.result c.seat_of-seat.ensures.place in
    let not : is_crowded c.self.inside.client c.args.clients.now ≡ false = full ∙ (sym c.is_full.ensures ∙ c.if-is_full.false) in
    rw (← c.self.view_is, not) refl

pub returns-clause-clients : goal.returns-clause-clients
returns-clause-clients c =
    let at = c.seat_of-seat.ensures.place in
    let full = crowded-at c.self.inside.client c.seat_of-seat.result c.args.clients.now c.index-clients-seat.result at in
    let not : is_crowded c.self.inside.client c.args.clients.now ≡ false = full ∙ (sym c.is_full.ensures ∙ c.if-is_full.false) in
    rw (← c.self.view_is, not, c.count.ensures) (sym (waiter-changed c.self.inside.client c.seat_of-seat.result counted c.index-clients-seat.result c.args.clients.now at))
