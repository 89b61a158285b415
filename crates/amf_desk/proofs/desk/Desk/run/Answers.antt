-- One call in one turn.
use Rattle.std.proofs.Common.{ap, ◌∙◌}
use Rattle.amf_desk.specs.Steps.{Sat}
use Rattle.amf_desk.proofs.Turns.{still_room, counted_as, counted_broker, ran_as, stayed_as}
use Rattle.amf_desk.proofs.desk.Desk.run.Goals as goal

pub answer-requires : goal.answer-requires
answer-requires g c = let e = c.enter-broker.ensures.entered in still_room c.args.seat.now.me.0 e.ticket e.seen _ e.sound c.requires.idle.1 e.in_hand

pub count_in-requires-clause-turn : goal.count_in-requires-clause-turn
count_in-requires-clause-turn g c = let e = c.enter-broker.ensures.entered in (e.ticket, ap (λ (m : Sat). m.0.stage) e.is)

pub leave-requires-clause-turn : goal.leave-requires-clause-turn
leave-requires-clause-turn g c = let e = c.enter-broker.ensures.entered in (e.ticket, ap (λ (m : Sat). m.0.stage) c.count_in.ensures.counted ∙ ap (λ (m : Sat). m.0.stage) e.is)

pub leave-requires-in-Err-clause-turn : goal.leave-requires-in-Err-clause-turn
leave-requires-in-Err-clause-turn g c = let e = c.enter-broker.ensures.entered in (e.ticket, ap (λ (m : Sat). m.0.stage) e.is)

pub leave-requires-clause-broker : goal.leave-requires-clause-broker
leave-requires-clause-broker g c = let v = c.args.seat.now.me.0 in let e = c.enter-broker.ensures.entered in let a = c.in-Ok.ensures.ok v.destinations e.seen v.number e.in_hand in
    counted_broker v e.ticket e.seen c.args.moment c.args.call _ _ _ (counted_as v e.ticket e.seen _ _ _ _ _ _ e.is c.count_in.ensures.counted c.requires.told.0 c.requires.told.1) a.0 a.1

pub returns-in-Ok-clause-ok : goal.returns-in-Ok-clause-ok
returns-in-Ok-clause-ok g c = let v = c.args.seat.now.me.0 in let e = c.enter-broker.ensures.entered in let a = c.in-Ok.ensures.ok v.destinations e.seen v.number e.in_hand in
    ran_as v e.ticket e.seen c.args.moment c.args.call _ _ _ c.requires.idle.1 e.later a.0 (counted_as v e.ticket e.seen _ _ _ _ _ _ e.is c.count_in.ensures.counted c.requires.told.0 c.requires.told.1) c.leave.ensures.given

pub returns-in-Err-clause-err : goal.returns-in-Err-clause-err
returns-in-Err-clause-err g c = let v = c.args.seat.now.me.0 in let e = c.enter-broker.ensures.entered in
    stayed_as v e.ticket e.seen c.args.moment c.args.call _ _ e.later (c.in-Err.ensures.wants v.destinations e.seen e.in_hand) e.is c.leave-in-Err.ensures.given
