use Rattle.std.proofs.Common.{Option, Some, None, subst, arith}
use Rattle.std.proofs.lemmas.Result.{IfOk-weaker, on_err_weaker}
use Rattle.amf_packet.specs.declared.packet.Packet.{Packet as KeptPacket}
use Rattle.amf_gateway.specs.Answered.{Unpacks}
use Rattle.amf_answer_plan.specs.Services.{services_by}
use Rattle.amf_gateway.proofs.Unpacked.{body_unpacked}
use Rattle.amf_gateway.proofs.BodyAnswers.{ran_body, stopped_body, ran_none}
use Rattle.amf_answer_plan.proofs.Doing.{at_err, not_begun}
use Rattle.amf_gateway.proofs.bodies.answer_body.Goals as goal

pub returns-in_err-packet-clause-stopped : goal.returns-in_err-packet-clause-stopped
returns-in_err-packet-clause-stopped g c = at_err c.from_residual.result (not_begun g.O.Outside.handed g.met.O.Outside.hands_none _ c.args.outside.now)

pub packet_in-requires : goal.packet_in-requires
packet_in-requires g c = let short = c.requires.short in omega (arith, short)

pub answer_read-requires-clause-packet : goal.answer_read-requires-clause-packet
answer_read-requires-clause-packet g c = (subst (λ (z : Option KeptPacket). Unpacks c.args.body.now z) c.in-Some.is (body_unpacked c.args.body.now c.in_ok-packet.packet c.requires.short c.in_ok-packet.ensures)).1

pub returns-in-Some-clause-ran : goal.returns-in-Some-clause-ran
returns-in-Some-clause-ran g c =
    let unpacked = subst (λ (z : Option KeptPacket). Unpacks c.args.body.now z) c.in-Some.is (body_unpacked c.args.body.now c.in_ok-packet.packet c.requires.short c.in_ok-packet.ensures) in
    IfOk-weaker c.answer_read.result _ _ (λ x r. ran_body g.O.Outside.handed _ c.args.body.now (Some c.in-Some.packet) unpacked c.args.outside.now c.answer_read.new.outside _ r) c.answer_read.ensures.ran

pub returns-in-Some-clause-stopped : goal.returns-in-Some-clause-stopped
returns-in-Some-clause-stopped g c =
    let unpacked = subst (λ (z : Option KeptPacket). Unpacks c.args.body.now z) c.in-Some.is (body_unpacked c.args.body.now c.in_ok-packet.packet c.requires.short c.in_ok-packet.ensures) in
    on_err_weaker c.answer_read.result (λ s. stopped_body g.O.Outside.handed _ c.args.body.now (Some c.in-Some.packet) unpacked c.args.outside.now c.answer_read.new.outside s) c.answer_read.ensures.stopped

pub returns-in-None-clause-ran : goal.returns-in-None-clause-ran
returns-in-None-clause-ran g c =
    let unpacked = subst (λ (z : Option KeptPacket). Unpacks c.args.body.now z) c.in-None.is (body_unpacked c.args.body.now c.in_ok-packet.packet c.requires.short c.in_ok-packet.ensures) in
    ran_body g.O.Outside.handed _ c.args.body.now None unpacked c.args.outside.now c.args.outside.now None (ran_none g.O.Outside.handed g.met.O.Outside.hands_none (services_by c.args.registry.now.services.entries (λ x. x.items) (λ s. (goal.Service-dyn g (s.vtable, s.value)).knows s.value) (λ s. (goal.Service-dyn g (s.vtable, s.value)).gives s.value)) c.args.outside.now)
