use Rattle.std.proofs.Common.{refl}
use Rattle.std.proofs.lemmas.Result.{IfOk-weaker, on_err_weaker}
use Rattle.amf_packet.specs.Content.{message_of}
use Rattle.amf_answer_plan.proofs.Doing.{at_err, not_begun}
use Rattle.amf_gateway.proofs.MessageAnswers.{said_request, stopped_request, said_plain}
use Rattle.amf_gateway.proofs.packets.answer_message.Goals as goal

pub returns-then-is_request-clause-says : goal.returns-then-is_request-clause-says
returns-then-is_request-clause-says g c =
    IfOk-weaker c.flex.result _ _ (λ x h. said_request g.O.Outside.handed _ (message_of c.args.message.now) c.is_flex-is_request.result c.is_flex-is_request.ensures c.args.outside.now c.flex.new.outside c.if-is_request.true x h) c.flex.ensures.says

pub returns-then-is_request-clause-stopped : goal.returns-then-is_request-clause-stopped
returns-then-is_request-clause-stopped g c =
    on_err_weaker c.flex.result (λ h. stopped_request g.O.Outside.handed _ (message_of c.args.message.now) c.is_flex-is_request.result c.is_flex-is_request.ensures c.args.outside.now c.flex.new.outside c.if-is_request.true h) c.flex.ensures.stopped

pub returns-else-is_request-clause-says : goal.returns-else-is_request-clause-says
returns-else-is_request-clause-says g c =
    IfOk-weaker c.answer_call.result _ _ (λ x h. said_plain g.O.Outside.handed _ (message_of c.args.message.now) c.is_flex-is_request.result c.is_flex-is_request.ensures c.args.outside.now c.args.outside.now g.met.O.Outside.hands_none c.if-is_request.false refl x h) c.answer_call.ensures

pub returns-else-is_request-clause-stopped : goal.returns-else-is_request-clause-stopped
returns-else-is_request-clause-stopped g c = at_err c.answer_call.result (not_begun g.O.Outside.handed g.met.O.Outside.hands_none _ c.args.outside.now)
