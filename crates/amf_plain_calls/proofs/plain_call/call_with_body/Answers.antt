use Rattle.std.proofs.Common.{◌≤◌, subst, arith}
use Rattle.std.proofs.lemmas.Result.{IfOk-weaker}
use Rattle.amf_graph.specs.Rooted.{content}
use Rattle.amf_graph.proofs.Finished.{finished}
use Rattle.amf_packet.specs.declared.body.Body.{Body as KeptBody}
use Rattle.amf_packet.specs.PacketAnswer.{body_weight}
use Rattle.amf_answer_plan.specs.PlainCalls.{in_array}
use Rattle.amf_plain_calls.proofs.Plain.{with_body}
use Rattle.amf_answer_plan.proofs.Wholes.{array_whole}
use Rattle.amf_plain_calls.proofs.plain_call.call_with_body.Goals as goal

pub in_array-requires : goal.in_array-requires
in_array-requires g c = subst (λ (z : KeptBody). body_weight z ≤ 1048576) c.in-Call.is c.requires

pub call-requires : goal.call-requires
call-requires g c =
    let light = subst (λ (z : KeptBody). body_weight z ≤ 1048576) c.in-Call.is c.requires in
    omega (arith, light, c.in_ok-args-in-Call.ensures.light)

pub returns-in_ok-args-in-Call : goal.returns-in_ok-args-in-Call
returns-in_ok-args-in-Call g c =
    let x = c.in-Call.graph in
    let whole = finished x.arena x.root c.is_finished.ensures.finished c.is_finished.ensures.names in
    IfOk-weaker c.call.result _ _ (λ y h. with_body _ c.args.target.now c.args.body.now _ y c.in-Call.is (h (in_array (content x)) (array_whole (content x) whole) c.in_ok-args-in-Call.ensures.same)) c.call.ensures
