use Rattle.std.proofs.Common.{◌≡◌, IfOk, refl, subst}
use Rattle.std.proofs.lemmas.Result.{IfOk-weaker, on_err_weaker}
use Rattle.amf_packet.specs.Content.{body_of}
use Rattle.amf_answer_plan.specs.Did.{Stopped}
use Rattle.amf_answer_plan.specs.Says.{Says}
use Rattle.amf_answer_plan.specs.Plan.{Plan}
use Rattle.amf_answer_plan.specs.Replies.{Answer}
use Rattle.amf_flex_replies.proofs.Fitting.{flex_is, flex_none}
use Rattle.amf_flex_replies.proofs.flex.flex.Goals as goal

pub answer_value-requires-clause-light : goal.answer_value-requires-clause-light
answer_value-requires-clause-light g c = rw c.in-Some.ensures.light c.requires.light

pub returns-in-Some-clause-says : goal.returns-in-Some-clause-says
returns-in-Some-clause-says g c =
    IfOk-weaker c.answer_value.result _ _ (λ a h. subst (λ (p : Plan Answer). Says g.O.Outside.handed p c.args.outside.now c.answer_value.new.outside a) (flex_is _ (body_of c.args.body.now) _ _ c.in-Some.ensures.value c.in-Some.ensures.graph) h) c.answer_value.ensures.says

pub returns-in-Some-clause-stopped : goal.returns-in-Some-clause-stopped
returns-in-Some-clause-stopped g c =
    on_err_weaker c.answer_value.result (λ h. subst (λ (p : Plan Answer). Stopped g.O.Outside.handed p c.args.outside.now c.answer_value.new.outside) (flex_is _ (body_of c.args.body.now) _ _ c.in-Some.ensures.value c.in-Some.ensures.graph) h) c.answer_value.ensures.stopped

pub returns-in-None-clause-says : goal.returns-in-None-clause-says
returns-in-None-clause-says g c =
    IfOk-weaker c.no_message.result _ _ (λ a h. subst (λ (p : Plan Answer). Says g.O.Outside.handed p c.args.outside.now c.no_message.new.outside a) (flex_none _ (body_of c.args.body.now) (c.in-None.ensures.none refl)) h) c.no_message.ensures.says

pub returns-in-None-clause-stopped : goal.returns-in-None-clause-stopped
returns-in-None-clause-stopped g c =
    on_err_weaker c.no_message.result (λ h. subst (λ (p : Plan Answer). Stopped g.O.Outside.handed p c.args.outside.now c.no_message.new.outside) (flex_none _ (body_of c.args.body.now) (c.in-None.ensures.none refl)) h) c.no_message.ensures.stopped
