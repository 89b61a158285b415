use Rattle.std.proofs.Common.{◌≡◌, IfOk, subst}
use Rattle.std.proofs.lemmas.Result.{IfOk-weaker, on_err_weaker}
use Rattle.amf_graph.specs.Rooted.{content}
use Rattle.amf_answer_plan.specs.Did.{Stopped}
use Rattle.amf_answer_plan.specs.Says.{Says}
use Rattle.amf_answer_plan.specs.Plan.{Plan}
use Rattle.amf_answer_plan.specs.Replies.{Answer}
use Rattle.amf_answer_plan.proofs.Doing.{not_begun}
use Rattle.amf_flex_replies.proofs.Fitting.{request_fits, refused_answer}
use Rattle.amf_flex_replies.proofs.flex.answer_value.Goals as goal

pub answer_flex_request-requires-clause-fits : goal.answer_flex_request-requires-clause-fits
answer_flex_request-requires-clause-fits g c = request_fits c.args.graph.now.arena c.args.graph.now.root c.args.value c.in-Ok.request c.is_finished.ensures.finished c.is_finished.ensures.bounds c.in-Ok.ensures.names c.in-Ok.ensures.ok

pub returns-in-Ok-clause-says : goal.returns-in-Ok-clause-says
returns-in-Ok-clause-says g c = rw c.in-Ok.ensures.ok c.answer_flex_request.ensures.says

pub returns-in-Ok-clause-stopped : goal.returns-in-Ok-clause-stopped
returns-in-Ok-clause-stopped g c = rw c.in-Ok.ensures.ok c.answer_flex_request.ensures.stopped

pub returns-in-Err-NotObject-clause-says : goal.returns-in-Err-NotObject-clause-says
returns-in-Err-NotObject-clause-says g c =
    IfOk-weaker c.no_message.result _ _ (λ a h. subst (λ (p : Plan Answer). Says g.O.Outside.handed p c.args.outside.now c.no_message.new.outside a) (refused_answer _ (content c.args.graph.now) _ c.in-Err-NotObject.field-0 c.in-Err-NotObject.ensures.err (λ m. let is = c.in-Err-NotObject.field-0-is in absurd cc)) h) c.no_message.ensures.says

pub returns-in-Err-NotObject-clause-stopped : goal.returns-in-Err-NotObject-clause-stopped
returns-in-Err-NotObject-clause-stopped g c =
    on_err_weaker c.no_message.result (λ h. subst (λ (p : Plan Answer). Stopped g.O.Outside.handed p c.args.outside.now c.no_message.new.outside) (refused_answer _ (content c.args.graph.now) _ c.in-Err-NotObject.field-0 c.in-Err-NotObject.ensures.err (λ m. let is = c.in-Err-NotObject.field-0-is in absurd cc)) h) c.no_message.ensures.stopped

pub returns-in-Err-NotServed-clause-says : goal.returns-in-Err-NotServed-clause-says
returns-in-Err-NotServed-clause-says g c =
    IfOk-weaker c.no_message-in-Err-NotServed.result _ _ (λ a h. subst (λ (p : Plan Answer). Says g.O.Outside.handed p c.args.outside.now c.no_message-in-Err-NotServed.new.outside a) (refused_answer _ (content c.args.graph.now) _ c.in-Err-NotServed.field-0 c.in-Err-NotServed.ensures.err (λ m. let is = c.in-Err-NotServed.field-0-is in absurd cc)) h) c.no_message-in-Err-NotServed.ensures.says

pub returns-in-Err-NotServed-clause-stopped : goal.returns-in-Err-NotServed-clause-stopped
returns-in-Err-NotServed-clause-stopped g c =
    on_err_weaker c.no_message-in-Err-NotServed.result (λ h. subst (λ (p : Plan Answer). Stopped g.O.Outside.handed p c.args.outside.now c.no_message-in-Err-NotServed.new.outside) (refused_answer _ (content c.args.graph.now) _ c.in-Err-NotServed.field-0 c.in-Err-NotServed.ensures.err (λ m. let is = c.in-Err-NotServed.field-0-is in absurd cc)) h) c.no_message-in-Err-NotServed.ensures.stopped

pub returns-in-Err-WrongKind-clause-says : goal.returns-in-Err-WrongKind-clause-says
returns-in-Err-WrongKind-clause-says g c =
    IfOk-weaker c.no_message-in-Err-WrongKind.result _ _ (λ a h. subst (λ (p : Plan Answer). Says g.O.Outside.handed p c.args.outside.now c.no_message-in-Err-WrongKind.new.outside a) (refused_answer _ (content c.args.graph.now) _ c.in-Err-WrongKind.field-0 c.in-Err-WrongKind.ensures.err (λ m. let is = c.in-Err-WrongKind.field-0-is in absurd cc)) h) c.no_message-in-Err-WrongKind.ensures.says

pub returns-in-Err-WrongKind-clause-stopped : goal.returns-in-Err-WrongKind-clause-stopped
returns-in-Err-WrongKind-clause-stopped g c =
    on_err_weaker c.no_message-in-Err-WrongKind.result (λ h. subst (λ (p : Plan Answer). Stopped g.O.Outside.handed p c.args.outside.now c.no_message-in-Err-WrongKind.new.outside) (refused_answer _ (content c.args.graph.now) _ c.in-Err-WrongKind.field-0 c.in-Err-WrongKind.ensures.err (λ m. let is = c.in-Err-WrongKind.field-0-is in absurd cc)) h) c.no_message-in-Err-WrongKind.ensures.stopped

pub returns-in-Err-Memory-clause-stopped : goal.returns-in-Err-Memory-clause-stopped
returns-in-Err-Memory-clause-stopped g c = not_begun g.O.Outside.handed g.met.O.Outside.hands_none _ c.args.outside.now
