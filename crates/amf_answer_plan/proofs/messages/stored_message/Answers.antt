use Rattle.std.proofs.Common.{◌≡◌, IfOk}
use Rattle.std.proofs.lemmas.Result.{IfOk-weaker}
use Rattle.amf_answer_plan.proofs.messages.stored_message.Goals as goal

pub returns : goal.returns
returns c = IfOk-weaker c.spelling_of.result _ _ (λ found h. h _ c.in_ok-built.ensures) c.spelling_of.ensures
