use Rattle.std.proofs.Common.{◌≡◌, IfOk, codes, refl, sym, subst, arith}
use Rattle.std.proofs.lemmas.Result.{IfOk-weaker}
use Rattle.amf_answer_plan.specs.Kept.{FaultFits}
use Rattle.amf_answer_plan.proofs.Texts.{cause_fits}
use Rattle.amf_answer_plan.proofs.causes.not_served.Goals as goal

pub returns-clause-fits : goal.returns-clause-fits
returns-clause-fits c = IfOk-weaker c.cause.result _ _ (λ f e. subst FaultFits (sym e) (cause_fits (codes "Client.NotServed") (codes "operation not served") refl refl (omega arith) (omega arith))) c.cause.ensures
