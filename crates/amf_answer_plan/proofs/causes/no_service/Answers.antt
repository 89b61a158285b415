use Rattle.std.proofs.Common.{◌≡◌, IfOk, codes, refl, sym, subst, arith}
use Rattle.std.proofs.lemmas.Result.{IfOk-weaker}
use Rattle.amf_answer_plan.specs.Kept.{FaultFits}
use Rattle.amf_answer_plan.proofs.Texts.{cause_fits}
use Rattle.amf_answer_plan.proofs.causes.no_service.Goals as goal

pub returns-clause-fits : goal.returns-clause-fits
returns-clause-fits c = IfOk-weaker c.cause.result _ _ (λ f e. subst FaultFits (sym e) (cause_fits (codes "Client.NoService") (codes "no such service") refl refl (omega arith) (omega arith))) c.cause.ensures
