use Rattle.std.proofs.Common.{◌≡◌, ◌∙◌, IfOk, sym, subst, arith}
use Rattle.std.proofs.lemmas.Result.{IfOk-weaker}
use Rattle.amf_answer_plan.specs.Kept.{Fits}
use Rattle.amf_answer_plan.proofs.Texts.{number_fits}
use Rattle.amf_answer_plan.proofs.numbers.numeral.Goals as goal

pub returns-clause-fits : goal.returns-clause-fits
returns-clause-fits c = IfOk-weaker c.of_bytes.result _ _ (λ name e. subst Fits (sym (e ∙ c.as_bytes.ensures.value ∙ c.in_ok-text.ensures.ok)) (number_fits c.args.number (omega arith))) c.of_bytes.ensures
