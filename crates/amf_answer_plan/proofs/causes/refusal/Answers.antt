use Rattle.std.proofs.Common.{◌≡◌, sym, subst, arith}
use Rattle.amf_answer_plan.specs.Kept.{FaultFits}
use Rattle.amf_answer_plan.proofs.Texts.{cause_fits}
use Rattle.amf_answer_plan.proofs.causes.refusal.Goals as goal

pub returns-in_ok-cause-in-Some-clause-fits : goal.returns-in_ok-cause-in-Some-clause-fits
returns-in_ok-cause-in-Some-clause-fits c =
    let t = c.in-Some.ensures.texts in
    let s = c.in-Some.ensures.short in
    subst FaultFits (sym c.in_ok-cause-in-Some.ensures) (cause_fits c.in-Some.code.now c.in-Some.text.now t.0 t.1 (omega (arith, s.0)) (omega (arith, s.1)))
