use Rattle.std.proofs.Common.{◌≡◌, codes, refl, sym, subst, arith}
use Rattle.amf_answer_plan.specs.Kept.{Fits}
use Rattle.amf_answer_plan.proofs.Texts.{tested}
use Rattle.amf_answer_plan.proofs.causes.service_fault.Goals as goal

pub returns-clause-fits : goal.returns-clause-fits
returns-clause-fits c = λ f. record {
  code = subst Fits (sym c.in_ok-of_bytes.ensures) (tested (codes "Service.Fault") refl (omega arith));
  text = record { text = f.0; short = omega (arith, f.1) };
}
