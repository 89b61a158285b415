use Rattle.std.proofs.Common.{◌≡◌, [], refl, sym, subst, arith}
use Rattle.amf_answer_plan.specs.Kept.{Fits}
use Rattle.amf_answer_plan.proofs.Texts.{tested, nil_fits}
use Rattle.amf_answer_plan.proofs.context.Context.none.Goals as goal

pub returns-clause-fits : goal.returns-clause-fits
returns-clause-fits c = record {
  destination = subst Fits (sym c.in_ok-of_bytes.ensures) (tested [] refl (omega arith));
  ds_id = subst Fits (sym c.in_ok-of_bytes-2.ensures) nil_fits;
  correlation = subst Fits (sym c.in_ok-of_bytes-3.ensures) (tested [] refl (omega arith));
}
