use Rattle.std.proofs.Common.{◌≡◌, sym, subst}
use Rattle.amf_answer_plan.specs.Kept.{Fits}
use Rattle.amf_answer_plan.proofs.Texts.{or_nil_fits}
use Rattle.amf_answer_plan.proofs.context.Context.of.Goals as goal

pub returns-clause-fits : goal.returns-clause-fits
returns-clause-fits c = record {
  destination = subst Fits (sym c.in_ok-copy.ensures) c.requires.destination;
  ds_id = subst Fits (sym c.in_ok-or_nil.ensures) (or_nil_fits c.args.common.now.ds_id c.requires.ds_id);
  correlation = subst Fits (sym c.in_ok-copy-2.ensures) c.requires.message;
}
