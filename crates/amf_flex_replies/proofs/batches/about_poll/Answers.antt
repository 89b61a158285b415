use Rattle.std.proofs.Common.{◌≡◌, [], refl, sym, subst, arith}
use Rattle.amf_answer_plan.specs.Kept.{Fits}
use Rattle.amf_answer_plan.proofs.Texts.{tested}
use Rattle.amf_flex_replies.proofs.batches.about_poll.Goals as goal

pub returns-clause-fits : goal.returns-clause-fits
returns-clause-fits c = record {
  destination = subst Fits (sym c.in_ok-of_bytes.ensures) (tested [] refl (omega arith));
  ds_id = subst Fits (sym c.in_ok-copy.ensures) c.requires.ds_id;
  correlation = subst Fits (sym c.in_ok-copy-2.ensures) c.requires.correlation;
}
