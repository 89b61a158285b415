-- The law holds.
use Rattle.amf_text_laws.proofs.Verdicts.{one_verdict}
use Rattle.amf_text_laws.proofs.facts.one_verdict.Goals as goal

pub returns : goal.returns
returns c = one_verdict
