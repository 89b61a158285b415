use Rattle.amf0_layout_laws.proofs.Verdicts0 as law
use Rattle.amf0_layout_laws.proofs.verdict_laws.values0_have_one_verdict.Goals as goal

pub returns : goal.returns
returns c = record { judged = law.ends; once = law.once }
