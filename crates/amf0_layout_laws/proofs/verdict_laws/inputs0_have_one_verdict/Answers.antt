use Rattle.amf0_layout_laws.proofs.Verdicts0 as law
use Rattle.amf0_layout_laws.proofs.verdict_laws.inputs0_have_one_verdict.Goals as goal

pub returns : goal.returns
returns c = record { judged = law.is_judged; once = law.is_judged_once }
