use Rattle.amf0_layout_laws.proofs.VerdictRows0 as law
use Rattle.amf0_layout_laws.proofs.facts.verdict_rows0.Goals as goal

pub returns : goal.returns
returns c = law.verdicts0
