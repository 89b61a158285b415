use Rattle.amf0_layout_laws.proofs.Verdicts0 as law
use Rattle.amf0_layout_laws.proofs.verdict_laws.faults0_are_first.Goals as goal

pub returns : goal.returns
returns c = law.first_fault
