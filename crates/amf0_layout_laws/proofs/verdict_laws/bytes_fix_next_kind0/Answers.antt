use Rattle.amf0_layout_laws.proofs.Verdicts0 as law
use Rattle.amf0_layout_laws.proofs.verdict_laws.bytes_fix_next_kind0.Goals as goal

pub returns : goal.returns
returns c = law.next_kind
