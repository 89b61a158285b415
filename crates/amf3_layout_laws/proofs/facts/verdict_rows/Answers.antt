-- The worked verdicts hold.
use Rattle.amf3_layout_laws.proofs.VerdictRows.{verdicts}
use Rattle.amf3_layout_laws.proofs.facts.verdict_rows.Goals as goal

pub returns : goal.returns
returns c = verdicts
