use Rattle.amf_self_call_laws.proofs.WorkedRows.{rows}
use Rattle.amf_self_call_laws.proofs.laws.worked_rounds.Goals as goal

pub returns : goal.returns
returns c = rows
