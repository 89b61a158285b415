use Rattle.amf_answer_laws.proofs.Computed.{tried_runs}
use Rattle.amf_answer_laws.proofs.facts.tried_is_run.Goals as goal

pub returns : goal.returns
returns c = tried_runs
