-- The job that sets a value.
use Rattle.amf_media.proofs.flv_run.run_whole.Goals as goal

pub returns-in-Set-clause-runs : goal.returns-in-Set-clause-runs
returns-in-Set-clause-runs g c = rw c.in-Set.is c.set_metadata.ensures.runs
