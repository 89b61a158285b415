use Rattle.amf_sol.proofs.FileVerdicts as verdicts
use Rattle.amf_sol.proofs.laws.file_faults_are_first.Goals as goal

pub returns : goal.returns
returns c = verdicts.file_faults_are_first
