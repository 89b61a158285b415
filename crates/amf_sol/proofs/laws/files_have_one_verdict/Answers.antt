use Rattle.amf_sol.proofs.FileVerdicts.{files_judged, files_judged_once}
use Rattle.amf_sol.proofs.laws.files_have_one_verdict.Goals as goal

pub returns : goal.returns
returns c = record { judged = files_judged; once = files_judged_once }
