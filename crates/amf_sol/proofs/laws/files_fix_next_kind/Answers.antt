use Rattle.amf_sol.proofs.FileVerdicts.{files_fix_next}
use Rattle.amf_sol.proofs.laws.files_fix_next_kind.Goals as goal

pub returns : goal.returns
returns c = files_fix_next
