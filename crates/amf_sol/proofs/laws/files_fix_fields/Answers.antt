use Rattle.amf_sol.proofs.FileVerdicts.{files_fix_fields}
use Rattle.amf_sol.proofs.laws.files_fix_fields.Goals as goal

pub returns : goal.returns
returns c = files_fix_fields
