use Rattle.amf_sol.proofs.Unheld.{file_holder}
use Rattle.amf_sol.proofs.laws.files_have_holders.Goals as goal

pub returns : goal.returns
returns c = file_holder
