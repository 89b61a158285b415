use Rattle.amf_sol.proofs.OneFile as one
use Rattle.amf_sol.proofs.laws.files_or_lacks.Goals as goal

pub returns : goal.returns
returns c = one.files_or_lacks
