use Rattle.amf_sol.proofs.FileRows as rows
use Rattle.amf_sol.proofs.facts.worked_files.Goals as goal

pub returns : goal.returns
returns c = rows.files
