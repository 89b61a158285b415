-- The worked facts of runs hold.
use Rattle.amf_commands.proofs.RunRows.{run_rows}
use Rattle.amf_commands.proofs.facts.run_rows.Goals as goal

pub returns : goal.returns
returns c = run_rows
