-- The worked facts of runs hold.
use Rattle.amf_cli.proofs.ServeRows.{serve_rows}
use Rattle.amf_cli.proofs.facts.serve_rows.Goals as goal

pub returns : goal.returns
returns c = serve_rows
