-- The worked fact of `serve`.
use Rattle.std.proofs.Common.{refl}
use Rattle.std.specs.Fmt.{digits}
use Rattle.amf_cli.specs.WorkedServe.{ServeRows}

pub serve_rows : ServeRows
unfolding digits
serve_rows = record { line_of_serve = refl }
