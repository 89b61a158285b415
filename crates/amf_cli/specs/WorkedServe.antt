-- A worked fact of `serve`: its line.
use Rattle.std.specs.Prelude.{◌≡◌, codes}
use Rattle.amf_cli.specs.Lines.{served_line}

pub record ServeRows : Type 0 where
  pub line_of_serve : served_line (record { calls = 4; published = 1; delivered = 12; queued = 0 }) ≡ codes "calls 4 published 1 delivered 12 queued 0\n"
