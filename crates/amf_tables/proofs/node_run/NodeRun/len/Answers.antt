use Rattle.std.proofs.Common.{◌+◌, ap, ◌∙◌}
use Rattle.amf_tables.proofs.NodeRuns.{run_length}
use Rattle.amf_tables.proofs.node_run.NodeRun.len.Goals as goal

pub returns : goal.returns
returns c = rw (← c.self.view_is) (ap (λ w. c.self.inside.count + w) (c.len.ensures ∙ c.self.inside.rest.ok.0) ∙ run_length c.self.inside.first c.self.inside.count c.self.inside.rest.items)
