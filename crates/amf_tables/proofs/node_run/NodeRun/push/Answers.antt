use Rattle.std.proofs.Common.{rules, ◌+◌, refl, sym, ◌∙◌}
use Rattle.amf_tables.proofs.NodeRuns.{run_longer}
use Rattle.amf_tables.proofs.node_run.NodeRun.push.Goals as goal

pub returns-then-node-self-clause-ok : goal.returns-then-node-self-clause-ok
returns-then-node-self-clause-ok c =
    rw (← c.self.view_is) (run_longer c.self.inside.first c.self.inside.count (c.self.inside.count + 1) c.args.node.0 c.self.inside.rest.items refl c.if-node-self.true (sym c.self.inside.rest.ok.0 ∙ search rules))
