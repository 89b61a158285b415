use Rattle.std.proofs.Common.{arith, ◌≡◌, ◌∙◌, ◌-◌, map, slice_get}
use Rattle.std.proofs.lemmas.Grind.{common_steps}
use Rattle.std.proofs.lemmas.Option.{gets}
use Rattle.std.specs.Option.{option_map}
use Rattle.amf_tables.specs.TableParts.{node_number}
use Rattle.amf_tables.proofs.NodeRuns.{at_run, behind_run}
use Rattle.amf_tables.proofs.node_run.NodeRun.get.Goals as goal

pub returns-then-index-self : goal.returns-then-index-self
returns-then-index-self c = rw (← c.self.view_is) (at_run c.self.inside.first c.self.inside.count c.args.index c.self.inside.rest.items c.if-index-self.true)

pub returns : goal.returns
returns c =
    let read : option_map node_number c.copied.result ≡ slice_get (map node_number c.self.inside.rest.items) (c.args.index - c.self.inside.count) = grind (arith, common_steps, gets) in
    rw (← c.self.view_is) (read ∙ behind_run c.self.inside.first c.self.inside.count c.args.index c.self.inside.rest.items c.if-index-self.false)
