use Rattle.amf0_write.specs.Writes0.{date_bytes}
use Rattle.amf0_write.proofs.LooseNodes.{leads_date, falls_loose}
use Rattle.amf0_write.proofs.output.Output.lowered_date.Goals as goal

pub returns-clause-leads : goal.returns-clause-leads
returns-clause-leads c =
    leads_date c.args.graph.now c.args.node c.args.waiting.now.items c.args.self.now c.date.new.self c.is_finished.ensures.finished c.requires.met c.requires.new c.args.milliseconds.0 c.requires.there c.in_ok-date.ensures.adds

pub returns-clause-falls : goal.returns-clause-falls
returns-clause-falls c =
    falls_loose c.args.graph.now c.args.node (date_bytes c.args.milliseconds.0) c.args.waiting.now.items c.args.self.now c.date.new.self c.requires.met.names c.requires.new c.in_ok-date.ensures.adds
