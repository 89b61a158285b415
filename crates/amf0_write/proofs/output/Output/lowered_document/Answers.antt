use Rattle.amf0_write.specs.Writes0.{document_bytes}
use Rattle.amf0_write.proofs.LooseNodes.{leads_document, falls_loose}
use Rattle.amf0_write.proofs.output.Output.lowered_document.Goals as goal

pub returns-clause-leads : goal.returns-clause-leads
returns-clause-leads c =
    let s = c.requires.there in
    leads_document c.args.graph.now c.args.node c.args.waiting.now.items c.args.self.now c.document.new.self c.is_finished.ensures.finished c.requires.met c.requires.new s.0 c.args.text.now c.is_finished.ensures.bounds s.1 s.2 c.in_ok-document.ensures.adds

pub returns-clause-falls : goal.returns-clause-falls
returns-clause-falls c =
    falls_loose c.args.graph.now c.args.node (document_bytes c.args.text.now) c.args.waiting.now.items c.args.self.now c.document.new.self c.requires.met.names c.requires.new c.in_ok-document.ensures.adds
