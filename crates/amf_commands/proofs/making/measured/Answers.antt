use Rattle.std.proofs.Common.{◌∙◌, refl, ap}
use Rattle.amf_graph.specs.Rooted.{content}
use Rattle.amf_commands.specs.Lines.{measure_line}
use Rattle.amf_commands.proofs.MadeAgain.{measures}
use Rattle.amf_commands.proofs.making.measured.Goals as goal

pub returns : goal.returns
returns c =
    measures c.args.graph.now (content c.args.graph.now) c.in_ok-bytes.bytes.items c.in_ok-measure_line.field-0.items c.node_count.result refl c.in_ok-bytes.ensures c.node_count.ensures
    (c.in_ok-measure_line.ensures ∙ ap (measure_line c.node_count.result) c.deref-2.ensures.value)
