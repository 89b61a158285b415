use Rattle.amf_graph.specs.Rooted.{content}
use Rattle.amf0_spelling.proofs.LoweredLow.{lowering_is_lowered}
use Rattle.amf_graph_tests.proofs.amf0_write_tests.lowered.Goals as goal

pub returns : goal.returns
returns g c = lowering_is_lowered (content c.args.graph.now) (content c.in-Ok.low) c.in-Ok.ensures
