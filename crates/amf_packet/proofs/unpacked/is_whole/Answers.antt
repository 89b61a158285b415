use Rattle.std.proofs.Common.{subst}
use Rattle.amf_graph.specs.Reached.{IsWhole}
use Rattle.amf_graph.proofs.Finished.{finished}
use Rattle.amf_packet.proofs.unpacked.is_whole.Goals as goal

pub returns : goal.returns
returns c =
    let x = c.graph-graph.result.now in
    subst IsWhole c.graph-graph.ensures (finished x.arena x.root c.is_finished.ensures.finished c.is_finished.ensures.names)
