-- A graft keeps what is true of a builder.
use Rattle.amf_graph.proofs.KeptBuilt.{graft_keeps}
use Rattle.amf_graph.proofs.grafts.graft_keeps.Goals as goal

pub returns : goal.returns
returns c = graft_keeps
