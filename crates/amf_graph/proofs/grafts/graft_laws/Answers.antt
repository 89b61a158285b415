-- A graft is isomorphic to what was copied.
use Rattle.amf_graph.proofs.Matched.{graft_law, each_root}
use Rattle.amf_graph.proofs.grafts.graft_laws.Goals as goal

pub returns : goal.returns
returns c = record { graft = graft_law; each_root = each_root }
