use Rattle.amf_json.proofs.ReadyInputs.{graph_ready}
use Rattle.amf_json.proofs.ready.value_is_ready.Goals as goal

pub returns : goal.returns
returns c = let f = c.is_finished.ensures in graph_ready c.args.graph.now.arena c.args.graph.now.root f.finished f.bounds f.names
