use Rattle.amf_graph.proofs.Contents.{number_facts}
use Rattle.amf_graph.proofs.facts.number_facts.Goals as goal

pub returns : goal.returns
returns c = number_facts
