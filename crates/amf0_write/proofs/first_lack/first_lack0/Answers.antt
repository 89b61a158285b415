use Rattle.amf_graph.specs.Rooted.{content}
use Rattle.amf0_write.proofs.FirstReasons.{lack_of}
use Rattle.amf0_write.proofs.first_lack.first_lack0.Goals as goal

pub returns : goal.returns
returns c = lack_of (content c.args.graph.now) c.args.outside c.in_ok-numbering.numbering c.in_ok-numbering.ensures.order c.first_of.result c.first_of.ensures
