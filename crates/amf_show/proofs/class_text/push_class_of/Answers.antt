use Rattle.amf_show.proofs.Held.{node_in}
use Rattle.amf_show.proofs.class_text.push_class_of.Goals as goal

pub push_class-requires-clause-traits : goal.push_class-requires-clause-traits
push_class-requires-clause-traits c = (node_in c.args.graph.now.arena c.args.node.0 _ c.is_finished.ensures.finished c.requires.node c.in-Object.ensures).head
