use Rattle.amf_show.proofs.Held.{order_within}
use Rattle.amf_show.proofs.class_text.class_texts.Goals as goal

pub push_class_of-requires-clause-node : goal.push_class_of-requires-clause-node
push_class_of-requires-clause-node c = order_within c.args.graph.now.arena c.args.graph.now.root c.args.numbering.now c.loop-number.number c.node_at.result.0 c.requires c.node_at.ensures
