use Rattle.std.proofs.Common.{sym, subst}
use Rattle.amf_text_write.specs.Opening.{node_tokens}
use Rattle.amf_text_write.specs.Pieces.{ArePieces}
use Rattle.amf_text_write.specs.Ways.{arena_in, graph_in}
use Rattle.amf_text_write.proofs.Leading.{tree_told}
use Rattle.amf_text_write.proofs.Telling.{on_ok}
use Rattle.amf_text_write.proofs.layout.Output.node_tree.Goals as goal

pub drain-requires : goal.drain-requires
drain-requires c = c.in_ok-begin_node.ensures.pieces (subst (ArePieces (arena_in c.args.way.now)) (sym c.new-waiting.ensures.items) tt)

pub returns : goal.returns
returns c = λ w is.
    let k = c.args.way.now in
    on_ok c.drain.result (tree_told k (node_tokens (graph_in k) c.args.levels c.args.node.0) c.new-waiting.result.items c.begin_node.new.waiting.items c.args.self.now c.begin_node.new.self c.drain.new.self w is c.new-waiting.ensures.items c.in_ok-begin_node.ensures) (c.drain.ensures w is)
