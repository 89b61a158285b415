use Rattle.std.proofs.Common.{◌++◌, ap, ◌∙◌}
use Rattle.amf_graph.specs.Graph.{node_at}
use Rattle.amf_graph.specs.Rooted.{content}
use Rattle.amf_show.specs.Listing.{contents_of, shown_node}
use Rattle.amf_show.specs.Shown.{line_feed}
use Rattle.amf_show.proofs.Held.{order_within, node_step}
use Rattle.amf_show.proofs.LineNumbers.{line_shown}
use Rattle.amf_show.proofs.lister.Lister.push_nodes.Goals as goal

pub push_line-requires : goal.push_line-requires
push_line-requires c = order_within c.args.self.now.graph.now.arena c.args.self.now.graph.now.root c.args.self.now.numbering.now c.loop-number.number c.node_at.result.0 c.requires c.node_at.ensures

pub loop-number-preserved : goal.loop-number-preserved
loop-number-preserved c =
    let g = content c.args.self.now.graph.now in
    let order = c.args.self.now.numbering.now in
    let k = c.loop-number.number in
    let i = c.node_at.result.0 in
    let text = c.as_slice.ensures.value ∙ c.loop-number.invariant.text in
    let shown = ap (λ w. w ++ contents_of order (node_at g i) ++ line_feed) text ∙ line_shown g order k i c.requires c.node_at.ensures in
    record {
      lines = node_step (shown_node g order) c.args.out.now.items c.loop-number.out.items c.push_line.new.out.items order k i c.node_at.ensures c.loop-number.invariant.lines (c.in_ok-push_line.ensures ∙ ap (λ w. c.loop-number.out.items ++ w) shown);
      text = c.in_ok-count_up.ensures;
    }
