use Rattle.std.proofs.Common.{◌≡◌, ◌++◌, take}
use Rattle.std.specs.List.{flat_map}
use Rattle.amf_graph.specs.Rooted.{content}
use Rattle.amf_show.specs.Joining.{line_number}
use Rattle.amf_show.specs.Listing.{shown_node}
use Rattle.amf_show.proofs.lister.Lister.push_nodes.Given as goal

abbrev pub invariant-loop-number : goal.invariant-loop-number
invariant-loop-number l = record {
  lines : l.out.items ≡ l.fn.out.items ++ flat_map (shown_node (content l.self.graph.now) l.self.numbering.now) (take l.number l.self.numbering.now);
  text : l.text.items ≡ line_number l.number;
}
