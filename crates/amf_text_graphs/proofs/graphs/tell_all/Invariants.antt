use Rattle.std.proofs.Common.{map}
use Rattle.amf_text_graphs.specs.Fronts.{IsTelling}
use Rattle.amf_text_pages.specs.Pages.{kept_of}
use Rattle.amf_text_graphs.proofs.graphs.tell_all.Given as goal

abbrev pub invariant-loop-node : goal.invariant-loop-node
invariant-loop-node l = IsTelling l.rows l.book (map kept_of l.fn.nodes.items) (map kept_of l.node-iterator.rest.items) l.place
