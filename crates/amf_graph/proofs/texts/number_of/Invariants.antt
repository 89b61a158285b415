use Rattle.amf_graph.proofs.Contents.{IsSought}
use Rattle.amf_graph.proofs.texts.number_of.Given as goal

abbrev pub invariant-loop-link : goal.invariant-loop-link
invariant-loop-link l = IsSought l.fn.keys l.contents l.bytes l.link

abbrev pub decreases-loop-link : goal.decreases-loop-link
decreases-loop-link l = l.link
