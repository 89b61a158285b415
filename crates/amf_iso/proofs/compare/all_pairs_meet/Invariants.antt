use Rattle.std.proofs.Common.{◌-◌, length}
use Rattle.amf_graph.specs.Rooted.{content}
use Rattle.amf_iso.proofs.Looking.{Looked}
use Rattle.amf_iso.proofs.compare.all_pairs_meet.Given as goal

abbrev pub invariant-loop-next : goal.invariant-loop-next
invariant-loop-next l = Looked l.graphs.left.now.arena l.graphs.right.now.arena (content l.graphs.left.now) (content l.graphs.right.now) l.initial.walk l.walk l.next

abbrev pub decreases-loop-next : goal.decreases-loop-next
decreases-loop-next l = length l.graphs.left.now.arena.nodes - l.next
