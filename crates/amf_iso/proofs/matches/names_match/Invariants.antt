use Rattle.std.proofs.Common.{◌≡◌}
use Rattle.amf_graph.specs.Arena.{text_at}
use Rattle.amf_iso.specs.Joined.{AreJoined}
use Rattle.amf_iso.specs.Walking.{IsPair, NamesMatch}
use Rattle.amf_iso.proofs.Remaining.{Remains}
use Rattle.amf_iso.proofs.matches.names_match.Given as goal

abbrev pub invariant-loop-p : goal.invariant-loop-p
invariant-loop-p l = record {
  known : AreJoined l.graphs.left.now.arena l.graphs.right.now.arena l.texts;
  remains : Remains (IsPair l.graphs.left.now.arena) (IsPair l.graphs.right.now.arena) (λ p q. text_at l.graphs.left.now.arena p.0.0 ≡ text_at l.graphs.right.now.arena q.0.0) (NamesMatch l.graphs.left.now.arena l.graphs.right.now.arena l.ps l.qs) l.p-iterator.a.rest.now l.p-iterator.b.rest.now;
}
