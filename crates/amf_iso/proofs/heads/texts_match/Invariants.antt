use Rattle.std.proofs.Common.{◌≡◌}
use Rattle.amf_graph.specs.Arena.{IsTextId, text_at}
use Rattle.amf_tables.specs.ShownTraits.{texts_at}
use Rattle.amf_iso.specs.Joined.{AreJoined}
use Rattle.amf_iso.proofs.Remaining.{Remains}
use Rattle.amf_iso.proofs.heads.texts_match.Given as goal

abbrev pub invariant-loop-x : goal.invariant-loop-x
invariant-loop-x l = record {
  known : AreJoined l.left.arena l.right.arena l.texts;
  remains : Remains (λ x. IsTextId l.left.arena x.0) (λ y. IsTextId l.right.arena y.0) (λ x y. text_at l.left.arena x.0 ≡ text_at l.right.arena y.0) (texts_at l.left.arena l.xs ≡ texts_at l.right.arena l.ys) l.x-iterator.a.rest.now l.x-iterator.b.rest.now;
}
