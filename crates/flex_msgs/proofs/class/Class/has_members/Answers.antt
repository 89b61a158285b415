-- All names are there.
use Rattle.std.proofs.Common.{refl, arith}
use Rattle.flex_msgs.specs.Classes.{class_traits}
use Rattle.flex_msgs.proofs.Storing.{texts_are}
use Rattle.flex_msgs.proofs.class.Class.has_members.Goals as goal

pub returns : goal.returns
returns c = (
  λ t. texts_are c.args.graph.now.arena c.args.names.now (class_traits c.args.self).sealed (omega (arith, c.if-names-count.false, c.count.ensures)) (λ k l. c.loop-place.invariant k (omega arith)),
  λ e. refl,
)
