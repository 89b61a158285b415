use Rattle.std.proofs.Common.{take}
use Rattle.amf_poll_session.specs.Steps.{SoFar}
use Rattle.amf_poll_session.proofs.reply.bodies_of.Given as goal

abbrev pub invariant-loop-item : goal.invariant-loop-item
invariant-loop-item l = SoFar l.graph (take l.item-index l.items) l.bodies.items
