-- The counts are right.
use Rattle.std.proofs.Common.{◌∙◌, arith}
use Rattle.std.specs.Prelude.{map}
use Rattle.amf_broker.specs.Members.{logs_of, raised}
use Rattle.amf_broker.specs.Slots.{standing}
use Rattle.amf_broker.proofs.Waiters.{length-shown, waiting-sum}
use Rattle.amf_broker.proofs.lines.Lines.queued.Goals as goal

pub queued-requires : goal.queued-requires
queued-requires c =
    let few = rw (← c.self.view_is) at c.requires in
    let same = length-shown (logs_of c.self.inside.logs) (map (raised c.self.inside.next_message) (standing c.self.inside.places)) c.self.inside.clients.items in
    rw c.deref.ensures.value (omega (arith, few, same))

pub returns : goal.returns
returns c = rw (← c.self.view_is) (rw c.deref.ensures.value at c.queued.ensures ∙ waiting-sum (logs_of c.self.inside.logs) (map (raised c.self.inside.next_message) (standing c.self.inside.places)) c.self.inside.clients.items c.self.invariant.kept.right)
