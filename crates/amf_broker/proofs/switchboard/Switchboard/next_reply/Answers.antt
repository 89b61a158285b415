-- What waits for the client is shared.
use Rattle.std.proofs.Common.{◌∙◌}
use Rattle.amf_broker.proofs.switchboard.Switchboard.next_reply.Goals as goal

pub ended_of-requires : goal.ended_of-requires
ended_of-requires c = rw (← c.self.view_is) at c.requires

pub queue_of-requires : goal.queue_of-requires
queue_of-requires c = rw (← c.self.view_is) at c.requires

pub returns-clause-queue : goal.returns-clause-queue
returns-clause-queue c = rw (← c.self.view_is) c.in_ok-queue.ensures

pub returns-clause-reply : goal.returns-clause-reply
returns-clause-reply c =
    let queue = c.in_ok-deliveries.ensures ∙ (c.as_slice.ensures ∙ c.in_ok-queue.ensures) in
    rw (← c.self.view_is, queue, c.in_ok-ended.ensures)
