-- What waits for the client is handed out, and kept.
use Rattle.std.proofs.Common.{◌∙◌}
use Rattle.amf_broker.proofs.Advances.{connected-before, queue-here, reply-here}
use Rattle.amf_broker.proofs.switchboard.Switchboard.next.Goals as goal

pub next_reply-requires : goal.next_reply-requires
next_reply-requires c = connected-before c.args.moment.now.present c.args.moment.now.expired.items c.args.self.now c.args.client c.requires

pub keep-requires-clause-queue : goal.keep-requires-clause-queue
keep-requires-clause-queue c = rw c.advance.ensures (c.in_ok-queue.ensures.queue ∙ queue-here c.args.moment.now.present c.args.moment.now.expired.items c.args.self.now c.args.client c.requires)

pub returns-clause-reply : goal.returns-clause-reply
returns-clause-reply c = c.in_ok-queue.ensures.reply ∙ reply-here c.args.moment.now.present c.args.moment.now.expired.items c.args.self.now c.args.client c.requires c.args.number
