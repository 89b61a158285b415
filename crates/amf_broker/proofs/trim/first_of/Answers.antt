-- The next place is not before it.
use Rattle.amf_broker.proofs.Among.{first-more}
use Rattle.amf_broker.proofs.trim.first_of.Goals as goal

pub loop-at-preserved : goal.loop-at-preserved
loop-at-preserved c =
    first-more c.args.topic.now c.args.slots.now c.args.spots.now c.loop-at.at-index 0 c.loop-at.first c.lesser_at-first.result c.loop-at-test.true c.loop-at.invariant c.lesser_at-first.ensures.less c.lesser_at-first.ensures.before
