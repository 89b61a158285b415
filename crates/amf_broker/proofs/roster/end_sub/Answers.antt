-- One slot more.
use Rattle.std.proofs.Common.{◌∙◌}
use Rattle.std.specs.Prelude.{◌==◌}
use Rattle.amf_broker.specs.Members.{logs_of}
use Rattle.amf_broker.specs.Slots.{own_ended}
use Rattle.amf_broker.proofs.Owners.{changed-more}
use Rattle.amf_broker.proofs.roster.end_sub.Goals as goal

pub loop-at-preserved : goal.loop-at-preserved
loop-at-preserved c =
    changed-more (own_ended (λ k. k == c.args.client) c.args.next c.args.next (λ id. id == c.args.sub) (logs_of c.args.logs.now)) c.args.spots.now c.loop-at.at-index 0 c.loop-at.slots c.index-slots-at.result c.end_sub.new.self c.loop-at-test.true c.end_sub.ensures
    ∙ c.loop-at.invariant
