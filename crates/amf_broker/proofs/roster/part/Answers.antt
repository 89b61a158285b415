-- One slot more.
use Rattle.std.proofs.Common.{◌∙◌, not}
use Rattle.std.specs.Prelude.{◌==◌}
use Rattle.amf_broker.specs.Slots.{kept_if}
use Rattle.amf_broker.proofs.Owners.{changed-more}
use Rattle.amf_broker.proofs.roster.part.Goals as goal

pub loop-at-preserved : goal.loop-at-preserved
loop-at-preserved c =
    changed-more (kept_if (λ u. not (u.client == c.args.client))) c.args.spots.now c.loop-at.at-index 0 c.loop-at.slots c.index-slots-at.result c.part.new.self c.loop-at-test.true c.part.ensures
    ∙ c.loop-at.invariant
