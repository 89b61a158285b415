-- The sum of the items.
use Rattle.std.proofs.Common.{ap, ◌∙◌}
use Rattle.amf_service.specs.Made.{totalled}
use Rattle.amf_service.proofs.sum.total_in.Goals as goal

pub returns : goal.returns
returns c = c.total.ensures c.args.args.now.arena ∙ ap totalled c.in_ok-items.ensures.items
