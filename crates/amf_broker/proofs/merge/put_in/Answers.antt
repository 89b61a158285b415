-- The delivery is put at its place.
use Rattle.std.proofs.Common.{◌∙◌, ap}
use Rattle.std.specs.List.{insert}
use Rattle.amf_broker.proofs.Merges.{put-at}
use Rattle.amf_broker.proofs.merge.put_in.Goals as goal

pub returns : goal.returns
returns c =
    let place = rw c.deref.ensures.value at c.place_for-place.ensures.place in
    c.in_ok-insert.ensures.items ∙ (ap (λ i. insert c.args.queue.now.items i c.args.delivery) place ∙ put-at c.args.delivery c.args.queue.now.items)
