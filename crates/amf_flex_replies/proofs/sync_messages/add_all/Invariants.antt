use Rattle.std.proofs.Common.{drop}
use Rattle.amf_flex_replies.proofs.Reading.{AddedSo}
use Rattle.amf_flex_replies.proofs.sync_messages.add_all.Given as goal

abbrev pub invariant-loop-delivery : goal.invariant-loop-delivery
invariant-loop-delivery l = AddedSo l.deliveries (drop l.delivery-index l.deliveries) l.all_stored l.batch l.delivery-index
