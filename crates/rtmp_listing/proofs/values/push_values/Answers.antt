use Rattle.rtmp_listing.proofs.Listed.{no_values}
use Rattle.rtmp_listing.proofs.values.push_values.Goals as goal

pub returns-then-is_empty : goal.returns-then-is_empty
returns-then-is_empty c = no_values c.is_empty.result c.args.bytes.now c.args.out.now.items c.is_empty.ensures c.if-is_empty.true
