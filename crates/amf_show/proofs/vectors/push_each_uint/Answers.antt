use Rattle.std.proofs.Common.{arith}
use Rattle.std.specs.Fmt.{decimal}
use Rattle.amf_show.proofs.Joined.{joined_step}
use Rattle.amf_show.proofs.vectors.push_each_uint.Goals as goal

pub loop-place-preserved : goal.loop-place-preserved
loop-place-preserved c = joined_step decimal c.args.out.now.items c.loop-place.out.items c.push_separator.new.out.items c.push_uint.new.out.items c.args.uints.now c.loop-place.place 0 (omega arith) c.loop-place.invariant c.in_ok-push_separator.ensures c.in_ok-push_uint.ensures
