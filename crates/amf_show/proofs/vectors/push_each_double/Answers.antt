use Rattle.std.proofs.Common.{arith}
use Rattle.amf_wire.specs.declared.pattern.Pattern.{Pattern}
use Rattle.amf_show.specs.Shown.{shown_double}
use Rattle.amf_show.proofs.Joined.{joined_step_of}
use Rattle.amf_show.proofs.vectors.push_each_double.Goals as goal

pub loop-place-preserved : goal.loop-place-preserved
loop-place-preserved c = joined_step_of shown_double (λ (p : Pattern). p.0) c.args.out.now.items c.loop-place.out.items c.push_separator.new.out.items c.push_double.new.out.items c.args.doubles.now c.loop-place.place (record { 0 = 0 }) (omega arith) c.loop-place.invariant c.in_ok-push_separator.ensures c.in_ok-push_double.ensures
