use Rattle.std.proofs.Common.{subst}
use Rattle.std.specs.Prelude.{OnOk}
use Rattle.amf_graph.specs.Rooted.{content}
use Rattle.amf0_spelling.proofs.LoweredLow.{lowering_is_lowered}
use Rattle.amf0_write.specs.Written0.{AppendsLowered0}
use Rattle.amf0_write.proofs.write.write_lowered0.Goals as goal

pub write_seen-requires : goal.write_seen-requires
write_seen-requires c = lowering_is_lowered (content c.args.graph.now) (content c.in_ok-seen.seen) c.in_ok-seen.ensures

pub returns-in-Ok-clause-written : goal.returns-in-Ok-clause-written
returns-in-Ok-clause-written c = (content c.in_ok-seen.seen, c.in_ok-seen.ensures, c.in-Ok.ensures.written)

pub returns-clause-written : goal.returns-clause-written
returns-clause-written c =
    subst (λ old. OnOk c.write_copied.result (AppendsLowered0 (content c.args.graph.now) old c.write_copied.new.out.items)) c.in-Err-Lack.ensures.untouched c.write_copied.ensures.written
