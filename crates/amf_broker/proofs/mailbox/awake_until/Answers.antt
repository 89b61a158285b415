-- One client more does not expire before.
use Rattle.std.proofs.Common.{arith}
use Rattle.amf_broker.proofs.Awake.{awake-next}
use Rattle.amf_broker.proofs.mailbox.awake_until.Goals as goal

pub loop-mailbox-preserved : goal.loop-mailbox-preserved
loop-mailbox-preserved c =
    let less = c.awake_until-until.ensures.bound in
    let before = c.loop-mailbox.invariant.1 in (
      awake-next c.loop-mailbox.until c.awake_until-until.result c.args.clients.now c.loop-mailbox.mailbox-index c.mailbox-item.result c.loop-mailbox-test.true c.mailbox-item.is less c.awake_until-until.ensures.awake c.loop-mailbox.invariant.0,
      omega arith,
    )
