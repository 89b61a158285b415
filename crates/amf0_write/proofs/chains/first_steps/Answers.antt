use Rattle.amf0_write.specs.Chained.{IsAfter}
use Rattle.amf0_write.proofs.ChainEnds.{for_more}
use Rattle.amf0_write.proofs.chains.first_steps.Goals as goal

pub loop-number-preserved : goal.loop-number-preserved
loop-number-preserved c =
    let g = c.args.graph.now in
    rw (c.in_ok-push.ensures.items) (for_more g (IsAfter g 1) c.loop-number.number c.loop-number.ends.items c.unwrapped.result c.loop-number.invariant c.unwrapped.ensures.names c.unwrapped.ensures.content)
