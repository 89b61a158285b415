use Rattle.std.proofs.Common.{sym, subst, arith}
use Rattle.amf0_write.specs.Chained.{AreAfter}
use Rattle.amf0_write.proofs.chains.chain_ends.Goals as goal

pub loop-steps-preserved : goal.loop-steps-preserved
loop-steps-preserved c =
    let g = c.args.graph.now in
    let steps = c.loop-steps.steps in
    record {
      some = omega (arith, c.loop-steps.invariant.some);
      after = c.in_ok-ends-2.ensures g steps (subst (AreAfter g steps) (sym c.deref-in-loop-steps.ensures.value) c.loop-steps.invariant.after);
    }
