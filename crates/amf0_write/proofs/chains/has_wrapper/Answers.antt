use Rattle.std.proofs.Common.{below_more, sym, ◌∙◌, arith}
use Rattle.amf0_write.proofs.chains.has_wrapper.Goals as goal

pub loop-number-preserved : goal.loop-number-preserved
loop-number-preserved c = below_more _ _ c.loop-number.invariant (sym c.is_wrapper.ensures ∙ c.if-is_wrapper.false)

pub returns : goal.returns
returns c = λ e i l. c.loop-number.invariant i (omega arith)
