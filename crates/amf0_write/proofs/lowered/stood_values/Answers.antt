use Rattle.std.proofs.Common.{arith, subst}
use Rattle.std.proofs.lemmas.List.{take_all}
use Rattle.std.specs.List.{AllZip}
use Rattle.amf_graph.specs.declared.value.Value.TheVariants.{Undefined}
use Rattle.amf_graph.specs.StandIns.{StandsFor}
use Rattle.amf_graph.proofs.Zipping.{zip_more}
use Rattle.amf0_write.proofs.lowered.stood_values.Goals as goal

pub loop-value-preserved : goal.loop-value-preserved
loop-value-preserved c =
    rw (c.in_ok-push.ensures.items) (zip_more (StandsFor c.args.stand_ins.now) c.args.values.now c.loop-value.copies.items c.loop-value.value-index Undefined c.stood.result (omega arith) c.loop-value.invariant c.stood.ensures)

pub returns : goal.returns
returns c =
    subst (λ vs. AllZip (StandsFor c.args.stand_ins.now) vs c.loop-value.copies.items) (take_all c.loop-value.value-index c.args.values.now (omega arith)) c.loop-value.invariant
