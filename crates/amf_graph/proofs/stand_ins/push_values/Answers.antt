use Rattle.std.proofs.Common.{arith, ◌++◌, subst}
use Rattle.std.proofs.lemmas.List.{append-nil, take_all}
use Rattle.std.specs.List.{AllZip}
use Rattle.amf_graph.specs.declared.value.Value.TheVariants.{Undefined}
use Rattle.amf_graph.specs.StandIns.{StandsFor}
use Rattle.amf_graph.proofs.Zipping.{zip_behind}
use Rattle.amf_graph.proofs.stand_ins.push_values.Goals as goal

pub loop-value-init : goal.loop-value-init
loop-value-init c = λ before m. rw append-nil m

pub loop-value-preserved : goal.loop-value-preserved
loop-value-preserved c = λ before m.
    rw (c.in_ok-push.ensures.items) (zip_behind (StandsFor c.args.stand_ins.now) before c.args.values.now c.loop-value.copies.items c.loop-value.value-index Undefined c.stand_in.result (omega arith) (c.loop-value.invariant before m) c.stand_in.ensures)

pub returns : goal.returns
returns c = λ before m.
    subst (λ vs. AllZip (StandsFor c.args.stand_ins.now) (before ++ vs) c.loop-value.copies.items) (take_all c.loop-value.value-index c.args.values.now (omega arith)) (c.loop-value.invariant before m)
