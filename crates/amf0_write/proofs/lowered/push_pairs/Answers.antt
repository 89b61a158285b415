use Rattle.std.proofs.Common.{refl, get_or, ◌++◌, subst, arith}
use Rattle.std.proofs.lemmas.List.{append-nil, take_all}
use Rattle.std.specs.List.{AllZip}
use Rattle.amf_graph.specs.declared.value.Value.TheVariants.{Undefined}
use Rattle.amf_graph.specs.HaveStandIns.{HasStandIn}
use Rattle.amf_graph.specs.StandIns.{PairStandsFor}
use Rattle.amf_graph.specs.Views.{named}
use Rattle.amf_graph.proofs.Copies.{pair_at}
use Rattle.amf_graph.proofs.Zipping.{pairs_zip_behind}
use Rattle.amf0_write.proofs.lowered.push_pairs.Goals as goal

pub stood-requires : goal.stood-requires
stood-requires c = pair_at (HasStandIn c.args.stand_ins.now) c.args.pairs.now c.loop-name.name-index _ c.requires (omega arith)

pub loop-name-init : goal.loop-name-init
loop-name-init c = λ before m. rw append-nil m

pub loop-name-preserved : goal.loop-name-preserved
loop-name-preserved c = λ before m.
    rw (c.in_ok-push.ensures.items)
    (pairs_zip_behind (PairStandsFor c.args.stand_ins.now) before c.args.pairs.now c.loop-name.copies.items c.loop-name.name-index (record { 0 = 0 }, Undefined) ((get_or c.args.pairs.now c.loop-name.name-index (record { 0 = 0 }, Undefined)).0, c.stood.result) (omega arith) (c.loop-name.invariant before m) (refl, c.stood.ensures))

pub returns : goal.returns
returns c = λ before m.
    subst (λ ps. AllZip (PairStandsFor c.args.stand_ins.now) (before ++ named ps) (named c.loop-name.copies.items)) (take_all c.loop-name.name-index c.args.pairs.now (omega arith)) (c.loop-name.invariant before m)
