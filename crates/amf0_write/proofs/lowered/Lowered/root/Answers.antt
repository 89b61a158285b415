use Rattle.std.proofs.Common.{subst}
use Rattle.amf_graph.specs.StandIns.{StandsFor}
use Rattle.amf0_write.proofs.Standing.{seen_root}
use Rattle.amf0_write.proofs.lowered.Lowered.root.Goals as goal

pub returns-then-self : goal.returns-then-self
returns-then-self c =
    let l = c.self.inside in
    seen_root l.is_lowering l.graph.now l.stand_ins.items c.args.self.now c.self.view_is c.if-self.true (c.self.invariant c.if-self.true) c.is_finished.ensures.names c.stood.result
    (subst (λ ins. StandsFor ins l.graph.now.root c.stood.result) c.deref.ensures.value (subst (λ v. StandsFor c.deref.result.now v c.stood.result) c.root-root.ensures c.stood.ensures))
