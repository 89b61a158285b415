use Rattle.std.proofs.Common.{sym, subst, ◌↔◌}
use Rattle.std.specs.Prelude.{IsTrue}
use Rattle.amf0_write.proofs.ShortNames.{AreShort}
use Rattle.amf0_write.proofs.Standing.{seen_are, seen_pairs}
use Rattle.amf0_write.proofs.lowered.Lowered.are_short.Goals as goal

pub are_short-requires : goal.are_short-requires
are_short-requires c =
    let l = c.self.inside in
    seen_are l.is_lowering l.graph.now l.stand_ins.items c.args.self.now c.self.view_is c.args.pairs.now c.requires

pub returns : goal.returns
returns c =
    let l = c.self.inside in
    subst (λ ps. IsTrue c.are_short.result ↔ AreShort ps) (sym (seen_pairs l.is_lowering l.graph.now l.stand_ins.items c.args.self.now c.self.view_is c.args.pairs.now)) c.are_short.ensures
