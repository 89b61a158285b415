use Rattle.amf0_write.proofs.Standing.{seen_finished, seen_bounds, seen_names}
use Rattle.amf0_write.proofs.lowered.Lowered.is_finished.Goals as goal

pub returns-clause-finished : goal.returns-clause-finished
returns-clause-finished c =
    let l = c.self.inside in
    let e = c.is_finished.ensures in
    seen_finished l.is_lowering l.graph.now l.stand_ins.items c.args.self.now c.self.view_is c.self.invariant e.finished e.bounds e.names

pub returns-clause-bounds : goal.returns-clause-bounds
returns-clause-bounds c =
    let l = c.self.inside in
    let e = c.is_finished.ensures in
    seen_bounds l.is_lowering l.graph.now l.stand_ins.items c.args.self.now c.self.view_is c.self.invariant e.finished e.bounds e.names

pub returns-clause-names : goal.returns-clause-names
returns-clause-names c =
    let l = c.self.inside in
    let e = c.is_finished.ensures in
    seen_names l.is_lowering l.graph.now l.stand_ins.items c.args.self.now c.self.view_is c.self.invariant e.finished e.bounds e.names
