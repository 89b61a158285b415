use Rattle.std.proofs.Common.{[], ◌++◌, map, sym, subst, ap, ◌∙◌}
use Rattle.std.specs.List.{AllZip, zip}
use Rattle.amf_graph.specs.declared.value.TextId.{TextId}
use Rattle.amf_graph.specs.Arena.{StoredTraits}
use Rattle.amf_graph.specs.StandIns.{StandsFor, PairStandsFor}
use Rattle.amf_graph.specs.Views.{named}
use Rattle.amf0_write.proofs.Standing.{array_seen, object_seen, no_form_seen}
use Rattle.amf0_write.proofs.lowered.Lowered.node.Goals as goal

pub returns-in_ok-push_pairs-in-Array-clause-shown : goal.returns-in_ok-push_pairs-in-Array-clause-shown
returns-in_ok-push_pairs-in-Array-clause-shown c =
    let l = c.self.inside in
    let R = PairStandsFor c.deref-in-Array.result.now in
    let none = subst (λ ps. AllZip R [] (named ps)) (sym c.in_ok-pairs-in-Array.ensures.items) tt in
    let items = subst (λ ins. AllZip (StandsFor ins) c.in-Array.items.now c.in_ok-items-in-Array.items.items) c.deref.ensures.value c.in_ok-items-in-Array.ensures in
    let pairs = subst (λ ins. AllZip (PairStandsFor ins) (named c.in-Array.names.now) (named c.push_pairs.new.copies.items)) c.deref-in-Array.ensures.value (c.in_ok-push_pairs-in-Array.ensures [] none) in
    array_seen l.is_lowering l.graph.now l.stand_ins.items c.args.self.now c.self.view_is c.if-not-self.false (c.self.invariant c.if-not-self.false) c.is_finished.ensures.finished c.args.node.0 c.requires.there
    c.in-Array.items.now c.in_ok-items-in-Array.items.items c.in-Array.names.now c.push_pairs.new.copies.items c.in-Array.ensures items pairs

pub returns-in_ok-push_pairs-in-Object-clause-shown : goal.returns-in_ok-push_pairs-in-Object-clause-shown
returns-in_ok-push_pairs-in-Object-clause-shown c =
    let l = c.self.inside in
    let none = subst (λ ps. AllZip (PairStandsFor c.deref-in-Object.result.now) [] (named ps)) (sym c.in_ok-pairs-in-Object.ensures) tt in
    let xs = map (λ (x : TextId). x.0) c.traits-class.result.sealed.now in
    let vs = c.in-Object.sealed.now in
    let first = subst (λ ins. AllZip (PairStandsFor ins) (zip xs vs) (named c.push_sealed.new.copies.items)) (c.deref-in-Object.ensures.value ∙ sym c.deref-in-Object-2.ensures.value) (c.in_ok-push_sealed-in-Object.ensures [] none) in
    let pairs = subst (λ ins. AllZip (PairStandsFor ins) (zip xs vs ++ named c.in-Object.members.now) (named c.push_pairs-in-Object.new.copies.items)) c.deref-in-Object-2.ensures.value (c.in_ok-push_pairs-in-Object.ensures (zip xs vs) first) in
    object_seen l.is_lowering l.graph.now l.stand_ins.items c.args.self.now c.self.view_is c.if-not-self.false (c.self.invariant c.if-not-self.false) c.is_finished.ensures.finished c.args.node.0 c.requires.there
    c.in-Object.traits.0 vs c.in-Object.members.now c.push_pairs-in-Object.new.copies.items c.in-Object.ensures
    (subst (λ ys. AllZip (PairStandsFor l.stand_ins.items) (zip ys vs ++ named c.in-Object.members.now) (named c.push_pairs-in-Object.new.copies.items)) (sym (ap (λ (t : StoredTraits). t.sealed) c.traits-class.ensures)) pairs)

pub returns-in_default-clause-shown : goal.returns-in_default-clause-shown
returns-in_default-clause-shown c =
    let l = c.self.inside in
    no_form_seen l.is_lowering l.graph.now l.stand_ins.items c.args.self.now c.self.view_is c.if-not-self.false (c.self.invariant c.if-not-self.false) c.is_finished.ensures.finished c.args.node.0 c.requires.there
    c.node.result c.node.ensures c.in_default.not-Date c.in_default.not-XmlDocument c.in_default.not-Array c.in_default.not-Object
