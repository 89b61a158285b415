use Rattle.std.proofs.Common.{◌≡◌, ◌∷◌, true, false, refl, sym, ◌∙◌}
use Rattle.amf_graph.specs.Graph.{node}
use Rattle.amf0_write.specs.Writes0.{value}
use Rattle.amf0_write.proofs.Leading0.{leads_same, leads_named, stops_loose, stops_far}
use Rattle.amf0_write.proofs.Runs0.{same_stop}
use Rattle.amf0_write.proofs.output.Output.known_node.Goals as goal

pub returns-in_ok-index-in-Some-clause-leads : goal.returns-in_ok-index-in-Some-clause-leads
returns-in_ok-index-in-Some-clause-leads c = λ g s ps.
    let h = c.in_ok-index-in-Some.ensures.adds in
    leads_named g c.args.node.0 c.in-Some.place ps c.args.self.now c.index.new.self s c.in-Some.ensures.first.0 h.0 h.1

pub returns-in_ok-index-in-Some-clause-still : goal.returns-in_ok-index-in-Some-clause-still
returns-in_ok-index-in-Some-clause-still c = let h = c.in_ok-index-in-Some.ensures.adds.1 in (h.tables, h.loose)

pub returns-in_err-index-in-Some-clause-lack : goal.returns-in_err-index-in-Some-clause-lack
returns-in_err-index-in-Some-clause-lack c = λ g s e ps.
    stops_far g c.args.node.0 c.in-Some.place ps c.args.self.now s c.in-Some.ensures.first (c.in_err-index-in-Some.ensures.lack (same_stop c.from_residual.result c.in_err-index-in-Some.field-0.0 c.from_residual.ensures.1 e)).0

pub returns-in_err-index-in-Some-clause-stopped : goal.returns-in_err-index-in-Some-clause-stopped
returns-in_err-index-in-Some-clause-stopped c = λ e.
    (c.in_err-index-in-Some.ensures.lack (same_stop c.from_residual.result c.in_err-index-in-Some.field-0.0 c.from_residual.ensures.1 e)).1

pub returns-then-is_done-clause-lack : goal.returns-then-is_done-clause-lack
returns-then-is_done-clause-lack c = λ g s e ps.
    let d = c.is_done.ensures.0 c.if-is_done.true in
    stops_loose g c.args.node.0 ps c.args.self.now s d.0 d.1

pub returns-else-is_done-clause-leads : goal.returns-else-is_done-clause-leads
returns-else-is_done-clause-leads c = λ g s ps. leads_same g (value (node c.args.node.0) ∷ ps) (value (node c.args.node.0) ∷ ps) c.args.self.now refl

pub returns-else-is_done-clause-next : goal.returns-else-is_done-clause-next
returns-else-is_done-clause-next c = λ g met. (met, λ k e. let z : true ≡ false = sym (c.is_done.ensures.1 ((k, e), c.in-None.ensures.none)) ∙ c.if-is_done.false in cc)
