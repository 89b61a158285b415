use Rattle.std.proofs.Common.{◌∷◌, List, IfOk, sym, subst}
use Rattle.amf_graph.specs.Arena.{value_content}
use Rattle.amf_graph.specs.Rooted.{content}
use Rattle.amf0_write.specs.Unwritten0.{IsMetValue, LeadsValue}
use Rattle.amf0_write.specs.Writes0.{Segment, value, Stops}
use Rattle.amf0_write.proofs.Leading0.{leads_plain, plain_still}
use Rattle.amf0_write.proofs.output.Output.whole.Goals as goal

pub returns-in_ok-plain-in_default-clause-leads : goal.returns-in_ok-plain-in_default-clause-leads
returns-in_ok-plain-in_default-clause-leads c = λ ps.
    leads_plain (content c.args.graph.now) c.args.graph.now.arena c.args.value ps c.args.self.now c.plain.new.self c.in_default.not-Node c.in_ok-plain-in_default.ensures.adds

pub returns-in_ok-plain-in_default-clause-still : goal.returns-in_ok-plain-in_default-clause-still
returns-in_ok-plain-in_default-clause-still c =
    plain_still c.args.graph.now.arena c.args.value c.args.self.now c.plain.new.self c.in_default.not-Node c.in_ok-plain-in_default.ensures.adds

pub returns-in-Node-clause-lack : goal.returns-in-Node-clause-lack
returns-in-Node-clause-lack c = λ e.
    let g = content c.args.graph.now in
    subst (λ v. (ps : List Segment) → Stops g (value (value_content c.args.graph.now.arena v) ∷ ps) c.args.self.now) (sym c.in-Node.is) (c.known_node.ensures.lack g c.requires.tables e)

pub returns-in-Node-clause-leads : goal.returns-in-Node-clause-leads
returns-in-Node-clause-leads c =
    let g = content c.args.graph.now in
    subst (λ v. IfOk c.known_node.result (λ next. LeadsValue g (value_content c.args.graph.now.arena v) next c.args.self.now c.known_node.new.self)) (sym c.in-Node.is) (c.known_node.ensures.leads g c.requires.tables)

pub returns-in-Node-clause-next : goal.returns-in-Node-clause-next
returns-in-Node-clause-next c = c.known_node.ensures.next c.args.graph.now (subst (λ v. IsMetValue c.args.graph.now v) c.in-Node.is c.requires.met)
