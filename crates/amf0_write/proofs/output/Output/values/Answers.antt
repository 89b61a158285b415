use Rattle.std.proofs.Common.{◌++◌, ◌∷◌, ap, refl, sym, ◌∙◌, subst, arith}
use Rattle.std.specs.List.{AllByRecursion}
use Rattle.amf_graph.specs.Arena.{value_content}
use Rattle.amf_graph.specs.Graph.{node}
use Rattle.amf_graph.specs.Rooted.{content}
use Rattle.amf_iso.specs.Contents.{values_of}
use Rattle.amf0_write.specs.Unwritten0.{IsMetValue, AreRunsOf, next_segments, segments_left, turns_left}
use Rattle.amf0_write.specs.Written0.{AreTables0}
use Rattle.amf0_write.specs.Writes0.{value, values_then, Leads}
use Rattle.amf0_write.proofs.Leading0.{leads_same, leads_to, still_then}
use Rattle.amf0_write.proofs.Runs0.{value_on, value_stops, same_stop}
use Rattle.amf0_write.proofs.output.Output.values.Goals as goal

pub loop-value-init : goal.loop-value-init
loop-value-init c = record {
  leads = leads_same (content c.args.graph.now) _ _ c.args.self.now refl;
  met = c.requires.run;
  stack = refl;
  few = omega arith;
  still = (refl, refl);
  keeps = λ front h. h;
}

pub whole-requires-clause-met : goal.whole-requires-clause-met
whole-requires-clause-met c = (subst (AllByRecursion (IsMetValue c.args.graph.now)) c.in-Some.ensures.cases.0 c.loop-value.invariant.met).0

pub whole-requires-clause-tables : goal.whole-requires-clause-tables
whole-requires-clause-tables c = subst (AreTables0 (content c.args.graph.now)) (sym c.loop-value.invariant.still.0) c.requires.tables

pub returns-in_err-node-clause-lack : goal.returns-in_err-node-clause-lack
returns-in_err-node-clause-lack c = λ e.
    let g = content c.args.graph.now in
    let a = c.args.graph.now.arena in
    let old = segments_left a c.args.waiting.now.items in
    value_stops g (values_then (values_of a c.args.values.now) ++ old) old (values_then (values_of a c.loop-value.left.now)) (values_then (values_of a c.in-Some.rest.now)) (value_content a c.in-Some.value.now) c.args.self.now c.loop-value.self
    (ap (λ vs. values_then (values_of a vs)) c.in-Some.ensures.cases.0) c.loop-value.invariant.leads (c.in_err-node.ensures.lack (same_stop c.from_residual.result c.in_err-node.field-0.0 c.from_residual.ensures.1 e))

pub returns-in_err-node-clause-stopped : goal.returns-in_err-node-clause-stopped
returns-in_err-node-clause-stopped c = λ e.
    still_then c.args.self.now c.loop-value.self c.whole.new.self c.loop-value.invariant.still (c.in_err-node.ensures.stopped (same_stop c.from_residual.result c.in_err-node.field-0.0 c.from_residual.ensures.1 e))

pub returns-in-Some-2-clause-leads : goal.returns-in-Some-2-clause-leads
returns-in-Some-2-clause-leads c =
    let g = content c.args.graph.now in
    let a = c.args.graph.now.arena in
    let old = segments_left a c.args.waiting.now.items in
    let whole = values_then (values_of a c.args.values.now) ++ old in
    let behind = values_then (values_of a c.in-Some.rest.now) in
    let on = value_on g whole old (values_then (values_of a c.loop-value.left.now)) behind (value_content a c.in-Some.value.now) c.in_ok-node.field-0 c.args.self.now c.loop-value.self c.whole.new.self
    (ap (λ vs. values_then (values_of a vs)) c.in-Some.ensures.cases.0) c.loop-value.invariant.leads c.in_ok-node.ensures.leads in
    let pushed = c.in_ok-push_values.ensures.left a ∙ ap (λ w. behind ++ segments_left a w) c.loop-value.invariant.stack in
    leads_to g whole (value (node c.in-Some-2.node.0) ∷ (behind ++ old)) (value (node c.in-Some-2.node.0) ∷ segments_left a c.push_values.new.waiting.items) c.args.self.now c.whole.new.self (ap (λ w. value (node c.in-Some-2.node.0) ∷ w) (sym pushed))
    (subst (λ next. Leads g whole (next_segments next ++ (behind ++ old)) c.args.self.now c.whole.new.self) c.in-Some-2.is on)

pub returns-in-Some-2-clause-runs : goal.returns-in-Some-2-clause-runs
returns-in-Some-2-clause-runs c = λ h.
    let g = c.args.graph.now in
    c.in_ok-push_values.ensures.runs g (subst (AllByRecursion (IsMetValue g)) c.in-Some.ensures.cases.0 c.loop-value.invariant.met).1 (subst (λ runs. AreRunsOf g runs) (sym c.loop-value.invariant.stack) h)

pub returns-in-Some-2-clause-turns : goal.returns-in-Some-2-clause-turns
returns-in-Some-2-clause-turns c =
    omega (arith, ap turns_left c.loop-value.invariant.stack, c.in_ok-push_values.ensures.turns, c.in-Some.ensures.cases.1, c.loop-value.invariant.few)

pub returns-in-Some-2-clause-still : goal.returns-in-Some-2-clause-still
returns-in-Some-2-clause-still c = still_then c.args.self.now c.loop-value.self c.whole.new.self c.loop-value.invariant.still c.in_ok-node.ensures.still

pub loop-value-preserved : goal.loop-value-preserved
loop-value-preserved c =
    let g = content c.args.graph.now in
    let a = c.args.graph.now.arena in
    let old = segments_left a c.args.waiting.now.items in
    let whole = values_then (values_of a c.args.values.now) ++ old in
    let behind = values_then (values_of a c.in-Some.rest.now) in
    let on = value_on g whole old (values_then (values_of a c.loop-value.left.now)) behind (value_content a c.in-Some.value.now) c.in_ok-node.field-0 c.args.self.now c.loop-value.self c.whole.new.self
    (ap (λ vs. values_then (values_of a vs)) c.in-Some.ensures.cases.0) c.loop-value.invariant.leads c.in_ok-node.ensures.leads in
    record {
      leads = subst (λ next. Leads g whole (next_segments next ++ (behind ++ old)) c.args.self.now c.whole.new.self) c.in_default-2.is on;
      met = (subst (AllByRecursion (IsMetValue c.args.graph.now)) c.in-Some.ensures.cases.0 c.loop-value.invariant.met).1;
      stack = c.loop-value.invariant.stack;
      few = omega (arith, c.in-Some.ensures.cases.1, c.loop-value.invariant.few);
      still = still_then c.args.self.now c.loop-value.self c.whole.new.self c.loop-value.invariant.still c.in_ok-node.ensures.still;
      keeps = λ front h. c.in_ok-node.ensures.keeps front (c.loop-value.invariant.keeps front h);
    }
