use Rattle.std.proofs.Common.{◌++◌, ◌∷◌, [], ap, refl, sym, ◌∙◌, subst, arith, length, reverse}
use Rattle.std.proofs.lemmas.List.{append-nil, nil_from_length}
use Rattle.amf_graph.specs.Arena.{value_content}
use Rattle.amf_graph.specs.Rooted.{content}
use Rattle.amf_graph.proofs.Lists.{length_pushed}
use Rattle.amf_iso.specs.Contents.{values_of}
use Rattle.amf0_write.specs.declared.unwritten.Unwritten.TheVariants.{Made}
use Rattle.amf0_write.specs.Unwritten0.{IsMetValue, AreRunsOf, next_segments, segments_left}
use Rattle.amf0_write.specs.Written0.{AreTables0}
use Rattle.amf0_write.specs.Writes0.{values_then, Leads}
use Rattle.amf0_write.proofs.Leading0.{leads_same, leads_to, still_then}
use Rattle.amf0_write.proofs.Runs0.{rest_of, top_of, values_popped, turns_pushed, runs_pushed, value_on, value_stops, put_back, same_stop}
use Rattle.amf0_write.proofs.output.Output.made.Goals as goal

pub loop-value-init : goal.loop-value-init
loop-value-init c = record {
  leads = leads_same (content c.args.graph.now) _ _ c.args.self.now refl;
  met = c.requires.run;
  stack = refl;
  few = omega arith;
  still = (refl, refl);
  keeps = λ front h. h;
}

pub whole-requires-clause-met : goal.whole-requires-clause-met
whole-requires-clause-met c = top_of (IsMetValue c.args.graph.now) c.loop-value.values.items c.pop.new.self.items c.in-Some.value c.in-Some.ensures.items c.loop-value.invariant.met

pub whole-requires-clause-tables : goal.whole-requires-clause-tables
whole-requires-clause-tables c = subst (AreTables0 (content c.args.graph.now)) (sym c.loop-value.invariant.still.0) c.requires.tables

pub returns-in_err-node-clause-lack : goal.returns-in_err-node-clause-lack
returns-in_err-node-clause-lack c = λ e.
    let g = content c.args.graph.now in
    let a = c.args.graph.now.arena in
    let old = segments_left a c.args.waiting.now.items in
    let whole = values_then (values_of a (reverse c.args.values.items)) ++ old in
    let behind = values_then (values_of a (reverse c.pop.new.self.items)) in
    value_stops g whole old (values_then (values_of a (reverse c.loop-value.values.items))) behind (value_content a c.in-Some.value) c.args.self.now c.loop-value.self
    (values_popped a c.loop-value.values.items c.pop.new.self.items c.in-Some.value c.in-Some.ensures.items) c.loop-value.invariant.leads (c.in_err-node.ensures.lack (same_stop c.from_residual.result c.in_err-node.field-0.0 c.from_residual.ensures.1 e))

pub returns-in_err-node-clause-stopped : goal.returns-in_err-node-clause-stopped
returns-in_err-node-clause-stopped c = λ e.
    still_then c.args.self.now c.loop-value.self c.whole.new.self c.loop-value.invariant.still (c.in_err-node.ensures.stopped (same_stop c.from_residual.result c.in_err-node.field-0.0 c.from_residual.ensures.1 e))

pub returns-in-Some-2-clause-leads : goal.returns-in-Some-2-clause-leads
returns-in-Some-2-clause-leads c =
    let g = content c.args.graph.now in
    let a = c.args.graph.now.arena in
    let old = segments_left a c.args.waiting.now.items in
    let whole = values_then (values_of a (reverse c.args.values.items)) ++ old in
    let behind = values_then (values_of a (reverse c.pop.new.self.items)) in
    let on = value_on g whole old (values_then (values_of a (reverse c.loop-value.values.items))) behind (value_content a c.in-Some.value) c.in_ok-node.field-0 c.args.self.now c.loop-value.self c.whole.new.self
    (values_popped a c.loop-value.values.items c.pop.new.self.items c.in-Some.value c.in-Some.ensures.items) c.loop-value.invariant.leads c.in_ok-node.ensures.leads in
    let pushed = c.in_ok-push.ensures.items ∙ ap (λ w. w ++ Made c.pop.new.self ∷ []) c.loop-value.invariant.stack in
    put_back g a whole c.args.waiting.now.items c.push.new.self.items (Made c.pop.new.self) c.in-Some-2.node c.args.self.now c.whole.new.self pushed (subst (λ next. Leads g whole (next_segments next ++ (behind ++ old)) c.args.self.now c.whole.new.self) c.in-Some-2.is on)

pub returns-in-Some-2-clause-runs : goal.returns-in-Some-2-clause-runs
returns-in-Some-2-clause-runs c = λ h.
    let g = c.args.graph.now in
    runs_pushed g c.loop-value.waiting.items c.push.new.self.items (Made c.pop.new.self) c.in_ok-push.ensures.items (subst (λ runs. AreRunsOf g runs) (sym c.loop-value.invariant.stack) h) (rest_of (IsMetValue g) c.loop-value.values.items c.pop.new.self.items c.in-Some.value c.in-Some.ensures.items c.loop-value.invariant.met)

pub returns-in-Some-2-clause-turns : goal.returns-in-Some-2-clause-turns
returns-in-Some-2-clause-turns c =
    let pushed = c.in_ok-push.ensures.items ∙ ap (λ w. w ++ Made c.pop.new.self ∷ []) c.loop-value.invariant.stack in
    omega (arith, turns_pushed c.args.waiting.now.items c.push.new.self.items (Made c.pop.new.self) pushed, ap length c.in-Some.ensures.items, length_pushed c.pop.new.self.items c.in-Some.value, c.loop-value.invariant.few)

pub returns-in-Some-2-clause-still : goal.returns-in-Some-2-clause-still
returns-in-Some-2-clause-still c = still_then c.args.self.now c.loop-value.self c.whole.new.self c.loop-value.invariant.still c.in_ok-node.ensures.still

pub loop-value-preserved : goal.loop-value-preserved
loop-value-preserved c =
    let g = content c.args.graph.now in
    let a = c.args.graph.now.arena in
    let old = segments_left a c.args.waiting.now.items in
    let whole = values_then (values_of a (reverse c.args.values.items)) ++ old in
    let behind = values_then (values_of a (reverse c.pop.new.self.items)) in
    let on = value_on g whole old (values_then (values_of a (reverse c.loop-value.values.items))) behind (value_content a c.in-Some.value) c.in_ok-node.field-0 c.args.self.now c.loop-value.self c.whole.new.self
    (values_popped a c.loop-value.values.items c.pop.new.self.items c.in-Some.value c.in-Some.ensures.items) c.loop-value.invariant.leads c.in_ok-node.ensures.leads in
    record {
      leads = subst (λ next. Leads g whole (next_segments next ++ (behind ++ old)) c.args.self.now c.whole.new.self) c.in_default-2.is on;
      met = rest_of (IsMetValue c.args.graph.now) c.loop-value.values.items c.pop.new.self.items c.in-Some.value c.in-Some.ensures.items c.loop-value.invariant.met;
      stack = c.loop-value.invariant.stack;
      few = omega (arith, ap length c.in-Some.ensures.items, length_pushed c.pop.new.self.items c.in-Some.value, c.loop-value.invariant.few);
      still = still_then c.args.self.now c.loop-value.self c.whole.new.self c.loop-value.invariant.still c.in_ok-node.ensures.still;
      keeps = λ front h. c.in_ok-node.ensures.keeps front (c.loop-value.invariant.keeps front h);
    }

pub returns-clause-leads : goal.returns-clause-leads
returns-clause-leads c =
    let g = content c.args.graph.now in
    let a = c.args.graph.now.arena in
    let old = segments_left a c.args.waiting.now.items in
    let whole = values_then (values_of a (reverse c.args.values.items)) ++ old in
    leads_to g whole old (segments_left a c.loop-value.waiting.items) c.args.self.now c.loop-value.self (ap (segments_left a) (sym c.loop-value.invariant.stack))
    (leads_to g whole (values_then (values_of a (reverse c.loop-value.values.items)) ++ old) old c.args.self.now c.loop-value.self (ap (λ vs. values_then (values_of a (reverse vs)) ++ old) (c.in_default.ensures.items ∙ append-nil c.pop.new.self.items ∙ nil_from_length c.pop.new.self.items (sym c.pop.new.self.ok.0 ∙ c.in_default.ensures.cases.1))) c.loop-value.invariant.leads)
