use Rattle.std.proofs.Common.{◌++◌, ◌∷◌, [], ap, refl, sym, ◌∙◌, subst, arith}
use Rattle.std.proofs.lemmas.List.{nil_from_length}
use Rattle.amf_graph.specs.Arena.{value_content}
use Rattle.amf_graph.specs.Graph.{node}
use Rattle.amf_graph.specs.Rooted.{content}
use Rattle.amf3_spelling.specs.ByteSpelling.{value, values_then}
use Rattle.amf_iso.specs.Contents.{values_of, AreValues}
use Rattle.amf3_write.specs.Unwritten.{AreRunsOf, next_segments, segments_left, turns_left}
use Rattle.amf3_write.specs.Writes.{Leads}
use Rattle.amf3_write.proofs.Leading.{leads_same, leads_to}
use Rattle.amf3_write.proofs.Runs.{all_written, value_on}
use Rattle.amf3_write.proofs.output.Output.values.Goals as goal

pub loop-value-init : goal.loop-value-init
loop-value-init c = record {
  leads = leads_same (content c.args.graph.now) _ _ c.args.self.now refl;
  names = c.requires.run;
  stack = refl;
  few = omega arith;
  ready = c.requires.ready;
  keeps = λ front h. h;
}

pub returns-in-Some-2-clause-leads : goal.returns-in-Some-2-clause-leads
returns-in-Some-2-clause-leads c =
    let g = content c.args.graph.now in
    let a = c.args.graph.now.arena in
    let old = segments_left a c.args.waiting.now.items in
    let whole = values_then (values_of a c.args.values.now) [] ++ old in
    let behind = values_then (values_of a c.in-Some.rest.now) [] in
    let on = value_on g whole old (values_then (values_of a c.loop-value.left.now) []) behind c.in_ok-node.field-0 (value_content a c.in-Some.value.now) c.args.self.now c.loop-value.self c.whole.new.self
    (ap (λ vs. values_then (values_of a vs) []) c.in-Some.ensures.cases.0) c.loop-value.invariant.leads c.in_ok-node.ensures.leads in
    let pushed = c.in_ok-push_values.ensures.left a ∙ ap (λ w. behind ++ segments_left a w) c.loop-value.invariant.stack in
    leads_to g whole (value (node c.in-Some-2.node.0) ∷ (behind ++ old)) (value (node c.in-Some-2.node.0) ∷ segments_left a c.push_values.new.waiting.items) c.args.self.now c.whole.new.self (ap (λ w. value (node c.in-Some-2.node.0) ∷ w) (sym pushed))
    (subst (λ next. Leads g whole (next_segments next ++ (behind ++ old)) c.args.self.now c.whole.new.self) c.in-Some-2.is on)

pub returns-in-Some-2-clause-turns : goal.returns-in-Some-2-clause-turns
returns-in-Some-2-clause-turns c =
    omega (arith, ap turns_left c.loop-value.invariant.stack, c.in_ok-push_values.ensures.turns, c.in-Some.ensures.cases.1, c.loop-value.invariant.few)

pub returns-in-Some-2-clause-runs : goal.returns-in-Some-2-clause-runs
returns-in-Some-2-clause-runs c = λ h.
    let a = c.args.graph.now.arena in
    c.in_ok-push_values.ensures.runs a (subst (λ vs. AreValues a vs) c.in-Some.ensures.cases.0 c.loop-value.invariant.names).1 (subst (λ runs. AreRunsOf a runs) (sym c.loop-value.invariant.stack) h)

pub loop-value-preserved : goal.loop-value-preserved
loop-value-preserved c =
    let g = content c.args.graph.now in
    let a = c.args.graph.now.arena in
    let old = segments_left a c.args.waiting.now.items in
    let whole = values_then (values_of a c.args.values.now) [] ++ old in
    let behind = values_then (values_of a c.in-Some.rest.now) [] in
    let on = value_on g whole old (values_then (values_of a c.loop-value.left.now) []) behind c.in_ok-node.field-0 (value_content a c.in-Some.value.now) c.args.self.now c.loop-value.self c.whole.new.self
    (ap (λ vs. values_then (values_of a vs) []) c.in-Some.ensures.cases.0) c.loop-value.invariant.leads c.in_ok-node.ensures.leads in
    record {
      leads = subst (λ next. Leads g whole (next_segments next ++ (behind ++ old)) c.args.self.now c.whole.new.self) c.in_default-2.is on;
      names = (subst (λ vs. AreValues a vs) c.in-Some.ensures.cases.0 c.loop-value.invariant.names).1;
      stack = c.loop-value.invariant.stack;
      few = omega (arith, c.in-Some.ensures.cases.1, c.loop-value.invariant.few);
      ready = c.in_ok-node.ensures.ready;
      keeps = λ front h. c.in_ok-node.ensures.keeps front (c.loop-value.invariant.keeps front h);
    }

pub returns-clause-leads : goal.returns-clause-leads
returns-clause-leads c =
    let g = content c.args.graph.now in
    let a = c.args.graph.now.arena in
    let old = segments_left a c.args.waiting.now.items in
    let whole = values_then (values_of a c.args.values.now) [] ++ old in
    let left = values_of a c.loop-value.left.now in
    all_written g a whole left c.args.waiting.now.items c.loop-value.waiting.items c.args.self.now c.loop-value.self (ap (values_of a) (nil_from_length c.loop-value.left.now c.in_default.ensures.cases)) c.loop-value.invariant.stack c.loop-value.invariant.leads
