use Rattle.std.proofs.Common.{◌++◌, ◌∷◌, [], ap, refl, sym, ◌∙◌, subst, arith, length, reverse}
use Rattle.std.proofs.lemmas.List.{append-nil, nil_from_length}
use Rattle.amf_graph.specs.Arena.{text_at, value_content}
use Rattle.amf_graph.specs.Rooted.{content}
use Rattle.amf_graph.proofs.Lists.{length_pushed}
use Rattle.amf_iso.specs.Contents.{pairs_of}
use Rattle.amf0_write.specs.declared.unwritten.Unwritten.TheVariants.{Sorted}
use Rattle.amf0_write.specs.Unwritten0.{IsMetPair, AreRunsOf, next_segments, segments_left}
use Rattle.amf0_write.specs.Written0.{AreTables0}
use Rattle.amf0_write.specs.Writes0.{value, pairs_then, Leads}
use Rattle.amf0_write.proofs.Leading0.{leads_same, leads_then, leads_to, still_then}
use Rattle.amf0_write.proofs.Runs0.{rest_of, top_of, pairs_popped, turns_pushed, runs_pushed, name_on, value_on, value_stops, put_back, same_stop}
use Rattle.amf0_write.proofs.output.Output.sorted.Goals as goal

pub loop-name-init : goal.loop-name-init
loop-name-init c = record {
  leads = leads_same (content c.args.graph.now) _ _ c.args.self.now refl;
  met = c.requires.run;
  stack = refl;
  few = omega arith;
  still = (refl, refl);
  keeps = λ front h. h;
}

pub name-requires-clause-there : goal.name-requires-clause-there
name-requires-clause-there c = (top_of (IsMetPair c.args.graph.now) c.loop-name.pairs.items c.pop.new.self.items (c.in-Some.name, c.in-Some.value) c.in-Some.ensures.items c.loop-name.invariant.met).name

pub name-requires-clause-fits : goal.name-requires-clause-fits
name-requires-clause-fits c = (top_of (IsMetPair c.args.graph.now) c.loop-name.pairs.items c.pop.new.self.items (c.in-Some.name, c.in-Some.value) c.in-Some.ensures.items c.loop-name.invariant.met).short

pub whole-requires-clause-met : goal.whole-requires-clause-met
whole-requires-clause-met c = (top_of (IsMetPair c.args.graph.now) c.loop-name.pairs.items c.pop.new.self.items (c.in-Some.name, c.in-Some.value) c.in-Some.ensures.items c.loop-name.invariant.met).value

pub whole-requires-clause-tables : goal.whole-requires-clause-tables
whole-requires-clause-tables c = subst (AreTables0 (content c.args.graph.now)) (sym (c.in_ok-name.ensures.still.0 ∙ c.loop-name.invariant.still.0)) c.requires.tables

pub returns-in_err-node-clause-lack : goal.returns-in_err-node-clause-lack
returns-in_err-node-clause-lack c = λ e.
    let g = content c.args.graph.now in
    let a = c.args.graph.now.arena in
    let old = segments_left a c.args.waiting.now.items in
    let whole = pairs_then (pairs_of a (reverse c.args.pairs.items)) ++ old in
    let behind = pairs_then (pairs_of a (reverse c.pop.new.self.items)) in
    let v = value_content a c.in-Some.value in
    let named = name_on g whole old (pairs_then (pairs_of a (reverse c.loop-name.pairs.items))) behind (text_at a c.in-Some.name.0) v c.args.self.now c.loop-name.self c.name.new.self (pairs_popped a c.loop-name.pairs.items c.pop.new.self.items (c.in-Some.name, c.in-Some.value) c.in-Some.ensures.items) c.loop-name.invariant.leads c.in_ok-name.ensures.leads in
    value_stops g whole old (value v ∷ behind) behind v c.args.self.now c.name.new.self refl named (c.in_err-node.ensures.lack (same_stop c.from_residual-in_err-node.result c.in_err-node.field-0.0 c.from_residual-in_err-node.ensures.1 e))

pub returns-in_err-node-clause-stopped : goal.returns-in_err-node-clause-stopped
returns-in_err-node-clause-stopped c = λ e.
    still_then c.args.self.now c.loop-name.self c.whole.new.self c.loop-name.invariant.still (still_then c.loop-name.self c.name.new.self c.whole.new.self c.in_ok-name.ensures.still (c.in_err-node.ensures.stopped (same_stop c.from_residual-in_err-node.result c.in_err-node.field-0.0 c.from_residual-in_err-node.ensures.1 e)))

pub returns-in-Some-2-clause-leads : goal.returns-in-Some-2-clause-leads
returns-in-Some-2-clause-leads c =
    let g = content c.args.graph.now in
    let a = c.args.graph.now.arena in
    let old = segments_left a c.args.waiting.now.items in
    let whole = pairs_then (pairs_of a (reverse c.args.pairs.items)) ++ old in
    let behind = pairs_then (pairs_of a (reverse c.pop.new.self.items)) in
    let v = value_content a c.in-Some.value in
    let named = name_on g whole old (pairs_then (pairs_of a (reverse c.loop-name.pairs.items))) behind (text_at a c.in-Some.name.0) v c.args.self.now c.loop-name.self c.name.new.self (pairs_popped a c.loop-name.pairs.items c.pop.new.self.items (c.in-Some.name, c.in-Some.value) c.in-Some.ensures.items) c.loop-name.invariant.leads c.in_ok-name.ensures.leads in
    let on = value_on g whole old (value v ∷ behind) behind v c.in_ok-node.field-0 c.args.self.now c.name.new.self c.whole.new.self refl named c.in_ok-node.ensures.leads in
    let pushed = c.in_ok-push.ensures.items ∙ ap (λ w. w ++ Sorted c.pop.new.self ∷ []) c.loop-name.invariant.stack in
    put_back g a whole c.args.waiting.now.items c.push.new.self.items (Sorted c.pop.new.self) c.in-Some-2.node c.args.self.now c.whole.new.self pushed (subst (λ next. Leads g whole (next_segments next ++ (behind ++ old)) c.args.self.now c.whole.new.self) c.in-Some-2.is on)

pub returns-in-Some-2-clause-runs : goal.returns-in-Some-2-clause-runs
returns-in-Some-2-clause-runs c = λ h.
    let g = c.args.graph.now in
    runs_pushed g c.loop-name.waiting.items c.push.new.self.items (Sorted c.pop.new.self) c.in_ok-push.ensures.items (subst (λ runs. AreRunsOf g runs) (sym c.loop-name.invariant.stack) h) (rest_of (IsMetPair c.args.graph.now) c.loop-name.pairs.items c.pop.new.self.items (c.in-Some.name, c.in-Some.value) c.in-Some.ensures.items c.loop-name.invariant.met)

pub returns-in-Some-2-clause-turns : goal.returns-in-Some-2-clause-turns
returns-in-Some-2-clause-turns c =
    let pushed = c.in_ok-push.ensures.items ∙ ap (λ w. w ++ Sorted c.pop.new.self ∷ []) c.loop-name.invariant.stack in
    omega (arith, turns_pushed c.args.waiting.now.items c.push.new.self.items (Sorted c.pop.new.self) pushed, ap length c.in-Some.ensures.items, length_pushed c.pop.new.self.items (c.in-Some.name, c.in-Some.value), c.loop-name.invariant.few)

pub returns-in-Some-2-clause-still : goal.returns-in-Some-2-clause-still
returns-in-Some-2-clause-still c =
    still_then c.args.self.now c.loop-name.self c.whole.new.self c.loop-name.invariant.still (still_then c.loop-name.self c.name.new.self c.whole.new.self c.in_ok-name.ensures.still c.in_ok-node.ensures.still)

pub loop-name-preserved : goal.loop-name-preserved
loop-name-preserved c =
    let g = content c.args.graph.now in
    let a = c.args.graph.now.arena in
    let old = segments_left a c.args.waiting.now.items in
    let whole = pairs_then (pairs_of a (reverse c.args.pairs.items)) ++ old in
    let behind = pairs_then (pairs_of a (reverse c.pop.new.self.items)) in
    let v = value_content a c.in-Some.value in
    let named = name_on g whole old (pairs_then (pairs_of a (reverse c.loop-name.pairs.items))) behind (text_at a c.in-Some.name.0) v c.args.self.now c.loop-name.self c.name.new.self (pairs_popped a c.loop-name.pairs.items c.pop.new.self.items (c.in-Some.name, c.in-Some.value) c.in-Some.ensures.items) c.loop-name.invariant.leads c.in_ok-name.ensures.leads in
    let on = value_on g whole old (value v ∷ behind) behind v c.in_ok-node.field-0 c.args.self.now c.name.new.self c.whole.new.self refl named c.in_ok-node.ensures.leads in
    record {
      leads = subst (λ next. Leads g whole (next_segments next ++ (behind ++ old)) c.args.self.now c.whole.new.self) c.in_default-2.is on;
      met = (rest_of (IsMetPair c.args.graph.now) c.loop-name.pairs.items c.pop.new.self.items (c.in-Some.name, c.in-Some.value) c.in-Some.ensures.items c.loop-name.invariant.met);
      stack = c.loop-name.invariant.stack;
      few = omega (arith, ap length c.in-Some.ensures.items, length_pushed c.pop.new.self.items (c.in-Some.name, c.in-Some.value), c.loop-name.invariant.few);
      still = still_then c.args.self.now c.loop-name.self c.whole.new.self c.loop-name.invariant.still (still_then c.loop-name.self c.name.new.self c.whole.new.self c.in_ok-name.ensures.still c.in_ok-node.ensures.still);
      keeps = λ front h. c.in_ok-node.ensures.keeps front (c.in_ok-name.ensures.keeps front (c.loop-name.invariant.keeps front h));
    }

pub returns-clause-leads : goal.returns-clause-leads
returns-clause-leads c =
    let g = content c.args.graph.now in
    let a = c.args.graph.now.arena in
    let old = segments_left a c.args.waiting.now.items in
    let whole = pairs_then (pairs_of a (reverse c.args.pairs.items)) ++ old in
    leads_to g whole old (segments_left a c.loop-name.waiting.items) c.args.self.now c.end.new.self (ap (segments_left a) (sym c.loop-name.invariant.stack))
    (leads_then g whole (pairs_then [] ++ old) old c.args.self.now c.loop-name.self c.end.new.self
    (leads_to g whole (pairs_then (pairs_of a (reverse c.loop-name.pairs.items)) ++ old) (pairs_then [] ++ old) c.args.self.now c.loop-name.self (ap (λ ps. pairs_then (pairs_of a (reverse ps)) ++ old) (c.in_default.ensures.items ∙ append-nil c.pop.new.self.items ∙ nil_from_length c.pop.new.self.items (sym c.pop.new.self.ok.0 ∙ c.in_default.ensures.cases.1))) c.loop-name.invariant.leads)
    (c.in_ok-end.ensures.leads g old))

pub returns-clause-still : goal.returns-clause-still
returns-clause-still c = still_then c.args.self.now c.loop-name.self c.end.new.self c.loop-name.invariant.still c.in_ok-end.ensures.still
