use Rattle.std.proofs.Common.{◌++◌, ◌∷◌, [], ap, refl, sym, ◌∙◌, subst, arith}
use Rattle.std.proofs.lemmas.List.{nil_from_length}
use Rattle.amf_graph.specs.Arena.{value_content}
use Rattle.amf_graph.specs.Graph.{node}
use Rattle.amf_graph.specs.Rooted.{content}
use Rattle.amf_graph.specs.Views.{flat}
use Rattle.amf3_spelling.specs.ByteSpelling.{value, values_then}
use Rattle.amf_iso.specs.Contents.{values_of, AreValues}
use Rattle.amf3_write.specs.declared.unwritten.Unwritten.TheVariants.{One, Entries}
use Rattle.amf3_write.specs.Unwritten.{next_segments, segments_left}
use Rattle.amf3_write.specs.Writes.{Leads}
use Rattle.amf3_write.proofs.Leading.{leads_same}
use Rattle.amf3_write.proofs.Runs.{all_written, segments_pushed, turns_pushed, value_on, put_back}
use Rattle.amf3_write.proofs.output.Output.entries.Goals as goal

pub loop-entry-init : goal.loop-entry-init
loop-entry-init c = record {
  leads = leads_same (content c.args.graph.now) _ _ c.args.self.now refl;
  names = c.requires.run;
  stack = refl;
  few = omega arith;
  ready = c.requires.ready;
  keeps = λ front h. h;
}

pub returns-in-Some-2-clause-leads : goal.returns-in-Some-2-clause-leads
returns-in-Some-2-clause-leads c =
    let g = content c.args.graph.now in
    let a = c.args.graph.now.arena in
    let old = segments_left a c.args.waiting.now.items in
    let whole = values_then (values_of a (flat c.args.entries.now)) [] ++ old in
    let behind = values_then (values_of a (flat c.in-Some.rest.now)) [] in
    let entry = c.in-Some.entry.now in
    let key_on = value_on g whole old (values_then (values_of a (flat c.loop-entry.left.now)) []) (value (value_content a entry.1) ∷ behind) c.in_ok-node.field-0 (value_content a entry.0) c.args.self.now c.loop-entry.self c.whole.new.self
    (ap (λ es. values_then (values_of a (flat es)) []) c.in-Some.ensures.cases.0) c.loop-entry.invariant.leads c.in_ok-node.ensures.leads in
    let keyed = subst (λ next. Leads g whole (next_segments next ++ (value (value_content a entry.1) ∷ (behind ++ old))) c.args.self.now c.whole.new.self) c.in-Some-2.is key_on in
    let rest = c.in_ok-push.ensures.items ∙ ap (λ w. w ++ Entries c.in-Some.rest ∷ []) c.loop-entry.invariant.stack in
    let all = c.in_ok-push-2.ensures.items in
    let first = put_back g a whole c.push.new.self.items c.push-in-Some-2.new.self.items (One entry.1) c.in-Some-2.node c.args.self.now c.whole.new.self all in
    first (subst (λ w. Leads g whole (value (node c.in-Some-2.node.0) ∷ value (value_content a entry.1) ∷ w) c.args.self.now c.whole.new.self) (sym (segments_pushed a c.args.waiting.now.items c.push.new.self.items (Entries c.in-Some.rest) rest)) keyed)

pub returns-in-Some-2-clause-turns : goal.returns-in-Some-2-clause-turns
returns-in-Some-2-clause-turns c =
    let rest = c.in_ok-push.ensures.items ∙ ap (λ w. w ++ Entries c.in-Some.rest ∷ []) c.loop-entry.invariant.stack in
    let all = c.in_ok-push-2.ensures.items in
    omega (arith, turns_pushed c.args.waiting.now.items c.push.new.self.items (Entries c.in-Some.rest) rest, turns_pushed c.push.new.self.items c.push-in-Some-2.new.self.items (One c.in-Some.entry.now.1) all, c.in-Some.ensures.cases.1, c.loop-entry.invariant.few)

pub returns-in-Some-3-clause-leads : goal.returns-in-Some-3-clause-leads
returns-in-Some-3-clause-leads c =
    let g = content c.args.graph.now in
    let a = c.args.graph.now.arena in
    let old = segments_left a c.args.waiting.now.items in
    let whole = values_then (values_of a (flat c.args.entries.now)) [] ++ old in
    let behind = values_then (values_of a (flat c.in-Some.rest.now)) [] in
    let entry = c.in-Some.entry.now in
    let key_on = value_on g whole old (values_then (values_of a (flat c.loop-entry.left.now)) []) (value (value_content a entry.1) ∷ behind) c.in_ok-node.field-0 (value_content a entry.0) c.args.self.now c.loop-entry.self c.whole.new.self
    (ap (λ es. values_then (values_of a (flat es)) []) c.in-Some.ensures.cases.0) c.loop-entry.invariant.leads c.in_ok-node.ensures.leads in
    let keyed = subst (λ next. Leads g whole (next_segments next ++ (value (value_content a entry.1) ∷ (behind ++ old))) c.args.self.now c.whole.new.self) c.in_default-2.is key_on in
    let on = value_on g whole old (value (value_content a entry.1) ∷ behind) behind c.in_ok-node-2.field-0 (value_content a entry.1) c.args.self.now c.whole.new.self c.whole-in-Some.new.self refl keyed c.in_ok-node-2.ensures.leads in
    let pushed = c.in_ok-push-3.ensures.items ∙ ap (λ w. w ++ Entries c.in-Some.rest ∷ []) c.loop-entry.invariant.stack in
    put_back g a whole c.args.waiting.now.items c.push-in-Some-3.new.self.items (Entries c.in-Some.rest) c.in-Some-3.node c.args.self.now c.whole-in-Some.new.self pushed (subst (λ next. Leads g whole (next_segments next ++ (behind ++ old)) c.args.self.now c.whole-in-Some.new.self) c.in-Some-3.is on)

pub returns-in-Some-3-clause-turns : goal.returns-in-Some-3-clause-turns
returns-in-Some-3-clause-turns c =
    let pushed = c.in_ok-push-3.ensures.items ∙ ap (λ w. w ++ Entries c.in-Some.rest ∷ []) c.loop-entry.invariant.stack in
    omega (arith, turns_pushed c.args.waiting.now.items c.push-in-Some-3.new.self.items (Entries c.in-Some.rest) pushed, c.in-Some.ensures.cases.1, c.loop-entry.invariant.few)

pub loop-entry-preserved : goal.loop-entry-preserved
loop-entry-preserved c =
    let g = content c.args.graph.now in
    let a = c.args.graph.now.arena in
    let old = segments_left a c.args.waiting.now.items in
    let whole = values_then (values_of a (flat c.args.entries.now)) [] ++ old in
    let behind = values_then (values_of a (flat c.in-Some.rest.now)) [] in
    let entry = c.in-Some.entry.now in
    let key_on = value_on g whole old (values_then (values_of a (flat c.loop-entry.left.now)) []) (value (value_content a entry.1) ∷ behind) c.in_ok-node.field-0 (value_content a entry.0) c.args.self.now c.loop-entry.self c.whole.new.self
    (ap (λ es. values_then (values_of a (flat es)) []) c.in-Some.ensures.cases.0) c.loop-entry.invariant.leads c.in_ok-node.ensures.leads in
    let keyed = subst (λ next. Leads g whole (next_segments next ++ (value (value_content a entry.1) ∷ (behind ++ old))) c.args.self.now c.whole.new.self) c.in_default-2.is key_on in
    let on = value_on g whole old (value (value_content a entry.1) ∷ behind) behind c.in_ok-node-2.field-0 (value_content a entry.1) c.args.self.now c.whole.new.self c.whole-in-Some.new.self refl keyed c.in_ok-node-2.ensures.leads in
    record {
      leads = subst (λ next. Leads g whole (next_segments next ++ (behind ++ old)) c.args.self.now c.whole-in-Some.new.self) c.in_default-3.is on;
      names = (subst (λ es. AreValues a (flat es)) c.in-Some.ensures.cases.0 c.loop-entry.invariant.names).1.1;
      stack = c.loop-entry.invariant.stack;
      few = omega (arith, c.in-Some.ensures.cases.1, c.loop-entry.invariant.few);
      ready = c.in_ok-node-2.ensures.ready;
      keeps = λ front h. c.in_ok-node-2.ensures.keeps front (c.in_ok-node.ensures.keeps front (c.loop-entry.invariant.keeps front h));
    }

pub returns-clause-leads : goal.returns-clause-leads
returns-clause-leads c =
    let g = content c.args.graph.now in
    let a = c.args.graph.now.arena in
    let old = segments_left a c.args.waiting.now.items in
    let whole = values_then (values_of a (flat c.args.entries.now)) [] ++ old in
    let left = values_of a (flat c.loop-entry.left.now) in
    all_written g a whole left c.args.waiting.now.items c.loop-entry.waiting.items c.args.self.now c.loop-entry.self (ap (λ es. values_of a (flat es)) (nil_from_length c.loop-entry.left.now c.in_default.ensures.cases)) c.loop-entry.invariant.stack c.loop-entry.invariant.leads
