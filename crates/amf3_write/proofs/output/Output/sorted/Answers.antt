use Rattle.std.proofs.Common.{◌≡◌, ◌++◌, ◌∷◌, [], ap, length, reverse, refl, sym, ◌∙◌, subst, arith}
use Rattle.std.proofs.lemmas.List.{append-nil, nil_from_length}
use Rattle.amf_graph.specs.Arena.{text_at, value_content}
use Rattle.amf_graph.specs.Rooted.{content}
use Rattle.amf3_spelling.specs.ByteSpelling.{pairs_then}
use Rattle.amf_iso.specs.Contents.{pairs_of}
use Rattle.amf3_write.specs.declared.unwritten.Unwritten.TheVariants.{Sorted}
use Rattle.amf3_write.specs.Unwritten.{IsStoredPair, next_segments, segments_left}
use Rattle.amf3_write.specs.Writes.{Leads}
use Rattle.amf_graph.proofs.Lists.{length_pushed}
use Rattle.amf3_write.proofs.FoundSteps.{rest_of}
use Rattle.amf3_write.proofs.Leading.{leads_same}
use Rattle.amf3_write.proofs.Runs.{ended, pairs_popped, turns_pushed, pair_on, put_back}
use Rattle.amf3_write.proofs.output.Output.sorted.Goals as goal

pub loop-name-init : goal.loop-name-init
loop-name-init c = record {
  leads = leads_same (content c.args.graph.now) _ _ c.args.self.now refl;
  names = c.requires.run;
  stack = refl;
  few = omega arith;
  ready = c.requires.ready;
  keeps = λ front h. h;
}

pub returns-in-Some-2-clause-leads : goal.returns-in-Some-2-clause-leads
returns-in-Some-2-clause-leads c =
    let g = content c.args.graph.now in
    let a = c.args.graph.now.arena in
    let old = segments_left a c.args.waiting.now.items in
    let whole = pairs_then (pairs_of a (reverse c.args.pairs.items)) [] ++ old in
    let behind = pairs_then (pairs_of a (reverse c.pop.new.self.items)) [] in
    let on = pair_on g whole old (pairs_then (pairs_of a (reverse c.loop-name.pairs.items)) []) behind c.in_ok-node.field-0 (text_at a c.in-Some.name.0) (value_content a c.in-Some.value) c.args.self.now c.loop-name.self c.text_of.new.self c.whole.new.self
    (pairs_popped a c.loop-name.pairs.items c.pop.new.self.items (c.in-Some.name, c.in-Some.value) c.in-Some.ensures.items) c.loop-name.invariant.leads c.in_ok-text_of.ensures.ok c.in_ok-node.ensures.leads in
    let pushed = c.in_ok-push.ensures.items ∙ ap (λ w. w ++ Sorted c.pop.new.self ∷ []) c.loop-name.invariant.stack in
    put_back g a whole c.args.waiting.now.items c.push.new.self.items (Sorted c.pop.new.self) c.in-Some-2.node c.args.self.now c.whole.new.self pushed (subst (λ next. Leads g whole (next_segments next ++ (behind ++ old)) c.args.self.now c.whole.new.self) c.in-Some-2.is on)

pub returns-in-Some-2-clause-turns : goal.returns-in-Some-2-clause-turns
returns-in-Some-2-clause-turns c =
    let pushed = c.in_ok-push.ensures.items ∙ ap (λ w. w ++ Sorted c.pop.new.self ∷ []) c.loop-name.invariant.stack in
    omega (arith, turns_pushed c.args.waiting.now.items c.push.new.self.items (Sorted c.pop.new.self) pushed, ap length c.in-Some.ensures.items, length_pushed c.pop.new.self.items (c.in-Some.name, c.in-Some.value), c.loop-name.invariant.few)

pub loop-name-preserved : goal.loop-name-preserved
loop-name-preserved c =
    let g = content c.args.graph.now in
    let a = c.args.graph.now.arena in
    let old = segments_left a c.args.waiting.now.items in
    let whole = pairs_then (pairs_of a (reverse c.args.pairs.items)) [] ++ old in
    let behind = pairs_then (pairs_of a (reverse c.pop.new.self.items)) [] in
    let on = pair_on g whole old (pairs_then (pairs_of a (reverse c.loop-name.pairs.items)) []) behind c.in_ok-node.field-0 (text_at a c.in-Some.name.0) (value_content a c.in-Some.value) c.args.self.now c.loop-name.self c.text_of.new.self c.whole.new.self
    (pairs_popped a c.loop-name.pairs.items c.pop.new.self.items (c.in-Some.name, c.in-Some.value) c.in-Some.ensures.items) c.loop-name.invariant.leads c.in_ok-text_of.ensures.ok c.in_ok-node.ensures.leads in
    record {
      leads = subst (λ next. Leads g whole (next_segments next ++ (behind ++ old)) c.args.self.now c.whole.new.self) c.in_default-2.is on;
      names = rest_of (IsStoredPair a) c.loop-name.pairs.items c.pop.new.self.items (c.in-Some.name, c.in-Some.value) c.in-Some.ensures.items c.loop-name.invariant.names;
      stack = c.loop-name.invariant.stack;
      few = omega (arith, ap length c.in-Some.ensures.items, length_pushed c.pop.new.self.items (c.in-Some.name, c.in-Some.value), c.loop-name.invariant.few);
      ready = c.in_ok-node.ensures.ready;
      keeps = λ front h. c.in_ok-node.ensures.keeps front (c.in_ok-text_of.ensures.keeps front (c.loop-name.invariant.keeps front h));
    }

pub returns-clause-ready : goal.returns-clause-ready
returns-clause-ready c =
    c.text.ensures.ready c.args.graph.now.arena c.loop-name.invariant.ready

pub returns-clause-leads : goal.returns-clause-leads
returns-clause-leads c =
    let g = content c.args.graph.now in
    let a = c.args.graph.now.arena in
    let old = segments_left a c.args.waiting.now.items in
    let whole = pairs_then (pairs_of a (reverse c.args.pairs.items)) [] ++ old in
    let none : c.pop.new.self.items ≡ [] = nil_from_length c.pop.new.self.items (sym c.pop.new.self.ok.0 ∙ c.in_default.ensures.cases.1) in
    let empty : c.loop-name.pairs.items ≡ [] = c.in_default.ensures.items ∙ append-nil c.pop.new.self.items ∙ none in
    ended g a whole (pairs_of a (reverse c.loop-name.pairs.items)) c.args.waiting.now.items c.loop-name.waiting.items c.args.self.now c.loop-name.self c.text.new.self (ap (λ w. pairs_of a (reverse w)) empty) c.loop-name.invariant.stack c.loop-name.invariant.leads c.in_ok-text.ensures.ok
