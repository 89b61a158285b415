use Rattle.std.proofs.Common.{◌++◌, ◌∷◌, [], ap, refl, ◌∙◌, subst, arith}
use Rattle.std.proofs.lemmas.List.{nil_from_length}
use Rattle.amf_graph.specs.Arena.{text_at, value_content}
use Rattle.amf_graph.specs.Rooted.{content}
use Rattle.amf3_spelling.specs.ByteSpelling.{pairs_then}
use Rattle.amf_iso.specs.Contents.{pairs_of}
use Rattle.amf3_write.specs.declared.unwritten.Unwritten.TheVariants.{Pairs}
use Rattle.amf3_write.specs.Unwritten.{AreStoredPairs, next_segments, segments_left}
use Rattle.amf3_write.specs.Writes.{Leads}
use Rattle.amf3_write.proofs.Leading.{leads_same}
use Rattle.amf3_write.proofs.Runs.{ended, turns_pushed, pair_on, put_back}
use Rattle.amf3_write.proofs.output.Output.pairs.Goals as goal

pub loop-pair-init : goal.loop-pair-init
loop-pair-init c = record {
  leads = leads_same (content c.args.graph.now) _ _ c.args.self.now refl;
  names = c.requires.run;
  stack = refl;
  few = omega arith;
  ready = c.requires.ready;
  keeps = λ front h. h;
}

pub returns-in-Some-2-clause-leads : goal.returns-in-Some-2-clause-leads
returns-in-Some-2-clause-leads c =
    let g = content c.args.graph.now in
    let a = c.args.graph.now.arena in
    let old = segments_left a c.args.waiting.now.items in
    let whole = pairs_then (pairs_of a c.args.pairs.now) [] ++ old in
    let behind = pairs_then (pairs_of a c.in-Some.rest.now) [] in
    let on = pair_on g whole old (pairs_then (pairs_of a c.loop-pair.left.now) []) behind c.in_ok-node.field-0 (text_at a c.in-Some.pair.now.0.0) (value_content a c.in-Some.pair.now.1) c.args.self.now c.loop-pair.self c.text_of.new.self c.whole.new.self
    (ap (λ ps. pairs_then (pairs_of a ps) []) c.in-Some.ensures.cases.0) c.loop-pair.invariant.leads c.in_ok-text_of.ensures.ok c.in_ok-node.ensures.leads in
    let pushed = c.in_ok-push.ensures.items ∙ ap (λ w. w ++ Pairs c.in-Some.rest ∷ []) c.loop-pair.invariant.stack in
    put_back g a whole c.args.waiting.now.items c.push.new.self.items (Pairs c.in-Some.rest) c.in-Some-2.node c.args.self.now c.whole.new.self pushed (subst (λ next. Leads g whole (next_segments next ++ (behind ++ old)) c.args.self.now c.whole.new.self) c.in-Some-2.is on)

pub returns-in-Some-2-clause-turns : goal.returns-in-Some-2-clause-turns
returns-in-Some-2-clause-turns c =
    let pushed = c.in_ok-push.ensures.items ∙ ap (λ w. w ++ Pairs c.in-Some.rest ∷ []) c.loop-pair.invariant.stack in
    omega (arith, turns_pushed c.args.waiting.now.items c.push.new.self.items (Pairs c.in-Some.rest) pushed, c.in-Some.ensures.cases.1, c.loop-pair.invariant.few)

pub loop-pair-preserved : goal.loop-pair-preserved
loop-pair-preserved c =
    let g = content c.args.graph.now in
    let a = c.args.graph.now.arena in
    let old = segments_left a c.args.waiting.now.items in
    let whole = pairs_then (pairs_of a c.args.pairs.now) [] ++ old in
    let behind = pairs_then (pairs_of a c.in-Some.rest.now) [] in
    let on = pair_on g whole old (pairs_then (pairs_of a c.loop-pair.left.now) []) behind c.in_ok-node.field-0 (text_at a c.in-Some.pair.now.0.0) (value_content a c.in-Some.pair.now.1) c.args.self.now c.loop-pair.self c.text_of.new.self c.whole.new.self
    (ap (λ ps. pairs_then (pairs_of a ps) []) c.in-Some.ensures.cases.0) c.loop-pair.invariant.leads c.in_ok-text_of.ensures.ok c.in_ok-node.ensures.leads in
    record {
      leads = subst (λ next. Leads g whole (next_segments next ++ (behind ++ old)) c.args.self.now c.whole.new.self) c.in_default-2.is on;
      names = (subst (λ ps. AreStoredPairs a ps) c.in-Some.ensures.cases.0 c.loop-pair.invariant.names).1;
      stack = c.loop-pair.invariant.stack;
      few = omega (arith, c.in-Some.ensures.cases.1, c.loop-pair.invariant.few);
      ready = c.in_ok-node.ensures.ready;
      keeps = λ front h. c.in_ok-node.ensures.keeps front (c.in_ok-text_of.ensures.keeps front (c.loop-pair.invariant.keeps front h));
    }

pub returns-clause-ready : goal.returns-clause-ready
returns-clause-ready c =
    c.text.ensures.ready c.args.graph.now.arena c.loop-pair.invariant.ready

pub returns-clause-leads : goal.returns-clause-leads
returns-clause-leads c =
    let g = content c.args.graph.now in
    let a = c.args.graph.now.arena in
    let whole = pairs_then (pairs_of a c.args.pairs.now) [] ++ segments_left a c.args.waiting.now.items in
    ended g a whole (pairs_of a c.loop-pair.left.now) c.args.waiting.now.items c.loop-pair.waiting.items c.args.self.now c.loop-pair.self c.text.new.self (ap (pairs_of a) (nil_from_length c.loop-pair.left.now c.in_default.ensures.cases)) c.loop-pair.invariant.stack c.loop-pair.invariant.leads c.in_ok-text.ensures.ok
