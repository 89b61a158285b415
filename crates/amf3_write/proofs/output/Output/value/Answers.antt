use Rattle.std.proofs.Common.{◌≡◌, [], ◌∷◌, ◌++◌, length, sym, ap, ◌∙◌, subst, arith}
use Rattle.std.proofs.lemmas.List.{append-nil, nil_from_length}
use Rattle.amf_graph.specs.Arena.{value_content}
use Rattle.amf_graph.specs.Graph.{node}
use Rattle.amf_graph.specs.Rooted.{content}
use Rattle.amf_iso.specs.Remembered.{AreInOrder}
use Rattle.amf3_spelling.specs.ByteSpelling.{value}
use Rattle.amf3_write.specs.Unwritten.{IsRunOf, IsNextOf, next_segments, segments_left}
use Rattle.amf3_write.specs.Writes.{Leads}
use Rattle.amf3_write.proofs.FoundSteps.{rest_of, top_of}
use Rattle.amf3_write.proofs.Leading.{leads_then, leads_to, stops_behind, written_value}
use Rattle.amf3_write.proofs.Runs.{turns_pushed, turned}
use Rattle.amf3_write.proofs.Turns.{keeps_less, falls_less}
use Rattle.amf3_write.proofs.WroteNodes.{same_end}
use Rattle.amf3_write.proofs.output.Output.value.Goals as goal

pub run-requires-clause-run : goal.run-requires-clause-run
run-requires-clause-run c =
    let a = c.args.graph.now.arena in
    top_of (IsRunOf a) c.loop-top.waiting.items c.pop.new.self.items c.in-Some.top c.in-Some.ensures.items c.loop-top.invariant.runs

pub new_node-requires-clause-there : goal.new_node-requires-clause-there
new_node-requires-clause-there c = (subst (λ next. IsNextOf c.args.graph.now.arena c.run.new.self.tables.nodes next) c.in-Some-next.is c.in_ok-next.ensures.next).0

pub new_node-requires-clause-new : goal.new_node-requires-clause-new
new_node-requires-clause-new c = (subst (λ next. IsNextOf c.args.graph.now.arena c.run.new.self.tables.nodes next) c.in-Some-next.is c.in_ok-next.ensures.next).1

pub new_node-requires-clause-runs : goal.new_node-requires-clause-runs
new_node-requires-clause-runs c =
    let a = c.args.graph.now.arena in
    let rest = rest_of (IsRunOf a) c.loop-top.waiting.items c.pop.new.self.items c.in-Some.top c.in-Some.ensures.items c.loop-top.invariant.runs in
    c.in_ok-next.ensures.runs rest

pub returns-in_err-new_node-clause-lack : goal.returns-in_err-new_node-clause-lack
returns-in_err-new_node-clause-lack c = λ l e.
    let g = content c.args.graph.now in
    let a = c.args.graph.now.arena in
    let whole = value (value_content a c.args.value) ∷ [] in
    let left = c.run.new.waiting.items in
    let now = value (node c.in-Some-next.node.0) ∷ segments_left a left in
    let before = turned g a whole c.pop.new.self.items c.loop-top.waiting.items left c.in-Some.top c.in_ok-next.next c.args.self.now c.loop-top.self c.run.new.self c.in-Some.ensures.items c.loop-top.invariant.leads c.in_ok-next.ensures.leads in
    let begun = subst (λ next. Leads g whole (next_segments next ++ segments_left a left) c.args.self.now c.run.new.self) c.in-Some-next.is before in
    stops_behind g whole now c.args.self.now c.run.new.self l begun (c.in_err-new_node.ensures.lack l (same_end c.from_residual-in_err-new_node.result c.in_err-new_node.field-0.0 l c.from_residual-in_err-new_node.ensures.1 e))

pub loop-top-preserved-in-Continue-branch-3 : goal.loop-top-preserved-in-Continue-branch-3
loop-top-preserved-in-Continue-branch-3 c =
    let g = content c.args.graph.now in
    let a = c.args.graph.now.arena in
    let whole = value (value_content a c.args.value) ∷ [] in
    let left = c.run.new.waiting.items in
    let now = value (node c.in-Some-next.node.0) ∷ segments_left a left in
    let before = turned g a whole c.pop.new.self.items c.loop-top.waiting.items left c.in-Some.top c.in_ok-next.next c.args.self.now c.loop-top.self c.run.new.self c.in-Some.ensures.items c.loop-top.invariant.leads c.in_ok-next.ensures.leads in
    let begun = subst (λ next. Leads g whole (next_segments next ++ segments_left a left) c.args.self.now c.run.new.self) c.in-Some-next.is before in
    record {
      leads = leads_then g whole now (segments_left a c.new_node.new.waiting.items) c.args.self.now c.run.new.self c.new_node.new.self begun c.in_ok-new_node.ensures.leads;
      runs = c.in_ok-new_node.ensures.runs;
      order = c.new_node.ensures.order;
      ready = c.in_ok-new_node.ensures.ready;
      keeps = λ front h. c.in_ok-new_node.ensures.keeps front (c.in_ok-next.ensures.keeps front (c.loop-top.invariant.keeps front h));
    }

pub loop-top-smaller-in-Continue-branch-3 : goal.loop-top-smaller-in-Continue-branch-3
loop-top-smaller-in-Continue-branch-3 c =
    let n = length c.args.graph.now.arena.nodes in
    let top = turns_pushed c.pop.new.self.items c.loop-top.waiting.items c.in-Some.top c.in-Some.ensures.items in
    let kept = keeps_less n c.loop-top.self c.run.new.self c.in_ok-next.ensures.keeps in
    let falls = falls_less n c.run.new.self c.new_node.new.self _ _ c.in_ok-new_node.ensures.keeps c.in_ok-new_node.ensures.falls in
    omega (arith, top, kept, falls, c.in_ok-next.ensures.turns)

pub loop-top-preserved : goal.loop-top-preserved
loop-top-preserved c =
    let g = content c.args.graph.now in
    let a = c.args.graph.now.arena in
    let rest = rest_of (IsRunOf a) c.loop-top.waiting.items c.pop.new.self.items c.in-Some.top c.in-Some.ensures.items c.loop-top.invariant.runs in
    let whole = value (value_content a c.args.value) ∷ [] in
    let left = c.run.new.waiting.items in
    let before = turned g a whole c.pop.new.self.items c.loop-top.waiting.items left c.in-Some.top c.in_ok-next.next c.args.self.now c.loop-top.self c.run.new.self c.in-Some.ensures.items c.loop-top.invariant.leads c.in_ok-next.ensures.leads in
    record {
      leads = subst (λ next. Leads g whole (next_segments next ++ segments_left a left) c.args.self.now c.run.new.self) c.in_default-next.is before;
      runs = c.in_ok-next.ensures.runs rest;
      order = subst (AreInOrder a) (sym c.in_ok-next.ensures.order) c.loop-top.invariant.order;
      ready = c.in_ok-next.ensures.ready;
      keeps = λ front h. c.in_ok-next.ensures.keeps front (c.loop-top.invariant.keeps front h);
    }

pub loop-top-smaller : goal.loop-top-smaller
loop-top-smaller c =
    let n = length c.args.graph.now.arena.nodes in
    let top = turns_pushed c.pop.new.self.items c.loop-top.waiting.items c.in-Some.top c.in-Some.ensures.items in
    let kept = keeps_less n c.loop-top.self c.run.new.self c.in_ok-next.ensures.keeps in
    omega (arith, top, kept, c.in_ok-next.ensures.turns)

pub returns-clause-ok : goal.returns-clause-ok
returns-clause-ok c =
    let g = content c.args.graph.now in
    let a = c.args.graph.now.arena in
    let v = value_content a c.args.value in
    let none : c.pop.new.self.items ≡ [] = nil_from_length c.pop.new.self.items (sym c.pop.new.self.ok.0 ∙ c.in_default.ensures.cases.1) in
    let empty : c.loop-top.waiting.items ≡ [] = c.in_default.ensures.items ∙ append-nil c.pop.new.self.items ∙ none in
    written_value g v c.args.self.now c.loop-top.self (leads_to g (value v ∷ []) (segments_left a c.loop-top.waiting.items) [] c.args.self.now c.loop-top.self (ap (segments_left a) empty) c.loop-top.invariant.leads)

pub new_node-requires-clause-order : goal.new_node-requires-clause-order
new_node-requires-clause-order c = subst (AreInOrder c.args.graph.now.arena) (sym c.in_ok-next.ensures.order) c.loop-top.invariant.order
