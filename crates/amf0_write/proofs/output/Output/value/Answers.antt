use Rattle.std.proofs.Common.{◌≡◌, [], ◌∷◌, ◌++◌, length, sym, ap, ◌∙◌, subst, arith}
use Rattle.std.proofs.lemmas.List.{append-nil, nil_from_length}
use Rattle.amf_graph.proofs.Counting.{missing}
use Rattle.amf_graph.specs.Arena.{value_content}
use Rattle.amf_graph.specs.Graph.{node}
use Rattle.amf_graph.specs.Rooted.{content}
use Rattle.amf_iso.specs.Remembered.{AreInOrder}
use Rattle.amf0_write.specs.Unwritten0.{AreRunsOf, IsRunOf, IsNextOf, next_segments, segments_left}
use Rattle.amf0_write.specs.Written0.{AreTables0}
use Rattle.amf0_write.specs.Writes0.{value, done_of, Leads}
use Rattle.amf0_write.proofs.Grown0.{grown_still, grown_then}
use Rattle.amf0_write.proofs.Leading0.{leads_same, leads_then, leads_to, stops_behind, same_done}
use Rattle.amf0_write.proofs.Runs0.{rest_of, top_of, turns_pushed, turned, turn_stops, falls_less, same_stop}
use Rattle.amf0_write.proofs.output.Output.value.Goals as goal

pub loop-top-init : goal.loop-top-init
loop-top-init c =
    let a = c.args.graph.now.arena in
    let whole = value (value_content a c.args.value) ∷ [] in
    record {
      leads = leads_same (content c.args.graph.now) whole (segments_left a c.in_ok-waiting.waiting.items) c.args.self.now (sym (ap (segments_left a) c.in_ok-waiting.ensures.items));
      runs = subst (AreRunsOf c.args.graph.now) (sym c.in_ok-waiting.ensures.items) (c.requires.met, tt);
      order = c.new-order.ensures.order a;
      keeps = λ front h. h;
    }

pub run-requires-clause-run : goal.run-requires-clause-run
run-requires-clause-run c = top_of (IsRunOf c.args.graph.now) c.loop-top.waiting.items c.pop.new.self.items c.in-Some.top c.in-Some.ensures.items c.loop-top.invariant.runs

pub run-requires-clause-tables : goal.run-requires-clause-tables
run-requires-clause-tables c = c.loop-top.invariant.leads.sound c.requires.tables

pub new_node-requires-clause-met : goal.new_node-requires-clause-met
new_node-requires-clause-met c = (subst (λ next. IsNextOf c.args.graph.now (done_of c.run.new.self) next) c.in-Some-next.is c.in_ok-next.ensures.next).0

pub new_node-requires-clause-new : goal.new_node-requires-clause-new
new_node-requires-clause-new c = (subst (λ next. IsNextOf c.args.graph.now (done_of c.run.new.self) next) c.in-Some-next.is c.in_ok-next.ensures.next).1

pub new_node-requires-clause-runs : goal.new_node-requires-clause-runs
new_node-requires-clause-runs c =
    let rest = rest_of (IsRunOf c.args.graph.now) c.loop-top.waiting.items c.pop.new.self.items c.in-Some.top c.in-Some.ensures.items c.loop-top.invariant.runs in
    c.in_ok-next.ensures.runs rest

pub new_node-requires-clause-order : goal.new_node-requires-clause-order
new_node-requires-clause-order c = subst (AreInOrder c.args.graph.now.arena) (sym c.in_ok-next.ensures.order) c.loop-top.invariant.order

pub returns-in_err-next-clause-lack : goal.returns-in_err-next-clause-lack
returns-in_err-next-clause-lack c = λ e.
    let g = content c.args.graph.now in
    let a = c.args.graph.now.arena in
    turn_stops g a (value (value_content a c.args.value) ∷ []) c.pop.new.self.items c.loop-top.waiting.items c.in-Some.top c.args.self.now c.loop-top.self c.in-Some.ensures.items c.loop-top.invariant.leads
    (c.in_err-next.ensures.lack (same_stop c.from_residual-in_err-next.result c.in_err-next.field-0.0 c.from_residual-in_err-next.ensures.1 e))

pub returns-in_err-next-clause-grown : goal.returns-in_err-next-clause-grown
returns-in_err-next-clause-grown c = λ e.
    let g = content c.args.graph.now in
    let still = c.in_err-next.ensures.stopped (same_stop c.from_residual-in_err-next.result c.in_err-next.field-0.0 c.from_residual-in_err-next.ensures.1 e) in (
      grown_then g c.args.self.now c.loop-top.self c.run.new.self c.loop-top.invariant.leads.grown (grown_still g c.loop-top.self c.run.new.self still),
      subst (AreTables0 g) (sym still.0) (c.loop-top.invariant.leads.sound c.requires.tables),
    )

pub returns-in_err-new_node-clause-lack : goal.returns-in_err-new_node-clause-lack
returns-in_err-new_node-clause-lack c = λ e.
    let g = content c.args.graph.now in
    let a = c.args.graph.now.arena in
    let whole = value (value_content a c.args.value) ∷ [] in
    let left = c.run.new.waiting.items in
    let now = value (node c.in-Some-next.node.0) ∷ segments_left a left in
    let before = turned g a whole c.pop.new.self.items c.loop-top.waiting.items left c.in-Some.top c.in_ok-next.next c.args.self.now c.loop-top.self c.run.new.self c.in-Some.ensures.items c.loop-top.invariant.leads c.in_ok-next.ensures.leads in
    let begun = subst (λ next. Leads g whole (next_segments next ++ segments_left a left) c.args.self.now c.run.new.self) c.in-Some-next.is before in
    stops_behind g whole now c.args.self.now c.run.new.self begun (c.in_err-new_node.ensures.lack (same_stop c.from_residual-in_err-new_node.result c.in_err-new_node.field-0.0 c.from_residual-in_err-new_node.ensures.1 e))

pub returns-in_err-new_node-clause-grown : goal.returns-in_err-new_node-clause-grown
returns-in_err-new_node-clause-grown c = λ e.
    let g = content c.args.graph.now in
    let a = c.args.graph.now.arena in
    let whole = value (value_content a c.args.value) ∷ [] in
    let left = c.run.new.waiting.items in
    let before = turned g a whole c.pop.new.self.items c.loop-top.waiting.items left c.in-Some.top c.in_ok-next.next c.args.self.now c.loop-top.self c.run.new.self c.in-Some.ensures.items c.loop-top.invariant.leads c.in_ok-next.ensures.leads in
    let still = c.in_err-new_node.ensures.still (same_stop c.from_residual-in_err-new_node.result c.in_err-new_node.field-0.0 c.from_residual-in_err-new_node.ensures.1 e) in (
      grown_then g c.args.self.now c.run.new.self c.new_node.new.self before.grown (grown_still g c.run.new.self c.new_node.new.self still),
      subst (AreTables0 g) (sym still.0) (before.sound c.requires.tables),
    )

pub loop-top-preserved-in-Continue-branch-3 : goal.loop-top-preserved-in-Continue-branch-3
loop-top-preserved-in-Continue-branch-3 c =
    let g = content c.args.graph.now in
    let a = c.args.graph.now.arena in
    let whole = value (value_content a c.args.value) ∷ [] in
    let left = c.run.new.waiting.items in
    let now = value (node c.in-Some-next.node.0) ∷ segments_left a left in
    let before = turned g a whole c.pop.new.self.items c.loop-top.waiting.items left c.in-Some.top c.in_ok-next.next c.args.self.now c.loop-top.self c.run.new.self c.in-Some.ensures.items c.loop-top.invariant.leads c.in_ok-next.ensures.leads in
    let begun = subst (λ next. Leads g whole (next_segments next ++ segments_left a left) c.args.self.now c.run.new.self) c.in-Some-next.is before in
    record {
      leads = leads_then g whole now (segments_left a c.new_node.new.waiting.items) c.args.self.now c.run.new.self c.new_node.new.self begun c.in_ok-new_node.ensures.leads;
      runs = c.in_ok-new_node.ensures.runs;
      order = c.new_node.ensures.order;
      keeps = λ front h. c.in_ok-new_node.ensures.keeps front (c.in_ok-next.ensures.keeps front (c.loop-top.invariant.keeps front h));
    }

pub loop-top-smaller-in-Continue-branch-3 : goal.loop-top-smaller-in-Continue-branch-3
loop-top-smaller-in-Continue-branch-3 c =
    let n = length c.args.graph.now.arena.nodes in
    let top = turns_pushed c.pop.new.self.items c.loop-top.waiting.items c.in-Some.top c.in-Some.ensures.items in
    let same = ap (missing n) (same_done c.loop-top.self c.run.new.self c.in_ok-next.ensures.still.0) in
    let falls = falls_less n (done_of c.run.new.self) (done_of c.new_node.new.self) _ _ c.in_ok-new_node.ensures.falls in
    omega (arith, top, same, falls, c.in_ok-next.ensures.turns)

pub loop-top-preserved : goal.loop-top-preserved
loop-top-preserved c =
    let g = content c.args.graph.now in
    let a = c.args.graph.now.arena in
    let rest = rest_of (IsRunOf c.args.graph.now) c.loop-top.waiting.items c.pop.new.self.items c.in-Some.top c.in-Some.ensures.items c.loop-top.invariant.runs in
    let whole = value (value_content a c.args.value) ∷ [] in
    let left = c.run.new.waiting.items in
    let before = turned g a whole c.pop.new.self.items c.loop-top.waiting.items left c.in-Some.top c.in_ok-next.next c.args.self.now c.loop-top.self c.run.new.self c.in-Some.ensures.items c.loop-top.invariant.leads c.in_ok-next.ensures.leads in
    record {
      leads = subst (λ next. Leads g whole (next_segments next ++ segments_left a left) c.args.self.now c.run.new.self) c.in_default-next.is before;
      runs = c.in_ok-next.ensures.runs rest;
      order = subst (AreInOrder a) (sym c.in_ok-next.ensures.order) c.loop-top.invariant.order;
      keeps = λ front h. c.in_ok-next.ensures.keeps front (c.loop-top.invariant.keeps front h);
    }

pub loop-top-smaller : goal.loop-top-smaller
loop-top-smaller c =
    let n = length c.args.graph.now.arena.nodes in
    let top = turns_pushed c.pop.new.self.items c.loop-top.waiting.items c.in-Some.top c.in-Some.ensures.items in
    let same = ap (missing n) (same_done c.loop-top.self c.run.new.self c.in_ok-next.ensures.still.0) in
    omega (arith, top, same, c.in_ok-next.ensures.turns)

pub returns-clause-leads : goal.returns-clause-leads
returns-clause-leads c =
    let g = content c.args.graph.now in
    let a = c.args.graph.now.arena in
    let v = value_content a c.args.value in
    let none : c.pop.new.self.items ≡ [] = nil_from_length c.pop.new.self.items (sym c.pop.new.self.ok.0 ∙ c.in_default.ensures.cases.1) in
    let empty : c.loop-top.waiting.items ≡ [] = c.in_default.ensures.items ∙ append-nil c.pop.new.self.items ∙ none in
    leads_to g (value v ∷ []) (segments_left a c.loop-top.waiting.items) [] c.args.self.now c.loop-top.self (ap (segments_left a) empty) c.loop-top.invariant.leads
