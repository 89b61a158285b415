use Rattle.std.proofs.Common.{◌≡◌, ◌+◌, ◌<◌, ◌≤◌, ◌++◌, ◌∷◌, [], length, set, slice_get, Some, None, replicate, reverse, sym, ap, ◌∙◌, subst, arith}
use Rattle.std.proofs.lemmas.List.{map-append, length-map, length-set, length-append, length-reverse, length-replicate, append-nil, nil_from_length}
use Rattle.std.proofs.lemmas.Option.{slice_get_read}
use Rattle.amf_graph.specs.Graph.{node_at}
use Rattle.amf_graph.specs.Order.{Absent, values_met}
use Rattle.amf_graph.specs.Rooted.{content}
use Rattle.amf_graph.specs.Renumbered.{numbers_of}
use Rattle.amf_graph.specs.Arena.{node_content}
use Rattle.amf_graph.proofs.Counting.{missing, missing_none, missing_push}
use Rattle.amf_graph.proofs.Lists.{length_pushed}
use Rattle.amf_graph.proofs.Reaching.{order_once, order_reached}
use Rattle.amf_iso.specs.Numbers.{AreNumbers}
use Rattle.amf_iso.specs.Waiting.{node_of, node_numbers}
use Rattle.amf_iso.proofs.MetValues.{all_append, all_reverse, met_few}
use Rattle.amf_iso.proofs.Numbers.{some_is, none_is, is_absent, numbered_push, no_numbers, only_none}
use Rattle.amf_iso.proofs.Steps.{Leads, AreNodes, started, root_there, met_again, met_first, rest_in, top_in, met_there, numbers_few, finished}
use Rattle.amf_iso.proofs.numbering.Numbering.of.Goals as goal

pub index-requires : goal.index-requires
index-requires c =
    let top : numbers_of c.loop-node.waiting.items ≡ numbers_of c.pop.new.self.items ++ c.in-Some.node.0 ∷ [] = ap numbers_of c.in-Some.ensures.items ∙ map-append (λ n. n.0) c.pop.new.self.items (c.in-Some.node ∷ []) in
    let there = top_in c.args.graph.now.arena (numbers_of c.loop-node.waiting.items) (numbers_of c.pop.new.self.items) c.in-Some.node.0 top c.loop-node.invariant.waits in
    omega (arith, there, c.loop-node.invariant.room, c.loop-node.numbers.ok)

pub index_mut-requires : goal.index_mut-requires
index_mut-requires c =
    let top : numbers_of c.loop-node.waiting.items ≡ numbers_of c.pop.new.self.items ++ c.in-Some.node.0 ∷ [] = ap numbers_of c.in-Some.ensures.items ∙ map-append (λ n. n.0) c.pop.new.self.items (c.in-Some.node ∷ []) in
    let there = top_in c.args.graph.now.arena (numbers_of c.loop-node.waiting.items) (numbers_of c.pop.new.self.items) c.in-Some.node.0 top c.loop-node.invariant.waits in
    omega (arith, there, c.loop-node.invariant.room, c.loop-node.numbers.ok)

pub push_met-requires-clause-there : goal.push_met-requires-clause-there
push_met-requires-clause-there c =
    let top : numbers_of c.loop-node.waiting.items ≡ numbers_of c.pop.new.self.items ++ c.in-Some.node.0 ∷ [] = ap numbers_of c.in-Some.ensures.items ∙ map-append (λ n. n.0) c.pop.new.self.items (c.in-Some.node ∷ []) in
    top_in c.args.graph.now.arena (numbers_of c.loop-node.waiting.items) (numbers_of c.pop.new.self.items) c.in-Some.node.0 top c.loop-node.invariant.waits

pub loop-node-init : goal.loop-node-init
loop-node-init c =
    let a = c.args.graph.now.arena in
    let blank : c.in_ok-numbers.numbers.items ≡ replicate c.node_count.result None = c.in_ok-numbers.ensures.items_if_clones_equal (only_none _ (λ k h. h)) in
    let begun : numbers_of c.push_node.new.waiting.items ≡ node_of c.args.graph.now.root = c.in_ok-push_node.ensures ∙ ap (λ ns. numbers_of ns ++ node_of c.root.result) c.new-waiting.ensures.items ∙ ap node_of c.root.ensures in
    record {
      numbered = rw (c.new-nodes.ensures.items, blank) (no_numbers c.node_count.result);
      room = ap length blank ∙ length-replicate c.node_count.result None ∙ c.node_count.ensures;
      tally = rw (c.new-nodes.ensures.items) (omega (arith, missing_none (length a.nodes)));
      waits = subst (λ ns. AreNodes a ns) (sym begun) (root_there a c.args.graph.now.root c.is_finished.ensures.names);
      order = c.new-order.ensures.order a;
      walk = rw (c.new-nodes.ensures.items) (started a c.args.graph.now.root (numbers_of c.push_node.new.waiting.items) begun);
    }

pub loop-node-preserved : goal.loop-node-preserved
loop-node-preserved c =
    let g = content c.args.graph.now in
    let a = c.args.graph.now.arena in
    let inv = c.loop-node.invariant in
    let i = c.in-Some.node in
    let met = numbers_of c.loop-node.nodes.items in
    let rest = numbers_of c.pop.new.self.items in
    let top : numbers_of c.loop-node.waiting.items ≡ rest ++ i.0 ∷ [] = ap numbers_of c.in-Some.ensures.items ∙ map-append (λ n. n.0) c.pop.new.self.items (i ∷ []) in
    let there : i.0 < length a.nodes = top_in a (numbers_of c.loop-node.waiting.items) rest i.0 top inv.waits in
    let some = some_is c.index.result.now c.if-is_none.ensures in
    let read : slice_get c.loop-node.numbers.items i.0 ≡ Some (Some some.0) = slice_get_read c.loop-node.numbers.items (length a.nodes) i.0 c.index.result.now (sym inv.room) there c.index.ensures ∙ ap (λ w. Some w) some.1 in
    record {
      numbered = inv.numbered;
      room = inv.room;
      tally = inv.tally;
      waits = rest_in a (numbers_of c.loop-node.waiting.items) rest i.0 top inv.waits;
      order = inv.order;
      walk = met_again g met (numbers_of c.loop-node.waiting.items) rest i.0 some.0 top (inv.numbered.placed some.0 i.0 read) inv.walk;
    }

pub loop-node-preserved-in-Continue-branch-4 : goal.loop-node-preserved-in-Continue-branch-4
loop-node-preserved-in-Continue-branch-4 c =
    let g = content c.args.graph.now in
    let a = c.args.graph.now.arena in
    let inv = c.loop-node.invariant in
    let i = c.in-Some.node in
    let met = numbers_of c.loop-node.nodes.items in
    let rest = numbers_of c.pop.new.self.items in
    let top : numbers_of c.loop-node.waiting.items ≡ rest ++ i.0 ∷ [] = ap numbers_of c.in-Some.ensures.items ∙ map-append (λ n. n.0) c.pop.new.self.items (i ∷ []) in
    let there : i.0 < length a.nodes = top_in a (numbers_of c.loop-node.waiting.items) rest i.0 top inv.waits in
    let read : slice_get c.loop-node.numbers.items i.0 ≡ Some None = slice_get_read c.loop-node.numbers.items (length a.nodes) i.0 c.index.result.now (sym inv.room) there c.index.ensures ∙ ap (λ w. Some w) (none_is c.index.result.now c.if-is_none.ensures) in
    let new : Absent met i.0 = is_absent met c.loop-node.numbers.items i.0 inv.numbered read in
    let pushed : numbers_of c.push.new.self.items ≡ met ++ i.0 ∷ [] = ap numbers_of c.in_ok-push.ensures.items ∙ map-append (λ n. n.0) c.loop-node.nodes.items (i ∷ []) in
    let count : length met ≡ c.len.result = length-map c.loop-node.nodes.items (λ n. n.0) ∙ sym (c.len.ensures ∙ c.loop-node.nodes.ok.0) in
    let less = missing_push (length a.nodes) i.0 met there new in
    record {
      numbered = subst (λ w. AreNumbers w (set c.loop-node.numbers.items i.0 (Some c.len.result))) (sym pushed)
          (subst (λ k. AreNumbers (met ++ i.0 ∷ []) (set c.loop-node.numbers.items i.0 (Some k))) count
          (numbered_push met c.loop-node.numbers.items i.0 inv.numbered read (omega (arith, inv.tally, c.is_finished.ensures.bounds.few_nodes))));
      room = length-set c.loop-node.numbers.items i.0 (Some c.len.result) ∙ inv.room;
      tally = rw (pushed) (omega (arith, inv.tally, less, length_pushed met i.0));
      waits = subst (λ ns. AreNodes a ns) (sym c.in_ok-push_met.ensures.waiting) (all_append (λ i. i < length a.nodes) rest (reverse (node_numbers (values_met (node_at g i.0)))) (rest_in a (numbers_of c.loop-node.waiting.items) rest i.0 top inv.waits) (all_reverse (λ i. i < length a.nodes) (node_numbers (values_met (node_at g i.0))) (met_there a c.args.graph.now.root i.0 c.is_finished.ensures.finished there)));
      order = c.push_met.ensures.order;
      walk = subst (λ ns. Leads g ns (numbers_of c.push_met.new.waiting.items)) (sym pushed) (met_first g met (numbers_of c.loop-node.waiting.items) rest (numbers_of c.push_met.new.waiting.items) i.0 top (subst (λ n. i.0 < n) (sym (length-map a.nodes (node_content a))) there) new c.in_ok-push_met.ensures.waiting inv.walk);
    }

pub loop-node-smaller-in-Continue-branch-4 : goal.loop-node-smaller-in-Continue-branch-4
loop-node-smaller-in-Continue-branch-4 c =
    let g = content c.args.graph.now in
    let a = c.args.graph.now.arena in
    let inv = c.loop-node.invariant in
    let i = c.in-Some.node in
    let met = numbers_of c.loop-node.nodes.items in
    let rest = numbers_of c.pop.new.self.items in
    let top : numbers_of c.loop-node.waiting.items ≡ rest ++ i.0 ∷ [] = ap numbers_of c.in-Some.ensures.items ∙ map-append (λ n. n.0) c.pop.new.self.items (i ∷ []) in
    let there : i.0 < length a.nodes = top_in a (numbers_of c.loop-node.waiting.items) rest i.0 top inv.waits in
    let read : slice_get c.loop-node.numbers.items i.0 ≡ Some None = slice_get_read c.loop-node.numbers.items (length a.nodes) i.0 c.index.result.now (sym inv.room) there c.index.ensures ∙ ap (λ w. Some w) (none_is c.index.result.now c.if-is_none.ensures) in
    let new : Absent met i.0 = is_absent met c.loop-node.numbers.items i.0 inv.numbered read in
    let pushed : numbers_of c.push.new.self.items ≡ met ++ i.0 ∷ [] = ap numbers_of c.in_ok-push.ensures.items ∙ map-append (λ n. n.0) c.loop-node.nodes.items (i ∷ []) in
    let less : missing (length a.nodes) (numbers_of c.push.new.self.items) < missing (length a.nodes) met = subst (λ w. missing (length a.nodes) w < missing (length a.nodes) met) (sym pushed) (missing_push (length a.nodes) i.0 met there new) in
    let held = values_met (node_at g i.0) in
    let few : length held < 536870912 = met_few a c.args.graph.now.root i.0 c.is_finished.ensures.bounds there in
    let fewer : length (node_numbers held) ≤ length held = numbers_few held in
    let grown : length c.push_met.new.waiting.items ≡ length rest + length (node_numbers held) = sym (length-map c.push_met.new.waiting.items (λ n. n.0)) ∙ ap length c.in_ok-push_met.ensures.waiting ∙ length-append rest (reverse (node_numbers held)) ∙ ap (λ k. length rest + k) (length-reverse (node_numbers held)) in
    let one : length c.loop-node.waiting.items ≡ length rest + 1 = sym (length-map c.loop-node.waiting.items (λ n. n.0)) ∙ ap length top ∙ length-append rest (i.0 ∷ []) in
    omega (arith, less, few, fewer, grown, one)

pub returns-clause-order : goal.returns-clause-order
returns-clause-order c =
    let none : c.pop.new.self.items ≡ [] = nil_from_length c.pop.new.self.items (sym c.pop.new.self.ok.0 ∙ c.in_default.ensures.cases.1) in
    let empty : c.loop-node.waiting.items ≡ [] = c.in_default.ensures.items ∙ append-nil c.pop.new.self.items ∙ none in
    let order = finished (content c.args.graph.now) (numbers_of c.loop-node.nodes.items) (numbers_of c.loop-node.waiting.items) (ap numbers_of empty) c.loop-node.invariant.walk in
    order

pub returns-clause-once : goal.returns-clause-once
returns-clause-once c =
    let none : c.pop.new.self.items ≡ [] = nil_from_length c.pop.new.self.items (sym c.pop.new.self.ok.0 ∙ c.in_default.ensures.cases.1) in
    let empty : c.loop-node.waiting.items ≡ [] = c.in_default.ensures.items ∙ append-nil c.pop.new.self.items ∙ none in
    let order = finished (content c.args.graph.now) (numbers_of c.loop-node.nodes.items) (numbers_of c.loop-node.waiting.items) (ap numbers_of empty) c.loop-node.invariant.walk in
    order_once (content c.args.graph.now) (numbers_of c.loop-node.nodes.items) order

pub returns-clause-reached : goal.returns-clause-reached
returns-clause-reached c =
    let none : c.pop.new.self.items ≡ [] = nil_from_length c.pop.new.self.items (sym c.pop.new.self.ok.0 ∙ c.in_default.ensures.cases.1) in
    let empty : c.loop-node.waiting.items ≡ [] = c.in_default.ensures.items ∙ append-nil c.pop.new.self.items ∙ none in
    let order = finished (content c.args.graph.now) (numbers_of c.loop-node.nodes.items) (numbers_of c.loop-node.waiting.items) (ap numbers_of empty) c.loop-node.invariant.walk in
    order_reached (content c.args.graph.now) (numbers_of c.loop-node.nodes.items) order
