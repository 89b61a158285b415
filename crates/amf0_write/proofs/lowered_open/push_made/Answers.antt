use Rattle.std.proofs.Common.{◌++◌, ap, sym, ◌∙◌, subst, reverse, length, arith}
use Rattle.std.specs.List.{AllByRecursion}
use Rattle.std.proofs.lemmas.List.{reverse-reverse}
use Rattle.amf_graph.proofs.NameOrder.{by_name_length}
use Rattle.amf_iso.specs.Contents.{pairs_of}
use Rattle.amf0_write.specs.declared.unwritten.Unwritten.TheVariants.{Sorted}
use Rattle.amf0_write.specs.Unwritten0.{IsMetPair, segments_left}
use Rattle.amf0_write.specs.Writes0.{pairs_then}
use Rattle.amf0_write.proofs.MetValues0.{sorted_met, pairs_length}
use Rattle.amf0_write.proofs.Runs0.{all_reverse, segments_pushed, turns_pushed, runs_pushed}
use Rattle.amf0_write.proofs.lowered_open.push_made.Goals as goal

pub returns-clause-left : goal.returns-clause-left
returns-clause-left c =
    let a = c.args.graph.now.arena in
    let old = c.args.waiting.now.items in
    segments_pushed a old c.push.new.self.items (Sorted c.reverse.new.self) c.in_ok-push.ensures.items ∙ ap (λ ps. pairs_then (pairs_of a ps) ++ segments_left a old) (ap reverse c.reverse.ensures.items ∙ reverse-reverse c.in_ok-sorted.sorted.items) ∙ ap (λ ws. pairs_then ws ++ segments_left a old) c.in_ok-sorted.ensures.content

pub returns-clause-runs : goal.returns-clause-runs
returns-clause-runs c = λ h.
    let g = c.args.graph.now in
    let all = sorted_met g c.args.pairs.items c.in_ok-sorted.sorted.items c.requires.pairs c.in_ok-sorted.ensures.content c.in_ok-sorted.ensures.names in
    runs_pushed g c.args.waiting.now.items c.push.new.self.items (Sorted c.reverse.new.self) c.in_ok-push.ensures.items h (subst (λ ps. AllByRecursion (IsMetPair g) ps) (sym c.reverse.ensures.items) (all_reverse (IsMetPair g) c.in_ok-sorted.sorted.items all))

pub returns-clause-turns : goal.returns-clause-turns
returns-clause-turns c =
    let a = c.args.graph.now.arena in
    let ps = c.in_ok-sorted.sorted.items in
    let sorted = ap length c.in_ok-sorted.ensures.content ∙ by_name_length (pairs_of a c.args.pairs.items) in
    omega (arith, turns_pushed c.args.waiting.now.items c.push.new.self.items (Sorted c.reverse.new.self) c.in_ok-push.ensures.items, pairs_length a ps, sorted, pairs_length a c.args.pairs.items, c.reverse.ensures.len)
