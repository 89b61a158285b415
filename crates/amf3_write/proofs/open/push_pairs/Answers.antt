use Rattle.std.proofs.Common.{◌≡◌, ◌++◌, [], ap, sym, ◌∙◌, subst, reverse, length, arith}
use Rattle.std.proofs.lemmas.List.{reverse-reverse, length-map}
use Rattle.amf_graph.specs.Views.{named}
use Rattle.amf_graph.proofs.NameOrder.{by_name_length}
use Rattle.amf3_spelling.specs.ByteSpelling.{pairs_then}
use Rattle.amf_iso.specs.Contents.{pairs_of}
use Rattle.amf_iso.proofs.InOrder.{already_by_name}
use Rattle.amf3_write.specs.declared.unwritten.Unwritten.TheVariants.{Pairs, Sorted}
use Rattle.amf3_write.specs.Unwritten.{segments_left, IsStoredPair, AreStoredPairs}
use Rattle.amf3_write.proofs.FoundSteps.{all_reverse}
use Rattle.amf3_write.proofs.Runs.{segments_pushed, turns_pushed, runs_pushed, stored_pairs}
use Rattle.amf3_write.proofs.WroteNodes.{true_is}
use Rattle.amf3_write.proofs.open.push_pairs.Goals as goal

pub returns-clause-left : goal.returns-clause-left
returns-clause-left c =
    let a = c.args.graph.now.arena in
    let old = c.args.waiting.now.items in
    segments_pushed a old c.push-2.new.self.items (Sorted c.reverse.new.self) c.in_ok-push-2.ensures.items ∙ ap (λ ps. pairs_then (pairs_of a ps) [] ++ segments_left a old) (ap reverse c.reverse.ensures.items ∙ reverse-reverse c.in_ok-sorted.sorted.items) ∙ ap (λ ws. pairs_then ws [] ++ segments_left a old) c.in_ok-sorted.ensures.content

pub returns-clause-runs : goal.returns-clause-runs
returns-clause-runs c = λ h.
    let a = c.args.graph.now.arena in
    runs_pushed a c.args.waiting.now.items c.push-2.new.self.items (Sorted c.reverse.new.self) c.in_ok-push-2.ensures.items h (subst (λ ps. AreStoredPairs a ps) (sym c.reverse.ensures.items) (all_reverse (IsStoredPair a) c.in_ok-sorted.sorted.items (stored_pairs a c.in_ok-sorted.sorted.items c.in_ok-sorted.ensures.names)))

pub returns-clause-turns : goal.returns-clause-turns
returns-clause-turns c =
    let a = c.args.graph.now.arena in
    let ps = c.in_ok-sorted.sorted.items in
    let named_there : length (pairs_of a ps) ≡ length ps = length-map (named ps) _ ∙ length-map ps _ in
    let sorted = ap length c.in_ok-sorted.ensures.content ∙ by_name_length (pairs_of a c.args.pairs.now) in
    let stored : length (pairs_of a c.args.pairs.now) ≡ length c.args.pairs.now = length-map (named c.args.pairs.now) _ ∙ length-map c.args.pairs.now _ in
    omega (arith, turns_pushed c.args.waiting.now.items c.push-2.new.self.items (Sorted c.reverse.new.self) c.in_ok-push-2.ensures.items, named_there, sorted, stored, c.reverse.ensures.len)

pub returns-then-are_by_name-clause-left : goal.returns-then-are_by_name-clause-left
returns-then-are_by_name-clause-left c =
    let a = c.args.graph.now.arena in
    let old = c.args.waiting.now.items in
    segments_pushed a old c.push.new.self.items (Pairs c.args.pairs) c.in_ok-push.ensures.items
    ∙ ap (λ ws. pairs_then ws [] ++ segments_left a old) (already_by_name (pairs_of a c.args.pairs.now) (c.are_by_name.ensures (true_is c.are_by_name.result c.if-are_by_name.true)))

pub returns-then-are_by_name-clause-runs : goal.returns-then-are_by_name-clause-runs
returns-then-are_by_name-clause-runs c = λ h.
    let a = c.args.graph.now.arena in
    runs_pushed a c.args.waiting.now.items c.push.new.self.items (Pairs c.args.pairs) c.in_ok-push.ensures.items h (stored_pairs a c.args.pairs.now c.requires.pairs)

pub returns-then-are_by_name-clause-turns : goal.returns-then-are_by_name-clause-turns
returns-then-are_by_name-clause-turns c = omega (arith, turns_pushed c.args.waiting.now.items c.push.new.self.items (Pairs c.args.pairs) c.in_ok-push.ensures.items)
