-- The sort is stable, and compares the bytes.
use Rattle.std.proofs.Common.{◌≡◌, length, ap, sym, ◌∙◌, subst, rules}
use Rattle.std.proofs.lemmas.Fn.{always_returns_same}
use Rattle.amf_graph.specs.ByName.{stable_sort}
use Rattle.amf_service.specs.Made.{texts_of, AreTextsOf}
use Rattle.amf_service.specs.Shipped.{is_before}
use Rattle.amf_service.proofs.TextOrder.{precedes, ranks, sorted_texts, sorted_there, sorted_count}
use Rattle.amf_service.proofs.texts.in_order.Goals as goal

pub returns-clause-order : goal.returns-clause-order
returns-clause-order c =
    let a = c.args.graph.now.arena in
    let same : c.in_ok-sorted.sorted.items ≡ c.args.texts.now = search rules in
    let up = c.in_ok-sort_by.ensures.sorted (precedes a) (ranks a) (always_returns_same _ _ _ (λ x r f' k. search rules)) in
    let stable = c.in_ok-sort_by.ensures.stable (precedes a) (ranks a) (always_returns_same _ _ _ (λ x r f' k. search rules)) in
    sorted_texts a c.in_ok-sorted.sorted.items c.sort_by.new.self.items up stable ∙ ap (λ ts. stable_sort is_before (texts_of a ts)) same

pub returns-clause-there : goal.returns-clause-there
returns-clause-there c =
    let a = c.args.graph.now.arena in
    let same : c.in_ok-sorted.sorted.items ≡ c.args.texts.now = search rules in
    let up = c.in_ok-sort_by.ensures.sorted (precedes a) (ranks a) (always_returns_same _ _ _ (λ x r f' k. search rules)) in
    let stable = c.in_ok-sort_by.ensures.stable (precedes a) (ranks a) (always_returns_same _ _ _ (λ x r f' k. search rules)) in
    sorted_there a c.in_ok-sorted.sorted.items c.sort_by.new.self.items up stable (subst (AreTextsOf a) (sym same) c.requires)

pub returns-clause-count : goal.returns-clause-count
returns-clause-count c =
    let a = c.args.graph.now.arena in
    let same : c.in_ok-sorted.sorted.items ≡ c.args.texts.now = search rules in
    let up = c.in_ok-sort_by.ensures.sorted (precedes a) (ranks a) (always_returns_same _ _ _ (λ x r f' k. search rules)) in
    let stable = c.in_ok-sort_by.ensures.stable (precedes a) (ranks a) (always_returns_same _ _ _ (λ x r f' k. search rules)) in
    sorted_count a c.in_ok-sorted.sorted.items c.sort_by.new.self.items up stable ∙ ap length same
