-- What was sorted stably is in by-name order.
use Rattle.std.proofs.Common.{◌≡◌, rules, ◌∙◌, ap, subst, sym}
use Rattle.std.proofs.lemmas.Fn.{always_returns_same}
use Rattle.amf_graph.specs.ByName.{by_name}
use Rattle.amf_iso.specs.Contents.{pairs_of, ArePairs}
use Rattle.amf_iso.proofs.NamedPairs.{precedes, ranks, sorted_content, sorted_pairs}
use Rattle.amf_iso.proofs.pairs.ids_by_name.Goals as goal

pub returns-clause-content : goal.returns-clause-content
returns-clause-content c =
    let a = c.args.graph.now.arena in
    let same : c.in_ok-sorted.sorted.items ≡ c.args.pairs.now = search rules in
    let up = c.in_ok-sort_by.ensures.sorted (precedes a) (ranks a) (always_returns_same _ _ _ (λ x r f' k. search rules)) in
    let stable = c.in_ok-sort_by.ensures.stable (precedes a) (ranks a) (always_returns_same _ _ _ (λ x r f' k. search rules)) in
    sorted_content a c.in_ok-sorted.sorted.items c.sort_by.new.self.items up stable ∙ ap (λ w. by_name (pairs_of a w)) same

pub returns-clause-names : goal.returns-clause-names
returns-clause-names c =
    let a = c.args.graph.now.arena in
    let same : c.in_ok-sorted.sorted.items ≡ c.args.pairs.now = search rules in
    let up = c.in_ok-sort_by.ensures.sorted (precedes a) (ranks a) (always_returns_same _ _ _ (λ x r f' k. search rules)) in
    let stable = c.in_ok-sort_by.ensures.stable (precedes a) (ranks a) (always_returns_same _ _ _ (λ x r f' k. search rules)) in
    sorted_pairs a c.in_ok-sorted.sorted.items c.sort_by.new.self.items up stable (subst (ArePairs a) (sym same) c.requires)
