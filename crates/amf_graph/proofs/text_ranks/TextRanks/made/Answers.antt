-- Texts that are sorted get their ranks in order.
use Rattle.std.proofs.Common.{rules, sym, subst}
use Rattle.std.proofs.lemmas.Fn.{always_returns_same}
use Rattle.std.specs.List.{AllByRecursion}
use Rattle.std.specs.List.Sorted.{IsSortedBy}
use Rattle.amf_graph.specs.Arena.{IsTextId}
use Rattle.amf_graph.specs.TextRanks.{text_before}
use Rattle.amf_graph.proofs.Ranks.{text_before_ranks, sorted_there}
use Rattle.amf_graph.proofs.text_ranks.TextRanks.made.Goals as goal

pub ranks_of-requires-clause-sorted : goal.ranks_of-requires-clause-sorted
ranks_of-requires-clause-sorted c =
    let a = c.args.store.now in
    subst (IsSortedBy (text_before a)) (sym c.deref-2.ensures.value) (c.in_ok-sort_by.ensures.sorted (text_before a) (text_before_ranks a) (always_returns_same _ _ _ (λ x r f' k. search rules)))

pub ranks_of-requires-clause-there : goal.ranks_of-requires-clause-there
ranks_of-requires-clause-there c =
    let a = c.args.store.now in
    let up = c.in_ok-sort_by.ensures.sorted (text_before a) (text_before_ranks a) (always_returns_same _ _ _ (λ x r f' k. search rules)) in
    let stable = c.in_ok-sort_by.ensures.stable (text_before a) (text_before_ranks a) (always_returns_same _ _ _ (λ x r f' k. search rules)) in
    subst (AllByRecursion (λ x. IsTextId a x.0)) (sym c.deref-2.ensures.value) (sorted_there a c.in_ok-long.long.items c.sort_by.new.self.items up stable c.in_ok-long.ensures.there)
