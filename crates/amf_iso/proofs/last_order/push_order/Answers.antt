-- What was sorted stably is in order.
use Rattle.std.proofs.Common.{rules, ap, ◌∙◌}
use Rattle.std.proofs.lemmas.Fn.{always_returns_same}
use Rattle.amf_graph.specs.ByName.{stable_sort}
use Rattle.amf_graph.proofs.StableSort.{stable_sort_is}
use Rattle.amf_iso.specs.Remembered.{is_text_before}
use Rattle.amf_iso.proofs.LastOrders.{ranks_by_text}
use Rattle.amf_iso.proofs.last_order.push_order.Goals as goal

pub returns : goal.returns
returns c =
    let a = c.args.graph.now.arena in
    let up = c.in_ok-sort_by.ensures.sorted (is_text_before a) (ranks_by_text a) (always_returns_same _ _ _ (λ x r f' k. search rules)) in
    let stable = c.in_ok-sort_by.ensures.stable (is_text_before a) (ranks_by_text a) (always_returns_same _ _ _ (λ x r f' k. search rules)) in
    stable_sort_is (is_text_before a) (ranks_by_text a) c.push_places.new.places.items c.sort_by.new.self.items up stable ∙ ap (stable_sort (is_text_before a)) c.in_ok-push_places.ensures
