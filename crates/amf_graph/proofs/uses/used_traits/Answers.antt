-- The traits of one node more.
use Rattle.std.proofs.Common.{◌≡◌, ◌<◌, [], ◌++◌, length, take, sym, ap, ◌∙◌, subst, arith}
use Rattle.std.specs.List.{AllByRecursion}
use Rattle.std.proofs.lemmas.Option.{get_or_from_slice_get, slice_get_within}
use Rattle.amf_graph.specs.Arena.{StoredNode}
use Rattle.amf_graph.specs.Building.{stored_at}
use Rattle.amf_graph.specs.Gather.{head_traits, traits_of_nodes}
use Rattle.amf_graph.proofs.Used.{more_behind, all_taken, traits_below}
use Rattle.amf_graph.proofs.uses.used_traits.Goals as goal

pub loop-place-preserved : goal.loop-place-preserved
loop-place-preserved c =
    let a = c.args.graph.now.arena in
    let is = c.args.nodes.now.items in
    let k = c.loop-place.place in
    more_behind (λ i. head_traits (stored_at a i).head) is k 0 [] c.loop-place.used.items c.push_traits.new.traits.items (slice_get_within is k c.at.result c.at.ensures.here) c.loop-place.invariant
    (c.in_ok-push_traits.ensures ∙ ap (λ w. c.loop-place.used.items ++ w) (ap (λ (n : StoredNode). head_traits n.head) (sym c.held.ensures) ∙ ap (λ i. head_traits (stored_at a i).head) (sym (get_or_from_slice_get is k c.at.result 0 c.at.ensures.here))))

pub of-requires-clause-below : goal.of-requires-clause-below
of-requires-clause-below c =
    let a = c.args.graph.now.arena in
    let is = c.args.nodes.now.items in
    let all : take c.loop-place.place is ≡ is = all_taken is c.loop-place.place (omega (arith, c.len-place-end.ensures.count)) in
    let made = c.deref.ensures.value ∙ c.loop-place.invariant ∙ ap (traits_of_nodes a) all in
    subst (λ n. AllByRecursion (λ i. i < n) c.deref.result.now) (sym c.traits_count.ensures.count)
    (subst (AllByRecursion (λ i. i < length a.traits)) (sym made) (traits_below a is c.is_finished.ensures.finished.built (subst (λ n. AllByRecursion (λ i. i < n) is) c.requires c.len-place-end.ensures.below)))
