-- The texts of one class more.
use Rattle.std.proofs.Common.{◌++◌, get_or, sym, ap, ◌∙◌, arith}
use Rattle.std.proofs.lemmas.Option.{get_or_from_slice_get, slice_get_within}
use Rattle.amf_graph.specs.Arena.{no_traits}
use Rattle.amf_graph.specs.Gather.{traits_texts, texts_of_traits}
use Rattle.amf_graph.proofs.Used.{more_behind, all_taken}
use Rattle.amf_graph.proofs.uses.push_texts_of_traits.Goals as goal

pub loop-place-preserved : goal.loop-place-preserved
loop-place-preserved c =
    let a = c.args.graph.now.arena in
    let is = c.args.traits.now.items in
    let k = c.loop-place.place in
    more_behind (λ t. traits_texts (get_or a.traits t no_traits)) is k 0 c.args.texts.now.items c.loop-place.texts.items c.push_traits_texts.new.texts.items (slice_get_within is k c.at.result c.at.ensures.here) c.loop-place.invariant
    (c.in_ok-push_traits_texts.ensures ∙ ap (λ w. c.loop-place.texts.items ++ w) (ap (λ t. traits_texts (get_or a.traits t no_traits)) (sym (get_or_from_slice_get is k c.at.result 0 c.at.ensures.here))))

pub returns-clause-texts : goal.returns-clause-texts
returns-clause-texts c =
    c.loop-place.invariant
    ∙ ap (λ w. c.args.texts.now.items ++ texts_of_traits c.args.graph.now.arena w) (all_taken c.args.traits.now.items c.loop-place.place (omega (arith, c.len-place-end.ensures.count)))
