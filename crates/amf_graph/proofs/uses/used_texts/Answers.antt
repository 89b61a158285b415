-- The texts that are used are there.
use Rattle.std.proofs.Common.{◌<◌, ◌++◌, length, sym, ap, ◌∙◌, subst, append_assoc}
use Rattle.std.specs.List.{AllByRecursion}
use Rattle.amf_graph.specs.Gather.{texts_in, texts_of_nodes, texts_of_traits}
use Rattle.amf_graph.proofs.Used.{texts_below}
use Rattle.amf_graph.proofs.uses.used_texts.Goals as goal

pub of-requires-clause-below : goal.of-requires-clause-below
of-requires-clause-below c =
    let a = c.args.graph.now.arena in
    let nodes = c.args.nodes.now.items in
    let traits = c.args.traits.now.items in
    let x = texts_in c.args.values.now in
    let y = texts_of_nodes a nodes in
    let z = texts_of_traits a traits in
    let made = c.deref.ensures.value ∙ c.in_ok-push_texts_of_traits.ensures.texts ∙ ap (λ w. w ++ z) (c.in_ok-push_texts_of_nodes.ensures.texts ∙ ap (λ w. w ++ y) (c.in_ok-push_texts.ensures ∙ ap (λ w. w ++ x) c.new-used.ensures.items)) ∙ append_assoc x y z in
    subst (λ n. AllByRecursion (λ i. i < n) c.deref.result.now) (sym c.text_count.ensures.count)
    (subst (AllByRecursion (λ i. i < length a.texts)) (sym made) (texts_below a c.args.values.now nodes traits c.is_finished.ensures.finished.built c.requires.values
    (subst (λ n. AllByRecursion (λ i. i < n) nodes) c.requires.nodes c.in_ok-push_texts_of_nodes.ensures.below)
    (subst (λ n. AllByRecursion (λ i. i < n) traits) c.requires.traits c.in_ok-push_texts_of_traits.ensures.below)))
