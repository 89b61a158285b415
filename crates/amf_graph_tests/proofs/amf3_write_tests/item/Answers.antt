use Rattle.std.proofs.Common.{◌<◌, length, get_or, sym, ap, ◌∙◌, subst, inl, inr, arith}
use Rattle.std.specs.Option.{option_map}
use Rattle.std.proofs.lemmas.Option.{slice_get-map, slice_get-get_or}
use Rattle.amf_graph.specs.declared.value.Value.TheVariants.{Undefined}
use Rattle.amf_graph.specs.Graph.{Node}
use Rattle.amf_graph.specs.Arena.{value_content, Names, StoredNode}
use Rattle.std.specs.List.{AllByRecursion}
use Rattle.amf_graph.specs.Reached.{Holds, at_root}
use Rattle.amf3_write.proofs.Wrote.{each_there}
use Rattle.amf3_write.proofs.WroteNodes.{shown, node_in}
use Rattle.amf_graph_tests.proofs.amf3_write_tests.item.Goals as goal

pub returns-in-Array-clause-names : goal.returns-in-Array-clause-names
returns-in-Array-clause-names c =
    let a = c.args.graph.now.arena in
    let i = c.in-Node.node.0 in
    let vs = c.in-Array.items.now in
    let there : i < length a.nodes = subst (Names a) (sym c.root.ensures ∙ c.in-Node.is) c.is_finished.ensures.names in
    let within : c.args.place < length vs = omega arith in
    let all : AllByRecursion (Names a) vs = subst (λ (n : StoredNode). AllByRecursion (Names a) n.values) c.in-Array.ensures (node_in a i c.is_finished.ensures.finished there).values in
    each_there (Names a) vs c.args.place Undefined all within

pub returns-in-Array-clause-reached : goal.returns-in-Array-clause-reached
returns-in-Array-clause-reached c =
    let a = c.args.graph.now.arena in
    let vs = c.in-Array.items.now in
    let i = c.args.place in
    let within : i < length vs = omega arith in
    let here = slice_get-map (value_content a) vs i ∙ ap (option_map (value_content a)) (slice_get-get_or vs i Undefined within) in
    inr (
      c.in-Node.node.0,
      at_root (ap (value_content a) (sym c.root.ensures) ∙ ap (value_content a) c.in-Node.is),
      subst (λ (n : Node). Holds n (value_content a (get_or vs i Undefined))) (sym (shown a c.args.graph.now.root c.in-Node.node.0 _ c.in-Array.ensures)) (inl (i, here)),
    )
