use Rattle.std.proofs.Common.{[], ◌∷◌, sym, ap, ◌∙◌, subst}
use Rattle.std.proofs.lemmas.Option.{get_or_from_slice_get}
use Rattle.json.specs.Token.{key}
use Rattle.amf_text.specs.Told.{label_of}
use Rattle.amf_text_write.specs.Graphs.{row_tokens}
use Rattle.amf_text_write.specs.Laid.{with_more}
use Rattle.amf_text_write.specs.PartsInWay.{node_in}
use Rattle.amf_text_write.specs.Tells.{Tells}
use Rattle.amf_text_write.specs.Ways.{graph_in}
use Rattle.amf_text_write.proofs.Counting.{order_there}
use Rattle.amf_text_write.proofs.Telling.{exactly, tells_then, on_ok}
use Rattle.amf_text_write.proofs.layout.Output.row.Goals as goal

pub node_tree-requires : goal.node_tree-requires
node_tree-requires c =
    let g = c.args.way.now.graph.now in
    order_there g.arena g.root c.args.way.now.numbering.now c.args.number c.node_at-node.result.0 c.requires.planned.is_order c.node_at-node.ensures

pub returns : goal.returns
returns c = λ w is.
    let k = c.args.way.now in
    let i = c.node_at-node.result.0 in
    let told = c.in_ok-key.ensures ∙ ap (λ x. with_more c.args.self.now (key x ∷ [])) (c.as_str.ensures.value ∙ c.in_ok-label.ensures w is) in
    let same = get_or_from_slice_get k.numbering.now c.args.number i 0 c.node_at-node.ensures in
    on_ok c.node_tree.result (λ t. subst (λ j. Tells (row_tokens (graph_in k) j w) c.args.self.now c.node_tree.new.self) (sym same)
    (tells_then (key (label_of w i) ∷ []) (node_in k 31 i w) c.args.self.now c.key.new.self c.node_tree.new.self (exactly (key (label_of w i) ∷ []) c.args.self.now c.key.new.self told) t)) (c.node_tree.ensures w is)
