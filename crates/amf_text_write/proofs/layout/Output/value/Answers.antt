use Rattle.std.proofs.Common.{sym, ap, ◌∙◌, subst}
use Rattle.std.specs.Prelude.{OnOk}
use Rattle.json.specs.Tree.{json_tokens}
use Rattle.amf_graph.specs.Arena.{value_content}
use Rattle.amf_text.specs.Told.{told}
use Rattle.amf_text_write.specs.Pieces.{value_tokens}
use Rattle.amf_text_write.specs.Tells.{Tells}
use Rattle.amf_text_write.specs.Walk.{Steps, alone}
use Rattle.amf_text_write.specs.Ways.{arena_in, graph_in, IsWayOf}
use Rattle.amf_text_write.proofs.LeafValues.{leaf_of}
use Rattle.amf_text_write.proofs.Leading.{on_ok_told, steps_whole, told_as_leaf}
use Rattle.amf_text_write.proofs.Opened.{json_some}
use Rattle.amf_text_write.proofs.Telling.{on_ok}
use Rattle.amf_text_write.proofs.layout.Output.value.Goals as goal

pub returns-in-Node : goal.returns-in-Node
returns-in-Node c =
    let k = c.args.way.now in
    subst (λ v. OnOk c.node.result (Steps k (value_tokens (graph_in k) (arena_in k) c.args.levels v) c.args.waiting.now.items c.node.new.waiting.items c.args.self.now c.node.new.self)) (sym c.in-Node.is) c.node.ensures

pub returns-in_default : goal.returns-in_default
returns-in_default c =
    let k = c.args.way.now in
    let g = graph_in k in
    let a = arena_in k in
    let n = c.args.levels in
    let v = c.args.value in
    let x = leaf_of a v c.in_default.not-Node in
    on_ok c.leaf.result (steps_whole k (value_tokens g a n v) c.args.waiting.now.items c.args.self.now c.leaf.new.self (json_some (told alone g n (value_content a v))))
    (on_ok_told c.leaf.result (IsWayOf k) (λ w. Tells (value_tokens g a n v w) c.args.self.now c.leaf.new.self) (λ w is.
    on_ok c.leaf.result (subst (λ j. Tells (json_tokens j) c.args.self.now c.leaf.new.self) (sym (ap (told w g n) x.1 ∙ told_as_leaf w g n x.0))) (c.leaf.ensures w x.0 is.digits is.bare x.1)))
