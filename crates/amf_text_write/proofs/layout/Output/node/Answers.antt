use Rattle.std.proofs.Common.{◌≡◌, ◌-◌, suc, sym, ap, ◌∙◌, refl, arith}
use Rattle.json.specs.Tree.{json_tokens}
use Rattle.amf_graph.specs.Graph.{node}
use Rattle.amf_text.specs.Told.{told}
use Rattle.amf_text_write.specs.Laid.{with_more}
use Rattle.amf_text_write.specs.Opening.{node_tokens}
use Rattle.amf_text_write.specs.Tells.{Tells}
use Rattle.amf_text_write.specs.Walk.{alone}
use Rattle.amf_text_write.specs.Ways.{graph_in, IsWayOf}
use Rattle.amf_text_write.proofs.Leading.{on_ok_told, steps_whole, steps_front, told_called, told_in_place, not_called}
use Rattle.amf_text_write.proofs.Opened.{json_some}
use Rattle.amf_text_write.proofs.Telling.{exactly, on_ok}
use Rattle.amf_text_write.proofs.layout.Output.node.Goals as goal

pub returns-then-is_called : goal.returns-then-is_called
returns-then-is_called c =
    let k = c.args.way.now in
    let g = graph_in k in
    let i = c.args.node.0 in
    let n = c.args.levels in
    on_ok c.called.result (steps_whole k (λ w. json_tokens (told w g n (node i))) c.args.waiting.now.items c.args.self.now c.called.new.self (json_some (told alone g n (node i))))
    (on_ok_told c.called.result (IsWayOf k) (λ w. Tells (json_tokens (told w g n (node i))) c.args.self.now c.called.new.self) (λ w is.
    on_ok c.called.result (λ e. exactly (json_tokens (told w g n (node i))) c.args.self.now c.called.new.self
    (e ∙ ap (λ j. with_more c.args.self.now (json_tokens j)) (sym (told_called w g n i (sym (c.is_called.ensures.called w is) ∙ c.if-is_called.true))))) (c.called.ensures w is)))

pub returns : goal.returns
returns c =
    let k = c.args.way.now in
    let g = graph_in k in
    let i = c.args.node.0 in
    let n = c.args.levels in
    let some = c.is_called.ensures.levels c.if-is_called.false in
    let more : n ≡ suc (n - 1) = omega (arith, some) in
    on_ok c.begin_node.result (steps_front k (λ w. json_tokens (told w g n (node i))) (node_tokens g (n - 1) i) c.args.waiting.now.items c.begin_node.new.waiting.items c.args.self.now c.begin_node.new.self
    (ap json_tokens (told_in_place alone g n (n - 1) i more refl))
    (λ w is. ap json_tokens (told_in_place w g n (n - 1) i more (not_called w n i some (sym (c.is_called.ensures.called w is) ∙ c.if-is_called.false))))) c.begin_node.ensures
