use Rattle.std.proofs.Common.{◌∷◌, ◌++◌, [], ap, ◌∙◌, arith}
use Rattle.json.specs.Token.{begin_object, end_object, key}
use Rattle.json.specs.declared.token.Token.TheVariants.{EndObject}
use Rattle.amf_graph.specs.Arena.{value_content}
use Rattle.amf_graph.specs.Graph.{wrapper}
use Rattle.amf_text.specs.Told.{wrapper_tag}
use Rattle.amf_text_write.specs.declared.waiting.Piece.TheVariants as piece
use Rattle.amf_text_write.specs.Laid.{with_more}
use Rattle.amf_text_write.specs.Opening.{body_tokens}
use Rattle.amf_text_write.specs.Pieces.{value_tokens}
use Rattle.amf_text_write.proofs.Bodies.{wrapper_told}
use Rattle.amf_text_write.proofs.Opened.{opens_with}
use Rattle.amf_text_write.proofs.Stacks.{put_both}
use Rattle.amf_text_write.proofs.Telling.{exactly, then_more, on_ok}
use Rattle.amf_text_write.proofs.layout.Output.wrapper.Goals as goal

pub returns : goal.returns
returns c = λ g a h.
    let n = c.args.levels in
    let v = c.args.value in
    let tag = wrapper_tag c.args.class in
    let b = c.args.waiting.now.items in
    on_ok c.key.result (λ e.
    opens_with g a (body_tokens g n (wrapper c.args.class) [] (value_content a v ∷ [])) (λ w. begin_object ∷ key tag ∷ []) (λ w. value_tokens g a n v w ++ end_object ∷ []) b c.put-2.new.waiting.items c.args.self.now c.key.new.self
    (λ w. wrapper_told g n c.args.class (value_content a v) w) (λ w. omega arith)
    (put_both g a (piece.Token EndObject) (piece.Value n v) b c.put.new.waiting.items c.put-2.new.waiting.items c.in_ok-put.ensures c.in_ok-put-2.ensures tt h)
    (λ w are. exactly (begin_object ∷ key tag ∷ []) c.args.self.now c.key.new.self
    (then_more (begin_object ∷ []) (key tag ∷ []) c.args.self.now c.token.new.self c.key.new.self c.in_ok-token.ensures (e ∙ ap (λ x. with_more c.token.new.self (key x ∷ [])) c.wrapper_tag.ensures)))) c.key.ensures
