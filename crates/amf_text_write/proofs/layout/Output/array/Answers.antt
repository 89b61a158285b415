use Rattle.std.proofs.Common.{◌∷◌, ◌++◌, [], sym, ◌∙◌, arith}
use Rattle.std.specs.Prelude.{codes}
use Rattle.json.specs.Token.{begin_object, end_object, key}
use Rattle.json.specs.Tree.{json_tokens}
use Rattle.json.specs.declared.token.Token.TheVariants.{EndObject}
use Rattle.amf_graph.specs.Graph.{array}
use Rattle.amf_iso.specs.Contents.{values_of, pairs_of}
use Rattle.amf_text_write.specs.declared.waiting.Piece.TheVariants as piece
use Rattle.amf_text_write.specs.Opening.{body_tokens, list_tokens}
use Rattle.amf_text_write.specs.Ways.{arena_in, graph_in}
use Rattle.amf_text_write.proofs.Bodies.{named_json, array_told, list_array}
use Rattle.amf_text_write.proofs.Opened.{opens_with, opens_as}
use Rattle.amf_text_write.proofs.Stacks.{put_one, put_then}
use Rattle.amf_text_write.proofs.Telling.{exactly, then_more, on_ok}
use Rattle.amf_text_write.proofs.layout.Output.array.Goals as goal

pub returns-then-is_empty : goal.returns-then-is_empty
returns-then-is_empty c =
    let g = graph_in c.args.way.now in
    let a = arena_in c.args.way.now in
    let n = c.args.levels in
    let vs = c.args.items.now in
    let ps = c.args.names.now in
    on_ok c.list.result (opens_as g a (list_tokens g a n vs) (body_tokens g n array (pairs_of a ps) (values_of a vs)) c.args.waiting.now.items c.list.new.waiting.items c.args.self.now c.list.new.self
    (λ w. list_array g a n ps vs w (sym c.is_empty.ensures ∙ c.if-is_empty.true))) (c.list.ensures g a c.requires.items)

pub returns : goal.returns
returns c =
    let g = graph_in c.args.way.now in
    let a = arena_in c.args.way.now in
    let n = c.args.levels in
    let vs = c.args.items.now in
    let ps = c.args.names.now in
    let b = c.args.waiting.now.items in
    let name = codes "$array" in
    on_ok c.key.result (λ e.
    opens_with g a (body_tokens g n array (pairs_of a ps) (values_of a vs)) (λ w. begin_object ∷ key name ∷ []) (λ w. list_tokens g a n vs w ++ (key (codes "$names") ∷ (json_tokens (named_json g n (pairs_of a ps) w) ++ end_object ∷ []))) b c.put_list.new.waiting.items c.args.self.now c.key.new.self
    (λ w. array_told g a n ps vs w (sym c.is_empty.ensures ∙ c.if-is_empty.false)) (λ w. omega arith)
    (put_then g a (λ w. key (codes "$names") ∷ (json_tokens (named_json g n (pairs_of a ps) w) ++ end_object ∷ [])) (list_tokens g a n vs) b c.put-2.new.waiting.items c.put_list.new.waiting.items
    (put_then g a (λ w. json_tokens (named_json g n (pairs_of a ps) w) ++ end_object ∷ []) (λ w. key (codes "$names") ∷ []) b c.put_by_name.new.waiting.items c.put-2.new.waiting.items
    (put_then g a (λ w. end_object ∷ []) (λ w. json_tokens (named_json g n (pairs_of a ps) w)) b c.put.new.waiting.items c.put_by_name.new.waiting.items (put_one g a (piece.Token EndObject) b c.put.new.waiting.items c.in_ok-put.ensures tt) c.in_ok-put_by_name.ensures)
    (put_one g a _ c.put_by_name.new.waiting.items c.put-2.new.waiting.items c.in_ok-put-2.ensures tt))
    (c.in_ok-put_list.ensures g a c.requires.items))
    (λ w are. exactly (begin_object ∷ key name ∷ []) c.args.self.now c.key.new.self (then_more (begin_object ∷ []) (key name ∷ []) c.args.self.now c.token.new.self c.key.new.self c.in_ok-token.ensures e))) c.key.ensures
