use Rattle.std.proofs.Common.{sym, ap, ◌∙◌, subst, ◌∷◌, [], arith}
use Rattle.std.specs.Prelude.{OnOk}
use Rattle.json.specs.Reads.{token_of}
use Rattle.json.specs.Token.{key}
use Rattle.json.specs.Tree.{json_tokens}
use Rattle.amf_graph.specs.Arena.{text_at}
use Rattle.amf_text.specs.Scalars.{told_text}
use Rattle.amf_text_write.specs.Laid.{with_more}
use Rattle.amf_text_write.specs.Pieces.{piece_tokens}
use Rattle.amf_text_write.specs.Walk.{Steps}
use Rattle.amf_text_write.specs.Ways.{arena_in, graph_in}
use Rattle.amf_text_write.proofs.Leading.{steps_whole}
use Rattle.amf_text_write.proofs.Opened.{json_some}
use Rattle.amf_text_write.proofs.Telling.{exactly, on_ok}
use Rattle.amf_text_write.proofs.layout.Output.piece.Goals as goal

pub returns-in-Token : goal.returns-in-Token
returns-in-Token c =
    let k = c.args.way.now in
    on_ok c.token.result (λ e. subst (λ p. Steps k (piece_tokens (graph_in k) (arena_in k) p) c.args.waiting.now.items c.args.waiting.now.items c.args.self.now c.token.new.self) (sym c.in-Token.is)
    (steps_whole k (λ w. token_of c.in-Token.token ∷ []) c.args.waiting.now.items c.args.self.now c.token.new.self (omega arith) (λ w is. exactly _ c.args.self.now c.token.new.self e))) c.token.ensures

pub returns-in-Key : goal.returns-in-Key
returns-in-Key c =
    let k = c.args.way.now in
    on_ok c.name.result (λ e. subst (λ p. Steps k (piece_tokens (graph_in k) (arena_in k) p) c.args.waiting.now.items c.args.waiting.now.items c.args.self.now c.name.new.self) (sym c.in-Key.is)
    (steps_whole k (λ w. key (text_at (arena_in k) c.in-Key.name.0) ∷ []) c.args.waiting.now.items c.args.self.now c.name.new.self (omega arith) (λ w is. exactly _ c.args.self.now c.name.new.self e))) c.name.ensures

pub returns-in-Name : goal.returns-in-Name
returns-in-Name c =
    let k = c.args.way.now in
    let x = text_at (arena_in k) c.in-Name.name.0 in
    on_ok c.text-in-Name.result (λ e. subst (λ p. Steps k (piece_tokens (graph_in k) (arena_in k) p) c.args.waiting.now.items c.args.waiting.now.items c.args.self.now c.text-in-Name.new.self) (sym c.in-Name.is)
    (steps_whole k (λ w. json_tokens (told_text x)) c.args.waiting.now.items c.args.self.now c.text-in-Name.new.self (json_some (told_text x))
    (λ w is. exactly _ c.args.self.now c.text-in-Name.new.self (e ∙ ap (λ y. with_more c.args.self.now (json_tokens (told_text y))) c.text.ensures)))) c.text-in-Name.ensures

pub returns-in-Value : goal.returns-in-Value
returns-in-Value c =
    let k = c.args.way.now in
    subst (λ p. OnOk c.value.result (Steps k (piece_tokens (graph_in k) (arena_in k) p) c.args.waiting.now.items c.value.new.waiting.items c.args.self.now c.value.new.self)) (sym c.in-Value.is) c.value.ensures
