use Rattle.std.proofs.Common.{◌++◌, ◌∷◌, [], sym, ap, ◌∙◌, subst}
use Rattle.amf_text_write.specs.declared.waiting.Piece.TheVariants as piece
use Rattle.amf_text_write.specs.Pieces.{ArePieces}
use Rattle.amf_text_write.specs.Tells.{Tells}
use Rattle.amf_text_write.specs.Walk.{left_in}
use Rattle.amf_text_write.specs.Ways.{arena_in}
use Rattle.amf_text_write.proofs.Telling.{on_ok}
use Rattle.amf_text_write.proofs.layout.Output.tree.Goals as goal

pub drain-requires : goal.drain-requires
drain-requires c =
    let p = piece.Value c.args.levels c.args.value in
    subst (ArePieces (arena_in c.args.way.now)) (sym (c.in_ok-put.ensures ∙ ap (λ l. l ++ p ∷ []) c.new-waiting.ensures.items)) (c.requires, tt)

pub returns : goal.returns
returns c = λ w is.
    let p = piece.Value c.args.levels c.args.value in
    on_ok c.drain.result (subst (λ l. Tells (left_in c.args.way.now l w) c.args.self.now c.drain.new.self) (c.in_ok-put.ensures ∙ ap (λ l. l ++ p ∷ []) c.new-waiting.ensures.items)) (c.drain.ensures w is)
