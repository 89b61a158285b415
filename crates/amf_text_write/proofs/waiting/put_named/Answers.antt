use Rattle.amf_text_write.specs.declared.waiting.Piece.TheVariants as piece
use Rattle.amf_text_write.proofs.Telling.{on_ok}
use Rattle.amf_text_write.proofs.Stacks.{put_both}
use Rattle.amf_text_write.proofs.waiting.put_named.Goals as goal

pub returns : goal.returns
returns c = λ g a h k.
    on_ok c.put-2.result (λ e.
    put_both g a (piece.Value c.args.levels c.args.value) (piece.Key c.args.name) c.args.waiting.now.items c.put.new.waiting.items c.put-2.new.waiting.items c.in_ok-put.ensures e k h) c.put-2.ensures
