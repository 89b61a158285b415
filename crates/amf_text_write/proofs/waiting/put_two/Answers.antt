use Rattle.json.specs.declared.token.Token.TheVariants.{BeginArray, EndArray}
use Rattle.amf_text_write.specs.declared.waiting.Piece.TheVariants as piece
use Rattle.amf_text_write.proofs.Telling.{on_ok}
use Rattle.amf_text_write.proofs.Stacks.{put_four}
use Rattle.amf_text_write.proofs.waiting.put_two.Goals as goal

pub returns : goal.returns
returns c = λ g a h k.
    on_ok c.put-4.result (λ e.
    put_four g a (piece.Token EndArray) (piece.Value c.args.levels c.args.second) c.args.first (piece.Token BeginArray) c.args.waiting.now.items c.put.new.waiting.items c.put-2.new.waiting.items c.put-3.new.waiting.items c.put-4.new.waiting.items
    c.in_ok-put.ensures c.in_ok-put-2.ensures c.in_ok-put-3.ensures e tt k h tt) c.put-4.ensures
