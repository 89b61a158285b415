use Rattle.amf_text_write.specs.Opening.{list_tokens}
use Rattle.amf_text_write.specs.Pieces.{values_tokens}
use Rattle.amf_text_write.proofs.Telling.{on_ok}
use Rattle.amf_text_write.proofs.PartLists.{put_items, list_told}
use Rattle.amf_text_write.proofs.members.put_list.Goals as goal

pub returns : goal.returns
returns c = λ g a h.
    let n = c.args.levels in
    let vs = c.args.values.now in
    on_ok c.put-2.result (λ e.
    put_items g a (values_tokens g a n vs) (list_tokens g a n vs) c.args.waiting.now.items c.put.new.waiting.items c.put_values.new.waiting.items c.put-2.new.waiting.items
    c.in_ok-put.ensures (c.in_ok-put_values.ensures g a h) e (list_told g a n vs)) c.put-2.ensures
