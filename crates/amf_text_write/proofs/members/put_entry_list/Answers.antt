use Rattle.amf_text_write.specs.Opening.{pairings_tokens}
use Rattle.amf_text_write.specs.Pieces.{entries_tokens}
use Rattle.amf_text_write.proofs.Telling.{on_ok}
use Rattle.amf_text_write.proofs.PartLists.{put_items, pairings_told}
use Rattle.amf_text_write.proofs.members.put_entry_list.Goals as goal

pub returns : goal.returns
returns c = λ g a h.
    let n = c.args.levels in
    let es = c.args.entries.now in
    on_ok c.put-2.result (λ e.
    put_items g a (entries_tokens g a n es) (pairings_tokens g a n es) c.args.waiting.now.items c.put.new.waiting.items c.put_entries.new.waiting.items c.put-2.new.waiting.items
    c.in_ok-put.ensures (c.in_ok-put_entries.ensures g a h) e (pairings_told g a n es)) c.put-2.ensures
