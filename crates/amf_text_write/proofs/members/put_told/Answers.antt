use Rattle.amf_iso.specs.Contents.{pairs_of}
use Rattle.amf_text_write.specs.Opening.{told_tokens}
use Rattle.amf_text_write.specs.Pieces.{members_tokens, pairs_tokens}
use Rattle.amf_text_write.proofs.Telling.{on_ok}
use Rattle.amf_text_write.proofs.PartLists.{put_items, put_body, keys_told, pairs_told}
use Rattle.amf_text_write.proofs.members.put_told.Goals as goal

pub returns-then-are_keys : goal.returns-then-are_keys
returns-then-are_keys c = λ g a h k.
    let n = c.args.levels in
    let ps = c.args.pairs.now in
    on_ok c.put-then-are_keys.result (λ e.
    put_body g a (members_tokens g a n ps) (told_tokens g c.args.are_keys n (pairs_of a ps)) c.args.waiting.now.items c.put.new.waiting.items c.put_members.new.waiting.items c.put-then-are_keys.new.waiting.items
    c.in_ok-put.ensures (c.in_ok-put_members.ensures g a h (k c.if-are_keys.true)) e (λ w. keys_told g a n c.args.are_keys ps w c.if-are_keys.true)) c.put-then-are_keys.ensures

pub returns : goal.returns
returns c = λ g a h k.
    let n = c.args.levels in
    let ps = c.args.pairs.now in
    on_ok c.put-3.result (λ e.
    put_items g a (pairs_tokens g a n ps) (told_tokens g c.args.are_keys n (pairs_of a ps)) c.args.waiting.now.items c.put-2.new.waiting.items c.put_pairs.new.waiting.items c.put-3.new.waiting.items
    c.in_ok-put-2.ensures (c.in_ok-put_pairs.ensures g a h) e (λ w. pairs_told g a n c.args.are_keys ps w c.if-are_keys.false)) c.put-3.ensures
