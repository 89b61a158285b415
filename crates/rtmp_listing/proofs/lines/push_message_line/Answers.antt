use Rattle.std.proofs.Common.{◌++◌, ◌∙◌, ap, codes, length}
use Rattle.std.specs.Fmt.{decimal}
use Rattle.rtmp_chunks.specs.Table.{message_seen}
use Rattle.rtmp_listing.proofs.LinesMade.{message_lined}
use Rattle.rtmp_listing.proofs.lines.push_message_line.Goals as goal

pub returns : goal.returns
returns c =
    message_lined c.push_word.result (message_seen c.args.message.now) c.args.out.now.items c.push_part.new.out.items c.push_part-2.new.out.items c.push_part-3.new.out.items c.push_part-4.new.out.items c.push_part-5.new.out.items c.push_word.new.out.items
    c.in_ok-push_part.ensures c.in_ok-push_part-2.ensures c.in_ok-push_part-3.ensures c.in_ok-push_part-4.ensures
    (c.in_ok-push_part-5.ensures ∙ ap (λ l. c.push_part-4.new.out.items ++ (codes " length " ++ decimal (length l))) c.as_slice.ensures)
    c.push_word.ensures
