use Rattle.amf_text_read.proofs.BrokenEnds.{broken_iff, part_to_end}
use Rattle.amf_text_read.proofs.cut.broken_can_end.Goals as goal

pub returns : goal.returns
returns c =
    let part = part_to_end c.args.at c.args.text.now in
    let yes = rw part at c.character_goes_on.ensures.yes in
    let no = rw part at c.character_goes_on.ensures.no in
    broken_iff c.args.text.now c.args.whole.now c.args.at c.character_goes_on.result c.requires.front c.utf8.whole c.requires.more c.requires.within c.requires.open yes no
