use Rattle.amf_text_read.proofs.BrokenEnds.{character_none}
use Rattle.amf_text_read.proofs.cut.character_goes_on.Goals as goal

pub returns-clause-no : goal.returns-clause-no
returns-clause-no c =
    character_none c.args.bytes.now c.is_ended_by-5.result (c.in_ok-is_ended_by.ensures.no c.if-branch.false) (c.in_ok-is_ended_by-2.ensures.no c.if-branch-2.false) (c.in_ok-is_ended_by-3.ensures.no c.if-branch-3.false)
    (c.in_ok-is_ended_by-4.ensures.no c.if-branch-4.false) c.is_ended_by-5.ensures.no
