use Rattle.amf_text_read.proofs.CanEnds.{word_none}
use Rattle.amf_text_read.proofs.cut.word_goes_on.Goals as goal

pub returns-clause-no : goal.returns-clause-no
returns-clause-no c =
    word_none c.args.front.now c.any_of-5.result (c.in_ok-any_of.ensures.no c.if-branch.false) (c.in_ok-any_of-2.ensures.no c.if-branch-2.false) (c.in_ok-any_of-3.ensures.no c.if-branch-3.false)
    (c.in_ok-any_of-4.ensures.no c.if-branch-4.false) c.any_of-5.ensures.no
