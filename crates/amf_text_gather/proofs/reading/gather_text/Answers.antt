use Rattle.std.proofs.Common.{sym, ◌∙◌}
use Rattle.amf_text.specs.Scalars.{read_number}
use Rattle.amf_text_read.specs.Verdicts.{asked_of}
use Rattle.amf_text_gather.specs.Drafts.{draft_of}
use Rattle.amf_text_gather.specs.States.{state_of}
use Rattle.amf_text_gather.proofs.Ends.{gathered_whole, not_met, not_whole}
use Rattle.amf_text_gather.proofs.reading.gather_text.Goals as goal

pub returns-then-not-branch : goal.returns-then-not-branch
returns-then-not-branch c =
    not_met c.args.text.now (asked_of c.in_ok-asked.asked) (draft_of c.in_ok-draft.draft) c.in_ok-reader.reader
    c.in_ok-meet_all.field-0 (state_of c.meet_all.new.asked c.meet_all.new.draft) c.in_ok-asked.ensures c.in_ok-draft.ensures c.in_ok-reader.ensures.ok
    c.if-not-branch.true c.in_ok-meet_all.ensures

pub returns-then-is_whole : goal.returns-then-is_whole
returns-then-is_whole c =
    gathered_whole (c.tree_laws.ensures read_number) c.args.text.now (asked_of c.in_ok-asked.asked) (draft_of c.in_ok-draft.draft) c.in_ok-reader.reader
    c.in_ok-meet_all.field-0 (state_of c.meet_all.new.asked c.meet_all.new.draft) c.ended.result c.in_ok-asked.ensures c.in_ok-draft.ensures c.in_ok-reader.ensures.ok
    c.if-not-branch.false c.in_ok-meet_all.ensures (sym c.is_whole.ensures ∙ c.if-is_whole.true) c.ended.ensures

pub returns : goal.returns
returns c =
    not_whole c.args.text.now (asked_of c.in_ok-asked.asked) (draft_of c.in_ok-draft.draft) c.in_ok-reader.reader
    c.in_ok-meet_all.field-0 (state_of c.meet_all.new.asked c.meet_all.new.draft) c.in_ok-asked.ensures c.in_ok-draft.ensures c.in_ok-reader.ensures.ok
    c.if-not-branch.false c.in_ok-meet_all.ensures (sym c.is_whole.ensures ∙ c.if-is_whole.false)
